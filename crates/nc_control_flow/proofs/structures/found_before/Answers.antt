use Rattle.std.proofs.Common.{◌∙◌, ap, arith, reverse, unwrap_or}
use Rattle.std.specs.Prelude.{slice_get}
use Rattle.nc_control_flow.specs.declared.parts.Part.TheVariants.{Opens}
use Rattle.nc_control_flow.specs.Pending.{places_with_part}
use Rattle.nc_control_flow.proofs.Matched.{pending_before, found_before_more}
use Rattle.nc_control_flow.proofs.structures.found_before.Goals as goal

pub loop-place-preserved : goal.loop-place-preserved
loop-place-preserved c =
    let place = c.loop-place.place in
    let open_here = reverse c.loop-place.pending.items in
    record {
      len = omega (arith, c.in_ok-push.ensures.len);
      stack = pending_before c.args.sought c.args.parts.now place Opens open_here _ (omega arith) c.loop-place.invariant.stack
          (c.in_ok-stack.ensures ∙ ap (λ p. places_with_part p place open_here) c.seen_by.ensures);
      each = found_before_more c.args.sought c.args.parts.now c.loop-place.table.items _ place open_here c.top.result (omega arith) c.in_ok-push.ensures.items
          c.loop-place.invariant.stack (c.top.ensures ∙ ap (λ xs. unwrap_or (slice_get (reverse xs) 0) 0) c.deref.ensures.value) c.loop-place.invariant.each;
    }
