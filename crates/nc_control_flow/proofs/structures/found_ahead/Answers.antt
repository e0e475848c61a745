use Rattle.std.proofs.Common.{◌-◌, ◌∙◌, ap, arith, reverse, unwrap_or}
use Rattle.std.specs.Prelude.{slice_get}
use Rattle.nc_control_flow.specs.declared.parts.Part.TheVariants.{Opens}
use Rattle.nc_control_flow.specs.Pending.{places_with_part}
use Rattle.nc_control_flow.proofs.Matched.{pending_none, pending_ahead, found_ahead_more}
use Rattle.nc_control_flow.proofs.structures.found_ahead.Goals as goal

pub loop-place-init : goal.loop-place-init
loop-place-init c = record {
  inside = omega arith;
  len = c.in_ok-table.ensures.len;
  stack = ap reverse c.new-pending.ensures.items ∙ pending_none c.args.sought c.args.parts.now;
  each = λ k low high. absurd (omega arith);
}

pub loop-place-preserved : goal.loop-place-preserved
loop-place-preserved c =
    let place = c.loop-place.place in
    let open_here = reverse c.loop-place.pending.items in
    record {
      inside = omega arith;
      len = c.loop-place.invariant.len;
      stack = pending_ahead c.args.sought c.args.parts.now (place - 1) place Opens open_here _ (omega arith) (omega arith) c.loop-place.invariant.stack
          (c.in_ok-stack.ensures ∙ ap (λ p. places_with_part p (place - 1) open_here) c.seen_by.ensures);
      each = found_ahead_more c.args.sought c.args.parts.now c.loop-place.table.items (place - 1) place open_here c.top.result (omega arith) (omega arith)
          c.loop-place.invariant.stack (c.top.ensures ∙ ap (λ xs. unwrap_or (slice_get (reverse xs) 0) 0) c.deref.ensures.value) c.loop-place.invariant.each;
    }
