use Rattle.std.proofs.Common.{◌≡◌, ◌+◌, ◌-◌, ◌<◌, ◌∙◌, length, ap, sym, arith}
use Rattle.nc_control_flow.specs.Counted.{plain_from}
use Rattle.nc_control_flow.specs.Parts.{views}
use Rattle.nc_control_flow.proofs.Counting.{plain_past}
use Rattle.nc_control_flow.proofs.Leading.{nearest_kept, nearest_here, each_more}
use Rattle.nc_control_flow.proofs.Resolving.{length-views}
use Rattle.nc_control_flow.proofs.counted.plain_places.Goals as goal
use Rattle.nc_control_flow.proofs.counted.plain_places.Goals.{then-not-blocks-place, else-not-blocks-place}

pub loop-place-init : goal.loop-place-init
loop-place-init c =
    let blocks = c.args.blocks.now in
    record {
      inside = omega arith;
      len = c.in_ok-plain.ensures.len;
      nearest = sym (plain_past (views blocks) (length blocks) (omega (arith, length-views blocks)));
      each = λ k low high. absurd (omega (arith, low, high));
    }

pub loop-place-preserved : goal.loop-place-preserved
loop-place-preserved c =
    let blocks = c.args.blocks.now in
    let place = c.loop-place.place in
    let one = c.index-blocks-place.result in
    let within : place - 1 < length blocks = omega (arith, c.loop-place.invariant.inside, c.loop-place-test.true) in
    let next : place ≡ place - 1 + 1 = omega (arith, c.loop-place-test.true) in
    let nearest : c.if-not-blocks-place.nearest ≡ plain_from (views blocks) (place - 1) =
    elim c.if-not-blocks-place.branch [
      | then-not-blocks-place w ↦ w.nearest-is ∙ sym (nearest_here blocks (place - 1) one within c.index-blocks-place.is w.if-not-blocks-place.true)
      | else-not-blocks-place w ↦ w.nearest-is ∙ c.loop-place.invariant.nearest ∙ ap (plain_from (views blocks)) next
          ∙ sym (nearest_kept blocks (place - 1) one within c.index-blocks-place.is w.if-not-blocks-place.false)
    ] in
    record {
      inside = omega (arith, within);
      len = c.loop-place.invariant.len;
      nearest = nearest;
      each = each_more (plain_from (views blocks)) c.loop-place.plain.items (length blocks) (place - 1) place c.if-not-blocks-place.nearest (omega (arith, c.loop-place.invariant.len)) within next nearest c.loop-place.invariant.each;
    }
