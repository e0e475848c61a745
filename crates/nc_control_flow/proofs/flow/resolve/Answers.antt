use Rattle.std.proofs.Common.{◌∙◌, length, ap, arith}
use Rattle.nc_control_flow.specs.Parts.{views, parts}
use Rattle.nc_control_flow.proofs.Leading.{plain_found}
use Rattle.nc_control_flow.proofs.Resolving.{length-views, length-parts, ends_found, branches_found, openers_found}
use Rattle.nc_control_flow.proofs.flow.resolve.Goals as goal

pub invariant_of-result : goal.invariant_of-result
invariant_of-result c =
    let blocks = views c.args.blocks.items in
    let long = length-views c.args.blocks.items in
    let long_parts = length-parts blocks in
    let found = c.in_ok-parts.ensures ∙ ap (λ bs. parts (views bs)) c.deref.ensures.value in
    let ends = c.deref-2.ensures.value ∙ found in
    let branches = c.deref-3.ensures.value ∙ found in
    let openers = c.deref-4.ensures.value ∙ found in
    record {
      few = omega arith;
      structures = record {
        ends_length = omega (arith, c.in_ok-ends.ensures.len, ap length ends);
        branches_length = omega (arith, c.in_ok-branches.ensures.len, ap length branches);
        openers_length = omega (arith, c.in_ok-openers.ensures.len, ap length openers);
        end_at = ends_found blocks c.deref-2.result.now c.in_ok-ends.ends.items ends c.in_ok-ends.ensures.each;
        branch_at = branches_found blocks c.deref-3.result.now c.in_ok-branches.branches.items branches c.in_ok-branches.ensures.each;
        opener_at = openers_found blocks c.deref-4.result.now c.in_ok-openers.openers.items openers c.in_ok-openers.ensures.each;
      };
      plain_places = plain_found c.args.blocks.items c.deref-5.result.now c.in_ok-plain.plain.items c.deref-5.ensures.value (omega (arith, c.in_ok-plain.ensures.len)) c.in_ok-plain.ensures.each;
      index = rw (← c.deref-6.ensures.value) c.in_ok-index.ensures;
    }
