-- The first `done` bytes are written, and then those that this write took.
use Rattle.std.proofs.Common.{◌∙◌, refl, rules}
use Rattle.std.proofs.lemmas.List.{take_rest}
use Rattle.edge_io.proofs.MoveLemmas.{Grows-more, Grows-nothing, Counts-more, Counts-nothing}
use Rattle.edge_io.proofs.put_all.Goals as goal

pub loop-done-init : goal.loop-done-init
loop-done-init g c = record { within = search rules; grown = Grows-nothing _; counted = Counts-nothing _; faults = refl }

pub loop-done-preserved : goal.loop-done-preserved
loop-done-preserved g c = record {
  within = search rules;
  grown = Grows-more _ _ _ c.args.bytes.now c.loop-done.done c.in_ok-done.field-0
      c.loop-done.invariant.grown (rw take_rest at c.in_ok-done.ensures.bytes);
  counted = Counts-more _ _ _ c.loop-done.done c.in_ok-done.field-0
      c.loop-done.invariant.counted c.in_ok-done.ensures.number;
  faults = c.in_ok-done.ensures.cause ∙ c.loop-done.invariant.faults;
}
