use Rattle.std.proofs.Common.{◌≡◌, ◌∙◌, List, true, sym, subst}
use Rattle.order_clocks.specs.Tells.{is_before_in}
use Rattle.clash_check.proofs.NearLaws.{timed_pair}
use Rattle.zone_stretches.specs.Ascents.{is_chain}
use Rattle.zone_stretches.specs.Stretches.{StretchView}
use Rattle.zone_stretches.specs.Times.{lists_in}
use Rattle.clash_check.proofs.zone_pairs.first_of_pair.Goals as goal

pub first_of_zones-requires-clause-timed : goal.first_of_zones-requires-clause-timed
first_of_zones-requires-clause-timed c = record {
  timed = timed_pair (is_before_in c.args.scene.now.clocks.now.rows) (lists_in c.args.lists.now) c.args.pair.0 c.args.pair.1 c.stretches_at-own.result.now c.stretches_at-others.result.now
      c.stretches_at-own.ensures c.stretches_at-others.ensures c.requires.timed;
  left = λ on. subst (λ (xs : List StretchView). is_chain (is_before_in c.args.scene.now.clocks.now.rows) xs ≡ true) (sym c.stretches_at-own.ensures)
      (c.requires.ascents c.args.pair.0 (sym c.ascends_at-own_ascends.ensures ∙ on));
  right = λ on. subst (λ (xs : List StretchView). is_chain (is_before_in c.args.scene.now.clocks.now.rows) xs ≡ true) (sym c.stretches_at-others.ensures)
      (c.requires.ascents c.args.pair.1 (sym c.ascends_at-others_ascend.ensures ∙ on));
}
