use Rattle.std.proofs.Common.{◌≡◌, inl, inr, arith}
use Rattle.std.proofs.lemmas.Bool.{cases_lt}
use Rattle.order_clocks.proofs.groups.join_to.Goals as goal

pub loop-b-preserved : goal.loop-b-preserved
loop-b-preserved c = record {
  size = c.join_partners.ensures.size;
  kept = λ d e d_below e_below same. c.join_partners.ensures.kept d e d_below e_below (c.loop-b.invariant.kept d e d_below e_below same);
  joined = λ e e_from e_below on. elim (cases_lt e c.loop-b.b) [
    | inl earlier ↦ c.join_partners.ensures.kept c.args.a e c.requires.below (let up = c.loop-b-test.true in omega arith) (c.loop-b.invariant.joined e e_from earlier on)
    | inr later ↦
        let same : e ≡ c.loop-b.b = omega arith in
        rw same (c.join_partners.ensures.joined (rw same at on))
  ];
  linked = λ ps pairs all. c.join_partners.ensures.linked ps pairs (c.loop-b.invariant.linked ps pairs all);
}
