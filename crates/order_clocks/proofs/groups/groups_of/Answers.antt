use Rattle.std.proofs.Common.{◌≡◌, inl, inr, sym, arith}
use Rattle.std.proofs.lemmas.Bool.{cases_lt}
use Rattle.order_clocks.proofs.groups.groups_of.Goals as goal

pub loop-a-preserved : goal.loop-a-preserved
loop-a-preserved c = record {
  size = c.join_to.ensures.size;
  joined = λ e f e_from e_below f_from f_below on. elim (cases_lt e c.loop-a.a) [
    | inl earlier ↦ c.join_to.ensures.kept e f (let up = c.loop-a-test.true in omega arith) f_below (c.loop-a.invariant.joined e f e_from earlier f_from f_below on)
    | inr later ↦
        let same : e ≡ c.loop-a.a = omega arith in
        rw (sym same) at (c.join_to.ensures.joined) f f_from f_below on
  ];
  linked = λ ps pairs. c.join_to.ensures.linked ps pairs (c.loop-a.invariant.linked ps pairs);
}
