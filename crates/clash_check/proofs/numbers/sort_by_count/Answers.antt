use Rattle.std.proofs.Common.{rules}
use Rattle.std.proofs.lemmas.List.Sorted.{IsNonDecreasingBy-from_sort, answers_always}
use Rattle.clash_check.specs.PairNumbers.{lack_of}
use Rattle.clash_check.proofs.numbers.sort_by_count.Goals as goal

pub returns : goal.returns
returns c = record {
  same = c.sort_by_key.ensures.permutation;
  falls = IsNonDecreasingBy-from_sort lack_of _ (c.in_ok-sort_by_key.ensures.sorted lack_of (answers_always _ _ _ (λ f a r g h. search rules)));
  ties = c.sort_by_key.ensures.stable lack_of (answers_always _ _ _ (λ f a r g h. search rules));
}
