-- How many motions of a line the entries before one have.
use Rattle.std.proofs.Common.{◌≡◌, ◌∙◌, ℕ, ◌+◌, List, [], ◌∷◌, ◌++◌, ap, sym, arith}
use Rattle.std.proofs.lemmas.List.{map-id}
use Rattle.std.proofs.lemmas.List.FromFn.{map-range_with_len_more}
use Rattle.std.proofs.lemmas.List.Sums.{sum_by_push}
use Rattle.std.specs.List.{range_with_len, sum_by}
use Rattle.sync_types.specs.Views.{RunView}
use Rattle.explain_places.specs.Executions.{capped, motions_in, motions_before}

sum_more : (f : ℕ → ℕ) (n : ℕ) → sum_by f (range_with_len 0 (n + 1)) ≡ sum_by f (range_with_len 0 n) + f n
sum_more f n =
    ap (λ (ns : List ℕ). sum_by f ns)
    (sym (map-id (range_with_len 0 (n + 1))) ∙ map-range_with_len_more (λ (k : ℕ). k) 0 n n (omega arith) ∙ ap (λ (ns : List ℕ). ns ++ n ∷ []) (map-id (range_with_len 0 n)))
    ∙ sum_by_push f (range_with_len 0 n) n

-- one entry more
pub before_more : (run : RunView) (channel line place : ℕ) → motions_before run channel line (place + 1) ≡ motions_before run channel line place + motions_in run channel line place
unfolding motions_before
before_more run channel line place = sum_more (motions_in run channel line) place

-- sums that stop at the greatest number
pub capped_more : (count more all one : ℕ) → count ≡ capped all → more ≡ capped (count + one) → more ≡ capped (all + one)
capped_more count more all one so_far is = omega (arith, so_far, is)
