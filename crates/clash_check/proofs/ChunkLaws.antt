-- The first of the answers in chunks is the first answer of the whole list.
use Rattle.std.proofs.Common.{◌≡◌, ◌∙◌, ℕ, zero, suc, ◌+◌, ◌*◌, ◌/◌, ◌%◌, ◌<◌, ◌≤◌, ◌⊎◌, inl, inr, min, List, [], ◌∷◌, length, get_or, take, drop, Option, None, refl, sym, ap, subst, add-zero, mul_comm, mul-le-mul_left, mul-le-mul_right, arith}
use Rattle.std.specs.Option.{option_or}
use Rattle.std.proofs.lemmas.Bool.{cases_lt}
use Rattle.std.proofs.lemmas.List.{drop-drop, drop_all, take-append-drop}
use Rattle.std.proofs.lemmas.Nat.{div-add-mod', mod_below}
use Rattle.std.proofs.Math.Nat.{suc-mul, zero-mul}
use Rattle.clash_check.proofs.FirstLaws.{first_some-append}
use Rattle.clash_check.specs.Chunks.{AreOfChunks}
use Rattle.clash_check.specs.FirstAnswer.{first_some}

-- so many chunks reach to the end
reach : (count len size : ℕ) → 0 < size → count ≡ len / size + min 1 (len % size) → len ≤ count * size
reach count len size some is = by_rest (len % size) refl
  where
    whole : (len / size) * size + len % size ≡ len
    whole = div-add-mod' len size

    by_rest : (rest : ℕ) → len % size ≡ rest → len ≤ count * size
    by_rest zero e = let same : count ≡ len / size = omega (arith, is, e) in rw same (omega (arith, whole, e))
    by_rest (suc rest) e =
        let same : count ≡ suc (len / size) = omega (arith, is, e) in
        rw (same, suc-mul (len / size) size) (omega (arith, whole, mod_below len size some))

-- chunks of this size are no more than those that reach to the end
pub few_chunks : (count len size : ℕ) → 0 < size → len ≤ count * size → len / size + min 1 (len % size) ≤ count
few_chunks count len size some all = by_order (cases_lt (len / size) count) (cases_lt count (len / size))
  where
    whole : (len / size) * size + len % size ≡ len
    whole = div-add-mod' len size

    by_order : (len / size < count) ⊎ (count ≤ len / size) → (count < len / size) ⊎ (len / size ≤ count) → len / size + min 1 (len % size) ≤ count
    by_order (inl less) o = omega (arith, less)
    by_order (inr most) (inl more) =
        let wide : suc count * size ≤ (len / size) * size = mul-le-mul_right size more in
        let next : suc count * size ≡ count * size + size = suc-mul count size in
        absurd (omega (arith, wide, next, whole, all, some))
    by_order (inr most) (inr least) =
        let same : len / size ≡ count = omega (arith, most, least) in
        let wide : (len / size) * size ≡ count * size = ap (λ (n : ℕ). n * size) same in
        omega (arith, same, wide, whole, all)

-- a list that is cut into chunks, whose size is its length divided by their number and rounded up, has no more than that number
pub few_by_size : (chunks len size : ℕ) → 0 < chunks → 0 < size → len / chunks + min 1 (len % chunks) ≤ size → len / size + min 1 (len % size) ≤ chunks
few_by_size chunks len size some some' long =
    let all : len ≤ (len / chunks + min 1 (len % chunks)) * chunks = reach (len / chunks + min 1 (len % chunks)) len chunks some refl in
    let wide : (len / chunks + min 1 (len % chunks)) * chunks ≤ size * chunks = mul-le-mul_right chunks long in
    let turned : size * chunks ≡ chunks * size = mul_comm size chunks in
    few_chunks chunks len size some' (omega (arith, all, wide, turned))

-- so many have no more room than so many others that are as many or more
pub room_of_few : (room few chunks whole : ℕ) → few ≤ chunks → room * chunks ≤ whole → room * few ≤ whole
room_of_few room few chunks whole less all = let wide : room * few ≤ room * chunks = mul-le-mul_left room less in omega (arith, wide, all)

module _ {X Y : Type 0} (f : X → Option Y) (size : ℕ) (xs : List X) where
  -- a chunk, and what stands after it
  cut : (n : ℕ) → first_some f (drop (n * size) xs) ≡ option_or (first_some f (take size (drop (n * size) xs))) (first_some f (drop (suc n * size) xs))
  cut n =
      ap (first_some f) (sym (take-append-drop size (drop (n * size) xs))) ∙ first_some-append f (take size (drop (n * size) xs)) (drop size (drop (n * size) xs))
      ∙ ap (λ (ys : List X). option_or (first_some f (take size (drop (n * size) xs))) (first_some f ys)) (drop-drop size (n * size) xs ∙ ap (λ (k : ℕ). drop k xs) (sym (suc-mul n size)))

  from_chunk : (answers : List (Option Y)) (n : ℕ) → ((k : ℕ) → k < length answers → get_or answers k None ≡ first_some f (take size (drop ((n + k) * size) xs))) → length xs ≤ (n + length answers) * size
      → first_some (λ answer. answer) answers ≡ first_some f (drop (n * size) xs)
  from_chunk [] n each all =
      let far : length xs ≤ n * size = subst (λ (m : ℕ). length xs ≤ m * size) (add-zero n) all in
      let none : drop (n * size) xs ≡ [] = drop_all (n * size) xs far in
      sym (ap (first_some f) none)
  from_chunk (answer ∷ answers) n each all =
      let here : answer ≡ first_some f (take size (drop (n * size) xs)) = each 0 (omega arith) ∙ ap (λ (m : ℕ). first_some f (take size (drop (m * size) xs))) (add-zero n) in
      let later : first_some (λ answer. answer) answers ≡ first_some f (drop (suc n * size) xs) =
      from_chunk answers (suc n) (λ k below. each (suc k) (omega (arith, below)) ∙ ap (λ (m : ℕ). first_some f (take size (drop (m * size) xs))) (passed k)) (subst (λ (m : ℕ). length xs ≤ m * size) (passed (length answers)) all) in
      rw (here, later) (sym (cut n))
    where
      passed : (k : ℕ) → n + suc k ≡ suc n + k
      passed k = omega arith

  pub first_of_chunks : (answers : List (Option Y)) → 0 < size → AreOfChunks (first_some f) size xs answers → first_some (λ answer. answer) answers ≡ first_some f xs
  first_of_chunks answers some are =
      from_chunk answers 0 (λ k below. are.each k below ∙ ap (λ (m : ℕ). first_some f (take size (drop (m * size) xs))) (from_none k)) (subst (λ (m : ℕ). length xs ≤ m * size) (from_none (length answers)) (reach (length answers) (length xs) size some are.count))
      ∙ ap (λ (k : ℕ). first_some f (drop k xs)) (zero-mul size)
    where
      from_none : (k : ℕ) → k ≡ 0 + k
      from_none k = omega arith
