-- Moves one after the other make one move.
use Rattle.std.proofs.Common.{◌≡◌, ℕ, ◌+◌, ◌^◌, ◌<◌, ◌≤◌, min, nat_lt, Bool, true, false, List, [], ◌∷◌, ◌++◌, length, take, drop, Option, None, Some, refl, ap, sym, ◌∙◌, add_assoc, add-zero, arith}
use Rattle.std.proofs.lemmas.List.{append-nil, append_assoc, take_at, length-take-le, drop-drop, take-append-drop}
use Rattle.std.proofs.Math.Seq.{take-add}
use Rattle.std.proofs.lemmas.Bool.{lt-ltb, ltb-true, ltb-false}
use Rattle.edge_io.specs.Moves.{Grows, Counts, count_in_64_bits}

pub Grows-nothing : (w : Option (List ℕ)) → Grows w w []
Grows-nothing None = tt
Grows-nothing (Some xs) = ap Some (sym (append-nil xs))

-- the first i bytes, and then the next n
pub Grows-more : (old mid new : Option (List ℕ)) (bytes : List ℕ) (i n : ℕ) →
    Grows old mid (take i bytes) → Grows mid new (take n (drop i bytes)) → Grows old new (take (i + n) bytes)
Grows-more None mid new bytes i n first more = tt
Grows-more (Some xs) mid new bytes i n first more =
    let grown : new ≡ Some (xs ++ take i bytes ++ take n (drop i bytes)) = rw first at more in
    grown ∙ ap Some (append_assoc xs (take i bytes) (take n (drop i bytes)) ∙ ap (λ ys. xs ++ ys) (sym (take-add i n bytes)))

-- a number that fits, and one that does not
pub fits_bits : (total : ℕ) → total < 2 ^ 64 → count_in_64_bits total ≡ Some total
fits_bits total fits = let less : nat_lt total (2 ^ 64) ≡ true = lt-ltb total (2 ^ 64) fits in rw less refl

no_bits : (total : ℕ) → 2 ^ 64 ≤ total → count_in_64_bits total ≡ None
no_bits total large = by_test (nat_lt total (2 ^ 64)) refl
  where
    by_test : (b : Bool) → nat_lt total (2 ^ 64) ≡ b → count_in_64_bits total ≡ None
    by_test true e = let less : total < 2 ^ 64 = ltb-true total (2 ^ 64) e in absurd (omega (arith, less, large))
    by_test false e = rw e refl

-- no byte
pub Counts-nothing : (k : Option ℕ) → Counts k k 0
Counts-nothing None = refl
Counts-nothing (Some k) = λ fits. sym (ap count_in_64_bits (add-zero k) ∙ fits_bits k fits)

-- i bytes, and then n
pub Counts-more : (old mid new : Option ℕ) (i n : ℕ) → Counts old mid i → Counts mid new n → Counts old new (i + n)
Counts-more None mid new i n first more = rw first at more
Counts-more (Some k) mid new i n first more = λ fits. by_size fits (nat_lt (k + i) (2 ^ 64)) refl
  where
    by_size : k < 2 ^ 64 → (b : Bool) → nat_lt (k + i) (2 ^ 64) ≡ b → new ≡ count_in_64_bits (k + (i + n))
    by_size fits true e =
        let small : k + i < 2 ^ 64 = ltb-true (k + i) (2 ^ 64) e in
        let told : mid ≡ Some (k + i) = first fits ∙ fits_bits (k + i) small in
        let after : k + i < 2 ^ 64 → new ≡ count_in_64_bits (k + i + n) = rw told at more in
        after small ∙ ap count_in_64_bits (add_assoc k i n)
    by_size fits false e =
        let lost : mid ≡ None = first fits ∙ rw e refl in
        let after : new ≡ None = rw lost at more in
        let large : 2 ^ 64 ≤ k + i = ltb-false (k + i) (2 ^ 64) e in
        after ∙ sym (no_bits (k + (i + n)) (omega (arith, large)))

-- the first n bytes left stand at the start of the buffer, and the others are left
pub Loses-front : (n at : ℕ) (bytes buffer : List ℕ) → n ≤ length (drop at bytes) →
    drop at bytes ≡ take n (take n (drop at bytes) ++ buffer) ++ drop (at + n) bytes
Loses-front n at bytes buffer within =
    let front : take n (take n (drop at bytes) ++ buffer) ≡ take n (drop at bytes)
    = take_at (take n (drop at bytes)) buffer n (length-take-le n (drop at bytes) within) in
    rw (front, ← drop-drop n at bytes) (sym (take-append-drop n (drop at bytes)))

-- where a read of a source with bytes left gives none, the source is empty
pub IsEmptied-none : (bytes : List ℕ) (room piece : ℕ) → 0 < room → 0 < piece →
    min (min (length bytes) room) piece ≡ 0 → bytes ≡ []
IsEmptied-none [] room piece has_room has_piece none = refl
IsEmptied-none (b ∷ bs) room piece has_room has_piece none = absurd (omega arith)
