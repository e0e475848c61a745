-- Parts by numbers from 0 on, one after another.
use Rattle.std.proofs.Common.{◌≡◌, ◌∙◌, ℕ, ◌+◌, List, [], ◌∷◌, ◌++◌, ap, sym, append_assoc, append-nil, arith}
use Rattle.std.proofs.lemmas.List.{map-id}
use Rattle.std.proofs.lemmas.List.FromFn.{map-range_with_len_more}
use Rattle.std.proofs.lemmas.Grind.{flat_map-append}
use Rattle.std.specs.List.{flat_map, range_with_len}

-- the parts of so many numbers and of one more
pub parts_more : (f : ℕ → List ℕ) (n : ℕ) → flat_map f (range_with_len 0 (n + 1)) ≡ flat_map f (range_with_len 0 n) ++ f n
parts_more f n =
    ap (λ (ns : List ℕ). flat_map f ns)
    (sym (map-id (range_with_len 0 (n + 1))) ∙ map-range_with_len_more (λ (k : ℕ). k) 0 n n (omega arith) ∙ ap (λ (ns : List ℕ). ns ++ n ∷ []) (map-id (range_with_len 0 n)))
    ∙ flat_map-append f (range_with_len 0 n) (n ∷ [])
    ∙ ap (λ (xs : List ℕ). flat_map f (range_with_len 0 n) ++ xs) (append-nil (f n))

-- after a text
pub next_part : (f : ℕ → List ℕ) (n : ℕ) (start now next : List ℕ) → now ≡ start ++ flat_map f (range_with_len 0 n) → next ≡ now ++ f n
    → next ≡ start ++ flat_map f (range_with_len 0 (n + 1))
next_part f n start now next e g =
    g ∙ ap (λ (xs : List ℕ). xs ++ f n) e ∙ append_assoc start (flat_map f (range_with_len 0 n)) (f n) ∙ ap (λ (xs : List ℕ). start ++ xs) (sym (parts_more f n))
