-- Meaning. The letters of races, and their order: by letter, then by the four printed numbers.
use Rattle.std.specs.Prelude.{◌≡◌, ℕ, ◌<◌, ◌⊎◌, List, [], ◌∷◌}
use Rattle.sync_types.specs.declared.runs.Race.{Race}

-- the bytes of the letters
abbrev pub letter_a : ℕ
letter_a = 97

abbrev pub letter_b : ℕ
letter_b = 98

abbrev pub letter_c : ℕ
letter_c = 99

abbrev pub letter_d : ℕ
letter_d = 100

abbrev pub letter_e : ℕ
letter_e = 101

abbrev pub letter_f : ℕ
letter_f = 102

abbrev pub letter_g : ℕ
letter_g = 103

-- up to the other, by the first number in which they differ
abbrev pub IsUpTo : List ℕ → List ℕ → Type 0
IsUpTo [] ys = Unit {0}
IsUpTo (x ∷ xs) [] = ⊥
IsUpTo (x ∷ xs) (y ∷ ys) = (x < y) ⊎ ((x ≡ y) × IsUpTo xs ys)

-- the letter, and the four numbers that are printed
abbrev pub numbers_of : Race → List ℕ
numbers_of r = r.case ∷ (r.first.0 ∷ (r.first.1 ∷ (r.second.0 ∷ (r.second.1 ∷ []))))
