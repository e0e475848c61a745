-- The texts of alarms and of refusals are short.
use Rattle.std.proofs.Common.{◌≡◌, ℕ, ◌≤◌, ◌==◌, Bool, true, false, ◌&&◌, List, [], ◌∷◌, length, nat_le, refl, if◌then◌else◌, arith}
use Rattle.std.proofs.lemmas.Bool.{false≢true, leb-true}
use Rattle.std.specs.List.{list_all}
use Rattle.nc_faults.specs.Texts.{text_of, alarm_text_of, alarm_texts, refusal_text_of, refusal_texts}

first_true : (a b : Bool) → (a && b) ≡ true → a ≡ true
first_true true b t = refl
first_true false b t = t

second_true : (a b : Bool) → (a && b) ≡ true → b ≡ true
second_true true b t = t
second_true false b t = absurd (false≢true t)

-- the text beside a code
abbrev is_short : ℕ × List ℕ → Bool
is_short row = nat_le (length row.1) 40

either_short : (b : Bool) (text other : List ℕ) → length text ≤ 40 → length other ≤ 40 → length (if b then text else other) ≤ 40
either_short true text other short rest = short
either_short false text other short rest = rest

text_of-short : (rows : List (ℕ × List ℕ)) (code : ℕ) → list_all is_short rows ≡ true → length (text_of rows code) ≤ 40
text_of-short [] code short = omega arith
text_of-short (row ∷ rows) code short =
    either_short (row.0 == code) row.1 (text_of rows code)
    (leb-true (length row.1) 40 (first_true (is_short row) (list_all is_short rows) short))
    (text_of-short rows code (second_true (is_short row) (list_all is_short rows) short))

pub alarm_text_short : (code : ℕ) → length (alarm_text_of code) ≤ 40
unfolding alarm_text_of alarm_texts
alarm_text_short code = text_of-short alarm_texts code refl

pub refusal_text_short : (code : ℕ) → length (refusal_text_of code) ≤ 40
unfolding refusal_text_of refusal_texts
refusal_text_short code = text_of-short refusal_texts code refl
