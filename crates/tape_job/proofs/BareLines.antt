-- A line of a program that is nothing but its line end tells nothing, and is not refused.
use Rattle.std.proofs.Common.{◌≡◌, ℕ, Bool, true, false, ◌||◌, List, [], ◌∷◌, None, refl, sym, subst}
use Rattle.std.specs.Str.{bytes_eq}
use Rattle.std.proofs.lemmas.Slice.Eq.{bytes_eq-Decides}
use Rattle.block_scanner.specs.Tokens.{tokens_from}
use Rattle.tape_job.specs.Lines.{text_of, before_comment, has_token, begins_with_percent, is_bare}
use Rattle.tape_job.specs.Reading.{block_reading, reading_of}
use Rattle.tape_job.specs.Rules.{rule_of}
use Rattle.tape_job.specs.Told.{Told}
use Rattle.tape_job.specs.Read.{line_trial, end_of_program, trial}
use Rattle.tape_job.specs.Steps.{with_line, tell}

-- the line is not refused, and all is told as before it
abbrev pub TellsNothing : Told → ℕ → List ℕ → Type 0
TellsNothing told number raw = (trial told (number, raw) ≡ None) × (told ≡ tell told (number, raw))

or_false : (b : Bool) → b || false ≡ b
or_false true = refl
or_false false = refl

feed_tells_nothing : (told : Told) (number : ℕ) → told.in_programs ≡ true → TellsNothing told number (10 ∷ [])
unfolding trial end_of_program line_trial reading_of block_reading tokens_from text_of before_comment has_token begins_with_percent rule_of with_line tell
feed_tells_nothing told number programs = (rw programs refl, rw (programs, or_false told.seen) refl)

return_tells_nothing : (told : Told) (number : ℕ) → told.in_programs ≡ true → TellsNothing told number (13 ∷ 10 ∷ [])
unfolding trial end_of_program line_trial reading_of block_reading tokens_from text_of before_comment has_token begins_with_percent rule_of with_line tell
return_tells_nothing told number programs = (rw programs refl, rw (programs, or_false told.seen) refl)

pub bare_tells_nothing : (told : Told) (number : ℕ) (raw : List ℕ) → told.in_programs ≡ true → is_bare raw ≡ true → TellsNothing told number raw
unfolding is_bare
bare_tells_nothing told number raw programs bare = by_test (bytes_eq raw (10 ∷ [])) refl bare
  where
    by_test : (b : Bool) → bytes_eq raw (10 ∷ []) ≡ b → b || bytes_eq raw (13 ∷ 10 ∷ []) ≡ true → TellsNothing told number raw
    by_test true is bare = subst (TellsNothing told number) (sym ((bytes_eq-Decides raw (10 ∷ [])).0 is)) (feed_tells_nothing told number programs)
    by_test false is bare = subst (TellsNothing told number) (sym ((bytes_eq-Decides raw (13 ∷ 10 ∷ [])).0 bare)) (return_tells_nothing told number programs)
