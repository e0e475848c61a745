-- The codes of the lines that are refused by themselves, found one after the other.
use Rattle.std.proofs.Common.{◌≡◌, ◌∙◌, ℕ, ◌+◌, List, [], ◌∷◌, ◌++◌, refl, sym, ap}
use Rattle.std.specs.List.{enumerate_from}
use Rattle.tape_job.specs.LineRefusals.{code_of, codes_after, line_codes_of}
use Rattle.tape_job.specs.Lines.{Line, raw_lines}
use Rattle.tape_job.specs.RefusalSteps.{reading_in, codes_from, state_after, state_in, state_of}
use Rattle.tape_job.specs.Steps.{tell, with_line}
use Rattle.tape_job.specs.Told.{facts_of, reading_after}
use Rattle.tape_job.proofs.TellingLemmas.{told-push}

after_line : (before : List Line) (line : Line) → state_of (before ++ line ∷ []) ≡ state_after (state_of before) line.1
unfolding tell with_line
after_line before line = ap state_in (told-push before line)

same_reading : (before : List Line) (raw : List ℕ) → reading_in (state_of before) raw ≡ reading_after before raw
unfolding facts_of
same_reading before raw = refl

from_state : (before : List Line) (number : ℕ) (raws : List (List ℕ)) → codes_from (state_of before) raws ≡ codes_after before (enumerate_from number raws)
from_state before number [] = refl
from_state before number (raw ∷ raws) =
    ap (λ read. code_of read ∷ codes_from (state_after (state_of before) raw) raws) (same_reading before raw)
    ∙ ap (λ more. code_of (reading_after before raw) ∷ more)
    (ap (λ state. codes_from state raws) (sym (after_line before (number, raw))) ∙ from_state (before ++ (number, raw) ∷ []) (number + 1) raws)

-- before the first line
pub at_start : (bytes : List ℕ) → codes_from (state_of []) (raw_lines bytes) ≡ line_codes_of bytes
unfolding line_codes_of
at_start bytes = from_state [] 1 (raw_lines bytes)
