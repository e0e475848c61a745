-- Meaning. The words of a call: what they ask for, and the input that they call for.
use Rattle.std.specs.Prelude.{ℕ, ◌==◌, ◌&&◌, nat_lt, nat_le, Bool, false, if◌then◌else◌, List, [], ◌∷◌, map, length, codes, Option, None, Some, option_and_then, option_map}
use Rattle.std.specs.Borrow.{Bor}
use Rattle.std.specs.Char.{is_ascii_digit}
use Rattle.std.specs.List.{list_all}
use Rattle.std.specs.Str.{bytes_eq}
use Rattle.std.specs.Str.Parse.{digits_value}
use Rattle.sample_jobs.specs.Samples.{sample_bytes}
use Rattle.turnmill.specs.Input.{is_check}
use Rattle.turnmill.specs.declared.words.Request.{Request}
use Rattle.turnmill.specs.declared.words.Request.TheVariants.{Check, Sample}

-- the words, each by its bytes
abbrev pub words_of : List (Bor (List ℕ)) → List (List ℕ)
words_of words = map (λ word. word.now) words

-- one to nine decimal digits
abbrev pub is_number : List ℕ → Bool
is_number text = nat_lt 0 (length text) && (nat_le (length text) 9 && list_all is_ascii_digit text)

-- what follows this front in a text that begins with it
abbrev pub text_after : List ℕ → List ℕ → Option (List ℕ)
text_after [] text = Some text
text_after (x ∷ front) [] = None
text_after (x ∷ front) (y ∷ text) = if x == y then text_after front text else None

-- N in the words `sample --number N` and `sample --number=N`
abbrev pub number_text : List (List ℕ) → Option (List ℕ)
number_text (first ∷ second ∷ []) = if bytes_eq first (codes "sample") then text_after (codes "--number=") second else None
number_text (first ∷ second ∷ third ∷ []) = if bytes_eq first (codes "sample") && bytes_eq second (codes "--number") then Some third else None
number_text words = None

-- the number that a text of one to nine digits writes
abbrev pub number_of : List ℕ → Option ℕ
number_of text = if is_number text then Some (digits_value 10 text) else None

-- the number of the sample that the words ask for
abbrev pub sample_number : List (List ℕ) → Option ℕ
sample_number words = option_and_then number_of (number_text words)

-- what the words ask for; None where they have no accepted form
abbrev pub request_of : List (List ℕ) → Option Request
request_of words = if is_check words then Some Check else option_map (λ number. Sample number) (sample_number words)

-- the words are `run` alone
abbrev pub is_run : List (List ℕ) → Bool
is_run (word ∷ []) = bytes_eq word (codes "run")
is_run words = false

-- what the words call for where threads may run a job: `run` calls for what `check` calls for
abbrev pub call_of : List (List ℕ) → Option Request
call_of words = if is_run words then Some Check else request_of words

-- the input that they call for: that of the source, or the job of the number
abbrev pub input_for : Option Request → Option (List ℕ) → Option (List ℕ)
input_for (Some Check) left = left
input_for (Some (Sample number)) left = Some (sample_bytes number)
input_for None left = None
