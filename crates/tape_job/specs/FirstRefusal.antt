-- Law. What it means that lines are accepted, or refused at the first line that breaks a rule.
use Rattle.std.specs.Prelude.{◌≡◌, ◌⊎◌, List, ◌∷◌, ◌++◌, Result, Ok, Err, None, Some}
use Rattle.fault_codes.specs.declared.Refusal.{Refusal}
use Rattle.job_types.specs.Job.{JobView}
use Rattle.tape_job.specs.Lines.{Line}
use Rattle.tape_job.specs.Told.{facts_of}
use Rattle.tape_job.specs.Read.{trial, end_trial}

-- no line is refused after what the lines before it told
abbrev pub NoneRefused : List Line → Type 0
NoneRefused lines = (front : List Line) (line : Line) (rest : List Line) → lines ≡ front ++ line ∷ rest → trial (facts_of front) line ≡ None

-- a line is refused, and none before it
pub record RefusedAtLine (lines : List Line) (refused : Refusal) : Type 0 where
  pub front : List Line
  pub line : Line
  pub rest : List Line
  pub all : lines ≡ front ++ line ∷ rest
  pub before : NoneRefused front
  pub here : trial (facts_of front) line ≡ Some refused

-- no line is refused, but their end
pub record RefusedAtEnd (lines : List Line) (refused : Refusal) : Type 0 where
  pub before : NoneRefused lines
  pub here : end_trial (facts_of lines) ≡ Some refused

-- neither a line is refused nor the end, and the job is what the lines told
pub record AcceptedAs (lines : List Line) (job : JobView) : Type 0 where
  pub before : NoneRefused lines
  pub here : end_trial (facts_of lines) ≡ None
  pub tells : (facts_of lines).job ≡ job

abbrev pub IsReadAs : List Line → Result JobView Refusal → Type 0
IsReadAs lines (Ok job) = AcceptedAs lines job
IsReadAs lines (Err refused) = RefusedAtLine lines refused ⊎ RefusedAtEnd lines refused
