-- Steps. Lines of blocks with how they are said.
use Rattle.std.specs.Prelude.{◌≡◌, ℕ, All, List}
use Rattle.explain.specs.Clashes.{at_text}
use Rattle.explain.specs.declared.line_texts.LineTexts.{LineTexts}
use Rattle.job_types.specs.Job.{JobView}

-- each line of them is said as one of a pair is
abbrev pub AreSaid : List ℕ → JobView → LineTexts → Type 0
AreSaid input job known = All (λ row. row.1.items ≡ at_text input job row.0) known.texts.entries
