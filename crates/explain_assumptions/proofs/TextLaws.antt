-- What is said where something is taken for granted.
use Rattle.std.proofs.Common.{◌≡◌, ℕ, ◌==◌, false, List, [], ◌∷◌, ◌++◌, codes, length}
use Rattle.std.specs.List.{flat_map}
use Rattle.job_types.specs.Job.{JobView}
use Rattle.explain_assumptions.proofs.ListLaws.{two}
use Rattle.explain_assumptions.specs.Texts.{assumed_text, assumptions_text}
use Rattle.explain_assumptions.specs.declared.rows.Assumed.{Assumed}

pub some_said : (input : List ℕ) (job : JobView) (rows : List Assumed) (start mid new : List ℕ) → (length rows == 0) ≡ false → mid ≡ start ++ codes "Taken for granted:\n"
    → new ≡ mid ++ flat_map (assumed_text input job) rows → new ≡ start ++ assumptions_text input job rows
unfolding assumptions_text
some_said input job [] start mid new some head rest = absurd cc
some_said input job (assumed ∷ rows) start mid new some head rest = two start mid new (codes "Taken for granted:\n") (flat_map (assumed_text input job) (assumed ∷ rows)) head rest
