-- A refused input is told with its own refused lines.
use Rattle.std.proofs.Common.{◌≡◌, ◌∙◌, ℕ, List, map, ap}
use Rattle.explain.specs.Answers.{refused_text}
use Rattle.fault_codes.specs.declared.Refusal.{Refusal}
use Rattle.explain_refused.specs.Listing.{refusals_text}
use Rattle.explain_refused.specs.Rows.{refused_line}
use Rattle.explain_refused.specs.declared.rows.RefusedLine.{RefusedLine}
use Rattle.tape_job.specs.LineRefusals.{line_refusals_of}

told_of : (lines input : List ℕ) (refusal : Refusal) → lines ≡ input → refusals_text lines refusal (map (refused_line lines) (line_refusals_of input)) ≡ refused_text input refusal
told_of lines input refusal same =
    ap (λ (xs : List ℕ). refusals_text xs refusal (map (refused_line xs) (line_refusals_of input))) same

pub refusals_told : (lines input : List ℕ) (refusal : Refusal) (refusals : List Refusal) (rows : List RefusedLine) (text : List ℕ)
    → lines ≡ input → refusals ≡ line_refusals_of input → rows ≡ map (refused_line lines) refusals → text ≡ refusals_text lines refusal rows → text ≡ refused_text input refusal
refusals_told lines input refusal refusals rows text same are made told =
    told
    ∙ ap (λ (rs : List RefusedLine). refusals_text lines refusal rs) made
    ∙ ap (λ (rs : List Refusal). refusals_text lines refusal (map (refused_line lines) rs)) are
    ∙ told_of lines input refusal same
