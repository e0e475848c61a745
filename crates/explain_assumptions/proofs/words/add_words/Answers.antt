use Rattle.std.proofs.Common.{◌≡◌, ◌∙◌, ℕ, ◌++◌, Bool, List, ap}
use Rattle.explain_assumptions.proofs.ListLaws.{four}
use Rattle.explain_assumptions.specs.Remarks.{remark_if, words_say}
use Rattle.explain_assumptions.specs.declared.remarks.Remark.{Remark}
use Rattle.explain_assumptions.specs.declared.remarks.RemarkKind.{RemarkKind}
use Rattle.explain_assumptions.specs.declared.remarks.RemarkKind.TheVariants.{SaysDiameters, ProgramsX, HasTool, HasToolOffset}
use Rattle.explain_assumptions.proofs.words.add_words.Goals as goal

same_if : (line : ℕ) (kind : RemarkKind) (old : List Remark) (a b : Bool) (new : List Remark) → a ≡ b → new ≡ old ++ remark_if a line kind → new ≡ old ++ remark_if b line kind
same_if line kind old a b new same is = is ∙ ap (λ (t : Bool). old ++ remark_if t line kind) same

pub returns : goal.returns
unfolding words_say
returns c =
    four _ _ _ _ _ _ _ _ _
    (same_if c.args.line SaysDiameters _ _ _ _ c.say_diameters.ensures c.in_ok-add_if.ensures)
    (same_if c.args.line ProgramsX _ _ _ _ c.program_x.ensures c.in_ok-add_if-2.ensures)
    (same_if c.args.line HasTool _ _ _ _ c.have_letter.ensures c.in_ok-add_if-3.ensures)
    (same_if c.args.line HasToolOffset _ _ _ _ c.have_letter-2.ensures c.in_ok-add_if-4.ensures)
