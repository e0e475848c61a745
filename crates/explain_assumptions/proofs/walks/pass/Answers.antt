use Rattle.std.proofs.Common.{◌∙◌, ℕ, ◌++◌, refl, ap, sym}
use Rattle.explain_assumptions.proofs.WalkLaws.{step_done, step_not}
use Rattle.explain_assumptions.specs.Remarks.{remark_if}
use Rattle.explain_assumptions.specs.declared.remarks.RemarkKind.TheVariants.{MovesUnder}
use Rattle.explain_assumptions.proofs.walks.pass.Goals as goal

pub returns-then-was_executed-clause-told : goal.returns-then-was_executed-clause-told
returns-then-was_executed-clause-told c s c' set w =
    let coming = c.in_ok-coming.coming in
    let passing = c.in_ok-passing.passing in
    step_done s c' c.args.local.now c.pass_block.new.local c.args.remarks.now.items c.add_passed.new.remarks.items w passing (c.in_ok-passing.ensures.told s c' set w.keeps) c.args.job.now.programs set.programs coming
    c.in_ok-coming.ensures
    (c.in_ok-add_passed.ensures ∙ ap (λ (n : ℕ). c.args.remarks.now.items ++ (coming.remarks.items ++ remark_if passing.moves coming.line (MovesUnder n))) c.offset_word.ensures)
    (sym c.was_executed.ensures ∙ c.if-was_executed.true)

pub returns-clause-told : goal.returns-clause-told
returns-clause-told c s c' set w =
    let passing = c.in_ok-passing.passing in
    step_not s c' c.args.local.now c.pass_block.new.local c.args.remarks.now.items c.args.remarks.now.items w passing (c.in_ok-passing.ensures.told s c' set w.keeps) refl
    (sym c.was_executed.ensures ∙ c.if-was_executed.false)
