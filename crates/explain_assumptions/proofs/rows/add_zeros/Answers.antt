use Rattle.std.proofs.Common.{◌≡◌, ◌∙◌, ◌++◌, Option, ap, arith}
use Rattle.explain_assumptions.proofs.ListLaws.{count_more}
use Rattle.explain_assumptions.proofs.RowLaws.{all_zeros}
use Rattle.explain_assumptions.specs.Firsts.{first_with, parameter_of}
use Rattle.explain_assumptions.specs.Rows.{zero_rows}
use Rattle.explain_assumptions.specs.declared.remarks.Remark.{Remark}
use Rattle.explain_assumptions.proofs.rows.add_zeros.Goals as goal

pub loop-number-preserved : goal.loop-number-preserved
loop-number-preserved c = λ remarks are.
    count_more (λ number. zero_rows c.args.channel number (first_with parameter_of number remarks)) c.loop-number.number c.args.rows.now.items c.loop-number.rows.items c.add_zero.new.rows.items
    (c.loop-number.invariant remarks are)
    (c.in_ok-add_zero.ensures
    ∙ ap (λ (o : Option Remark). c.loop-number.rows.items ++ zero_rows c.args.channel c.loop-number.number o) (c.first_at.ensures ∙ are.each c.loop-number.number (omega arith)))

pub returns : goal.returns
returns c = λ remarks are.
    let all : c.loop-number.number ≡ 1000 = omega arith in
    all_zeros c.args.channel remarks c.loop-number.number c.args.rows.now.items c.loop-number.rows.items all (c.loop-number.invariant remarks are)
