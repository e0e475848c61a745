use Rattle.std.proofs.Common.{refl, sym}
use Rattle.micro_units.proofs.Decimals.{reads_none, reads_some}
use Rattle.micro_units.proofs.Num.parse.Goals as goal

pub returns-in-Some : goal.returns-in-Some
returns-in-Some c =
    let digits = c.in-Some.digits in
    reads_some c.args.text.now c.from_digits.result digits.number digits.decimals
    (sym c.in-Some.ensures.form) c.in-Some.ensures.number c.in-Some.ensures.decimals c.from_digits.ensures

pub returns-in-None : goal.returns-in-None
returns-in-None c = reads_none c.args.text.now _ (sym c.in-None.ensures.form) refl
