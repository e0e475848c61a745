use Rattle.std.proofs.Common.{◌-◌, ◌^◌, arith}
use Rattle.micro_units.proofs.Decimals.{kept_is}
use Rattle.micro_units.proofs.digits.digits_in.Goals as goal

pub returns-clause-number : goal.returns-clause-number
returns-clause-number c =
    let parts = c.split_at_point in
    kept_is c.args.text.now parts.result.0.now parts.result.1.now c.with_digits.result c.with_digits-number.result (2 ^ 64 - 1)
    parts.ensures.whole parts.ensures.decimals c.with_digits.ensures
    (let kept = c.min.ensures in let number = c.with_digits-number.ensures in grind arith)
