use Rattle.std.proofs.Common.{◌≡◌, ◌-◌, ◌^◌, min, fold, take}
use Rattle.micro_units.specs.NumberText.{with_digit}
use Rattle.micro_units.proofs.digits.with_digits.Given as goal

abbrev pub invariant-loop-digit : goal.invariant-loop-digit
invariant-loop-digit l = l.number ≡ min (fold with_digit l.start (take l.digit-index l.digits)) (2 ^ 64 - 1)
