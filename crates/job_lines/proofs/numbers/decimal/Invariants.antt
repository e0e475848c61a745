-- The number is that of the digits read so far, and has no more digits than these.
use Rattle.std.proofs.Common.{◌≡◌, ◌<◌, ◌^◌, take}
use Rattle.job_lines.specs.Numbers.{decimal}
use Rattle.job_lines.proofs.numbers.decimal.Given as goal

abbrev pub invariant-loop-digit : goal.invariant-loop-digit
invariant-loop-digit l = record {
  number : l.number ≡ decimal (take l.digit-index l.digits);
  below : l.number < 10 ^ l.digit-index;
}
