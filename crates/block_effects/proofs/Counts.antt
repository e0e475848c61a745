-- The sums of a counted loop.
use Rattle.std.proofs.Common.{◌≡◌, ◌∙◌, sym, ap, Ok, Err}
use Rattle.std.specs.Prelude.{ℤ}
use Rattle.micro_units.specs.declared.NumFault.{NumFault}
use Rattle.micro_units.specs.Num.{GivesNum}
use Rattle.nc_expressions.specs.Value.{in_range_or_alarm, number_or_alarm}
use Rattle.nc_expressions.proofs.Alarms.{gives_num}

-- a sum in range is checked
pub in_range : (value n : ℤ) → GivesNum value (Ok n) → Ok n ≡ in_range_or_alarm value
in_range value n h = gives_num value (Ok n) h

-- one out of range is alarm 1
pub too_large : (value : ℤ) (e : NumFault) → GivesNum value (Err e) → Err 1 ≡ in_range_or_alarm value
too_large value e h = sym (ap (λ (f : NumFault). number_or_alarm (Err f)) h.0) ∙ gives_num value (Err e) h
