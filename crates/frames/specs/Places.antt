-- Meaning. Ends and changes of positions, in whole micrometres.
use Rattle.std.specs.Prelude.{◌≡◌, ◌≤◌, ℕ, ◌*◌, ℤ, pos, ◌+ℤ◌, ◌*ℤ◌, Result, MatchResult}
use Rattle.std.specs.Int.RustNames.{unsigned_abs}
use Rattle.micro_units.specs.Rounding.{half_away}
use Rattle.micro_units.specs.declared.Um.{Um}
use Rattle.frames.specs.Images.{Image, sign}
use Rattle.frames.specs.Maps.{Point}
use Rattle.fault_codes.specs.declared.alarms.TheConstants.{OUT_OF_RANGE}

-- the point that is programmed by these numbers, twice each value in millionths of a millimetre
abbrev pub programmed_point : (ℕ → ℤ) → Point
programmed_point twice = record { top = twice; under = 2000000 }

-- where a slot ends: its place in millimetres and the settable offset in micrometres, rounded once
abbrev pub end_at : Point → ℕ → ℤ → ℤ
end_at p slot offset = half_away ((p.top slot *ℤ pos 1000) +ℤ (offset *ℤ pos p.under)) p.under

-- by how much a slot goes where its axis goes by half of this number of millionths: sign · factor · value, rounded once
abbrev pub change_of : Image → ℤ → ℤ
change_of i twice = half_away ((sign i.minus *ℤ (i.factor *ℤ twice)) *ℤ pos 1000) (i.under * 2000000)

-- the answer has this slot and this number, or is an alarm exactly where the number is greater than it may be
abbrev pub GivesPlace : ℕ → ℤ → ℕ → Result (ℕ × Um) ℕ → Type 0
GivesPlace slot place most answer =
    MatchResult answer
    (λ given. (given.0 ≡ slot) × (given.1 ≡ place) × (unsigned_abs place ≤ most))
    (λ alarm. (alarm ≡ OUT_OF_RANGE) × ¬ (unsigned_abs place ≤ most))
