-- Law. What a length of the tool does to where a value goes.
use Rattle.std.specs.Prelude.{◌≡◌, ⊤, ℤ, pos, ◌+ℤ◌, false}
use Rattle.block_motions.specs.declared.goals.Goal.{Goal}
use Rattle.block_motions.specs.declared.goals.Goal.TheVariants.{To, By, TooFar}
use Rattle.block_motions.specs.Goals.{ConditionsView}
use Rattle.micro_units.specs.Position.{is_position}

-- the same, but for the lengths: there is no tool
abbrev pub without_tool : ConditionsView → ConditionsView
without_tool h = record h { length = λ slot. pos 0 }

-- an end is so much longer than another; it is too far where the other is, or where with the length it would be
abbrev pub IsLonger : ℤ → Goal → Goal → Type 0
IsLonger length (To end) (To longer) = longer ≡ end +ℤ length
IsLonger length (To end) TooFar = is_position (end +ℤ length) ≡ false
IsLonger length TooFar TooFar = ⊤
IsLonger length bare longer = ⊥
