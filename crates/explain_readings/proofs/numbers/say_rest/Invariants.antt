use Rattle.std.proofs.Common.{◌≡◌, ◌++◌, take}
use Rattle.std.specs.List.{flat_map}
use Rattle.explain_readings.specs.Numbers.{further_text}
use Rattle.explain_readings.proofs.numbers.say_rest.Given as goal

abbrev pub invariant-loop-reading : goal.invariant-loop-reading
invariant-loop-reading l = l.text ≡ l.initial.text ++ flat_map further_text (take l.reading-index l.readings)
