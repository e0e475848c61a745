-- The rows so far are said.
use Rattle.std.proofs.Common.{◌≡◌, ◌++◌, take}
use Rattle.std.specs.List.{flat_map}
use Rattle.explain.specs.Room.{near_text}
use Rattle.explain.proofs.other_texts.say_all_near.Given as goal

abbrev pub invariant-loop-near : goal.invariant-loop-near
invariant-loop-near l = l.text ≡ l.initial.text ++ flat_map (near_text l.told.lines.now l.told.job.now l.told.run.now) (take l.near-index l.rows)
