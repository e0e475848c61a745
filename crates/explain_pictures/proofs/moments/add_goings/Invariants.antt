use Rattle.std.proofs.Common.{◌≡◌, ◌++◌, map, take}
use Rattle.explain_pictures.specs.Moments.{going_of}
use Rattle.explain_pictures.proofs.moments.add_goings.Given as goal

abbrev pub invariant-loop-go : goal.invariant-loop-go
invariant-loop-go l = take l.limit l.moments.items ≡ take l.limit (l.initial.moments.items ++ map (going_of l.step l.actor) (take l.go-index l.goes))
