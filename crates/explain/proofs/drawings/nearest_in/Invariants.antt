use Rattle.std.proofs.Common.{◌≡◌, take, None}
use Rattle.std.specs.List.{fold}
use Rattle.std.specs.Prelude.{Some}
use Rattle.explain.specs.Focused.{nearer}
use Rattle.explain.proofs.drawings.nearest_in.Given as goal

abbrev pub invariant-loop-near : goal.invariant-loop-near
invariant-loop-near l = l.nearest ≡ fold (λ kept near. Some (nearer near kept)) None (take l.near-index l.rows)
