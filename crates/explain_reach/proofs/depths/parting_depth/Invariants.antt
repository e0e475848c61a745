-- They meet at each depth so far that is above the given one.
use Rattle.std.proofs.Common.{ℕ, ◌<◌, map}
use Rattle.explain_reach.specs.Depths.{DoMeetAt}
use Rattle.explain_reach.proofs.depths.parting_depth.Given as goal

abbrev pub invariant-loop-deeper : goal.invariant-loop-deeper
invariant-loop-deeper l = (between : ℕ) → l.depth < between → between < l.deeper → DoMeetAt (map (λ a. a.items) l.lefts) (map (λ a. a.items) l.rights) between
