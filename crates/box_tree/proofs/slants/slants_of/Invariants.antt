use Rattle.std.proofs.Common.{ℕ, ◌<◌, get_or}
use Rattle.box_tree.specs.Slants.{HoldsSlant}
use Rattle.swept_boxes.specs.declared.Box3.{Box3}
use Rattle.box_tree.proofs.slants.slants_of.Given as goal

abbrev pub invariant-loop-own : goal.invariant-loop-own
invariant-loop-own l = record {
  xy : (k : ℕ) (d : Box3) → k < l.own-index → HoldsSlant (get_or l.boxes k d) 0 1 l.xy;
  xz : (k : ℕ) (d : Box3) → k < l.own-index → HoldsSlant (get_or l.boxes k d) 0 2 l.xz;
  yz : (k : ℕ) (d : Box3) → k < l.own-index → HoldsSlant (get_or l.boxes k d) 1 2 l.yz;
}
