use Rattle.std.proofs.Common.{◌≡◌, ℕ, ◌<◌, get_or, option_copied}
use Rattle.passed_boxes.specs.declared.passed.PassedBox.{PassedBox}
use Rattle.passed_boxes.proofs.passed.PassedBoxes.has.Given as goal

abbrev pub invariant-loop-kept : goal.invariant-loop-kept
invariant-loop-kept l = (k : ℕ) (d : PassedBox) → k < l.kept-index → (get_or l.kept-items k d).cover ≡ l.cover → (get_or l.kept-items k d).motion ≡ option_copied l.motion → ⊥
