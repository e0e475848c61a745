-- Rows of positions.
use Rattle.std.proofs.Common.{◌≡◌, ℕ, zero, suc, ℤ, pos, ◌<◌, ◌≤◌, ◌⊎◌, ◌==◌, All, List, [], ◌∷◌, length, find, Option, None, inl, inr, refl, arith}
use Rattle.std.specs.Prelude.{slice_get, unwrap_or}
use Rattle.std.proofs.Math.ListN.{get_or-eq_default}
use Rattle.std.proofs.lemmas.Bool.Decides.{eqb_tells}
use Rattle.std.proofs.lemmas.List.Elements.{All-tail}
use Rattle.axis_sets.specs.Positions.{position_of}
use Rattle.axis_sets.specs.declared.limits.TheConstants.{AXIS_LIMIT}
use Rattle.job_types.specs.Axes.{start_position}
use Rattle.job_types.specs.Job.{JobView}
use Rattle.job_types.specs.declared.job.AxisLine.{AxisLine}
use Rattle.path_geometry.specs.Motions.{axes_of}
use Rattle.sync_types.specs.Items.{movement_of}
use Rattle.sync_types.specs.declared.Item.{Item}
use Rattle.zone_stretches.specs.Rows.{positions_in}
use Rattle.zone_stretches.specs.ZoneBoxes.{stand_after}

below_or_not : (a b : ℕ) → (a ≤ b) ⊎ (b < a)
below_or_not a b = grind arith

-- what is said of each axis of two rows is so of every axis, where it is so beyond the rows
pub all_axes : (f g : ℕ → ℤ) → ((k : ℕ) → k < AXIS_LIMIT → f k ≡ g k) → ((k : ℕ) → AXIS_LIMIT ≤ k → f k ≡ g k) → (k : ℕ) → f k ≡ g k
all_axes f g within beyond k = elim (below_or_not AXIS_LIMIT k) [ inl far ↦ beyond k far | inr here ↦ within k here ]

-- beyond a row all is at 0
pub past_row : (row : List ℤ) (k : ℕ) → length row ≡ AXIS_LIMIT → AXIS_LIMIT ≤ k → positions_in row k ≡ pos 0
past_row row k size far = get_or-eq_default row (pos 0) (omega arith)

-- an axis that no end names has none
find_beyond : (ends : List (ℕ × ℤ × ℤ)) (axis n : ℕ) → All (λ e. e.0 < n) ends → n ≤ axis → find (λ e. e.0 == axis) ends ≡ None
find_beyond [] axis n within beyond = refl
find_beyond (e ∷ ends) axis n within beyond = elim (eqb_tells e.0 axis) [
  | inl h ↦ let same : e.0 ≡ axis = h.1 in let low : e.0 < n = within 0 e (omega arith) in absurd (omega arith)
  | inr h ↦ rw h.0 (find_beyond ends axis n (All-tail (λ e. e.0 < n) e ends within) beyond)
]

-- a motion leaves an axis beyond the row where it stood
pub after_beyond : (item : Item) (at : ℕ → ℤ) (k : ℕ) → All (λ e. e.0 < AXIS_LIMIT) (axes_of (movement_of item)) → AXIS_LIMIT ≤ k → stand_after item at k ≡ at k
unfolding stand_after
after_beyond item at k within beyond = rw (find_beyond (axes_of (movement_of item)) k AXIS_LIMIT within beyond) refl

no_line : (lines : List AxisLine) (k : ℕ) → length lines ≤ k → slice_get lines k ≡ None
no_line [] k far = refl
no_line (x ∷ xs) zero far = absurd (omega arith)
no_line (x ∷ xs) (suc k) far = no_line xs k (omega arith)

-- an axis that the job has not is at 0
pub no_start : (job : JobView) (k : ℕ) → length job.axes ≤ AXIS_LIMIT → AXIS_LIMIT ≤ k → start_position job k ≡ pos 0
unfolding start_position
no_start job k few far = let past : length job.axes ≤ k = omega arith in rw (no_line job.axes k past) refl

no_position : (at : List (Option ℤ)) (k : ℕ) → length at ≤ k → position_of at k ≡ None
no_position at k far = get_or-eq_default at None far

-- positions leave an axis beyond the row where it stood
pub put_beyond : (at : List (Option ℤ)) (p : ℤ) (k : ℕ) → length at ≡ AXIS_LIMIT → AXIS_LIMIT ≤ k → unwrap_or (position_of at k) p ≡ p
put_beyond at p k size far = let past : length at ≤ k = omega arith in rw (no_position at k past) refl
