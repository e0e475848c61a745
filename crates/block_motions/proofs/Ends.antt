-- The ends of a block's motion.
use Rattle.axis_sets.specs.declared.limits.TheConstants.{AXIS_LIMIT}
use Rattle.std.proofs.Common.{◌≡◌, ◌≢◌, ◌⊎◌, ◌∙◌, ℕ, zero, suc, ℤ, ◌+◌, ◌<◌, ◌≤◌, ◌==◌, List, length, find, Option, None, Some, option_map, get_or, All, AllPairs, inl, inr, refl, ap, subst, arith}
use Rattle.std.proofs.Math.ListN.{get_or-eq_default}
use Rattle.std.proofs.lemmas.Bool.{eq-eqb, ne_eqb, cases_eq}
use Rattle.std.proofs.lemmas.List.Elements.{All-nil, All-cons, All-weaker}
use Rattle.std.proofs.lemmas.List.Kept.{AllPairs-cons}
use Rattle.std.specs.List.{cons_option, filter_map, range_with_len}
use Rattle.block_motions.specs.declared.goals.Goal.{Goal}
use Rattle.block_motions.specs.Motions.{end_for, ends_from}

-- the ends of the axes from `low` on, n in number, to which `end` gives an end
abbrev pub ends_between : (ℕ → ℤ) → (ℕ → Option ℤ) → ℕ → ℕ → List (ℕ × ℤ × ℤ)
ends_between start end low n = filter_map (λ axis. option_map (λ to. (axis, start axis, to)) (end axis)) (range_with_len low n)

find_below : (start : ℕ → ℤ) (end : ℕ → Option ℤ) (low n axis : ℕ) → axis < low → find (λ e. e.0 == axis) (ends_between start end low n) ≡ None
find_below start end low zero axis below = refl
find_below start end low (suc n) axis below = by_end (end low) (find_below start end (low + 1) n axis (omega arith))
  where
    by_end : (o : Option ℤ) → find (λ e. e.0 == axis) (ends_between start end (low + 1) n) ≡ None
        → find (λ e. e.0 == axis) (cons_option (option_map (λ to. (low, start low, to)) o) (ends_between start end (low + 1) n)) ≡ None
    by_end None rest = rest
    by_end (Some to) rest = rw (ne_eqb low axis (λ same. omega arith)) rest

find_beyond : (start : ℕ → ℤ) (end : ℕ → Option ℤ) (low n axis : ℕ) → low + n ≤ axis → find (λ e. e.0 == axis) (ends_between start end low n) ≡ None
find_beyond start end low zero axis beyond = refl
find_beyond start end low (suc n) axis beyond = by_end (end low) (find_beyond start end (low + 1) n axis (omega arith))
  where
    by_end : (o : Option ℤ) → find (λ e. e.0 == axis) (ends_between start end (low + 1) n) ≡ None
        → find (λ e. e.0 == axis) (cons_option (option_map (λ to. (low, start low, to)) o) (ends_between start end (low + 1) n)) ≡ None
    by_end None rest = rest
    by_end (Some to) rest = rw (ne_eqb low axis (λ same. omega arith)) rest

find_within : (start : ℕ → ℤ) (end : ℕ → Option ℤ) (low n axis : ℕ) → low ≤ axis → axis < low + n
    → find (λ e. e.0 == axis) (ends_between start end low n) ≡ option_map (λ to. (axis, start axis, to)) (end axis)
find_within start end low zero axis above within = absurd (omega arith)
find_within start end low (suc n) axis above within = by_order (cases_eq low axis) (find_within start end (low + 1) n axis)
  where
    here : (o : Option ℤ) → find (λ e. e.0 == low) (cons_option (option_map (λ to. (low, start low, to)) o) (ends_between start end (low + 1) n)) ≡ option_map (λ to. (low, start low, to)) o
    here None = find_below start end (low + 1) n low (omega arith)
    here (Some to) = rw (eq-eqb low low refl) refl

    past : (o : Option ℤ) → (low ≡ axis → ⊥) → find (λ e. e.0 == axis) (cons_option (option_map (λ to. (low, start low, to)) o) (ends_between start end (low + 1) n)) ≡ find (λ e. e.0 == axis) (ends_between start end (low + 1) n)
    past None other = refl
    past (Some to) other = rw (ne_eqb low axis other) refl

    by_order : (low ≡ axis) ⊎ (low ≡ axis → ⊥) → (low + 1 ≤ axis → axis < low + 1 + n → find (λ e. e.0 == axis) (ends_between start end (low + 1) n) ≡ option_map (λ to. (axis, start axis, to)) (end axis))
        → find (λ e. e.0 == axis) (ends_between start end low (suc n)) ≡ option_map (λ to. (axis, start axis, to)) (end axis)
    by_order (inl same) rest = subst (λ a. find (λ e. e.0 == a) (ends_between start end low (suc n)) ≡ option_map (λ to. (a, start a, to)) (end a)) same (here (end low))
    by_order (inr other) rest = past (end low) other ∙ rest (omega arith) (omega arith)

-- one number is not above another, or it is
pub le_or_lt : (a b : ℕ) → (a ≤ b) ⊎ (b < a)
le_or_lt a b = grind arith

-- the end of an axis among them is that of its goal
pub found : (at : ℕ → ℤ) (goals : List (Option Goal)) (axis : ℕ) → length goals ≡ AXIS_LIMIT
    → option_map (λ (e : ℕ × ℤ × ℤ). e.2) (find (λ e. e.0 == axis) (ends_from at goals)) ≡ end_for at goals axis
found at goals axis long = by_order (le_or_lt AXIS_LIMIT axis)
  where
    ends_to : (o : Option ℤ) → option_map (λ (e : ℕ × ℤ × ℤ). e.2) (option_map (λ (to : ℤ). (axis, at axis, to)) o) ≡ o
    ends_to None = refl
    ends_to (Some to) = refl

    by_order : (AXIS_LIMIT ≤ axis) ⊎ (axis < AXIS_LIMIT) → option_map (λ (e : ℕ × ℤ × ℤ). e.2) (find (λ e. e.0 == axis) (ends_from at goals)) ≡ end_for at goals axis
    by_order (inl beyond) =
        let past : length goals ≤ axis = omega arith in
        let none : get_or goals axis None ≡ None = get_or-eq_default goals None past in
        rw (find_beyond at (end_for at goals) 0 AXIS_LIMIT axis (omega arith), none) refl
    by_order (inr within) =
        ap (option_map (λ (e : ℕ × ℤ × ℤ). e.2)) (find_within at (end_for at goals) 0 AXIS_LIMIT axis (omega arith) (omega arith))
        ∙ ends_to (end_for at goals axis)

-- what holds of each end holds of all
pub ends_all : (P : ℕ × ℤ × ℤ → Type 0) (start : ℕ → ℤ) (end : ℕ → Option ℤ) (low n : ℕ)
    → ((axis : ℕ) (to : ℤ) → low ≤ axis → axis < low + n → end axis ≡ Some to → P (axis, start axis, to)) → All P (ends_between start end low n)
ends_all P start end low zero each = All-nil P
ends_all P start end low (suc n) each = by_end (end low) refl (ends_all P start end (low + 1) n (λ axis to above within is. each axis to (omega arith) (omega arith) is))
  where
    by_end : (o : Option ℤ) → end low ≡ o → All P (ends_between start end (low + 1) n) → All P (cons_option (option_map (λ to. (low, start low, to)) o) (ends_between start end (low + 1) n))
    by_end None is rest = rest
    by_end (Some to) is rest = All-cons P (low, start low, to) (ends_between start end (low + 1) n) (each low to (omega arith) (omega arith) is) rest

-- two ends of different axes
abbrev pub Differ : ℕ × ℤ × ℤ → ℕ × ℤ × ℤ → Type 0
Differ e f = e.0 ≢ f.0

pub ends_once : (start : ℕ → ℤ) (end : ℕ → Option ℤ) (low n : ℕ) → AllPairs Differ (ends_between start end low n)
ends_once start end low zero = λ i j d before within. absurd (omega arith)
ends_once start end low (suc n) =
    by_end (end low) (ends_all (λ e. low + 1 ≤ e.0) start end (low + 1) n (λ axis to above within is. above)) (ends_once start end (low + 1) n)
  where
    by_end : (o : Option ℤ) → All (λ e. low + 1 ≤ e.0) (ends_between start end (low + 1) n) → AllPairs Differ (ends_between start end (low + 1) n)
        → AllPairs Differ (cons_option (option_map (λ to. (low, start low, to)) o) (ends_between start end (low + 1) n))
    by_end None later rest = rest
    by_end (Some to) later rest =
        AllPairs-cons Differ (low, start low, to) (ends_between start end (low + 1) n)
        (All-weaker (λ e. low + 1 ≤ e.0) (Differ (low, start low, to)) (λ e here. λ same. absurd (omega arith)) (ends_between start end (low + 1) n) later) rest
