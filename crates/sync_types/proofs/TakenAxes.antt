-- Which axes a channel takes, where it can.
use Rattle.std.proofs.Common.{◌≡◌, ℕ, ℤ, ◌==◌, ◌&&◌, ◌||◌, not, Bool, true, false, Option, Some, None, refl, sym, ap, ap₂, ◌∙◌}
use Rattle.std.proofs.lemmas.Bool.{and_parts}
use Rattle.std.specs.List.{list_all}
use Rattle.sync_types.proofs.BoardTests.{no_truth, among_kept, passes}
use Rattle.sync_types.specs.Boards.{Ownership, OwnedBy, FreeAt, Board, among, is_free, is_this, owner_of, owns}
use Rattle.sync_types.specs.GoingOn.{axes_asked, axes_to_take, may_be_taken, can_have, can_take, resting_position, takes_from_standing, waits_for_axes}

-- it takes those for which it asks and which are not its own
pub named_and_not_own : (b : Board) (c x : ℕ) → among (axes_to_take b c) x ≡ (among (axes_asked (b.state c)) x && not (owns b c x))
named_and_not_own b c x = among_kept (λ y. not (owns b c y)) (axes_asked (b.state c)) x

-- where it can take them, it can have each for which it asks
pub may_take : (b : Board) (c x : ℕ) → can_take b c ≡ true → among (axes_asked (b.state c)) x ≡ true → can_have b c x ≡ true
may_take b c x can asks =
    passes (can_have b c) (axes_asked (b.state c)) x (and_parts (waits_for_axes (b.state c)) (list_all (can_have b c) (axes_asked (b.state c))) can).1 asks

-- who takes nothing from channels that stand can have what is free or its own
pub free_or_own : (b : Board) (c x : ℕ) → takes_from_standing (b.state c) ≡ false → can_have b c x ≡ (is_free (b.axis x) || owns b c x)
free_or_own b c x none = by_owner (takes_from_standing (b.state c)) (b.axis x) none
  where
    or_false : (t : Bool) → (t || false) ≡ t
    or_false true = refl
    or_false false = refl

    by_owner : (from_standing : Bool) (a : Ownership) → from_standing ≡ false → may_be_taken b c from_standing (owner_of a) ≡ (is_free a || is_this (owner_of a) c)
    by_owner false (OwnedBy d) none = or_false (d == c)
    by_owner false (FreeAt position) none = refl
    by_owner true a none = no_truth true refl none

free_not_own : (free own : Bool) → (free || own) ≡ true → not own ≡ true → free ≡ true
free_not_own true own may other = refl
free_not_own false true may other = no_truth false other refl
free_not_own false false may other = may

-- and each that it takes then is free
pub taken_is_free : (b : Board) (c x : ℕ) → takes_from_standing (b.state c) ≡ false → can_take b c ≡ true → among (axes_to_take b c) x ≡ true → is_free (b.axis x) ≡ true
taken_is_free b c x none can takes =
    let parts = and_parts (among (axes_asked (b.state c)) x) (not (owns b c x)) (sym (named_and_not_own b c x) ∙ takes) in
    free_not_own (is_free (b.axis x)) (owns b c x) (sym (free_or_own b c x none) ∙ may_take b c x can parts.0) parts.1

-- a free axis is nobody's
pub free_is_not_own : (a : Ownership) (c : ℕ) → is_free a ≡ true → is_this (owner_of a) c ≡ false
free_is_not_own (OwnedBy d) c free = no_truth false free refl
free_is_not_own (FreeAt position) c free = refl

-- of two axes with the same owner, or none, for which it asks alike, it takes both or neither
pub taken_alike : (b : Board) (c x y : ℕ) → among (axes_asked (b.state c)) x ≡ among (axes_asked (b.state c)) y → owner_of (b.axis x) ≡ owner_of (b.axis y)
    → among (axes_to_take b c) x ≡ among (axes_to_take b c) y
taken_alike b c x y asks owner =
    named_and_not_own b c x ∙ ap₂ (λ (s : Bool) (o : Option ℕ). s && not (is_this o c)) asks owner ∙ sym (named_and_not_own b c y)
