-- What is true of positions as they are kept.
use Rattle.std.proofs.Common.{◌≡◌, ◌≢◌, true≢false, ℕ, zero, suc, ◌<◌, ◌==◌, ◌&&◌, ◌||◌, not, ℤ, pos, Bool, true, false, cond, if◌then◌else◌, List, [], ◌∷◌, length, slice_index_or, slice_set, Option, Some, None, inl, inr, refl, sym, ap, ◌∙◌, arith}
use Rattle.std.proofs.Math.Bool.{beq}
use Rattle.std.proofs.lemmas.Bool.{eq-eqb, ne_eqb, cases_eq, cases_Bool, false_from_ne_true}
use Rattle.std.proofs.lemmas.List.{get_or-set_same, get_or-set_other, length-set}
use Rattle.std.specs.Cmp.{booleans_Decides, signed_Decides}
use Rattle.std.specs.Cmp.Lexicographic.{pointwise, pointwise_decides}
use Rattle.std.specs.Option.{option_eq}
use Rattle.std.specs.Ordering.{int_eq}
use Rattle.axis_sets.specs.Kept.{where_known, known_in, numbers_in, known_in-where_known, numbers_in-where_known, IsKept}
use Rattle.axis_sets.specs.Positions.{position_of}
use Rattle.axis_sets.specs.Sets.{has}

-- there is a place for each axis
pub length-where_known : (known : List Bool) (at : List ℤ) → length known ≡ length at → length (where_known known at) ≡ length known
unfolding where_known
length-where_known [] at size = refl
length-where_known (known ∷ more) [] size = absurd (grind (arith, size))
length-where_known (known ∷ more) (x ∷ at) size = ap suc (length-where_known more at (omega arith))

-- an axis that has a position stands at its number
pub position_of_known : (known : List Bool) (at : List ℤ) (axis : ℕ) (d : ℤ) → length known ≡ length at → has known axis ≡ true
    → position_of (where_known known at) axis ≡ Some (slice_index_or at axis d)
unfolding where_known
position_of_known [] at axis d size member = absurd (grind (arith, member))
position_of_known (known ∷ more) [] axis d size member = absurd (grind (arith, size))
position_of_known (known ∷ more) (x ∷ at) zero d size member = ap (λ b. cond b (Some x) None) member
position_of_known (known ∷ more) (x ∷ at) (suc axis) d size member = position_of_known more at axis d (omega arith) member

-- and no other has a position
pub position_of_other : (known : List Bool) (at : List ℤ) (axis : ℕ) → has known axis ≡ false → position_of (where_known known at) axis ≡ None
unfolding where_known
position_of_other [] at axis other = refl
position_of_other (known ∷ more) [] axis other = refl
position_of_other (known ∷ more) (x ∷ at) zero other = ap (λ b. cond b (Some x) None) other
position_of_other (known ∷ more) (x ∷ at) (suc axis) other = position_of_other more at axis other

-- what is known of another axis stays so
stays : (known others : List Bool) (at : List ℤ) (axis p : ℕ) (x : ℤ) → length known ≡ length at → length others ≡ length at
    → axis ≢ p → has others axis ≡ has known axis
    → position_of (where_known others (slice_set at p x)) axis ≡ position_of (where_known known at) axis
stays known others at axis p x size sizes apart same = elim (cases_Bool (has known axis)) [
  | inl member ↦ position_of_known others (slice_set at p x) axis (pos 0) (sizes ∙ sym (length-set at p x)) (same ∙ member)
      ∙ ap Some (get_or-set_other at p axis x (pos 0) apart) ∙ sym (position_of_known known at axis (pos 0) size member)
  | inr other ↦ position_of_other others (slice_set at p x) axis (same ∙ other) ∙ sym (position_of_other known at axis other)
]

-- after one axis was put at a number
pub position_of_put : (known others : List Bool) (at : List ℤ) (p : ℕ) (x : ℤ) → length known ≡ length at → length others ≡ length at → p < length at
    → ((m : ℕ) → has others m ≡ ((m == p) || has known m)) → (axis : ℕ)
    → position_of (where_known others (slice_set at p x)) axis ≡ (if axis == p then Some x else position_of (where_known known at) axis)
position_of_put known others at p x size sizes inside put axis = elim (cases_eq axis p) [
  | inl here ↦ rw (here, eq-eqb p p refl) (position_of_known others (slice_set at p x) p (pos 0) (sizes ∙ sym (length-set at p x)) (put p ∙ rw (eq-eqb p p refl) refl)
      ∙ ap Some (get_or-set_same at p x (pos 0) inside))
  | inr other ↦ rw (ne_eqb axis p other) (stays known others at axis p x size sizes other (put axis ∙ rw (ne_eqb axis p other) refl))
]

-- after the position of one axis was taken away
pub position_of_removed : (known others : List Bool) (at : List ℤ) (p : ℕ) (x : ℤ) → length known ≡ length at → length others ≡ length at
    → ((m : ℕ) → has others m ≡ (has known m && not (m == p))) → (axis : ℕ)
    → position_of (where_known others (slice_set at p x)) axis ≡ (if axis == p then None else position_of (where_known known at) axis)
position_of_removed known others at p x size sizes gone axis = elim (cases_eq axis p) [
  | inl here ↦ rw (here, eq-eqb p p refl) (position_of_other others (slice_set at p x) p (gone p ∙ rw (eq-eqb p p refl) (never (has known p))))
  | inr other ↦ rw (ne_eqb axis p other) (stays known others at axis p x size sizes other (gone axis ∙ rw (ne_eqb axis p other) (all (has known axis))))
]
  where
    never : (b : Bool) → (b && false) ≡ false
    never true = refl
    never false = refl

    all : (b : Bool) → (b && true) ≡ b
    all true = refl
    all false = refl

-- two are the same exactly where what is kept of them is
module _ (k l : List Bool) (at bt : List ℤ) (kept_k : IsKept k at) (kept_l : IsKept l bt) where
  positions_decide : (pointwise (option_eq int_eq) (where_known k at) (where_known l bt) ≡ true → where_known k at ≡ where_known l bt)
      × (where_known k at ≡ where_known l bt → pointwise (option_eq int_eq) (where_known k at) (where_known l bt) ≡ true)
  positions_decide = pointwise_decides {E = option_eq int_eq} options (where_known k at) (where_known l bt)
    where
      options : (x y : Option ℤ) → (option_eq int_eq x y ≡ true → x ≡ y) × (x ≡ y → option_eq int_eq x y ≡ true)
      options None None = (λ e. refl, λ e. refl)
      options None (Some y) = (λ e. absurd (true≢false (sym e)), λ e. absurd (grind (arith, e)))
      options (Some x) None = (λ e. absurd (true≢false (sym e)), λ e. absurd (grind (arith, e)))
      options (Some x) (Some y) = (λ e. ap Some ((signed_Decides x y).0 e), λ e. (signed_Decides x y).1 (grind (arith, e)))

  -- where other axes have a position
  pub other_axes : false ≡ pointwise beq k l → false ≡ pointwise (option_eq int_eq) (where_known k at) (where_known l bt)
  other_axes unlike = sym (false_from_ne_true (pointwise (option_eq int_eq) (where_known k at) (where_known l bt))
      (λ e. true≢false (sym ((pointwise_decides booleans_Decides k l).1 (known e)) ∙ sym unlike)))
    where
      known : pointwise (option_eq int_eq) (where_known k at) (where_known l bt) ≡ true → k ≡ l
      known e = sym (known_in-where_known k at kept_k.size) ∙ ap known_in (positions_decide.0 e) ∙ known_in-where_known l bt kept_l.size

  -- where the same axes have one
  pub same_axes : true ≡ pointwise beq k l → pointwise int_eq at bt ≡ pointwise (option_eq int_eq) (where_known k at) (where_known l bt)
  same_axes alike = elim (cases_Bool (pointwise int_eq at bt)) [
    | inl same ↦ same ∙ sym (positions_decide.1 (λ i. where_known ((pointwise_decides booleans_Decides k l).0 (sym alike) i) ((pointwise_decides signed_Decides at bt).0 same i)))
    | inr other ↦ other ∙ sym (false_from_ne_true (pointwise (option_eq int_eq) (where_known k at) (where_known l bt))
        (λ e. true≢false (sym ((pointwise_decides signed_Decides at bt).1 (numbers e)) ∙ other)))
  ]
    where
      numbers : pointwise (option_eq int_eq) (where_known k at) (where_known l bt) ≡ true → at ≡ bt
      numbers e = sym (numbers_in-where_known k at kept_k.size kept_k.zero_elsewhere) ∙ ap numbers_in (positions_decide.0 e) ∙ numbers_in-where_known l bt kept_l.size kept_l.zero_elsewhere
