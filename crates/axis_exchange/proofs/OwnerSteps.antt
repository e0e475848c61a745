-- What one more line says, what one more axis is, and what an axis is that a channel may take.
use Rattle.std.proofs.Common.{◌≡◌, ℕ, ℤ, ◌+◌, ◌<◌, ◌==◌, ◌&&◌, ◌||◌, inl, inr, Bool, true, false, cond, List, [], ◌∷◌, ◌++◌, length, get_or, take, slice_set, Option, Some, None, if◌then◌else◌, refl, sym, ◌∙◌, ap, subst, arith, get_or-set_same, get_or-set_other}
use Rattle.std.specs.Prelude.{find, is_some}
use Rattle.std.specs.Option.{option_map, option_or}
use Rattle.std.proofs.lemmas.Bool.{ne_eqb, eq-eqb, eqb-true, cases_eq}
use Rattle.std.proofs.lemmas.List.Folds.{find-append}
use Rattle.std.proofs.lemmas.List.{take_more, get_or_default}
use Rattle.axis_exchange.specs.Owners.{axis_state, first_state, is_free, is_free_among, is_known, may_take, may_take_all, may_take_from, position_if_free, position_when_taken, state_with}
use Rattle.axis_exchange.specs.declared.AxisState.{AxisState}
use Rattle.axis_exchange.specs.declared.AxisState.TheVariants.{Owned, Free}
use Rattle.set_laws.proofs.MemberLaws.{list_all-at_member}
use Rattle.axis_sets.specs.Sets.{has}

-- an axis, its owner or none, and where it stands
abbrev pub Line : Type 0
Line = ℕ × Option ℕ × ℤ

-- a line counts where none before it is of its axis
abbrev pub or_line : Option AxisState → Line → ℕ → Option AxisState
or_line (Some state) line x = Some state
or_line None line x = if line.0 == x then Some (state_with line.1 line.2) else None

first_state-append : (lines : List Line) (line : Line) (x : ℕ) → first_state (lines ++ line ∷ []) x ≡ or_line (first_state lines x) line x
first_state-append lines line x =
    ap (option_map (λ l. state_with l.1 l.2)) (find-append (λ l. l.0 == x) lines (line ∷ [])) ∙ joined (find (λ l. l.0 == x) lines) line x
  where
    alone : (b : Bool) (line : Line) → option_map (λ l. state_with l.1 l.2) (cond b (Some line) None) ≡ (if b then Some (state_with line.1 line.2) else None)
    alone true line = refl
    alone false line = refl

    joined : (found : Option Line) (line : Line) (x : ℕ) → option_map (λ l. state_with l.1 l.2) (option_or found (find (λ l. l.0 == x) (line ∷ []))) ≡ or_line (option_map (λ l. state_with l.1 l.2) found) line x
    joined (Some l) line x = refl
    joined None line x = alone (line.0 == x) line

stays : (s : Option AxisState) (line : Line) (x : ℕ) → is_some s ≡ true → s ≡ or_line s line x
stays (Some state) line x some = refl
stays None line x some = cc

is_other : (s : Option AxisState) (line : Line) (x : ℕ) → (line.0 == x) ≡ false → s ≡ or_line s line x
is_other (Some state) line x other = refl
is_other None line x other = rw other refl

counts : (s : Option AxisState) (line : Line) → is_some s ≡ false → Some (state_with line.1 line.2) ≡ or_line s line line.0
counts (Some state) line none = cc
counts None line none = rw (eq-eqb line.0 line.0 refl) refl

one_more : (lines : List Line) (k : ℕ) (line : Line) (x : ℕ) → k < length lines → line ≡ get_or lines k line → first_state (take (k + 1) lines) x ≡ or_line (first_state (take k lines) x) line x
one_more lines k line x within is =
    let parts : take (k + 1) lines ≡ take k lines ++ line ∷ [] = take_more lines k line within ∙ ap (λ l. take k lines ++ l ∷ []) (sym is) in
    ap (λ ls. first_state ls x) parts ∙ first_state-append (take k lines) line x

-- the line of an axis that a line before it is of
line_kept : (now : List (Option AxisState)) (line : Line) → is_some (axis_state now line.0) ≡ true → (x : ℕ) → axis_state now x ≡ or_line (axis_state now x) line x
line_kept now line some x = elim (cases_eq line.0 x) [
  | inl here ↦ stays (axis_state now x) line x (ap (λ y. is_some (axis_state now y)) (sym here) ∙ some)
  | inr other ↦ is_other (axis_state now x) line x (ne_eqb line.0 x other)
]

-- the first line of an axis
line_counted : (now : List (Option AxisState)) (line : Line) → line.0 < length now → is_some (axis_state now line.0) ≡ false
    → (x : ℕ) → axis_state (slice_set now line.0 (Some (state_with line.1 line.2))) x ≡ or_line (axis_state now x) line x
line_counted now line below none x = elim (cases_eq line.0 x) [
  | inl here ↦ ap (λ y. axis_state (slice_set now line.0 (Some (state_with line.1 line.2))) y) (sym here)
      ∙ get_or-set_same now line.0 (Some (state_with line.1 line.2)) None below ∙ counts (axis_state now line.0) line none ∙ ap (λ y. or_line (axis_state now y) line y) here
  | inr other ↦ get_or-set_other now line.0 x (Some (state_with line.1 line.2)) None (λ e. other (sym e)) ∙ is_other (axis_state now x) line x (ne_eqb line.0 x other)
]

-- the lines so far, and one more at this place
pub record NextLine (now : List (Option AxisState)) (lines : List Line) (k : ℕ) (line : Line) (place : ℕ) : Type 0 where
  pub within : k < length lines
  pub is : line ≡ get_or lines k line
  pub here : place ≡ line.0
  pub below : place < length now
  pub before : (x : ℕ) → axis_state now x ≡ first_state (take k lines) x

known : (now : List (Option AxisState)) (lines : List Line) (k : ℕ) (line : Line) (place : ℕ) (d : Option AxisState) (b : Bool) → NextLine now lines k line place → is_some (get_or now place d) ≡ b → is_some (axis_state now line.0) ≡ b
known now lines k line place d b next test =
    ap (λ y. is_some (axis_state now y)) (sym next.here) ∙ ap is_some (get_or_default now place None d next.below) ∙ test

pub kept_more : (now : List (Option AxisState)) (lines : List Line) (k : ℕ) (line : Line) (place : ℕ) (d : Option AxisState) → NextLine now lines k line place → is_some (get_or now place d) ≡ true
    → (x : ℕ) → axis_state now x ≡ first_state (take (k + 1) lines) x
kept_more now lines k line place d next test x =
    line_kept now line (known now lines k line place d true next test) x
    ∙ ap (λ s. or_line s line x) (next.before x) ∙ sym (one_more lines k line x next.within next.is)

pub counted_more : (now : List (Option AxisState)) (lines : List Line) (k : ℕ) (line : Line) (place : ℕ) (d : Option AxisState) (v : AxisState) → NextLine now lines k line place → is_some (get_or now place d) ≡ false
    → v ≡ state_with line.1 line.2 → (x : ℕ) → axis_state (slice_set now place (Some v)) x ≡ first_state (take (k + 1) lines) x
counted_more now lines k line place d v next test is x =
    ap (λ w. axis_state (slice_set now place (Some w)) x) is
    ∙ ap (λ p. axis_state (slice_set now p (Some (state_with line.1 line.2))) x) next.here
    ∙ line_counted now line (subst (λ (p : ℕ). p < length now) next.here next.below) (known now lines k line place d false next test) x
    ∙ ap (λ s. or_line s line x) (next.before x) ∙ sym (one_more lines k line x next.within next.is)

-- an axis that a channel may take and that is not free is its own
own_where_not_free : (state : Option AxisState) (channel : ℕ) → may_take state channel ≡ true → is_free state ≡ false → state ≡ Some (Owned channel)
own_where_not_free (Some (Owned owner)) channel may free = ap (λ c. Some (Owned c)) (eqb-true owner channel may)
own_where_not_free (Some (Free position)) channel may free = cc
own_where_not_free None channel may free = cc

-- what is free or its own is known
pub known_where_free : (state : Option AxisState) (channel : ℕ) (place : Option ℤ) → may_take state channel ≡ true → is_known state channel place ≡ true
known_where_free (Some (Owned owner)) channel place may = ap (λ (b : Bool). b || is_some place) may
known_where_free (Some (Free position)) channel place may = refl
known_where_free None channel place may = cc

-- where no places are told, the channel learns where the free ones stand
pub taken_from_nobody : (state : Option AxisState) (channel : ℕ) → position_when_taken state channel None ≡ position_if_free state
taken_from_nobody (Some (Owned owner)) channel = either_way (owner == channel)
  where
    nothing : Option ℤ
    nothing = None

    either_way : (b : Bool) → (if b then nothing else nothing) ≡ nothing
    either_way true = refl
    either_way false = refl
taken_from_nobody (Some (Free position)) channel = refl
taken_from_nobody None channel = refl

-- where no channel stands it may take what is free or its own
pub from_nobody : (state : Option AxisState) (channel : ℕ) (standing : List Bool) → ((d : ℕ) → has standing d ≡ false) → may_take_from state channel standing ≡ may_take state channel
from_nobody (Some (Owned owner)) channel standing none = ap (λ (b : Bool). (owner == channel) || b) (none owner) ∙ or_false (owner == channel)
  where
    or_false : (b : Bool) → (b || false) ≡ b
    or_false true = refl
    or_false false = refl
from_nobody (Some (Free position)) channel standing none = refl
from_nobody None channel standing none = refl

-- where all named axes are the channel's afterwards, those have changed that were free
pub states_taken : (old : List (Option AxisState)) (channel : ℕ) (axes : List Bool) → may_take_all old channel axes ≡ true
    → (x : ℕ) → (if has axes x then Some (Owned channel) else axis_state old x) ≡ (if is_free_among old axes x then Some (Owned channel) else axis_state old x)
states_taken old channel axes may x =
    by_cases (has axes x) (axis_state old x) channel (list_all-at_member axes (λ y. may_take (axis_state old y) channel) x may)
  where
    free_or_own : (free : Bool) (state : Option AxisState) (channel : ℕ) → (free ≡ false → state ≡ Some (Owned channel)) → Some (Owned channel) ≡ (if free then Some (Owned channel) else state)
    free_or_own true state channel own = refl
    free_or_own false state channel own = sym (own refl)

    by_cases : (member : Bool) (state : Option AxisState) (channel : ℕ) → (member ≡ true → may_take state channel ≡ true) → (if member then Some (Owned channel) else state) ≡ (if member && is_free state then Some (Owned channel) else state)
    by_cases false state channel may = refl
    by_cases true state channel may = free_or_own (is_free state) state channel (own_where_not_free state channel (may refl))

-- one more named axis is the channel's
pub named_more : (old now : List (Option AxisState)) (axes : List Bool) (v : Option AxisState) (i : ℕ) → i < length now → has axes i ≡ true
    → ((x : ℕ) → x < i → axis_state now x ≡ (if has axes x then v else axis_state old x))
    → (x : ℕ) → x < i + 1 → axis_state (slice_set now i v) x ≡ (if has axes x then v else axis_state old x)
named_more old now axes v i within member before x below = elim (cases_eq x i) [
  | inl here ↦ ap (λ y. axis_state (slice_set now i v) y) here ∙ get_or-set_same now i v None within ∙ rw (here, member) refl
  | inr other ↦ get_or-set_other now i x v None other ∙ before x (omega arith)
]

-- one more axis is not named
pub unnamed_more : (old now : List (Option AxisState)) (axes : List Bool) (v : Option AxisState) (i : ℕ) → has axes i ≡ false
    → ((x : ℕ) → x < i → axis_state now x ≡ (if has axes x then v else axis_state old x)) → axis_state now i ≡ axis_state old i
    → (x : ℕ) → x < i + 1 → axis_state now x ≡ (if has axes x then v else axis_state old x)
unnamed_more old now axes v i other before here x below = elim (cases_eq x i) [
  | inl at ↦ rw (at, other) here
  | inr apart ↦ before x (omega arith)
]
