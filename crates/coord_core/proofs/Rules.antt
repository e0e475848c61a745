-- Who goes on, by what is kept of each channel.
use Rattle.std.proofs.Common.{inl, inr, ◌≡◌, ℕ, ◌+◌, ◌-◌, ◌<◌, ◌≤◌, ◌==◌, ◌&&◌, ◌||◌, Bool, true, false, cond, List, [], ◌∷◌, ◌++◌, map, filter, length, append_assoc, append-nil, Option, Some, None, is_some, suc, if◌then◌else◌, refl, sym, ap, ◌∙◌, arith}
use Rattle.std.proofs.lemmas.Bool.{cases_Bool, cases_eq, cases_lt, eq-eqb, ne_eqb}
use Rattle.std.specs.List.{list_all, range_with_len}
use Rattle.axis_exchange.specs.Owners.{axis_state, may_take_from, may_take_all_from}
use Rattle.axis_exchange.specs.declared.AxisState.{AxisState}
use Rattle.axis_exchange.specs.declared.AxisState.TheVariants.{Owned, Free}
use Rattle.axis_sets.proofs.SetLaws.{has-past}
use Rattle.axis_sets.specs.Sets.{has, members_of}
use Rattle.axis_sets.specs.declared.limits.TheConstants.{AXIS_LIMIT, CHANNEL_PLACES}
use Rattle.coord_core.proofs.Members.{next_kept}
use Rattle.coord_core.specs.Tables.{activity_at, board_in, state_in, HasPassing, IsTable, ownership_in}
use Rattle.coord_core.specs.declared.activities.Activity.{Activity}
use Rattle.coord_core.specs.declared.activities.Activity.TheVariants.{AtAxes}
use Rattle.coord_core.specs.declared.table.Table.{Table}
use Rattle.set_laws.proofs.MemberLaws.{has-below, list_all-members_of, list_all-at_member}
use Rattle.sync_types.proofs.BoardTests.{no_truth}
use Rattle.sync_types.specs.Boards.{channel_numbers, owner_of, stands}
use Rattle.sync_types.specs.GoingOn.{Going, go_of, axes_asked, waits_for_axes, may_be_taken, takes_from_standing, can_take}
use Rattle.sync_types.specs.declared.runs.Go.{Go}

-- the goes of these channels
abbrev pub goes_of : (ℕ → Going) → List ℕ → List Go
goes_of going cs = map go_of (map going cs)

-- one more channel goes on, or not
pub goes_more : (going : ℕ → Going) (p : ℕ → Bool) (n : ℕ) (whole goes : List Go) (go : Go) → n < CHANNEL_PLACES → p n ≡ true → go ≡ go_of (going n)
    → whole ≡ goes ++ goes_of going (filter p (range_with_len n (CHANNEL_PLACES - n)))
    → whole ≡ (goes ++ go ∷ []) ++ goes_of going (filter p (range_with_len (n + 1) (CHANNEL_PLACES - (n + 1))))
goes_more going p n whole goes go below on is before =
    let rest : List ℕ = filter p (range_with_len (n + 1) (CHANNEL_PLACES - (n + 1))) in
    let kept : filter p (range_with_len n (CHANNEL_PLACES - n)) ≡ n ∷ rest = next_kept p n below ∙ ap (λ (b : Bool). cond b (n ∷ rest) rest) on in
    before ∙ ap (λ (cs : List ℕ). goes ++ goes_of going cs) kept
    ∙ ap (λ (g : Go). goes ++ (g ∷ goes_of going rest)) (sym is)
    ∙ sym (append_assoc goes (go ∷ []) (goes_of going rest))

pub goes_as_before : (going : ℕ → Going) (p : ℕ → Bool) (n : ℕ) (whole goes : List Go) → n < CHANNEL_PLACES → p n ≡ false
    → whole ≡ goes ++ goes_of going (filter p (range_with_len n (CHANNEL_PLACES - n)))
    → whole ≡ goes ++ goes_of going (filter p (range_with_len (n + 1) (CHANNEL_PLACES - (n + 1))))
goes_as_before going p n whole goes below off before =
    let rest : List ℕ = filter p (range_with_len (n + 1) (CHANNEL_PLACES - (n + 1))) in
    before ∙ ap (λ (cs : List ℕ). goes ++ goes_of going cs) (next_kept p n below ∙ ap (λ (b : Bool). cond b (n ∷ rest) rest) off)

-- the members of a set of channels are those that channels may have as numbers
pub members_are : (s : List Bool) → length s ≡ CHANNEL_PLACES → has s 0 ≡ false → members_of s ≡ filter (has s) channel_numbers
members_are s size none =
    ap (λ (n : ℕ). filter (has s) (range_with_len 0 n)) size
    ∙ ap (λ (b : Bool). cond b (0 ∷ filter (has s) channel_numbers) (filter (has s) channel_numbers)) none

-- the goes of all channels of a set, after the last
pub goes_all : (going : ℕ → Going) (s : List Bool) (goes : List Go) → members_of s ≡ filter (has s) channel_numbers
    → goes_of going (filter (has s) channel_numbers) ≡ goes ++ goes_of going (filter (has s) (range_with_len CHANNEL_PLACES (CHANNEL_PLACES - CHANNEL_PLACES)))
    → goes ≡ goes_of going (members_of s)
goes_all going s goes members all = sym (append-nil goes) ∙ sym all ∙ ap (λ (cs : List ℕ). goes_of going cs) (sym members)

-- what a channel may take, on the board as in the owners
may_alike : (t : Table) (channels : List Activity) (c : ℕ) (from_standing : Bool) (standing : List Bool) → IsTable t → HasPassing standing (λ d. from_standing && stands (state_in d (activity_at channels d)))
    → (x : ℕ) → x < AXIS_LIMIT → may_take_from (axis_state t.owners x) c standing ≡ may_be_taken (board_in t channels) c from_standing (owner_of ((board_in t channels).axis x))
may_alike t channels c from_standing standing kept passing x below = each (axis_state t.owners x) refl (kept.owners x below)
  where
    each : (s : Option AxisState) → axis_state t.owners x ≡ s → is_some s ≡ true → may_take_from s c standing ≡ may_be_taken (board_in t channels) c from_standing (owner_of (ownership_in s))
    each (Some (Owned owner)) is some =
        let number = kept.owner_numbers x owner is in
        ap (λ (b : Bool). (owner == c) || b) (passing.channels owner number.0 number.1)
    each (Some (Free position)) is some = refl
    each None is some = no_truth false some refl

may_all_alike : (t : Table) (channels : List Activity) (c : ℕ) (axes : List Bool) (from_standing : Bool) (standing : List Bool) → IsTable t → length axes ≡ AXIS_LIMIT
    → HasPassing standing (λ d. from_standing && stands (state_in d (activity_at channels d)))
    → may_take_all_from t.owners c axes standing ≡ list_all (λ x. may_be_taken (board_in t channels) c from_standing (owner_of ((board_in t channels).axis x))) (members_of axes)
may_all_alike t channels c axes from_standing standing kept size passing = elim (cases_Bool (may_take_all_from t.owners c axes standing)) [
  | inl may ↦ may ∙ sym (list_all-members_of axes can (λ x member. sym (each x member) ∙ list_all-at_member axes test x may member))
  | inr not_may ↦ elim (cases_Bool (list_all can (members_of axes))) [
    | inl all ↦ no_truth (may_take_all_from t.owners c axes standing) (list_all-members_of axes test (λ x member. each x member ∙ list_all-at_member axes can x all member)) not_may
    | inr none ↦ not_may ∙ sym none
  ]
]
  where
    test : ℕ → Bool
    test x = may_take_from (axis_state t.owners x) c standing

    can : ℕ → Bool
    can x = may_be_taken (board_in t channels) c from_standing (owner_of ((board_in t channels).axis x))

    each : (x : ℕ) → has axes x ≡ true → may_take_from (axis_state t.owners x) c standing ≡ may_be_taken (board_in t channels) c from_standing (owner_of ((board_in t channels).axis x))
    each x member = may_alike t channels c from_standing standing kept passing x (omega (arith, has-below axes x member, size))

-- whether a channel that waits for these axes can take them
pub can_take_alike : (t : Table) (channels : List Activity) (c : ℕ) (axes : List Bool) (from_standing : Bool) (line : ℕ) (standing : List Bool) → IsTable t → length axes ≡ AXIS_LIMIT
    → HasPassing standing (λ d. from_standing && stands (state_in d (activity_at channels d)))
    → activity_at channels c ≡ AtAxes from_standing axes line → may_take_all_from t.owners c axes standing ≡ can_take (board_in t channels) c
can_take_alike t channels c axes from_standing line standing kept size passing is =
    may_all_alike t channels c axes from_standing standing kept size passing
    ∙ ap (λ (a : Activity). waits_for_axes (state_in c a)
    && list_all (λ x. may_be_taken (board_in t channels) c (takes_from_standing (state_in c a)) (owner_of ((board_in t channels).axis x))) (axes_asked (state_in c a))) (sym is)

-- one more channel is written, or not
pub written_more : (old now new : List Activity) (p : ℕ → Bool) (f : ℕ → Activity) (i : ℕ) (v : Activity) → p i ≡ true → v ≡ f i
    → ((x : ℕ) → activity_at new x ≡ (if x == i then v else activity_at now x))
    → ((x : ℕ) → x < i → activity_at now x ≡ (if p x then f x else activity_at old x))
    → (x : ℕ) → x < i + 1 → activity_at new x ≡ (if p x then f x else activity_at old x)
written_more old now new p f i v on is writes before x below = elim (cases_eq x i) [
  | inl here ↦
      let written : activity_at new x ≡ v = writes x ∙ ap (λ (b : Bool). if b then v else activity_at now x) (eq-eqb x i here) in
      written ∙ is ∙ ap f (sym here) ∙ sym (ap (λ (b : Bool). if b then f x else activity_at old x) (ap p here ∙ on))
  | inr other ↦ writes x ∙ ap (λ (b : Bool). if b then v else activity_at now x) (ne_eqb x i other) ∙ before x (omega arith)
]

pub written_above : (old now new : List Activity) (i : ℕ) (v : Activity) → ((x : ℕ) → activity_at new x ≡ (if x == i then v else activity_at now x))
    → ((x : ℕ) → i ≤ x → activity_at now x ≡ activity_at old x) → (x : ℕ) → i + 1 ≤ x → activity_at new x ≡ activity_at old x
written_above old now new i v writes above x from =
    writes x ∙ ap (λ (b : Bool). if b then v else activity_at now x) (ne_eqb x i (λ e. omega arith)) ∙ above x (omega arith)

pub unwritten_more : (old now : List Activity) (p : ℕ → Bool) (f : ℕ → Activity) (i : ℕ) → p i ≡ false → activity_at now i ≡ activity_at old i
    → ((x : ℕ) → x < i → activity_at now x ≡ (if p x then f x else activity_at old x))
    → (x : ℕ) → x < i + 1 → activity_at now x ≡ (if p x then f x else activity_at old x)
unwritten_more old now p f i off same before x below = elim (cases_eq x i) [
  | inl here ↦ ap (activity_at now) here ∙ same ∙ ap (activity_at old) (sym here) ∙ sym (ap (λ (b : Bool). if b then f x else activity_at old x) (ap p here ∙ off))
  | inr other ↦ before x (omega arith)
]

pub written_all : (old now : List Activity) (set : List Bool) (f : ℕ → Activity) (n : ℕ) → CHANNEL_PLACES ≤ n → length set ≡ CHANNEL_PLACES
    → ((x : ℕ) → x < n → activity_at now x ≡ (if has set x then f x else activity_at old x)) → ((x : ℕ) → n ≤ x → activity_at now x ≡ activity_at old x)
    → (x : ℕ) → activity_at now x ≡ (if has set x then f x else activity_at old x)
written_all old now set f n end size below above x = elim (cases_lt x n) [
  | inl low ↦ below x low
  | inr past ↦ above x past ∙ sym (ap (λ (b : Bool). if b then f x else activity_at old x) (has-past set x (omega arith)))
]

pub kept_here : (p : ℕ → Bool) (n : ℕ) → n < CHANNEL_PLACES → p n ≡ true → length (filter p (range_with_len n (CHANNEL_PLACES - n))) ≡ suc (length (filter p (range_with_len (n + 1) (CHANNEL_PLACES - (n + 1)))))
kept_here p n below on =
    let rest : List ℕ = filter p (range_with_len (n + 1) (CHANNEL_PLACES - (n + 1))) in
    ap (λ (cs : List ℕ). length cs) (next_kept p n below ∙ ap (λ (b : Bool). cond b (n ∷ rest) rest) on)

pub left_here : (p : ℕ → Bool) (n : ℕ) → n < CHANNEL_PLACES → p n ≡ false → length (filter p (range_with_len n (CHANNEL_PLACES - n))) ≡ length (filter p (range_with_len (n + 1) (CHANNEL_PLACES - (n + 1))))
left_here p n below off =
    let rest : List ℕ = filter p (range_with_len (n + 1) (CHANNEL_PLACES - (n + 1))) in
    ap (λ (cs : List ℕ). length cs) (next_kept p n below ∙ ap (λ (b : Bool). cond b (n ∷ rest) rest) off)
