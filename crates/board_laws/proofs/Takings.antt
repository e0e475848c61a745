-- Who takes axes in a step, and what that leaves.
use Rattle.std.proofs.Math.Path.{fun_ext}
use Rattle.std.proofs.Common.{◌≡◌, ℕ, ℤ, zero, suc, ◌⊎◌, ◌==◌, ◌&&◌, ◌||◌, not, Bool, true, false, List, [], ◌∷◌, filter, map, Option, None, Some, inl, inr, refl, sym, ap, ap₂, subst, ◌∙◌, if◌then◌else◌}
use Rattle.std.proofs.lemmas.Bool.{cases_Bool, eqb-true, eq-eqb, ne_eqb, and_parts, or_cases, or_left, or_right}
use Rattle.std.specs.List.{list_all}
use Rattle.sync_types.proofs.BoardTests.{no_truth, first_passes}
use Rattle.sync_types.proofs.FreeTakings.{NobodyRobs, taking_robs_nobody}
use Rattle.sync_types.proofs.TakenAxes.{free_is_not_own, free_or_own, may_take, named_and_not_own, taken_is_free}
use Rattle.sync_types.specs.Boards.{IsRunning, State as Doing, Ownership, OwnedBy, FreeAt, Board, among, axis_numbers, channel_numbers, is_this, owner_of, is_free, owns, positions_where}
use Rattle.sync_types.specs.Events.{channels_in}
use Rattle.sync_types.specs.GoingOn.{Going, first_of, axes_asked, waits_for_axes, can_have, can_take, takes_from_standing, next_taker, axes_to_take, resting_position, ownership_after_taking, state_after_taking, with_its_axes, grant_of_taker, after_taking, going_of_taker, Takings, takings, takings_from}
use Rattle.sync_types.specs.declared.Grant.{Grant}
use Rattle.board_laws.specs.Machine.{grant_by}
use Rattle.board_laws.specs.Zones.{Zones}
use Rattle.board_laws.proofs.Zones.{grant_told, zones_with, zones_taking}

-- the going on is one of these
abbrev pub IsOf : {A : Type 0} → A → List A → Type 0
IsOf a [] = ⊥
IsOf a (x ∷ xs) = (a ≡ x) ⊎ IsOf a xs

pub in_channels : (gs : List Going) (c : ℕ) → among (channels_in gs) c ≡ true → (g : Going) × (IsOf g gs × (g.channel ≡ c))
in_channels [] c on = no_truth false on refl
in_channels (g ∷ gs) c on = elim (or_cases (g.channel == c) (among (channels_in gs) c) on) [
  | inl here ↦ (g, (inl refl, eqb-true g.channel c here))
  | inr later ↦ let r = in_channels gs c later in (r.0, (inr r.1.0, r.1.1))
]

pub channels_of : (gs : List Going) (g : Going) → IsOf g gs → among (channels_in gs) g.channel ≡ true
channels_of [] g on = absurd on
channels_of (h ∷ gs) g on = elim on [
  | inl here ↦ or_left (h.channel == g.channel) (among (channels_in gs) g.channel) (eq-eqb h.channel g.channel (ap (λ (x : Going). x.channel) (sym here)))
  | inr later ↦ or_right (h.channel == g.channel) (among (channels_in gs) g.channel) (channels_of gs g later)
]

abbrev pub asked : Board → ℕ → ℕ → Bool
asked b c x = among (axes_asked (b.state c)) x

-- what who takes goes on with
abbrev pub taker_grant : Board → ℕ → Grant
taker_grant b c = grant_by b.start c (λ x. asked b c x || owns b c x) (positions_where (λ x. asked b c x && not (owns b c x)) (λ x. resting_position b x (b.axis x))) b.is_on (b.program c)

-- one that has taken, from the board before all takings to the one after all
pub record Taken (b f : Board) (g : Going) : Type 0 where
  pub waits : waits_for_axes (b.state g.channel) ≡ true
  pub from : g.from ≡ b.state g.channel
  pub listed : among channel_numbers g.channel ≡ true
  pub could : (x : ℕ) → asked b g.channel x ≡ true → (is_free (b.axis x) || owns b g.channel x) ≡ true
  pub took : (x : ℕ) → among g.took x ≡ (asked b g.channel x && not (owns b g.channel x))
  pub has : (x : ℕ) → asked b g.channel x ≡ true → f.axis x ≡ OwnedBy g.channel
  pub runs : f.state g.channel ≡ IsRunning g.grant
  pub grant : g.grant ≡ taker_grant b g.channel

pub record AllTaken (b : Board) (t : Takings) : Type 0 where
  pub each : (g : Going) → IsOf g t.goings → Taken b t.board g
  pub kept : (c : ℕ) → among (channels_in t.goings) c ≡ false → t.board.state c ≡ b.state c
  pub axis : (x : ℕ) → (t.board.axis x ≡ b.axis x) ⊎ ((g : Going) × (IsOf g t.goings × (among g.took x ≡ true)))
  pub start : t.board.start ≡ b.start
  pub marks : t.board.marks ≡ b.marks
  pub program : t.board.program ≡ b.program
  pub last_position : t.board.last_position ≡ b.last_position
  pub on : t.board.is_on ≡ b.is_on

none_taken : (b : Board) → AllTaken b (record { goings = []; board = b })
none_taken b = record { each = λ g in_it. absurd in_it; kept = λ c out. refl; axis = λ x. inl refl; start = refl; marks = refl; program = refl; last_position = refl; on = refl }

owned_is : (a : Ownership) (c : ℕ) → is_this (owner_of a) c ≡ true → a ≡ OwnedBy c
owned_is (OwnedBy d) c on = ap OwnedBy (eqb-true d c on)
owned_is (FreeAt p) c on = no_truth false on refl

first_listed : (p : ℕ → Bool) (xs : List ℕ) (x : ℕ) → first_of (filter p xs) ≡ Some x → among xs x ≡ true
first_listed p [] x e = let bad : ⊥ = cc in absurd bad
first_listed p (y ∷ ys) x e = elim (cases_Bool (p y)) [
  | inl on ↦ let first : Some y ≡ Some x = rw on at e in let same : y ≡ x = cc in or_left (y == x) (among ys x) (eq-eqb y x same)
  | inr off ↦ or_right (y == x) (among ys x) (first_listed p ys x (rw off at e))
]

-- one taking
taken_axis : (b : Board) (c x : ℕ) → among (axes_to_take b c) x ≡ true → (after_taking b c).axis x ≡ OwnedBy c
unfolding ownership_after_taking
taken_axis b c x on = rw on refl

kept_axis : (b : Board) (c x : ℕ) → among (axes_to_take b c) x ≡ false → (after_taking b c).axis x ≡ b.axis x
unfolding ownership_after_taking
kept_axis b c x off = rw off refl

taken_runs : (b : Board) (c : ℕ) → (after_taking b c).state c ≡ IsRunning (grant_of_taker b c)
unfolding state_after_taking
taken_runs b c = rw (eq-eqb c c refl) refl

taken_other : (b : Board) (c d : ℕ) → (d == c) ≡ false → (after_taking b c).state d ≡ b.state d
unfolding state_after_taking
taken_other b c d other = rw other refl

runs_on : (s : Doing) (g : Grant) → s ≡ IsRunning g → waits_for_axes s ≡ false
runs_on s g e = ap waits_for_axes e

-- after a taking a channel that waits owns what it owned
owns_other : (b : Board) (c d x : ℕ) → takes_from_standing (b.state c) ≡ false → can_take b c ≡ true → (d == c) ≡ false → owns (after_taking b c) d x ≡ owns b d x
owns_other b c d x none can other = elim (cases_Bool (among (axes_to_take b c) x)) [
  | inr off ↦ ap (λ (a : Ownership). is_this (owner_of a) d) (kept_axis b c x off)
  | inl on ↦
      ap (λ (a : Ownership). is_this (owner_of a) d) (taken_axis b c x on)
      ∙ ne_eqb c d (λ e. no_truth (d == c) (eq-eqb d c (sym e)) other) ∙ sym (free_is_not_own (b.axis x) d (taken_is_free b c x none can on))
]

-- what it can take after it, it can before, and it is the same
same_axis : (b : Board) (c d x : ℕ) → (d == c) ≡ false → (is_free ((after_taking b c).axis x) || owns (after_taking b c) d x) ≡ true → (after_taking b c).axis x ≡ b.axis x
same_axis b c d x other can = elim (cases_Bool (among (axes_to_take b c) x)) [
  | inr off ↦ kept_axis b c x off
  | inl on ↦
      let e = taken_axis b c x on in
      elim (or_cases (is_free ((after_taking b c).axis x)) (owns (after_taking b c) d x) can) [
        | inl f ↦ no_truth (is_free (OwnedBy c)) (sym (ap is_free e) ∙ f) refl
        | inr o ↦ no_truth (d == c) (eq-eqb d c (sym (eqb-true c d (sym (ap (λ (a : Ownership). is_this (owner_of a) d) e) ∙ o)))) other
      ]
]

grant_owns : (b : Board) (c x : ℕ) → owns (with_its_axes b c) c x ≡ (asked b c x || owns b c x)
unfolding ownership_after_taking
grant_owns b c x = elim (cases_Bool (asked b c x)) [
  | inr off ↦ rw (named_and_not_own b c x, off) refl
  | inl on ↦ elim (cases_Bool (owns b c x)) [
    | inl own ↦ rw (named_and_not_own b c x, on, own) own
    | inr other ↦ rw (named_and_not_own b c x, on, other) (eq-eqb c c refl)
  ]
]

grant_taken : (b : Board) (c : ℕ) → Zones b → grant_of_taker b c ≡ taker_grant b c
unfolding grant_of_taker
grant_taken b c zs =
    grant_told (with_its_axes b c) (zones_with b c zs) c (positions_where (among (axes_to_take b c)) (λ x. resting_position b x (b.axis x)))
    ∙ ap (λ (f : ℕ → Bool). grant_by b.start c f (positions_where (among (axes_to_take b c)) (λ x. resting_position b x (b.axis x))) b.is_on (b.program c)) (fun_ext (grant_owns b c))
    ∙ ap (λ (f : ℕ → Bool). grant_by b.start c (λ x. asked b c x || owns b c x) (positions_where f (λ x. resting_position b x (b.axis x))) b.is_on (b.program c)) (fun_ext (named_and_not_own b c))

pub positions_same : (f g : ℕ → Bool) (at bt : ℕ → ℤ) → ((x : ℕ) → f x ≡ g x) → ((x : ℕ) → g x ≡ true → at x ≡ bt x) → positions_where f at ≡ positions_where g bt
positions_same f g at bt same there = ap (λ (h : ℕ → Option ℤ). map h axis_numbers) (fun_ext (λ x. each x (f x) (g x) (same x) (there x)))
  where
    each : (x : ℕ) (p q : Bool) → p ≡ q → (q ≡ true → at x ≡ bt x) → (if p then Some (at x) else None) ≡ (if q then Some (bt x) else None)
    each x true true s t = ap Some (t refl)
    each x true false s t = no_truth true refl s
    each x false true s t = no_truth true refl (sym s)
    each x false false s t = refl

-- where an axis rests is told by acts alone
rests_alike : (b : Board) (c x : ℕ) (a : Ownership) → resting_position (after_taking b c) x a ≡ resting_position b x a
rests_alike b c x (OwnedBy d) = refl
rests_alike b c x (FreeAt position) = refl

-- a grant after one taking is that before it, of another channel
grant_later : (b : Board) (c d : ℕ) → takes_from_standing (b.state c) ≡ false → can_take b c ≡ true → (d == c) ≡ false
    → ((x : ℕ) → asked (after_taking b c) d x ≡ true → (is_free ((after_taking b c).axis x) || owns (after_taking b c) d x) ≡ true)
    → taker_grant (after_taking b c) d ≡ taker_grant b d
grant_later b c d none takes other can =
    let state : (after_taking b c).state d ≡ b.state d = taken_other b c d other in
    let asks : (x : ℕ) → asked (after_taking b c) d x ≡ asked b d x = λ x. ap (λ (s : Doing). among (axes_asked s) x) state in
    let both : (x : ℕ) → (asked (after_taking b c) d x && not (owns (after_taking b c) d x)) ≡ (asked b d x && not (owns b d x)) = λ x.
    ap₂ (λ (s t : Bool). s && not t) (asks x) (owns_other b c d x none takes other) in
    ap (λ (f : ℕ → Bool). grant_by b.start d f (positions_where (λ x. asked (after_taking b c) d x && not (owns (after_taking b c) d x)) (λ x. resting_position (after_taking b c) x ((after_taking b c).axis x))) b.is_on (b.program d))
    (fun_ext λ x. ap₂ (λ (s t : Bool). s || t) (asks x) (owns_other b c d x none takes other))
    ∙ ap (λ (at : List (Option ℤ)). grant_by b.start d (λ x. asked b d x || owns b d x) at b.is_on (b.program d))
    (positions_same (λ x. asked (after_taking b c) d x && not (owns (after_taking b c) d x)) (λ x. asked b d x && not (owns b d x)) (λ x. resting_position (after_taking b c) x ((after_taking b c).axis x)) (λ x. resting_position b x (b.axis x))
    both (λ x on. rests_alike b c x ((after_taking b c).axis x) ∙ ap (resting_position b x) (same_axis b c d x other (can x (asks x ∙ (and_parts (asked b d x) (not (owns b d x)) on).0)))))

-- what one takes was free before all takings
pub taken_was_free : (b f : Board) (g : Going) (x : ℕ) → Taken b f g → among g.took x ≡ true → is_free (b.axis x) ≡ true
taken_was_free b f g x w took =
    let parts = and_parts (asked b g.channel x) (not (owns b g.channel x)) (sym (w.took x) ∙ took) in
    elim (or_cases (is_free (b.axis x)) (owns b g.channel x) (w.could x parts.0)) [
      | inl free ↦ free
      | inr own ↦ no_truth (not (owns b g.channel x)) parts.1 (ap not own)
    ]

-- the first taker, and the others
first_taken : (b : Board) (c : ℕ) (t : Takings) → Zones b → takes_from_standing (b.state c) ≡ false → next_taker b ≡ Some c → AllTaken (after_taking b c) t → Taken b t.board (going_of_taker b c)
first_taken b c t zs none is rest =
    let can = first_passes (can_take b) channel_numbers c is in
    let parts = and_parts (waits_for_axes (b.state c)) (list_all (can_have b c) (axes_asked (b.state c))) can in
    record {
      waits = parts.0;
      from = refl;
      listed = first_listed (can_take b) channel_numbers c is;
      could = λ x on. sym (free_or_own b c x none) ∙ may_take b c x can on;
      took = named_and_not_own b c;
      has = λ x on.
          let mid : (after_taking b c).axis x ≡ OwnedBy c = elim (cases_Bool (owns b c x)) [
            | inl own ↦ kept_axis b c x (named_and_not_own b c x ∙ rw (on, own) refl) ∙ owned_is (b.axis x) c own
            | inr other ↦ taken_axis b c x (named_and_not_own b c x ∙ rw (on, other) refl)
          ] in
          elim (rest.axis x) [
            | inl e ↦ e ∙ mid
            | inr g ↦
                no_truth (is_free (OwnedBy c)) (sym (ap is_free mid) ∙ taken_was_free (after_taking b c) t.board g.0 x (rest.each g.0 g.1.0) g.1.1) refl
          ];
      runs = rest.kept c (elim (cases_Bool (among (channels_in t.goings) c)) [
        | inr off ↦ off
        | inl on ↦
            let g = in_channels t.goings c on in
            let w = (rest.each g.0 g.1.0).waits in
            no_truth (waits_for_axes ((after_taking b c).state c)) (ap (λ (d : ℕ). waits_for_axes ((after_taking b c).state d)) (sym g.1.1) ∙ w) (runs_on ((after_taking b c).state c) (grant_of_taker b c) (taken_runs b c))
      ]) ∙ taken_runs b c;
      grant = grant_taken b c zs;
    }

later_taken : (b : Board) (c : ℕ) (t : Takings) (g : Going) → takes_from_standing (b.state c) ≡ false → can_take b c ≡ true → AllTaken (after_taking b c) t → IsOf g t.goings → Taken b t.board g
later_taken b c t g none takes rest in_it =
    let w = rest.each g in_it in
    let other : (g.channel == c) ≡ false = elim (cases_Bool (g.channel == c)) [
      | inr off ↦ off
      | inl on ↦ no_truth (waits_for_axes ((after_taking b c).state c)) (ap (λ (d : ℕ). waits_for_axes ((after_taking b c).state d)) (sym (eqb-true g.channel c on)) ∙ w.waits) (runs_on ((after_taking b c).state c) (grant_of_taker b c) (taken_runs b c))
    ] in
    let state : (after_taking b c).state g.channel ≡ b.state g.channel = taken_other b c g.channel other in
    let asks : (x : ℕ) → asked b g.channel x ≡ true → asked (after_taking b c) g.channel x ≡ true = λ x on. ap (λ (s : Doing). among (axes_asked s) x) state ∙ on in
    record {
      waits = ap waits_for_axes (sym state) ∙ w.waits;
      from = w.from ∙ state;
      listed = w.listed;
      could = λ x on.
          let can = w.could x (asks x on) in
          ap (λ (a : Ownership). is_free a || owns b g.channel x) (sym (same_axis b c g.channel x other can)) ∙ ap (λ (t : Bool). is_free ((after_taking b c).axis x) || t) (sym (owns_other b c g.channel x none takes other)) ∙ can;
      took = λ x. w.took x ∙ ap₂ (λ (s : Doing) (t : Bool). among (axes_asked s) x && not t) state (owns_other b c g.channel x none takes other);
      has = λ x on. w.has x (asks x on);
      runs = w.runs;
      grant = w.grant ∙ grant_later b c g.channel none takes other w.could;
    }

more_taken : (b : Board) (c : ℕ) (t : Takings) → Zones b → takes_from_standing (b.state c) ≡ false → next_taker b ≡ Some c → AllTaken (after_taking b c) t → AllTaken b (record { goings = going_of_taker b c ∷ t.goings; board = t.board })
more_taken b c t zs none is rest = record {
  each = λ g in_it. elim in_it [
    | inl here ↦ subst_taken (sym here) (first_taken b c t zs none is rest)
    | inr later ↦ later_taken b c t g none (first_passes (can_take b) channel_numbers c is) rest later
  ];
  kept = λ d out.
      let parts = or_off (c == d) (among (channels_in t.goings) d) out in
      rest.kept d parts.1 ∙ taken_other b c d (ne_eqb d c (λ e. no_truth (c == d) (eq-eqb c d (sym e)) parts.0));
  axis = λ x. elim (rest.axis x) [
    | inr g ↦ inr (g.0, (inr g.1.0, g.1.1))
    | inl e ↦ elim (cases_Bool (among (axes_to_take b c) x)) [
      | inl on ↦ inr (going_of_taker b c, (inl refl, on))
      | inr off ↦ inl (e ∙ kept_axis b c x off)
    ]
  ];
  start = rest.start;
  marks = rest.marks;
  program = rest.program;
  last_position = rest.last_position;
  on = rest.on;
}
  where
    or_off : (x y : Bool) → (x || y) ≡ false → (x ≡ false) × (y ≡ false)
    or_off true y h = no_truth true refl h
    or_off false y h = (refl, h)

    subst_taken : {g : Going} → going_of_taker b c ≡ g → Taken b t.board (going_of_taker b c) → Taken b t.board g
    subst_taken {g} e w = subst (λ (h : Going). Taken b t.board h) e w

pub all_taken : (n : ℕ) (b : Board) → Zones b → NobodyRobs b → AllTaken b (takings n b)
all_taken zero b zs none = none_taken b
all_taken (suc n) b zs none = next (all_taken n) (next_taker b) refl
  where
    next : ((a : Board) → Zones a → NobodyRobs a → AllTaken a (takings n a)) → (taker : Option ℕ) → next_taker b ≡ taker → AllTaken b (takings_from (takings n) b taker)
    next rest None is = none_taken b
    next rest (Some c) is = more_taken b c (takings n (after_taking b c)) zs (none c) is (rest (after_taking b c) (zones_taking b c zs) (taking_robs_nobody b c none))
