-- Axes and zones stay together.
use Rattle.axis_sets.specs.declared.limits.TheConstants.{CHANNEL_LIMIT}
use Rattle.std.proofs.Common.{eqb-true, inl, inr, ◌≡◌, ℕ, ℤ, zero, suc, ◌==◌, Bool, true, false, cond, List, [], ◌∷◌, Option, Some, None, if◌then◌else◌, refl, sym, ap, ◌∙◌}
use Rattle.std.proofs.lemmas.Bool.{cases_Bool, and_parts}
use Rattle.std.proofs.lemmas.List.Elements.{All-head, All-tail}
use Rattle.axis_sets.specs.Sets.{has, members_of}
use Rattle.axis_sets.proofs.SetLaws.{list_any-members_of}
use Rattle.sync_types.proofs.BoardTests.{no_truth, passes, among_kept, some_alike, whole_alike, whole_found, not_so, by_test, not_not, first_passes, not_found}
use Rattle.sync_types.proofs.TakenAxes.{taken_alike}
use Rattle.sync_types.specs.Boards.{State, IsIdle, Ownership, OwnedBy, FreeAt, Board, among, channel_numbers, owner_of, ownership_of, first_board, first_state}
use Rattle.sync_types.specs.BoardAlarms.{alarm_of, named_axes, names_no_mark, names_no_channel, names_no_axis, lets_go_of_others, splits_a_zone, finds_own_mark, finds_one_awake, starts_without_program, own_alarm}
use Rattle.sync_types.specs.BoardActions.{carries, channels_to_start, axes_to_free, ownership_after, holder_after, state_after_alarm, state_after_action, state_of_actor, after_alarm, after_effects, after_action, after_part, after_own_part}
use Rattle.sync_types.specs.GoingOn.{axes_asked, waits_for_axes, goes_at_once, goers_at_once, state_after_goes, after_goes, can_take, next_taker, axes_to_take, ownership_after_taking, holder_after_taking, state_after_taking, after_taking, takings, takings_from}
use Rattle.sync_types.specs.Starts.{has_channel, axes_of_zone, runs_at_first, first_owner, first_position, IsSound}
use Rattle.sync_types.specs.Togetherness.{AreTogether, AreOfChannels, StaysTogether}
use Rattle.sync_types.specs.Turns.{Move, after_step, after_moves}
use Rattle.sync_types.specs.Views.{StartView}
use Rattle.sync_types.specs.declared.Action.{Action}
use Rattle.sync_types.specs.declared.Action.TheVariants.{Start, Release, Get}
use Rattle.sync_types.specs.declared.Step.{Step}

-- what is kept besides: channels that the machine has not are idle, and who waits for an axis of a zone
-- waits for all of them
pub record Keeps (b : Board) : Type 0 where
  pub together : AreTogether b
  pub asleep : (c : ℕ) → has_channel b.start c ≡ false → b.state c ≡ IsIdle
  pub asks : (c z x y : ℕ) → has (axes_of_zone b.start z) x ≡ true → has (axes_of_zone b.start z) y ≡ true
      → among (axes_asked (b.state c)) x ≡ among (axes_asked (b.state c)) y

-- it asks for both axes or for neither
abbrev AsksAlike : ℕ → ℕ → State → Type 0
AsksAlike x y s = among (axes_asked s) x ≡ among (axes_asked s) y

one_number : (d c : ℕ) (start : StartView) → (d == c) ≡ true → has_channel start c ≡ true → has_channel start d ≡ true
one_number d c start here on = ap (has_channel start) (eqb-true d c here) ∙ on

-- an alarm changes no axis
keeps_alarm : (b : Board) (c : ℕ) (step : Step) (code : ℕ) → has_channel b.start c ≡ true → Keeps b → Keeps (after_alarm b c step code)
unfolding state_after_alarm
keeps_alarm b c step code on k = record {
  together = record { owners = k.together.owners; zones = k.together.zones };
  asleep = λ d none. by_test (λ s. s ≡ IsIdle) (d == c) _ _ (λ here. no_truth (has_channel b.start d) (one_number d c b.start here on) none) (λ other. k.asleep d none);
  asks = λ d z x y on_x on_y. by_test (AsksAlike x y) (d == c) _ _ (λ here. refl) (λ other. k.asks d z x y on_x on_y);
}

-- the axes that an action lets go, and those for which it waits, are whole zones
freed_alike : (action : Action) (x y : ℕ) → has (named_axes action) x ≡ has (named_axes action) y → among (axes_to_free action) x ≡ among (axes_to_free action) y
freed_alike (Release axes) x y same = list_any-members_of axes x ∙ same ∙ sym (list_any-members_of axes y)
freed_alike other x y same = refl

actor_alike : (b : Board) (c line : ℕ) (action : Action) (x y : ℕ) → has (named_axes action) x ≡ has (named_axes action) y → AsksAlike x y (state_of_actor b c line action)
actor_alike b c line (Get axes) x y same = list_any-members_of axes x ∙ same ∙ sym (list_any-members_of axes y)
actor_alike b c line other x y same = refl

named_alike : (b : Board) (action : Action) (z x y : ℕ) → splits_a_zone b action ≡ false → has (axes_of_zone b.start z) x ≡ true → has (axes_of_zone b.start z) y ≡ true
    → has (named_axes action) x ≡ has (named_axes action) y
named_alike b action z x y whole on_x on_y = whole_alike (named_axes action) (axes_of_zone b.start z) x y (whole_found (named_axes action) b.start.zones z (not_not _ whole)) on_x on_y

starts_known : (b : Board) (action : Action) (d : ℕ) → names_no_channel b action ≡ false → among (channels_to_start action) d ≡ true → has_channel b.start d ≡ true
starts_known b (Start named) d known on = passes (has_channel b.start) (members_of named) d (not_not _ known) on
starts_known b other d known on = no_truth false on refl

-- an axis and its zone go the same way
goes_free : (test carried : Bool) (a : Ownership) (holder : Option ℕ) (position : ℤ) → carried ≡ test → owner_of a ≡ holder
    → owner_of (cond test (FreeAt position) a) ≡ cond carried None holder
goes_free true carried a holder position same at_holder = sym (ap (λ t. cond t None holder) same)
goes_free false carried a holder position same at_holder = at_holder ∙ sym (ap (λ t. cond t None holder) same)

goes_to : (test carried : Bool) (a : Ownership) (holder : Option ℕ) (c : ℕ) → carried ≡ test → owner_of a ≡ holder
    → owner_of (cond test (OwnedBy c) a) ≡ cond carried (Some c) holder
goes_to true carried a holder c same at_holder = sym (ap (λ t. cond t (Some c) holder) same)
goes_to false carried a holder c same at_holder = at_holder ∙ sym (ap (λ t. cond t (Some c) holder) same)

no_owner : {A : Type 0} (c : ℕ) → None ≡ Some c → A
no_owner c bad = let out : ⊥ = cc in absurd out

same_owner : (c d : ℕ) → Some c ≡ Some d → c ≡ d
same_owner c d e = cc

-- an action that does not alarm
keeps_action : (b : Board) (c : ℕ) (step : Step) → names_no_channel b step.action ≡ false → splits_a_zone b step.action ≡ false → has_channel b.start c ≡ true
    → Keeps b → Keeps (after_action b c step)
unfolding state_after_action ownership_after holder_after
keeps_action b c step known whole on k = record {
  together = record {
    owners = λ x d. by_test (λ a. owner_of a ≡ Some d → has_channel b.start d ≡ true) (among (axes_to_free step.action) x) _ _ (λ freed owned. no_owner d owned) (λ stays owned. k.together.owners x d owned);
    zones = λ z x on_x. goes_free (among (axes_to_free step.action) x) (carries b (axes_to_free step.action) z) (b.axis x) (b.holder z) _
        (some_alike (has (axes_of_zone b.start z)) (axes_to_free step.action) x on_x (λ y on_y. freed_alike step.action y x (named_alike b step.action z y x whole on_y on_x)))
        (k.together.zones z x on_x);
  };
  asleep = λ d none. by_test (λ s. s ≡ IsIdle) (d == c) _ _
      (λ here. no_truth (has_channel b.start d) (one_number d c b.start here on) none)
      (λ other. by_test (λ s. s ≡ IsIdle) (among (channels_to_start step.action) d) _ _
      (λ starts. no_truth (has_channel b.start d) (starts_known b step.action d known starts) none)
      (λ stays. k.asleep d none));
  asks = λ d z x y on_x on_y. by_test (AsksAlike x y) (d == c) _ _
      (λ here. actor_alike (after_effects b c step) c step.line step.action x y (named_alike b step.action z x y whole on_x on_y))
      (λ other. by_test (AsksAlike x y) (among (channels_to_start step.action) d) _ _ (λ starts. refl) (λ stays. k.asks d z x y on_x on_y));
}

-- the three tests of the board that matter here
no_alarm : (b : Board) (c : ℕ) (action : Action) → alarm_of b c action ≡ None → (names_no_channel b action ≡ false) × (splits_a_zone b action ≡ false)
unfolding alarm_of
no_alarm b c action none =
    let late_5 : Option ℕ = if starts_without_program b action then Some 28 else own_alarm action in
    let late_4 : Option ℕ = if finds_one_awake b action then Some 27 else late_5 in
    let late_3 : Option ℕ = if finds_own_mark b c action then Some 26 else late_4 in
    let late_2 : Option ℕ = if splits_a_zone b action then Some 31 else late_3 in
    let late_1 : Option ℕ = if lets_go_of_others b c action then Some 15 else late_2 in
    let late_0 : Option ℕ = if names_no_axis b action then Some 14 else late_1 in
    let late : Option ℕ = if names_no_channel b action then Some 24 else late_0 in
    let numbered = not_so (names_no_mark action) 25 late none in
    let known = not_so (names_no_channel b action) 24 late_0 numbered.1 in
    let there = not_so (names_no_axis b action) 14 late_1 known.1 in
    let own = not_so (lets_go_of_others b c action) 15 late_2 there.1 in
    let whole = not_so (splits_a_zone b action) 31 late_3 own.1 in
    (known.0, whole.0)

keeps_part : (b : Board) (c : ℕ) (step : Step) (alarm : Option ℕ) → alarm_of b c step.action ≡ alarm → has_channel b.start c ≡ true → Keeps b → Keeps (after_part b c step alarm)
keeps_part b c step (Some code) is on k = keeps_alarm b c step code on k
keeps_part b c step None is on k = let no = no_alarm b c step.action is in keeps_action b c step no.0 no.1 on k

start_of_part : (b : Board) (c : ℕ) (step : Step) (alarm : Option ℕ) → (after_part b c step alarm).start ≡ b.start
start_of_part b c step (Some code) = refl
start_of_part b c step None = refl

-- who goes at once was not idle
keeps_goes : (b : Board) → Keeps b → Keeps (after_goes b)
unfolding state_after_goes
keeps_goes b k = record {
  together = record { owners = k.together.owners; zones = k.together.zones };
  asleep = λ d none. by_test (λ s. s ≡ IsIdle) (among (goers_at_once b) d) _ _
      (λ goes. no_truth (goes_at_once b (b.state d)) (and_parts (among channel_numbers d) (goes_at_once b (b.state d)) (sym (among_kept (λ c. goes_at_once b (b.state c)) channel_numbers d) ∙ goes)).1 (ap (goes_at_once b) (k.asleep d none)))
      (λ stays. k.asleep d none);
  asks = λ d z x y on_x on_y. by_test (AsksAlike x y) (among (goers_at_once b) d) _ _ (λ goes. refl) (λ stays. k.asks d z x y on_x on_y);
}

taker_known : (b : Board) (c : ℕ) → Keeps b → can_take b c ≡ true → has_channel b.start c ≡ true
taker_known b c k takes = elim (cases_Bool (has_channel b.start c)) [
  | inl on ↦ on
  | inr off ↦ no_truth (waits_for_axes (b.state c)) (and_parts _ _ takes).0 (ap waits_for_axes (k.asleep c off))
]

keeps_taking : (b : Board) (c : ℕ) → can_take b c ≡ true → Keeps b → Keeps (after_taking b c)
unfolding ownership_after_taking holder_after_taking state_after_taking
keeps_taking b c takes k = record {
  together = record {
    owners = λ x d. by_test (λ a. owner_of a ≡ Some d → has_channel b.start d ≡ true) (among (axes_to_take b c) x) _ _
        (λ taken owned. ap (has_channel b.start) (sym (same_owner c d owned)) ∙ taker_known b c k takes)
        (λ stays owned. k.together.owners x d owned);
    zones = λ z x on_x. goes_to (among (axes_to_take b c) x) (carries b (axes_to_take b c) z) (b.axis x) (b.holder z) c
        (some_alike (has (axes_of_zone b.start z)) (axes_to_take b c) x on_x (λ y on_y. taken_alike b c y x (k.asks c z y x on_y on_x) (k.together.zones z y on_y ∙ sym (k.together.zones z x on_x))))
        (k.together.zones z x on_x);
  };
  asleep = λ d none. by_test (λ s. s ≡ IsIdle) (d == c) _ _
      (λ here. no_truth (has_channel b.start d) (one_number d c b.start here (taker_known b c k takes)) none)
      (λ other. k.asleep d none);
  asks = λ d z x y on_x on_y. by_test (AsksAlike x y) (d == c) _ _ (λ here. refl) (λ other. k.asks d z x y on_x on_y);
}

-- the board keeps it and its start
abbrev pub KeepsFrom : Board → Board → Type 0
KeepsFrom b a = Keeps a × (a.start ≡ b.start)

keeps_takings : (n : ℕ) (b : Board) → Keeps b → KeepsFrom b (takings n b).board
keeps_takings zero b k = (k, refl)
keeps_takings (suc n) b k = keeps_next (keeps_takings n) (next_taker b) refl
  where
    keeps_next : ((a : Board) → Keeps a → KeepsFrom a (takings n a).board) → (next : Option ℕ) → next_taker b ≡ next → KeepsFrom b (takings_from (takings n) b next).board
    keeps_next rest None is = (k, refl)
    keeps_next rest (Some c) is = rest (after_taking b c) (keeps_taking b c (first_passes (can_take b) channel_numbers c is) k)

pub keeps_step : (b : Board) (m : Move) → has_channel b.start m.channel ≡ true → Keeps b → KeepsFrom b (after_step b m.channel m.step)
keeps_step b m on k =
    let own : Board = after_own_part b m.channel m.step in
    let kept : Keeps own = keeps_part b m.channel m.step (alarm_of b m.channel m.step.action) refl on k in
    let rest = keeps_takings CHANNEL_LIMIT (after_goes own) (keeps_goes own kept) in
    (rest.0, rest.1 ∙ start_of_part b m.channel m.step (alarm_of b m.channel m.step.action))

keeps_moves : (start : StartView) (b : Board) (ms : List Move) → b.start ≡ start → AreOfChannels start ms → Keeps b → Keeps (after_moves b ms)
keeps_moves start b [] same known k = k
keeps_moves start b (m ∷ ms) same known k =
    let on : has_channel b.start m.channel ≡ true = ap (λ (s : StartView). has_channel s m.channel) same ∙ All-head (λ (m : Move). has_channel start m.channel ≡ true) m ms known in
    let next = keeps_step b m on k in
    keeps_moves start (after_step b m.channel m.step) ms (next.1 ∙ same) (All-tail (λ (m : Move). has_channel start m.channel ≡ true) m ms known) next.0

owner_at_first : (owner : Option ℕ) (position : ℤ) → owner_of (ownership_of owner position) ≡ owner
owner_at_first (Some c) position = refl
owner_at_first None position = refl

pub keeps_first : (start : StartView) → IsSound start → Keeps (first_board start)
unfolding first_state
keeps_first start sound = record {
  together = record {
    owners = λ x c owned. sound.owners x c (sym (owner_at_first (first_owner start x) (first_position start x)) ∙ owned);
    zones = λ z x on_x. owner_at_first (first_owner start x) (first_position start x) ∙ sound.zone_owners z x on_x;
  };
  asleep = λ c none. by_test (λ s. s ≡ IsIdle) (runs_at_first start c) _ _ (λ runs. no_truth (runs_at_first start c) runs (not_found (λ line. line.0 == c) start.channels none)) (λ rests. refl);
  asks = λ c z x y on_x on_y. by_test (AsksAlike x y) (runs_at_first start c) _ _ (λ runs. refl) (λ rests. refl);
}

-- at a sound start, and after any steps
pub stays_together : (start : StartView) (moves : List Move) → StaysTogether start moves
stays_together start moves sound known = (keeps_moves start (first_board start) moves refl known (keeps_first start sound)).together
