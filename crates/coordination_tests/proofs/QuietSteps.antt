-- Steps that leave nothing, or mind nothing, have no race.
use Rattle.axis_sets.specs.declared.limits.TheConstants.{CHANNEL_LIMIT}
use Rattle.std.proofs.Common.{◌-◌, ◌≡◌, ℕ, ◌<◌, ◌==◌, ◌&&◌, ◌||◌, not, Bool, true, false, if◌then◌else◌, List, [], Option, Some, None, refl, sym, ap, subst, ◌∙◌, arith}
use Rattle.std.proofs.lemmas.Bool.{true≢false}
use Rattle.order_clocks.specs.Chains.{IsIn}
use Rattle.order_clocks.specs.Happenings.{Happening, happening_at, going_of, of_going, waits_for, asks_for}
use Rattle.order_clocks.specs.TracedRaces.{IsTracedRace, Trace, Lowered, Needed, Took, Touched, act_leaves, going_leaves, act_minds, going_minds, Apart, StillWaits, Differ, StillAsks, AreApart}
use Rattle.order_clocks.proofs.RaceCases.{races_agree}
use Rattle.schedule_laws.specs.Swaps.{HasNoRaceAt}
use Rattle.sync_types.specs.BoardActions.{after_effects, after_own_part, after_part, channels_to_start, marks_after, marks_of_all, state_after_action}
use Rattle.sync_types.specs.BoardAlarms.{alarm_of}
use Rattle.sync_types.specs.Boards.{State, IsIdle, Board, among, first_state}
use Rattle.sync_types.specs.GoingOn.{Going, after_goes, after_goings, goers_at_once, next_taker, state_after_goes, takings, takings_from}
use Rattle.sync_types.specs.Starts.{runs_at_first}
use Rattle.sync_types.specs.Turns.{Move, after_step}
use Rattle.sync_types.specs.Views.{StartView}
use Rattle.sync_types.specs.declared.Action.{Action}
use Rattle.sync_types.specs.declared.Action.TheVariants.{WaitM, SetM, ClearM, Init, Start, WaitE, Release, Get, End, Alarm}
use Rattle.sync_types.specs.declared.Step.{Step}
use Rattle.sync_types.specs.declared.runs.EventId.{EventId}
use Rattle.sync_types.specs.declared.runs.Race.{Race}

pub clash : {A : Type 0} (b : Bool) → b ≡ true → b ≡ false → A
clash b on off = absurd (true≢false (sym on ∙ off))

-- an action other than CLEARM lowers no mark
abbrev pub clears : Action → Bool
clears (ClearM marks) = true
clears other = false

and_not_itself : (x : Bool) → (x && not x) ≡ false
and_not_itself true = refl
and_not_itself false = refl

and_not_more : (x y : Bool) → (x && not (y || x)) ≡ false
and_not_more true true = refl
and_not_more true false = refl
and_not_more false y = refl

raises_only : (own : ℕ → Bool) (action : Action) (m : ℕ) → clears action ≡ false → (own m && not (marks_after own action m)) ≡ false
raises_only own (WaitM n named) m off = and_not_more (own m) (m == n)
raises_only own (SetM marks) m off = and_not_more (own m) _
raises_only own (ClearM marks) m off = clash true refl off
raises_only own (Init target program) m off = and_not_itself (own m)
raises_only own (Start named) m off = and_not_itself (own m)
raises_only own (WaitE named) m off = and_not_itself (own m)
raises_only own (Release axes) m off = and_not_itself (own m)
raises_only own (Get axes) m off = and_not_itself (own m)
raises_only own End m off = and_not_itself (own m)
raises_only own (Alarm code) m off = and_not_itself (own m)

either : (own : ℕ → Bool) (action : Action) (m : ℕ) (test : Bool) → clears action ≡ false → (own m && not (if test then marks_after own action m else own m)) ≡ false
either own action m true off = raises_only own action m off
either own action m false off = and_not_itself (own m)

part_keeps : (b : Board) (c : ℕ) (step : Step) (alarm : Option ℕ) (m : ℕ) → clears step.action ≡ false → (b.marks c m && not ((after_part b c step alarm).marks c m)) ≡ false
unfolding marks_of_all
part_keeps b c step (Some code) m off = and_not_itself (b.marks c m)
part_keeps b c step None m off = either (b.marks c) step.action m (c == c) off

pub lowers_none : (b : Board) (c : ℕ) (step : Step) (m : ℕ) → clears step.action ≡ false → (b.marks c m && not ((after_own_part b c step).marks c m)) ≡ false
lowers_none b c step m off = part_keeps b c step (alarm_of b c step.action) m off

-- nobody goes on in the step, and its act leaves nothing
pub record LeavesNothing (h : Happening) : Type 0 where
  pub goings : h.goings ≡ []
  pub lowers : (m : ℕ) → h.lowers m ≡ false
  pub touches : h.touches ≡ []

-- nor does it begin to wait
pub record MindsNothing (h : Happening) : Type 0 where
  pub leaves : LeavesNothing h
  pub begins : h.begins ≡ None

and_off : (a b : Bool) → b ≡ false → (a && b) ≡ false
and_off true b off = off
and_off false b off = refl

leaves_none : (h : Happening) → LeavesNothing h → (c : ℕ) (go : Bool) (t : Trace) → (if go then of_going (going_of h.goings c) (λ g. going_leaves g t) else act_leaves h t) ≡ false
leaves_none h q c true t = ap (λ (gs : List Going). of_going (going_of gs c) (λ g. going_leaves g t)) q.goings
leaves_none h q c false (Lowered d m) = and_off (d == h.channel) (h.lowers m) (q.lowers m)
leaves_none h q c false (Needed d m) = refl
leaves_none h q c false (Took x) = refl
leaves_none h q c false (Touched d) = ap (λ (cs : List ℕ). among cs d) q.touches

minds_none : (h : Happening) → MindsNothing h → (c : ℕ) (go : Bool) (t : Trace) → (if go then of_going (going_of h.goings c) (λ g. going_minds g t) else act_minds h t) ≡ false
minds_none h q c true t = ap (λ (gs : List Going). of_going (going_of gs c) (λ g. going_minds g t)) q.leaves.goings
minds_none h q c false (Lowered d m) = ap (λ o. waits_for o d m) q.begins
minds_none h q c false (Needed d m) = and_off (d == h.channel) (h.lowers m) (q.leaves.lowers m)
minds_none h q c false (Took x) = ap (λ o. asks_for o x) q.begins
minds_none h q c false (Touched d) = ap (λ (cs : List ℕ). among cs d) q.leaves.touches

-- all steps before it leave nothing
abbrev pub NothingBefore : Board → List Move → ℕ → Type 0
NothingBefore b moves i = (j : ℕ) → j < i → LeavesNothing (happening_at b moves j)

pub first_apart : (b : Board) (moves : List Move) (i : ℕ) → NothingBefore b moves i → (early late : EventId) (t : Trace) → late.step ≡ i → AreApart b moves early late t → ⊥
first_apart b moves i q early late t at apart =
    let step = apart.step in
    clash _ apart.left (leaves_none (happening_at b moves early.step) (q early.step (omega (arith, step, at))) early.channel early.go t)

later_apart : (b : Board) (moves : List Move) (i : ℕ) → MindsNothing (happening_at b moves i) → (early late : EventId) (t : Trace) → late.step ≡ i → AreApart b moves early late t → ⊥
later_apart b moves i q early late t at apart =
    clash _ apart.minded (minds_none (happening_at b moves late.step) (subst (λ (j : ℕ). MindsNothing (happening_at b moves j)) (sym at) q) late.channel late.go t)

nobody_in : {A : Type 0} (h : Happening) → LeavesNothing h → (g : Going) → IsIn g h.goings → A
nobody_in h q g there = let none : IsIn g [] = subst (λ (gs : List Going). IsIn g gs) q.goings there in absurd none

-- where two events of the step are not apart from earlier ones
still : (b : Board) (moves : List Move) (i : ℕ) → LeavesNothing (happening_at b moves i) → ((early late : EventId) (t : Trace) → late.step ≡ i → AreApart b moves early late t → ⊥) → (race : Race) → IsTracedRace b moves i race → ⊥
still b moves i q apart race (Apart early late trace at there shown_as) = apart early late trace at there
still b moves i q apart race (StillWaits lowering d m line named at event leaves other after names shown_as) =
    clash _ leaves (leaves_none (happening_at b moves lowering.step) (subst (λ (j : ℕ). LeavesNothing (happening_at b moves j)) (sym at) q) lowering.channel lowering.go (Lowered lowering.channel m))
still b moves i q apart race (Differ g h m line other_line x named other_named g_in h_in from_g from_h names differ shown_as) = nobody_in (happening_at b moves i) q g g_in
still b moves i q apart race (StillAsks g d x line from_standing axes g_in took other after names shown_as) = nobody_in (happening_at b moves i) q g g_in

pub nothing_so_far : (b : Board) (moves : List Move) (i : ℕ) → NothingBefore b moves i → LeavesNothing (happening_at b moves i) → HasNoRaceAt b moves i
nothing_so_far b moves i before here race is = still b moves i here (first_apart b moves i before) race ((races_agree b moves i race).0 is)

pub nothing_minded : (b : Board) (moves : List Move) (i : ℕ) → MindsNothing (happening_at b moves i) → HasNoRaceAt b moves i
nothing_minded b moves i here race is = still b moves i here.leaves (later_apart b moves i here) race ((races_agree b moves i race).0 is)

-- a channel that neither acts nor goes on does what it did
goes_stay : (b : Board) (d : ℕ) → among (goers_at_once b) d ≡ false → state_after_goes b d ≡ b.state d
unfolding state_after_goes
goes_stay b d off = rw off refl

action_stays : (b : Board) (c : ℕ) (step : Step) (d : ℕ) → (d == c) ≡ false → among (channels_to_start step.action) d ≡ false → state_after_action b c step d ≡ b.state d
unfolding state_after_action
action_stays b c step d other off = rw other (rw off refl)

nobody_takes : (b : Board) → next_taker (after_goes b) ≡ None → (after_goings b).state ≡ state_after_goes b
nobody_takes b none = ap (λ (o : Option ℕ). (takings_from (takings (CHANNEL_LIMIT - 1)) (after_goes b) o).board.state) none

pub stays : (b : Board) (c : ℕ) (step : Step) (d : ℕ) → (after_own_part b c step).state ≡ state_after_action (after_effects b c step) c step → next_taker (after_goes (after_own_part b c step)) ≡ None
    → among (goers_at_once (after_own_part b c step)) d ≡ false → (d == c) ≡ false → among (channels_to_start step.action) d ≡ false → (after_step b c step).state d ≡ b.state d
stays b c step d own none off other unstarted =
    ap (λ (f : ℕ → State). f d) (nobody_takes (after_own_part b c step) none) ∙ goes_stay (after_own_part b c step) d off
    ∙ ap (λ (f : ℕ → State). f d) own ∙ action_stays (after_effects b c step) c step d other unstarted

pub idle_at_first : (start : StartView) (d : ℕ) → runs_at_first start d ≡ false → first_state start d ≡ IsIdle
unfolding first_state
idle_at_first start d off = rw off refl
