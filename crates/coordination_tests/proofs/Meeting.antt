-- Two channels meet at a mark, and there is no race.
use Rattle.std.proofs.Common.{◌≡◌, ℕ, zero, suc, ◌<◌, ◌==◌, ◌||◌, ◌⊎◌, inl, inr, Bool, true, false, List, [], ◌∷◌, length, None, refl, sym, ap, ap₂, subst, ◌∙◌, arith}
use Rattle.std.proofs.lemmas.Bool.{cases_Bool, eqb-true, eq-eqb}
use Rattle.coordination_tests.proofs.Soundness.{sound_by_tests}
use Rattle.coordination_tests.specs.MarkClocks.{two_channels}
use Rattle.coordination_tests.specs.Play.{at_line, channels, marks}
use Rattle.order_clocks.specs.Chains.{IsIn}
use Rattle.order_clocks.specs.Happenings.{board_at, happening_at}
use Rattle.order_clocks.specs.TracedRaces.{IsTracedRace, Apart, StillWaits, Differ, StillAsks}
use Rattle.order_clocks.proofs.RaceCases.{races_agree}
use Rattle.schedule_laws.specs.Schedules.{HasNoRace, IsMaximalOf, moves_by}
use Rattle.schedule_laws.specs.Swaps.{HasNoRaceAt}
use Rattle.coordination_tests.proofs.QuietSteps.{LeavesNothing, MindsNothing, NothingBefore, clash, first_apart, idle_at_first, lowers_none, nothing_so_far, nothing_minded, stays}
use Rattle.coordination_tests.specs.Meetings.{meeting, first_waits, second_waits}
use Rattle.sync_types.specs.BoardActions.{after_effects, after_own_part, is_on_after, state_after_alarm, marks_of_all, ownership_after, holder_after, state_after_action}
use Rattle.sync_types.specs.BoardAlarms.{alarm_of}
use Rattle.sync_types.specs.Boards.{State, IsIdle, IsHolding, AtMarks, Board, among, channel_numbers, first_board, first_state, grant_with, start_grant}
use Rattle.sync_types.specs.GoingOn.{Going, after_goes, goers_at_once, next_taker, going_at_once, marks_after_goes, state_after_goes, ownership_after_taking, holder_after_taking, grant_of_taker, state_after_taking}
use Rattle.sync_types.specs.Runs.{IsSequential, first_stage}
use Rattle.sync_types.specs.Starts.{IsSound, has_channel, runs_at_first}
use Rattle.sync_types.specs.Turns.{Move}
use Rattle.sync_types.specs.declared.Action.{Action}
use Rattle.sync_types.specs.declared.Action.TheVariants.{WaitM, SetM, End}

abbrev step_of : ℕ → ℕ → Action → Move
step_of c line action = record { channel = c; step = at_line line action }

abbrev steps : List Move
steps = step_of 1 5 (SetM (marks (2 ∷ []))) ∷ step_of 1 6 (WaitM 1 (channels (2 ∷ []))) ∷ step_of 2 9 (SetM (marks (3 ∷ [])))
    ∷ step_of 2 10 (WaitM 1 (channels (1 ∷ []))) ∷ step_of 1 7 End ∷ step_of 2 11 End ∷ []

abbrev board : Board
board = first_board two_channels

abbrev at : ℕ → Board
at i = board_at board steps i

they_make : moves_by meeting two_channels first_waits ≡ steps
unfolding first_state grant_with start_grant is_on_after state_after_alarm marks_of_all ownership_after holder_after state_after_action alarm_of marks_after_goes state_after_goes ownership_after_taking holder_after_taking grant_of_taker state_after_taking
they_make = refl

-- steps in which nobody goes on
leaves_0 : LeavesNothing (happening_at board steps 0)
unfolding first_state grant_with start_grant is_on_after state_after_alarm marks_of_all ownership_after holder_after state_after_action alarm_of marks_after_goes state_after_goes ownership_after_taking holder_after_taking grant_of_taker state_after_taking
leaves_0 = record { goings = refl; lowers = λ m. lowers_none (at 0) 1 (at_line 5 (SetM (marks (2 ∷ [])))) m refl; touches = refl }

leaves_1 : LeavesNothing (happening_at board steps 1)
unfolding first_state grant_with start_grant is_on_after state_after_alarm marks_of_all ownership_after holder_after state_after_action alarm_of marks_after_goes state_after_goes ownership_after_taking holder_after_taking grant_of_taker state_after_taking
leaves_1 = record { goings = refl; lowers = λ m. lowers_none (at 1) 1 (at_line 6 (WaitM 1 (channels (2 ∷ [])))) m refl; touches = refl }

leaves_2 : LeavesNothing (happening_at board steps 2)
unfolding first_state grant_with start_grant is_on_after state_after_alarm marks_of_all ownership_after holder_after state_after_action alarm_of marks_after_goes state_after_goes ownership_after_taking holder_after_taking grant_of_taker state_after_taking
leaves_2 = record { goings = refl; lowers = λ m. lowers_none (at 2) 2 (at_line 9 (SetM (marks (3 ∷ [])))) m refl; touches = refl }

minds_4 : MindsNothing (happening_at board steps 4)
unfolding first_state grant_with start_grant is_on_after state_after_alarm marks_of_all ownership_after holder_after state_after_action alarm_of marks_after_goes state_after_goes ownership_after_taking holder_after_taking grant_of_taker state_after_taking
minds_4 = record { leaves = record { goings = refl; lowers = λ m. lowers_none (at 4) 1 (at_line 7 End) m refl; touches = refl }; begins = refl }

minds_5 : MindsNothing (happening_at board steps 5)
unfolding first_state grant_with start_grant is_on_after state_after_alarm marks_of_all ownership_after holder_after state_after_action alarm_of marks_after_goes state_after_goes ownership_after_taking holder_after_taking grant_of_taker state_after_taking
minds_5 = record { leaves = record { goings = refl; lowers = λ m. lowers_none (at 5) 2 (at_line 11 End) m refl; touches = refl }; begins = refl }

before_0 : NothingBefore board steps 0
before_0 j below = absurd (omega arith)

before_1 : NothingBefore board steps 1
before_1 zero below = leaves_0
before_1 (suc j) below = absurd (omega arith)

before_2 : NothingBefore board steps 2
before_2 zero below = leaves_0
before_2 (suc zero) below = leaves_1
before_2 (suc (suc j)) below = absurd (omega arith)

before_3 : NothingBefore board steps 3
before_3 zero below = leaves_0
before_3 (suc zero) below = leaves_1
before_3 (suc (suc zero)) below = leaves_2
before_3 (suc (suc (suc j))) below = absurd (omega arith)

-- in the fourth step the two go on
abbrev mid : Board
mid = after_own_part (at 3) 2 (at_line 10 (WaitM 1 (channels (1 ∷ []))))

both_go : (happening_at board steps 3).goings ≡ going_at_once mid 1 ∷ going_at_once mid 2 ∷ []
unfolding first_state grant_with start_grant is_on_after state_after_alarm marks_of_all ownership_after holder_after state_after_action alarm_of marks_after_goes state_after_goes ownership_after_taking holder_after_taking grant_of_taker state_after_taking
both_go = refl

one_waits : mid.state 1 ≡ IsHolding (AtMarks 1 (2 ∷ [])) 6
unfolding first_state grant_with start_grant is_on_after state_after_alarm marks_of_all ownership_after holder_after state_after_action alarm_of marks_after_goes state_after_goes ownership_after_taking holder_after_taking grant_of_taker state_after_taking
one_waits = refl

two_waits : mid.state 2 ≡ IsHolding (AtMarks 1 (1 ∷ [])) 10
unfolding first_state grant_with start_grant is_on_after state_after_alarm marks_of_all ownership_after holder_after state_after_action alarm_of marks_after_goes state_after_goes ownership_after_taking holder_after_taking grant_of_taker state_after_taking
two_waits = refl

record IsMate (g : Going) (c d line : ℕ) : Type 0 where
  channel : g.channel ≡ c
  from : g.from ≡ IsHolding (AtMarks 1 (d ∷ [])) line
  took : g.took ≡ []

mates : (g : Going) → IsIn g (happening_at board steps 3).goings → IsMate g 1 2 6 ⊎ IsMate g 2 1 10
mates g there =
    let among_both : IsIn g (going_at_once mid 1 ∷ going_at_once mid 2 ∷ []) = subst (λ (gs : List Going). IsIn g gs) both_go there in
    elim among_both [
      | inl is ↦ inl (record { channel = ap (λ (k : Going). k.channel) is; from = ap (λ (k : Going). k.from) is ∙ one_waits; took = ap (λ (k : Going). k.took) is })
      | inr (inl is) ↦ inr (record { channel = ap (λ (k : Going). k.channel) is; from = ap (λ (k : Going). k.from) is ∙ two_waits; took = ap (λ (k : Going). k.took) is })
      | inr (inr none) ↦ absurd none
    ]

-- after it nobody waits
abbrev is_waiting : State → Bool
is_waiting (IsHolding hold line) = true
is_waiting other = false

one_goes : is_waiting ((happening_at board steps 3).after 1) ≡ false
unfolding first_state grant_with start_grant is_on_after state_after_alarm marks_of_all ownership_after holder_after state_after_action alarm_of marks_after_goes state_after_goes ownership_after_taking holder_after_taking grant_of_taker state_after_taking
one_goes = refl

two_goes : is_waiting ((happening_at board steps 3).after 2) ≡ false
unfolding first_state grant_with start_grant is_on_after state_after_alarm marks_of_all ownership_after holder_after state_after_action alarm_of marks_after_goes state_after_goes ownership_after_taking holder_after_taking grant_of_taker state_after_taking
two_goes = refl

-- the other channels are idle
part_0 : (after_own_part (at 0) 1 (at_line 5 (SetM (marks (2 ∷ []))))).state ≡ state_after_action (after_effects (at 0) 1 (at_line 5 (SetM (marks (2 ∷ []))))) 1 (at_line 5 (SetM (marks (2 ∷ []))))
unfolding first_state grant_with start_grant is_on_after state_after_alarm marks_of_all ownership_after holder_after state_after_action alarm_of marks_after_goes state_after_goes ownership_after_taking holder_after_taking grant_of_taker state_after_taking
part_0 = refl

takers_0 : next_taker (after_goes (after_own_part (at 0) 1 (at_line 5 (SetM (marks (2 ∷ [])))))) ≡ None
unfolding first_state grant_with start_grant is_on_after state_after_alarm marks_of_all ownership_after holder_after state_after_action alarm_of marks_after_goes state_after_goes ownership_after_taking holder_after_taking grant_of_taker state_after_taking
takers_0 = refl

goers_0 : goers_at_once (after_own_part (at 0) 1 (at_line 5 (SetM (marks (2 ∷ []))))) ≡ []
unfolding first_state grant_with start_grant is_on_after state_after_alarm marks_of_all ownership_after holder_after state_after_action alarm_of marks_after_goes state_after_goes ownership_after_taking holder_after_taking grant_of_taker state_after_taking
goers_0 = refl

part_1 : (after_own_part (at 1) 1 (at_line 6 (WaitM 1 (channels (2 ∷ []))))).state ≡ state_after_action (after_effects (at 1) 1 (at_line 6 (WaitM 1 (channels (2 ∷ []))))) 1 (at_line 6 (WaitM 1 (channels (2 ∷ []))))
unfolding first_state grant_with start_grant is_on_after state_after_alarm marks_of_all ownership_after holder_after state_after_action alarm_of marks_after_goes state_after_goes ownership_after_taking holder_after_taking grant_of_taker state_after_taking
part_1 = refl

takers_1 : next_taker (after_goes (after_own_part (at 1) 1 (at_line 6 (WaitM 1 (channels (2 ∷ [])))))) ≡ None
unfolding first_state grant_with start_grant is_on_after state_after_alarm marks_of_all ownership_after holder_after state_after_action alarm_of marks_after_goes state_after_goes ownership_after_taking holder_after_taking grant_of_taker state_after_taking
takers_1 = refl

goers_1 : goers_at_once (after_own_part (at 1) 1 (at_line 6 (WaitM 1 (channels (2 ∷ []))))) ≡ []
unfolding first_state grant_with start_grant is_on_after state_after_alarm marks_of_all ownership_after holder_after state_after_action alarm_of marks_after_goes state_after_goes ownership_after_taking holder_after_taking grant_of_taker state_after_taking
goers_1 = refl

part_2 : (after_own_part (at 2) 2 (at_line 9 (SetM (marks (3 ∷ []))))).state ≡ state_after_action (after_effects (at 2) 2 (at_line 9 (SetM (marks (3 ∷ []))))) 2 (at_line 9 (SetM (marks (3 ∷ []))))
unfolding first_state grant_with start_grant is_on_after state_after_alarm marks_of_all ownership_after holder_after state_after_action alarm_of marks_after_goes state_after_goes ownership_after_taking holder_after_taking grant_of_taker state_after_taking
part_2 = refl

takers_2 : next_taker (after_goes (after_own_part (at 2) 2 (at_line 9 (SetM (marks (3 ∷ [])))))) ≡ None
unfolding first_state grant_with start_grant is_on_after state_after_alarm marks_of_all ownership_after holder_after state_after_action alarm_of marks_after_goes state_after_goes ownership_after_taking holder_after_taking grant_of_taker state_after_taking
takers_2 = refl

goers_2 : goers_at_once (after_own_part (at 2) 2 (at_line 9 (SetM (marks (3 ∷ []))))) ≡ []
unfolding first_state grant_with start_grant is_on_after state_after_alarm marks_of_all ownership_after holder_after state_after_action alarm_of marks_after_goes state_after_goes ownership_after_taking holder_after_taking grant_of_taker state_after_taking
goers_2 = refl

part_3 : (after_own_part (at 3) 2 (at_line 10 (WaitM 1 (channels (1 ∷ []))))).state ≡ state_after_action (after_effects (at 3) 2 (at_line 10 (WaitM 1 (channels (1 ∷ []))))) 2 (at_line 10 (WaitM 1 (channels (1 ∷ []))))
unfolding first_state grant_with start_grant is_on_after state_after_alarm marks_of_all ownership_after holder_after state_after_action alarm_of marks_after_goes state_after_goes ownership_after_taking holder_after_taking grant_of_taker state_after_taking
part_3 = refl

takers_3 : next_taker (after_goes (after_own_part (at 3) 2 (at_line 10 (WaitM 1 (channels (1 ∷ [])))))) ≡ None
unfolding first_state grant_with start_grant is_on_after state_after_alarm marks_of_all ownership_after holder_after state_after_action alarm_of marks_after_goes state_after_goes ownership_after_taking holder_after_taking grant_of_taker state_after_taking
takers_3 = refl

goers_3 : goers_at_once (after_own_part (at 3) 2 (at_line 10 (WaitM 1 (channels (1 ∷ []))))) ≡ 1 ∷ 2 ∷ []
unfolding first_state grant_with start_grant is_on_after state_after_alarm marks_of_all ownership_after holder_after state_after_action alarm_of marks_after_goes state_after_goes ownership_after_taking holder_after_taking grant_of_taker state_after_taking
goers_3 = refl

runs_not : (d : ℕ) → (1 == d) ≡ false → (2 == d) ≡ false → runs_at_first two_channels d ≡ false
runs_not d a b = rw a (rw b refl)

neither : (d : ℕ) → (1 == d) ≡ false → (2 == d) ≡ false → among (1 ∷ 2 ∷ []) d ≡ false
neither d a b = rw a (rw b refl)

idle_elsewhere : (d : ℕ) → (1 == d) ≡ false → (2 == d) ≡ false → (d == 1) ≡ false → (d == 2) ≡ false → (at 4).state d ≡ IsIdle
idle_elsewhere d a b n k =
    stays (at 3) 2 (at_line 10 (WaitM 1 (channels (1 ∷ [])))) d part_3 takers_3 (ap (λ (xs : List ℕ). among xs d) goers_3 ∙ neither d a b) k refl
    ∙ stays (at 2) 2 (at_line 9 (SetM (marks (3 ∷ [])))) d part_2 takers_2 (ap (λ (xs : List ℕ). among xs d) goers_2) k refl
    ∙ stays (at 1) 1 (at_line 6 (WaitM 1 (channels (2 ∷ [])))) d part_1 takers_1 (ap (λ (xs : List ℕ). among xs d) goers_1) n refl
    ∙ stays (at 0) 1 (at_line 5 (SetM (marks (2 ∷ [])))) d part_0 takers_0 (ap (λ (xs : List ℕ). among xs d) goers_0) n refl
    ∙ idle_at_first two_channels d (runs_not d a b)

flip : (a b : ℕ) → (a == b) ≡ (b == a)
flip a b = elim (cases_Bool (a == b)) [
  | inl y ↦ y ∙ sym (eq-eqb b a (sym (eqb-true a b y)))
  | inr n ↦ elim (cases_Bool (b == a)) [ inl z ↦ clash (a == b) (eq-eqb a b (sym (eqb-true b a z))) n | inr k ↦ n ∙ sym k ]
]

same_after : (d : ℕ) → (happening_at board steps 3).after d ≡ (at 4).state d
same_after d = refl

nobody_waits : (d : ℕ) → is_waiting ((happening_at board steps 3).after d) ≡ false
nobody_waits d = elim (cases_Bool (d == 1)) [
  | inl y ↦ ap (λ (k : ℕ). is_waiting ((happening_at board steps 3).after k)) (eqb-true d 1 y) ∙ one_goes
  | inr n ↦ elim (cases_Bool (d == 2)) [
    | inl z ↦ ap (λ (k : ℕ). is_waiting ((happening_at board steps 3).after k)) (eqb-true d 2 z) ∙ two_goes
    | inr k ↦ ap is_waiting (same_after d ∙ idle_elsewhere d (flip 1 d ∙ n) (flip 2 d ∙ k) n k)
  ]
]

-- the two with those that they name are the same
swapped : (p q : Bool) → (p || (q || false)) ≡ (q || (p || false))
swapped true true = refl
swapped true false = refl
swapped false true = refl
swapped false false = refl

same_pair : (x : ℕ) → ((x == 1) || among (2 ∷ []) x) ≡ ((x == 2) || among (1 ∷ []) x)
same_pair x = ap₂ (λ (p q : Bool). p || (q || false)) (flip x 1) (flip 2 x) ∙ swapped (1 == x) (x == 2)

abbrev named_in : State → List ℕ
named_in (IsHolding (AtMarks m named) line) = named
named_in other = []

names_of : (g : Going) (c d line m other_line : ℕ) (named : List ℕ) → IsMate g c d line → g.from ≡ IsHolding (AtMarks m named) other_line → d ∷ [] ≡ named
names_of g c d line m other_line named mate from_g = ap named_in (sym mate.from ∙ from_g)

with_names : (g : Going) (c d line m other_line x : ℕ) (named : List ℕ) → IsMate g c d line → g.from ≡ IsHolding (AtMarks m named) other_line → ((x == g.channel) || among named x) ≡ ((x == c) || among (d ∷ []) x)
with_names g c d line m other_line x named mate from_g =
    ap₂ (λ (k : ℕ) (ns : List ℕ). (x == k) || among ns x) mate.channel (sym (names_of g c d line m other_line named mate from_g))

itself : {A : Type 0} (g h : Going) (c d line m other_line : ℕ) (named : List ℕ) → IsMate g c d line → IsMate h c d line → g.from ≡ IsHolding (AtMarks m named) other_line → among named h.channel ≡ true → among (d ∷ []) c ≡ false → A
itself g h c d line m other_line named mate_g mate_h from_g names off =
    clash (among (d ∷ []) c) (ap₂ among (names_of g c d line m other_line named mate_g from_g) (sym mate_h.channel) ∙ names) off

no_differ : (g h : Going) (m line other_line x : ℕ) (named other_named : List ℕ) → IsMate g 1 2 6 ⊎ IsMate g 2 1 10 → IsMate h 1 2 6 ⊎ IsMate h 2 1 10
    → g.from ≡ IsHolding (AtMarks m named) line → h.from ≡ IsHolding (AtMarks m other_named) other_line → among named h.channel ≡ true
    → (((x == g.channel) || among named x) ≡ ((x == h.channel) || among other_named x) → ⊥) → ⊥
no_differ g h m line other_line x named other_named (inl a) (inl b) from_g from_h names differ = itself g h 1 2 6 m line named a b from_g names refl
no_differ g h m line other_line x named other_named (inl a) (inr b) from_g from_h names differ =
    differ (with_names g 1 2 6 m line x named a from_g ∙ same_pair x ∙ sym (with_names h 2 1 10 m other_line x other_named b from_h))
no_differ g h m line other_line x named other_named (inr a) (inl b) from_g from_h names differ =
    differ (with_names g 2 1 10 m line x named a from_g ∙ sym (same_pair x) ∙ sym (with_names h 1 2 6 m other_line x other_named b from_h))
no_differ g h m line other_line x named other_named (inr a) (inr b) from_g from_h names differ = itself g h 2 1 10 m line named a b from_g names refl

took_none : {A : Type 0} (g : Going) (x : ℕ) → IsMate g 1 2 6 ⊎ IsMate g 2 1 10 → among g.took x ≡ true → A
took_none g x (inl a) took = clash (among g.took x) took (ap (λ (xs : List ℕ). among xs x) a.took)
took_none g x (inr a) took = clash (among g.took x) took (ap (λ (xs : List ℕ). among xs x) a.took)

quiet_3 : HasNoRaceAt board steps 3
quiet_3 race is = by_trace ((races_agree board steps 3 race).0 is)
  where
    by_trace : IsTracedRace board steps 3 race → ⊥
    by_trace (Apart early late trace s apart shown_as) = first_apart board steps 3 before_3 early late trace s apart
    by_trace (StillWaits lowering d m line named s event leaves other after names shown_as) = clash true refl (ap is_waiting (sym after) ∙ nobody_waits d)
    by_trace (Differ g h m line other_line x named other_named g_in h_in from_g from_h names differ shown_as) = no_differ g h m line other_line x named other_named (mates g g_in) (mates h h_in) from_g from_h names differ
    by_trace (StillAsks g d x line from_standing axes g_in took other after names shown_as) = took_none g x (mates g g_in) took

quiet_steps : (i : ℕ) → i < 6 → HasNoRaceAt board steps i
quiet_steps zero below = nothing_so_far board steps 0 before_0 leaves_0
quiet_steps (suc zero) below = nothing_so_far board steps 1 before_1 leaves_1
quiet_steps (suc (suc zero)) below = nothing_so_far board steps 2 before_2 leaves_2
quiet_steps (suc (suc (suc zero))) below = quiet_3
quiet_steps (suc (suc (suc (suc zero)))) below = nothing_minded board steps 4 minds_4
quiet_steps (suc (suc (suc (suc (suc zero))))) below = nothing_minded board steps 5 minds_5
quiet_steps (suc (suc (suc (suc (suc (suc i)))))) below = absurd (omega arith)

pub quiet : HasNoRace meeting two_channels first_waits
quiet = subst (λ (ms : List Move). (i : ℕ) → i < length ms → HasNoRaceAt board ms i) (sym they_make) quiet_steps

-- what else is asked of the two runs
pub sound : IsSound two_channels
sound = sound_by_tests two_channels refl refl refl refl refl refl refl

pub numbers : (c : ℕ) → has_channel two_channels c ≡ true → among channel_numbers c ≡ true
numbers c there = elim (cases_Bool (1 == c)) [
  | inl y ↦ ap (among channel_numbers) (sym (eqb-true 1 c y))
  | inr n ↦ elim (cases_Bool (2 == c)) [
    | inl z ↦ ap (among channel_numbers) (sym (eqb-true 2 c z))
    | inr k ↦ clash (has_channel two_channels c) there (rw n (rw k refl))
  ]
]

pub first_is_maximal : IsMaximalOf meeting two_channels first_waits
unfolding first_state grant_with start_grant is_on_after state_after_alarm marks_of_all ownership_after holder_after state_after_action alarm_of marks_after_goes state_after_goes ownership_after_taking holder_after_taking grant_of_taker state_after_taking
first_is_maximal = record { run = (refl, (refl, (refl, (refl, (refl, (refl, tt)))))); over = refl }

pub second_is_maximal : IsMaximalOf meeting two_channels second_waits
unfolding first_state grant_with start_grant is_on_after state_after_alarm marks_of_all ownership_after holder_after state_after_action alarm_of marks_after_goes state_after_goes ownership_after_taking holder_after_taking grant_of_taker state_after_taking
second_is_maximal = record { run = (refl, (refl, (refl, (refl, (refl, (refl, tt)))))); over = refl }

pub first_is_sequential : IsSequential meeting (first_stage two_channels) first_waits
unfolding first_state grant_with start_grant is_on_after state_after_alarm marks_of_all ownership_after holder_after state_after_action alarm_of marks_after_goes state_after_goes ownership_after_taking holder_after_taking grant_of_taker state_after_taking
first_is_sequential = (refl, (refl, (refl, (refl, (refl, (refl, refl))))))

pub they_differ : first_waits ≡ second_waits → ⊥
they_differ same = let one : ◌≡◌ {A = ℕ} 1 2 = ap first same in omega (arith, one)
  where
    first : List ℕ → ℕ
    first [] = 0
    first (x ∷ xs) = x
