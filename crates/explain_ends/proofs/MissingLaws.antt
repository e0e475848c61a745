-- Who still waits lacks something.
use Rattle.std.proofs.Common.{◌≡◌, ◌∙◌, ℕ, zero, suc, ◌+◌, ◌<◌, ◌≤◌, ◌==◌, ◌&&◌, ◌||◌, not, Bool, true, false, inl, inr, List, [], ◌∷◌, Option, None, Some, filter, refl, sym, ap, subst, eq-eqb, eqb-true, arith}
use Rattle.std.specs.List.{list_all, range_with_len}
use Rattle.std.proofs.lemmas.Bool.{cases_Bool, or_left, false_from_ne_true}
use Rattle.axis_sets.specs.Sets.{members_of}
use Rattle.axis_sets.specs.declared.limits.TheConstants.{CHANNEL_LIMIT}
use Rattle.explain_ends.specs.Missing.{Lacks, WhoWaitsLacks}
use Rattle.sync_types.proofs.BoardTests.{among_kept, by_test, no_truth}
use Rattle.sync_types.proofs.Settling.{settled}
use Rattle.sync_types.specs.BoardActions.{after_effects, after_own_part, after_part, channels_to_start, state_after_action, state_after_alarm, state_of_actor, others_than}
use Rattle.sync_types.specs.BoardAlarms.{alarm_of}
use Rattle.sync_types.specs.Boards.{Hold, AtMarks, AtEnds, AtAxes, State, IsHolding, IsRunning, Ownership, OwnedBy, FreeAt, Board, among, channel_numbers, first_board, first_state, has_ended, owner_of, stands, start_grant}
use Rattle.sync_types.specs.GoingOn.{after_goes, after_taking, axes_asked, can_take, first_of, goers_at_once, goes_at_once, may_be_taken, next_taker, state_after_goes, state_after_taking, takes_from_standing, takings, takings_from, waits_for_axes}
use Rattle.sync_types.specs.RunLaws.{NobodyCanGo}
use Rattle.sync_types.specs.Starts.{runs_at_first}
use Rattle.sync_types.specs.Turns.{after_entries, after_step}
use Rattle.sync_types.specs.Views.{EntryView, RunView, StartView}
use Rattle.sync_types.specs.declared.Action.{Action}
use Rattle.sync_types.specs.declared.Action.TheVariants.{WaitM}
use Rattle.sync_types.specs.declared.Step.{Step}

-- ---- tests on lists

-- one that fails where not all pass
pub record Fails (p : ℕ → Bool) (xs : List ℕ) : Type 0 where
  pub one : ℕ
  pub inside : among xs one ≡ true
  pub off : p one ≡ false

one_fails : (p : ℕ → Bool) (xs : List ℕ) → list_all p xs ≡ false → Fails p xs
one_fails p [] bad = no_truth true refl bad
one_fails p (x ∷ xs) bad = elim (cases_Bool (p x)) [
  | inl on ↦
      let w : Fails p xs = one_fails p xs (rw on at bad) in
      record { one = w.one; inside = later (x == w.one) (among xs w.one) w.inside; off = w.off }
  | inr off ↦ record { one = x; inside = here (x == x) (among xs x) (eq-eqb x x refl); off = off }
]
  where
    later : (a b : Bool) → b ≡ true → (a || b) ≡ true
    later true b on = refl
    later false b on = on

    here : (a b : Bool) → a ≡ true → (a || b) ≡ true
    here true b on = refl
    here false b on = no_truth false on refl

kept_off : (p : ℕ → Bool) (xs : List ℕ) (x : ℕ) → among xs x ≡ true → among (filter p xs) x ≡ false → p x ≡ false
kept_off p xs x in_it out = false_from_ne_true (p x) (λ on. no_truth (among (filter p xs) x) (among_kept p xs x ∙ rw (in_it, on) refl) out)

empty_from : (xs : List ℕ) → first_of xs ≡ None → xs ≡ []
empty_from [] none = refl
empty_from (x ∷ xs) none = absurd (some_not_none x none)
  where
    some_not_none : (n : ℕ) → Some n ≡ None → ⊥
    some_not_none n bad = cc

without_itself : (c : ℕ) (xs : List ℕ) → among (others_than c xs) c ≡ false
without_itself c xs = among_kept (λ d. not (d == c)) xs c ∙ rw (eq-eqb c c refl) (never (among xs c))
  where
    never : (a : Bool) → (a && false) ≡ false
    never true = refl
    never false = refl

numbers_in : (n a c : ℕ) → a ≤ c → c < a + n → among (range_with_len a n) c ≡ true
numbers_in zero a c from below = absurd (omega arith)
numbers_in (suc n) a c from below = elim (cases_Bool (a == c)) [
  | inl here ↦ rw here refl
  | inr other ↦ rw other (numbers_in n (a + 1) c (omega (arith, not_here other)) (omega arith))
]
  where
    not_here : (a == c) ≡ false → a ≡ c → ⊥
    not_here off same = no_truth (a == c) (eq-eqb a c same) off

-- ---- after all steps nobody can go, and nobody waits for its own mark

-- who waits at marks does not wait for its own
abbrev IsForOthers : ℕ → State → Type 0
IsForOthers c (IsHolding (AtMarks number named) line) = among named c ≡ false
IsForOthers c other = Unit {0}

record IsSettled (b : Board) : Type 0 where
  pub goes : (c : ℕ) → among channel_numbers c ≡ true → goes_at_once b (b.state c) ≡ false
  pub takes : (c : ℕ) → among channel_numbers c ≡ true → can_take b c ≡ false
  pub others : (c : ℕ) → IsForOthers c (b.state c)

first_settled : (start : StartView) → IsSettled (first_board start)
unfolding first_state
first_settled start = record {
  goes = λ c on. by_test (λ s. goes_at_once (first_board start) s ≡ false) (runs_at_first start c) _ _ (λ runs. refl) (λ rests. refl);
  takes = λ c on. first_takes c;
  others = λ c. by_test (IsForOthers c) (runs_at_first start c) _ _ (λ runs. tt) (λ rests. tt);
}
  where
    first_takes : (c : ℕ) → can_take (first_board start) c ≡ false
    first_takes c = elim (cases_Bool (runs_at_first start c)) [ inl runs ↦ rw runs refl | inr rests ↦ rw rests refl ]

actor_others : (b : Board) (c line : ℕ) (action : Action) → IsForOthers c (state_of_actor b c line action)
actor_others b c line (WaitM m named) = without_itself c (members_of named)
actor_others b c line other = tt

part_others : (b : Board) (c : ℕ) (step : Step) (alarm : Option ℕ) → ((d : ℕ) → IsForOthers d (b.state d)) → (d : ℕ) → IsForOthers d ((after_part b c step alarm).state d)
unfolding state_after_alarm state_after_action
part_others b c step (Some code) old d = by_test (IsForOthers d) (d == c) _ _ (λ here. tt) (λ other. old d)
part_others b c step None old d = by_test (IsForOthers d) (d == c) _ _
    (λ here. subst (λ (e : ℕ). IsForOthers e (state_of_actor (after_effects b c step) c step.line step.action)) (sym (eqb-true d c here)) (actor_others (after_effects b c step) c step.line step.action))
    (λ other. by_test (IsForOthers d) (among (channels_to_start step.action) d) (IsRunning (start_grant (after_effects b c step) d)) (b.state d) (λ starts. tt) (λ stays. old d))

goes_others : (b : Board) → ((d : ℕ) → IsForOthers d (b.state d)) → (d : ℕ) → IsForOthers d ((after_goes b).state d)
unfolding state_after_goes
goes_others b old d = by_test (IsForOthers d) (among (goers_at_once b) d) _ _ (λ goes. tt) (λ stays. old d)

taking_others : (b : Board) (c : ℕ) → ((d : ℕ) → IsForOthers d (b.state d)) → (d : ℕ) → IsForOthers d ((after_taking b c).state d)
unfolding state_after_taking
taking_others b c old d = by_test (IsForOthers d) (d == c) _ _ (λ here. tt) (λ other. old d)

takings_others : (n : ℕ) (b : Board) → ((d : ℕ) → IsForOthers d (b.state d)) → (d : ℕ) → IsForOthers d ((takings n b).board.state d)
takings_others zero b old = old
takings_others (suc n) b old = next (takings_others n) (next_taker b)
  where
    next : ((a : Board) → ((d : ℕ) → IsForOthers d (a.state d)) → (d : ℕ) → IsForOthers d ((takings n a).board.state d)) → (taker : Option ℕ)
        → (d : ℕ) → IsForOthers d ((takings_from (takings n) b taker).board.state d)
    next rest None = old
    next rest (Some c) = rest (after_taking b c) (taking_others b c old)

step_settled : (b : Board) (c : ℕ) (step : Step) → IsSettled b → IsSettled (after_step b c step)
step_settled b c step old =
    let a : Board = after_step b c step in
    let rest : NobodyCanGo (after_step b c step) = settled b c step in
    record {
      goes = λ d on. kept_off (λ e. goes_at_once (after_step b c step) ((after_step b c step).state e)) channel_numbers d on (ap (λ (xs : List ℕ). among xs d) rest.no_goer);
      takes = λ d on. kept_off (can_take (after_step b c step)) channel_numbers d on (ap (λ (xs : List ℕ). among xs d) (empty_from (filter (can_take (after_step b c step)) channel_numbers) rest.no_taker));
      others = takings_others CHANNEL_LIMIT (after_goes (after_own_part b c step)) (goes_others (after_own_part b c step) (part_others b c step (alarm_of b c step.action) old.others));
    }

all_settled : (es : List EntryView) (b : Board) → IsSettled b → IsSettled (after_entries b es)
all_settled [] b old = old
all_settled (e ∷ es) b old = all_settled es (after_step b e.channel e.step) (step_settled b e.channel e.step old)

-- ---- what is missing

-- an axis that the channel cannot have is another's
is_another's : (b : Board) (c : ℕ) (from_standing : Bool) (o : Ownership) → may_be_taken b c from_standing (owner_of o) ≡ false → (d : ℕ) × ((o ≡ OwnedBy d) × ((d == c) ≡ false))
is_another's b c from_standing (OwnedBy d) off =
    (d, (refl, false_from_ne_true (d == c) (λ own. no_truth ((d == c) || (from_standing && stands (b.state d))) (or_left (d == c) (from_standing && stands (b.state d)) own) off)))
is_another's b c from_standing (FreeAt p) off = no_truth true refl off

lacks_in : (b : Board) (c : ℕ) (hold : Hold) (line : ℕ) → goes_at_once b (IsHolding hold line) ≡ false → IsForOthers c (IsHolding hold line)
    → (can_take b c ≡ false) → b.state c ≡ IsHolding hold line → Lacks b c hold
lacks_in b c (AtMarks number named) line goes others takes is =
    let w : Fails (λ d. b.marks d number) named = one_fails (λ d. b.marks d number) named goes in
    record {
      other = w.one;
      is_named = w.inside;
      is_other = false_from_ne_true (w.one == c) (λ same. no_truth (among named c) (subst (λ (d : ℕ). among named d ≡ true) (eqb-true w.one c same) w.inside) others);
      is_low = w.off;
    }
lacks_in b c (AtEnds named) line goes others takes is =
    let w : Fails (λ d. has_ended (b.state d)) named = one_fails (λ d. has_ended (b.state d)) named goes in
    record { other = w.one; is_named = w.inside; runs_on = w.off }
lacks_in b c (AtAxes from_standing axes) line goes others takes is =
    let has : Bool → ℕ → Bool = λ standing x. may_be_taken b c standing (owner_of (b.axis x)) in
    let off : list_all (has from_standing) axes ≡ false = subst (λ (s : State). (waits_for_axes s && list_all (has (takes_from_standing s)) (axes_asked s)) ≡ false) is takes in
    let w : Fails (λ x. may_be_taken b c from_standing (owner_of (b.axis x))) axes = one_fails (has from_standing) axes off in
    let o = is_another's b c from_standing (b.axis w.one) w.off in
    record { axis = w.one; owner = o.0; is_asked = w.inside; is_owned = o.1.0; is_other = o.1.1 }

pub who_waits_lacks : (start : StartView) (run : RunView) (c : ℕ) (hold : Hold) (line : ℕ) → WhoWaitsLacks start run c hold line
who_waits_lacks start run c hold line whole from below is =
    let b : Board = after_entries (first_board start) run.entries in
    let s : IsSettled (after_entries (first_board start) run.entries) = all_settled run.entries (first_board start) (first_settled start) in
    let on : among channel_numbers c ≡ true = numbers_in CHANNEL_LIMIT 1 c from below in
    lacks_in b c hold line (rw is at (s.goes c on)) (rw is at (s.others c)) (s.takes c on) is
