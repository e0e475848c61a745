-- A step of a run is clean where it has no race, and leads where the machine's turn leads.
use Rattle.std.proofs.Common.{◌≡◌, ℕ, suc, ◌+◌, ◌<◌, ◌==◌, ◌||◌, not, true, false, List, [], ◌∷◌, ◌++◌, length, length-append, Some, refl, sym, ap, ap₂, subst, ◌∙◌, arith}
use Rattle.std.proofs.lemmas.Bool.{true≢false}
use Rattle.sync_types.specs.Boards.{State as Doing, IsRunning, Board, is_running, is_idle, first_board, first_state}
use Rattle.sync_types.specs.Starts.{IsSound, runs_at_first}
use Rattle.sync_types.specs.Turns.{Move, after_step, after_moves, AreOfRunning}
use Rattle.sync_types.specs.Views.{StartView}
use Rattle.sync_types.specs.declared.Step.{Step}
use Rattle.sync_types.proofs.BoardTests.{by_test}
use Rattle.order_clocks.specs.Happenings.{board_at}
use Rattle.order_clocks.proofs.RaceCases.{races_agree}
use Rattle.order_clocks.proofs.WholeLaws.{board_zero}
use Rattle.board_laws.specs.Machine.{Seat, In, Own, State, ready, doing_of, with_effect, effect, touches, turn_by, runs_at}
use Rattle.board_laws.specs.Machine as machine
use Rattle.board_laws.specs.Clean.{IsClean, Rests}
use Rattle.board_laws.proofs.Actions.{act_is}
use Rattle.board_laws.proofs.Back.{turned}
use Rattle.board_laws.proofs.Basics.{running_ready}
use Rattle.board_laws.proofs.Invariants.{put_inv}
use Rattle.board_laws.proofs.Law.{swap_turns}
use Rattle.board_laws.proofs.Zones.{zones_first}
use Rattle.schedule_laws.specs.Swaps.{HasNoRaceAt, EitherWay, MaySwap}
use Rattle.schedule_laws.specs.Tracking.{RunsAreTracked}
use Rattle.schedule_laws.specs.Tracked.{move_at, rows_at, clocks_at, own_at, tracked}
use Rattle.schedule_laws.proofs.Steps.{Fresh, Here, here, mid, seat_at, zones_at, board_told}
use Rattle.schedule_laws.proofs.Held.{held_at, held_in, inv_at, rests_at, kept_told}
use Rattle.schedule_laws.proofs.RacesClean.{quiet_clean, unready_stays}
use Rattle.schedule_laws.proofs.NextOwn.{running_kept}
use Rattle.schedule_laws.proofs.NextState.{tracked_next}
use Rattle.schedule_laws.proofs.CleanRaces.{clean_quiet}
use Rattle.schedule_laws.proofs.EventLaws.{SameClocks, same_order}
use Rattle.schedule_laws.proofs.EventKinds.{kinds_told}
use Rattle.schedule_laws.proofs.NextTurn.{spans_own}
use Rattle.schedule_laws.proofs.Prefix.{tracked_kept}

-- where runs start
pub fresh_first : (start : StartView) → IsSound start → Fresh (first_board start)
unfolding first_state
fresh_first start sound = record {
  zones = zones_first start sound;
  awake = λ c. by_test (λ s. (is_idle s || is_running s) ≡ true) (runs_at_first start c) _ _ (λ runs. refl) (λ rests. refl);
  marks = λ c m. refl;
}

abbrev move_made : ℕ → Step → Move
move_made p s = record { channel = p; step = s }

same_move : (p q : ℕ) (s r : Step) → Some (move_made p s) ≡ Some (move_made q r) → move_made p s ≡ move_made q r
same_move p q s r e = cc

here_is : (b : Board) (moves : List Move) (i p : ℕ) (s : Step) (w : Here b moves i) → move_at moves i ≡ Some (move_made p s) → (w.p ≡ p) × (w.step ≡ s)
here_is b moves i p s w e =
    let m = same_move w.p p w.step s (sym w.at ∙ e) in
    (ap (λ (x : Move). x.channel) m, ap (λ (x : Move). x.step) m)

-- a step without a race
pub record Stepped (b : Board) (moves : List Move) (i p : ℕ) (s : Step) : Type 0 where
  pub clean : IsClean (tracked b moves i) p s
  pub quiet : HasNoRaceAt b moves i
  pub next : tracked b moves (suc i) ≡ turn_by (tracked b moves i) p s
  pub runs : runs_at (tracked b moves i) p ≡ true

in_here : (b : Board) (moves : List Move) (i p : ℕ) (s : Step) (w : Here b moves i) → (w.p ≡ p) × (w.step ≡ s) → IsClean (tracked b moves i) w.p w.step → HasNoRaceAt b moves i → tracked b moves (suc i) ≡ turn_by (tracked b moves i) w.p w.step → Stepped b moves i p s
in_here b moves i p s w e clean quiet next = record {
  clean = subst (λ (x : ℕ). IsClean (tracked b moves i) x s) e.0 (subst (λ (x : Step). IsClean (tracked b moves i) w.p x) e.1 clean);
  quiet = quiet;
  next = next ∙ ap₂ (λ (x : ℕ) (y : Step). turn_by (tracked b moves i) x y) e.0 e.1;
  runs = ap (λ (x : ℕ). runs_at (tracked b moves i) x) (sym e.0) ∙ w.run;
}

pub quiet_step : (b : Board) (moves : List Move) (i p : ℕ) (s : Step) → Fresh b → AreOfRunning b moves → i < length moves → move_at moves i ≡ Some (move_made p s) → HasNoRaceAt b moves i → Stepped b moves i p s
quiet_step b moves i p s fresh run inside at none =
    let w = here b moves i fresh run inside in
    let h = held_at b moves i fresh run (omega (arith, inside)) in
    let held = held_in b moves i w h in
    let inv = put_inv (tracked b moves i) w.p (touches w.step.action) (effect (tracked b moves i) w.p w.step) (inv_at b moves i h) (act_is (tracked b moves i) w.p w.step) in
    let clean = quiet_clean b moves i (record { here = w; held = held; inv = inv; inside = inside; none = λ race is. none race ((races_agree b moves i race).1 is) }) in
    in_here b moves i p s w (here_is b moves i p s w at) clean none (tracked_next b moves i (record { here = w; held = held; inv = inv; clean = clean.going }))

pub clean_step : (b : Board) (moves : List Move) (i p : ℕ) (s : Step) → Fresh b → AreOfRunning b moves → i < length moves → move_at moves i ≡ Some (move_made p s) → IsClean (tracked b moves i) p s → Stepped b moves i p s
clean_step b moves i p s fresh run inside at clean =
    let w = here b moves i fresh run inside in
    let e = here_is b moves i p s w at in
    let h = held_at b moves i fresh run (omega (arith, inside)) in
    let held = held_in b moves i w h in
    let inv = put_inv (tracked b moves i) w.p (touches w.step.action) (effect (tracked b moves i) w.p w.step) (inv_at b moves i h) (act_is (tracked b moves i) w.p w.step) in
    let clean' : IsClean (tracked b moves i) w.p w.step = subst (λ (x : Step). IsClean (tracked b moves i) w.p x) (sym e.1) (subst (λ (x : ℕ). IsClean (tracked b moves i) x s) (sym e.0) clean) in
    let none : HasNoRaceAt b moves i = λ race is. clean_quiet b moves i (record { here = w; held = held; inv = inv; inside = inside; clean = clean' }) race ((races_agree b moves i race).0 is) in
    in_here b moves i p s w e clean' none (tracked_next b moves i (record { here = w; held = held; inv = inv; clean = clean'.going }))

-- steps and more steps
pub board_end : (b : Board) (ms : List Move) → board_at b ms (length ms) ≡ after_moves b ms
board_end b [] = refl
board_end b (m ∷ ms) = board_end (after_step b m.channel m.step) ms

pub after_more : (b : Board) (ms ns : List Move) → after_moves b (ms ++ ns) ≡ after_moves (after_moves b ms) ns
after_more b [] ns = refl
after_more b (m ∷ ms) ns = after_more (after_step b m.channel m.step) ms ns

pub are_more : (b : Board) (ms ns : List Move) → AreOfRunning b ms → AreOfRunning (after_moves b ms) ns → AreOfRunning b (ms ++ ns)
are_more b [] ns run more = more
are_more b (m ∷ ms) ns run more = (run.0, are_more (after_step b m.channel m.step) ms ns run.1 more)

pub move_there : (ms : List Move) (m : Move) (ns : List Move) → move_at (ms ++ m ∷ ns) (length ms) ≡ Some m
move_there [] m ns = refl
move_there (x ∷ ms) m ns = move_there ms m ns

move_next : (ms : List Move) (m k : Move) (ns : List Move) → move_at (ms ++ m ∷ k ∷ ns) (suc (length ms)) ≡ Some k
move_next [] m k ns = refl
move_next (x ∷ ms) m k ns = move_next ms m k ns

running_in : (s : Doing) → is_running s ≡ true → machine.is_running (In s) ≡ true
running_in (IsRunning g) on = refl
running_in s on = absurd (true≢false (sym on))

board_begin : (b : Board) (ms ns : List Move) → board_at b (ms ++ ns) (length ms) ≡ after_moves b ms
board_begin b [] ns = board_zero ns b
board_begin b (m ∷ ms) ns = board_begin (after_step b m.channel m.step) ms ns

board_second : (b : Board) (ms : List Move) (m : Move) (ns : List Move) → board_at b (ms ++ m ∷ ns) (suc (length ms)) ≡ after_step (after_moves b ms) m.channel m.step
board_second b [] m ns = board_zero ns (after_step b m.channel m.step)
board_second b (x ∷ ms) m ns = board_second (after_step b x.channel x.step) ms m ns

-- a channel that runs does so after a step of another
pub runs_on : (b : Board) (ms : List Move) (m : Move) (q : ℕ) → Fresh b → AreOfRunning b ms → is_running ((after_moves b ms).state m.channel) ≡ true → is_running ((after_moves b ms).state q) ≡ true → (q == m.channel) ≡ false
    → is_running ((after_step (after_moves b ms) m.channel m.step).state q) ≡ true
runs_on b ms m q fresh run m_runs q_runs n =
    let all : List Move = ms ++ m ∷ [] in
    let run' : AreOfRunning b all = are_more b ms (m ∷ []) run (m_runs, tt) in
    let size : length all ≡ length ms + 1 = length-append ms (m ∷ []) in
    let w = here b all (length ms) fresh run' (omega (arith, size)) in
    let e = here_is b all (length ms) m.channel m.step w (move_there ms m []) in
    let end : board_at b all (length ms) ≡ after_moves b ms = board_begin b ms (m ∷ []) in
    let next : board_at b all (suc (length ms)) ≡ after_step (after_moves b ms) m.channel m.step = board_second b ms m [] in
    let own = running_kept b all (length ms) w q (ap (λ (z : ℕ). q == z) e.0 ∙ n) (ap (λ (a : Board). is_running (a.state q)) end ∙ q_runs) in
    let seat : ((mid w).own q).seat ≡ In ((board_at b all (length ms)).state q) = ap (λ (o : Own). o.seat) own ∙ seat_at b all (length ms) q in
    let running : machine.is_running ((mid w).own q).seat ≡ true = ap (λ (s : Seat). machine.is_running s) seat ∙ running_in ((board_at b all (length ms)).state q) (ap (λ (a : Board). is_running (a.state q)) end ∙ q_runs) in
    let out = unready_stays b all (length ms) w q (running_ready (mid w) q ((mid w).own q).seat running) in
    ap (λ (a : Board). is_running (a.state q)) (sym next) ∙ ap is_running (kept_told b all (length ms) w q out ∙ ap (λ (s : Seat). doing_of (mid w) q s) seat) ∙ ap (λ (a : Board). is_running (a.state q)) end ∙ q_runs

pub count_own : (b : Board) (ms : List Move) (i c : ℕ) → (own_at b ms i c).count ≡ (rows_at b ms i).past c c
unfolding own_at
count_own b ms i c = refl

pub log_own : (b : Board) (ms : List Move) (i c : ℕ) → (own_at b ms i c).log ≡ clocks_at b ms i c
unfolding own_at
log_own b ms i c = refl

-- two runs that the machine does not tell apart
pub same_end : (b : Board) (ms ns : List Move) → Fresh b → AreOfRunning b ms → AreOfRunning b ns → tracked b ms (length ms) ≡ tracked b ns (length ns) → (after_moves b ms ≡ after_moves b ns) × SameClocks b ms ns
same_end b ms ns fresh run run' e = (
  sym (board_end b ms) ∙ sym (board_told b ms (length ms) (zones_at b ms (length ms) fresh.zones run (omega arith))) ∙ ap machine.board_of e ∙ board_told b ns (length ns) (zones_at b ns (length ns) fresh.zones run' (omega arith)) ∙ board_end b ns,
  record {
    count = λ c. sym (count_own b ms (length ms) c) ∙ ap (λ (t : State). (t.own c).count) e ∙ count_own b ns (length ns) c;
    log = λ c n x. sym (ap (λ (f : ℕ → machine.Clock). f n x) (log_own b ms (length ms) c)) ∙ ap (λ (t : State). (t.own c).log n x) e ∙ ap (λ (f : ℕ → machine.Clock). f n x) (log_own b ns (length ns) c);
    kind = λ c n d same_d at_d at_same.
        (kinds_told b ms c (length ms) fresh run (omega arith)).kind n d at_d
        ∙ ap (λ (f : ℕ → machine.Span). not (is_running (f n).state)) (sym (spans_own b ms (length ms) c) ∙ ap (λ (t : State). (t.own c).spans) e ∙ spans_own b ns (length ns) c)
        ∙ sym ((kinds_told b ns c (length ns) fresh run' (omega arith)).kind n same_d at_same);
  },
)

-- two steps in either order
pub either_way : (start : StartView) (ms : List Move) (one other : Move) → MaySwap start ms one other → EitherWay (first_board start) ms one other
either_way start ms one other w =
    let b : Board = first_board start in
    let fresh = fresh_first start w.sound in
    let n : ℕ = length ms in
    let left : List Move = ms ++ one ∷ other ∷ [] in
    let right : List Move = ms ++ other ∷ one ∷ [] in
    let back : (other.channel == one.channel) ≡ false = turned one.channel other.channel w.differ in
    let run_left : AreOfRunning b left = are_more b ms (one ∷ other ∷ []) w.run (w.one_runs, (runs_on b ms one other.channel fresh w.run w.one_runs w.other_runs back, tt)) in
    let run_right : AreOfRunning b right = are_more b ms (other ∷ one ∷ []) w.run (w.other_runs, (runs_on b ms other one.channel fresh w.run w.other_runs w.one_runs w.differ, tt)) in
    let size_left : length left ≡ n + 2 = length-append ms (one ∷ other ∷ []) in
    let size_right : length right ≡ n + 2 = length-append ms (other ∷ one ∷ []) in
    let first = quiet_step b left n one.channel one.step fresh run_left (omega (arith, size_left)) (move_there ms one (other ∷ [])) w.quiet.first in
    let second = quiet_step b left (suc n) other.channel other.step fresh run_left (omega (arith, size_left)) (move_next ms one other []) w.quiet.second in
    let t : State = tracked b left n in
    let same : t ≡ tracked b right n = tracked_kept b ms (one ∷ other ∷ []) (other ∷ one ∷ []) n (omega arith) in
    let rests : Rests t = rests_at b left n (held_at b left n fresh run_left (omega (arith, size_left))) in
    let second_clean : IsClean (turn_by t one.channel one.step) other.channel other.step = subst (λ (x : State). IsClean x other.channel other.step) first.next second.clean in
    let other_runs : runs_at t other.channel ≡ true = ap (λ (s : Seat). machine.is_running s) (seat_at b left n other.channel) ∙ running_in ((board_at b left n).state other.channel) (ap (λ (a : Board). is_running (a.state other.channel)) (board_begin b ms (one ∷ other ∷ [])) ∙ w.other_runs) in
    let swap = swap_turns t one.channel other.channel one.step other.step rests w.differ back first.runs other_runs first.clean second_clean in
    let third = clean_step b right n other.channel other.step fresh run_right (omega (arith, size_right)) (move_there ms other (one ∷ [])) (subst (λ (x : State). IsClean x other.channel other.step) same swap.first) in
    let middle : tracked b right (suc n) ≡ turn_by t other.channel other.step = third.next ∙ ap (λ (x : State). turn_by x other.channel other.step) (sym same) in
    let fourth = clean_step b right (suc n) one.channel one.step fresh run_right (omega (arith, size_right)) (move_next ms other one []) (subst (λ (x : State). IsClean x one.channel one.step) (sym middle) swap.second) in
    let end_left : tracked b left (suc (suc n)) ≡ turn_by (turn_by t one.channel one.step) other.channel other.step = second.next ∙ ap (λ (x : State). turn_by x other.channel other.step) first.next in
    let end_right : tracked b right (suc (suc n)) ≡ turn_by (turn_by t other.channel other.step) one.channel one.step = fourth.next ∙ ap (λ (x : State). turn_by x one.channel one.step) middle in
    let ends : tracked b left (length left) ≡ tracked b right (length right) =
    ap (λ (i : ℕ). tracked b left i) (omega (arith, size_left)) ∙ end_left ∙ swap.state ∙ sym end_right ∙ sym (ap (λ (i : ℕ). tracked b right i) (omega (arith, size_right))) in
    let alike = same_end b left right fresh run_left run_right ends in
    record { board = alike.0; order = same_order b left right alike.1; quiet = record { first = third.quiet; second = fourth.quiet } }

-- each run is tracked
pub tracked_runs : (start : StartView) (moves : List Move) (i : ℕ) (m : Move) → RunsAreTracked start moves i m
tracked_runs start moves i m sound run inside at =
    let b : Board = first_board start in
    let fresh = fresh_first start sound in
    record {
      board = board_told b moves i (zones_at b moves i fresh.zones run (omega (arith, inside)));
      rests = rests_at b moves i (held_at b moves i fresh run (omega (arith, inside)));
      clean = (λ none. (quiet_step b moves i m.channel m.step fresh run inside at none).clean, λ clean. (clean_step b moves i m.channel m.step fresh run inside at clean).quiet);
      next = λ none. (quiet_step b moves i m.channel m.step fresh run inside at none).next;
    }
