-- Runs of a script and runs of the machine.
use Rattle.std.proofs.Common.{◌≡◌, ℕ, zero, suc, ◌≤◌, ◌<◌, ◌==◌, not, true, false, List, [], ◌∷◌, ◌++◌, length, Some, inl, inr, refl, sym, ap, ap₂, subst, ◌∙◌, arith, if◌then◌else◌}
use Rattle.std.proofs.lemmas.Bool.{cases_Bool, eqb-true, true≢false}
use Rattle.sync_types.proofs.BoardTests.{some_pass, none_pass}
use Rattle.sync_types.proofs.Replays.{run_is_replay}
use Rattle.sync_types.proofs.Together.{Keeps, keeps_first, keeps_step}
use Rattle.sync_types.specs.BoardEnds.{ends_of}
use Rattle.sync_types.specs.Boards.{State as Doing, IsIdle, IsRunning, Board, among, channel_numbers, grant_in, is_running, first_board}
use Rattle.sync_types.specs.Runs.{Script, Stage, IsRun, as_list, gets_a_grant, first_stage, next_move, after_turn, moves_of, stage_after, is_over}
use Rattle.sync_types.specs.Starts.{IsSound, has_channel}
use Rattle.sync_types.specs.Turns.{Move, after_step, AreOfRunning}
use Rattle.sync_types.specs.Views.{StartView}
use Rattle.sync_types.specs.declared.Grant.{Grant}
use Rattle.sync_types.specs.declared.Step.{Step}
use Rattle.order_clocks.specs.Happenings.{Happening, board_at}
use Rattle.order_clocks.proofs.WholeLaws.{board_zero}
use Rattle.board_laws.specs.Clean.{IsClean, Clean, Rests}
use Rattle.board_laws.specs.Machine.{Seat, In, State, turn, turn_by, runs_at, next_step}
use Rattle.board_laws.specs.Machine as machine
use Rattle.board_laws.specs.Sequences as sequences
use Rattle.board_laws.proofs.Basics.{no}
use Rattle.board_laws.proofs.OneResult.{first}
use Rattle.schedule_laws.specs.Schedules.{HasChannelNumbers, moves_by, IsRunOf, IsMaximalOf, HasNoRace, HaveSameResult, GoesOnAlike, IsQuietRun}
use Rattle.schedule_laws.specs.Swaps.{HasNoRaceAt}
use Rattle.schedule_laws.specs.Tracked.{move_at, actor, grants_at, tracked}
use Rattle.schedule_laws.proofs.Steps.{Fresh, step_at, seat_at}
use Rattle.schedule_laws.proofs.Held.{held_at, rests_at}
use Rattle.schedule_laws.proofs.NextTurn.{grants_own}
use Rattle.schedule_laws.proofs.EventLaws.{same_order}
use Rattle.schedule_laws.proofs.Prefix.{tracked_kept}
use Rattle.schedule_laws.proofs.Stepwise.{fresh_first, Stepped, quiet_step, clean_step, board_end, same_end}

-- the steps from a place on
abbrev pub from_place : List Move → ℕ → List Move
from_place ms zero = ms
from_place [] (suc i) = []
from_place (m ∷ ms) (suc i) = from_place ms i

pub record At (ms : List Move) (i : ℕ) (m : Move) (rest : List Move) : Type 0 where
  pub at : move_at ms i ≡ Some m
  pub later : from_place ms (suc i) ≡ rest
  pub inside : i < length ms

head_of : (m k : Move) (ms ns : List Move) → m ∷ ms ≡ k ∷ ns → (m ≡ k) × (ms ≡ ns)
head_of m k ms ns e = (let s : m ≡ k = cc in s, let s : ms ≡ ns = cc in s)

pub at_from : (ms : List Move) (i : ℕ) (m : Move) (rest : List Move) → from_place ms i ≡ m ∷ rest → At ms i m rest
at_from [] zero m rest e = let bad : ⊥ = cc in absurd bad
at_from [] (suc i) m rest e = let bad : ⊥ = cc in absurd bad
at_from (x ∷ ms) zero m rest e = let h = head_of x m ms rest e in record { at = ap Some h.0; later = h.1; inside = omega arith }
at_from (x ∷ ms) (suc i) m rest e = let w = at_from ms i m rest e in let l = w.inside in record { at = w.at; later = w.later; inside = omega (arith, l) }

pub none_from : (ms : List Move) (i : ℕ) → from_place ms i ≡ [] → i ≤ length ms → i ≡ length ms
none_from [] zero e inside = refl
none_from [] (suc i) e inside = absurd (omega (arith, inside))
none_from (x ∷ ms) zero e inside = let bad : ⊥ = cc in absurd bad
none_from (x ∷ ms) (suc i) e inside = let s = none_from ms i e (omega (arith, inside)) in omega (arith, s)

-- from this place on these channels make the steps of the script
abbrev pub Follows : Script → Board → List Move → ℕ → List ℕ → Type 0
Follows script b moves i [] = i ≡ length moves
Follows script b moves i (c ∷ cs) = (move_at moves i ≡ Some (record { channel = c; step = script c (grants_at b moves i c) })) × ((i < length moves) × Follows script b moves (suc i) cs)

same_some : (m k : Move) → Some m ≡ Some k → m ≡ k
same_some m k e = cc

-- where the machine and the stage of a run agree
record Agrees (b : Board) (moves : List Move) (i : ℕ) (stage : Stage) : Type 0 where
  pub board : stage.board ≡ board_at b moves i
  pub grants : (c : ℕ) → stage.grants c ≡ grants_at b moves i c

grants_after : Board → Board → ℕ → ℕ → List Grant → List Grant
grants_after old new c d gs = if gets_a_grant old c d then gs ++ as_list (grant_in (new.state d)) else gs

agrees_next : (script : Script) (b : Board) (moves : List Move) (i : ℕ) (stage : Stage) (c : ℕ) → AreOfRunning b moves → Agrees b moves i stage → move_at moves i ≡ Some (next_move script stage c) → i < length moves
    → Agrees b moves (suc i) (after_turn script stage c)
unfolding grants_after
agrees_next script b moves i stage c run w at inside =
    let s = step_at b moves i inside run in
    let m : s.move ≡ next_move script stage c = same_some s.move (next_move script stage c) (sym s.at ∙ at) in
    let board : after_step stage.board c (script c (stage.grants c)) ≡ board_at b moves (suc i) =
    ap (λ (a : Board). after_step a c (script c (stage.grants c))) w.board ∙ ap (λ (k : Move). after_step (board_at b moves i) k.channel k.step) (sym m) ∙ sym s.after in
    let who : c ≡ actor b moves i = ap (λ (k : Move). k.channel) (sym m) ∙ sym (ap (λ (h : Happening). h.channel) s.happens) in
    record {
      board = board;
      grants = λ d.
          ap (λ (a : Board). grants_after a (after_step stage.board c (script c (stage.grants c))) c d (stage.grants d)) w.board
          ∙ ap (λ (a : Board). grants_after (board_at b moves i) a c d (stage.grants d)) board
          ∙ ap₂ (λ (x : ℕ) (gs : List Grant). grants_after (board_at b moves i) (board_at b moves (suc i)) x d gs) who (w.grants d);
    }

follows : (script : Script) (b : Board) (moves : List Move) (cs : List ℕ) (i : ℕ) (stage : Stage) → AreOfRunning b moves → Agrees b moves i stage → from_place moves i ≡ moves_of script stage cs → i ≤ length moves
    → Follows script b moves i cs × Agrees b moves (length moves) (stage_after script stage cs)
follows script b moves [] i stage run w e inside =
    let s = none_from moves i e inside in
    (s, subst (λ (j : ℕ). Agrees b moves j stage) s w)
follows script b moves (c ∷ cs) i stage run w e inside =
    let a = at_from moves i (next_move script stage c) (moves_of script (after_turn script stage c) cs) e in
    let l = a.inside in
    let r = follows script b moves cs (suc i) (after_turn script stage c) run (agrees_next script b moves i stage c run w a.at l) a.later (omega (arith, l)) in
    ((a.at ∙ ap (λ (gs : List Grant). Some (move_of c (script c gs))) (w.grants c), (l, r.0)), r.1)
  where
    move_of : ℕ → Step → Move
    move_of c s = record { channel = c; step = s }

-- a run from its start
pub record RunTold (script : Script) (start : StartView) (cs : List ℕ) : Type 0 where
  pub run : AreOfRunning (first_board start) (moves_by script start cs)
  pub follows : Follows script (first_board start) (moves_by script start cs) 0 cs
  pub board : (stage_after script (first_stage start) cs).board ≡ board_at (first_board start) (moves_by script start cs) (length (moves_by script start cs))
  pub grants : (c : ℕ) → (stage_after script (first_stage start) cs).grants c ≡ grants_at (first_board start) (moves_by script start cs) (length (moves_by script start cs)) c

pub run_told : (script : Script) (start : StartView) (cs : List ℕ) → IsRunOf script start cs → RunTold script start cs
run_told script start cs run =
    let b : Board = first_board start in
    let moves : List Move = moves_by script start cs in
    let running = (run_is_replay script (first_stage start) cs run).running in
    let f = follows script b moves cs 0 (first_stage start) running (record { board = sym (board_zero moves b); grants = λ c. refl }) refl (omega arith) in
    record { run = running; follows = f.0; board = f.1.board; grants = f.1.grants }

-- the machine's runs
abbrev pub Quiet : Board → List Move → ℕ → Type 0
Quiet b moves i = (j : ℕ) → i ≤ j → j < length moves → HasNoRaceAt b moves j

turn_next : (script : Script) (b : Board) (moves : List Move) (i c : ℕ) → Stepped b moves i c (script c (grants_at b moves i c)) → (Clean script (tracked b moves i) c) × (turn script (tracked b moves i) c ≡ tracked b moves (suc i))
turn_next script b moves i c w =
    let e : script c (grants_at b moves i c) ≡ next_step script (tracked b moves i) c = ap (λ (gs : List Grant). script c gs) (sym (grants_own b moves i c)) in
    (subst (λ (s : Step). IsClean (tracked b moves i) c s) e w.clean, ap (λ (s : Step). turn_by (tracked b moves i) c s) (sym e) ∙ sym w.next)

record MachineRun (script : Script) (b : Board) (moves : List Move) (i : ℕ) (cs : List ℕ) : Type 0 where
  pub run : sequences.IsRun (turn script) runs_at (tracked b moves i) cs
  pub clean : sequences.AreClean (turn script) (Clean script) (tracked b moves i) cs
  pub ends : sequences.end_of (turn script) (tracked b moves i) cs ≡ tracked b moves (length moves)

quiet_runs : (script : Script) (b : Board) (moves : List Move) (cs : List ℕ) (i : ℕ) → Fresh b → AreOfRunning b moves → Follows script b moves i cs → Quiet b moves i → MachineRun script b moves i cs
quiet_runs script b moves [] i fresh run f quiet = record { run = tt; clean = tt; ends = ap (λ (j : ℕ). tracked b moves j) f }
quiet_runs script b moves (c ∷ cs) i fresh run f quiet =
    let s = quiet_step b moves i c (script c (grants_at b moves i c)) fresh run f.1.0 f.0 (quiet i (omega arith) f.1.0) in
    let t = turn_next script b moves i c s in
    let r = quiet_runs script b moves cs (suc i) fresh run f.1.1 (λ j up inside. quiet j (omega (arith, up)) inside) in
    record {
      run = (s.runs, subst (λ (x : State). sequences.IsRun (turn script) runs_at x cs) (sym t.1) r.run);
      clean = (t.0, subst (λ (x : State). sequences.AreClean (turn script) (Clean script) x cs) (sym t.1) r.clean);
      ends = ap (λ (x : State). sequences.end_of (turn script) x cs) t.1 ∙ r.ends;
    }

clean_runs : (script : Script) (b : Board) (moves : List Move) (cs : List ℕ) (i : ℕ) → Fresh b → AreOfRunning b moves → Follows script b moves i cs → sequences.AreClean (turn script) (Clean script) (tracked b moves i) cs
    → Quiet b moves i × (sequences.end_of (turn script) (tracked b moves i) cs ≡ tracked b moves (length moves))
clean_runs script b moves [] i fresh run f clean = (λ j up inside. absurd (omega (arith, up, inside, f)), ap (λ (j : ℕ). tracked b moves j) f)
clean_runs script b moves (c ∷ cs) i fresh run f clean =
    let e : next_step script (tracked b moves i) c ≡ script c (grants_at b moves i c) = ap (λ (gs : List Grant). script c gs) (grants_own b moves i c) in
    let s = clean_step b moves i c (script c (grants_at b moves i c)) fresh run f.1.0 f.0 (subst (λ (x : Step). IsClean (tracked b moves i) c x) e clean.0) in
    let t = turn_next script b moves i c s in
    let r = clean_runs script b moves cs (suc i) fresh run f.1.1 (subst (λ (x : State). sequences.AreClean (turn script) (Clean script) x cs) t.1 clean.1) in (
      λ j up inside. elim (cases_Bool (j == i)) [
        | inl y ↦ subst (λ (k : ℕ). HasNoRaceAt b moves k) (sym (eqb-true j i y)) s.quiet
        | inr n ↦ r.0 j (above j i up n) inside
      ],
      ap (λ (x : State). sequences.end_of (turn script) x cs) t.1 ∙ r.1,
    )
  where
    above : (j i : ℕ) → i ≤ j → (j == i) ≡ false → suc i ≤ j
    above j i up n = grind (arith, up, n)

-- all runs begin alike
pub begin : (b : Board) (moves : List Move) → tracked b moves 0 ≡ tracked b [] 0
begin b moves = tracked_kept b [] moves [] 0 (omega arith)

-- who runs is a channel of the machine
idle_not_runs : (s : Doing) → s ≡ IsIdle → is_running s ≡ false
idle_not_runs s e = ap is_running e

record Kept (b : Board) (moves : List Move) (i : ℕ) : Type 0 where
  pub keeps : Keeps (board_at b moves i)
  pub start : (board_at b moves i).start ≡ b.start

runs_known : (a : Board) (c : ℕ) → Keeps a → is_running (a.state c) ≡ true → has_channel a.start c ≡ true
runs_known a c k on = elim (cases_Bool (has_channel a.start c)) [
  | inl y ↦ y
  | inr n ↦ no on (idle_not_runs (a.state c) (k.asleep c n))
]

kept_at : (b : Board) (moves : List Move) (i : ℕ) → Keeps b → AreOfRunning b moves → i ≤ length moves → Kept b moves i
kept_at b moves zero k run inside = record { keeps = subst (λ (a : Board). Keeps a) (sym (board_zero moves b)) k; start = ap (λ (a : Board). a.start) (board_zero moves b) }
kept_at b moves (suc i) k run inside =
    let w = kept_at b moves i k run (omega (arith, inside)) in
    let s = step_at b moves i inside run in
    let n = keeps_step (board_at b moves i) s.move (runs_known (board_at b moves i) s.move.channel w.keeps s.runs) w.keeps in
    record { keeps = subst (λ (a : Board). Keeps a) (sym s.after) n.0; start = ap (λ (a : Board). a.start) s.after ∙ n.1 ∙ w.start }

runs_back : (s : Doing) → machine.is_running (In s) ≡ true → is_running s ≡ true
runs_back (IsRunning g) on = refl
runs_back s on = absurd (true≢false (sym on))

runs_in : (s : Doing) → is_running s ≡ true → machine.is_running (In s) ≡ true
runs_in (IsRunning g) on = refl
runs_in s on = absurd (true≢false (sym on))

-- where no channel runs, none of the machine does
machine_over : (start : StartView) (moves : List Move) (p : ℕ) → IsSound start → HasChannelNumbers start → AreOfRunning (first_board start) moves → is_over (board_at (first_board start) moves (length moves)) ≡ true
    → runs_at (tracked (first_board start) moves (length moves)) p ≡ false
machine_over start moves p sound numbers run over = elim (cases_Bool (runs_at (tracked (first_board start) moves (length moves)) p)) [
  | inr off ↦ off
  | inl on ↦
      let b : Board = first_board start in
      let n : ℕ = length moves in
      let runs : is_running ((board_at b moves n).state p) ≡ true = runs_back ((board_at b moves n).state p) (ap (λ (s : Seat). machine.is_running s) (sym (seat_at b moves n p)) ∙ on) in
      let w = kept_at b moves n (keeps_first start sound) run (omega arith) in
      let known : has_channel start p ≡ true = ap (λ (s : StartView). has_channel s p) (sym w.start) ∙ runs_known (board_at b moves n) p w.keeps runs in
      let some = some_pass (λ c. is_running ((board_at b moves n).state c)) channel_numbers p (numbers p known) runs in
      no over (ap not some)
]

board_over : (b : Board) (moves : List Move) (i : ℕ) → ((p : ℕ) → runs_at (tracked b moves i) p ≡ false) → is_over (board_at b moves i) ≡ true
board_over b moves i none = ap not (none_pass (λ c. is_running ((board_at b moves i).state c)) channel_numbers (λ p listed. elim (cases_Bool (is_running ((board_at b moves i).state p))) [
  | inr off ↦ off
  | inl on ↦ no (ap (λ (s : Seat). machine.is_running s) (seat_at b moves i p) ∙ runs_in ((board_at b moves i).state p) on) (none p)
]))

-- one more step of a run
run_more : (script : Script) (stage : Stage) (us : List ℕ) (c : ℕ) → IsRun script stage us → is_running ((stage_after script stage us).board.state c) ≡ true → IsRun script stage (us ++ c ∷ [])
run_more script stage [] c run on = (on, tt)
run_more script stage (u ∷ us) c run on = (run.0, run_more script (after_turn script stage u) us c run.1 on)

clean_more : (script : Script) (x : State) (us : List ℕ) (c : ℕ) → sequences.AreClean (turn script) (Clean script) x us → Clean script (sequences.end_of (turn script) x us) c → sequences.AreClean (turn script) (Clean script) x (us ++ c ∷ [])
clean_more script x [] c clean one = (one, tt)
clean_more script x (u ∷ us) c clean one = (clean.0, clean_more script (turn script x u) us c clean.1 one)

end_more : (script : Script) (x : State) (us : List ℕ) (c : ℕ) → sequences.end_of (turn script) x (us ++ c ∷ []) ≡ turn script (sequences.end_of (turn script) x us) c
end_more script x [] c = refl
end_more script x (u ∷ us) c = end_more script (turn script x u) us c

append_one : (us : List ℕ) (c : ℕ) (rest : List ℕ) → (us ++ c ∷ []) ++ rest ≡ us ++ c ∷ rest
append_one [] c rest = refl
append_one (u ∷ us) c rest = ap (λ (xs : List ℕ). u ∷ xs) (append_one us c rest)

append_none : (us : List ℕ) → us ++ [] ≡ us
append_none [] = refl
append_none (u ∷ us) = ap (λ (xs : List ℕ). u ∷ xs) (append_none us)

-- what a clean run of the machine is for the script
record Runs (script : Script) (start : StartView) (us : List ℕ) : Type 0 where
  pub run : IsRunOf script start us
  pub clean : sequences.AreClean (turn script) (Clean script) (tracked (first_board start) [] 0) us

ends_told : (script : Script) (start : StartView) (us : List ℕ) → IsSound start → Runs script start us
    → HasNoRace script start us × (sequences.end_of (turn script) (tracked (first_board start) [] 0) us ≡ tracked (first_board start) (moves_by script start us) (length (moves_by script start us)))
ends_told script start us sound w =
    let b : Board = first_board start in
    let moves : List Move = moves_by script start us in
    let told = run_told script start us w.run in
    let r = clean_runs script b moves us 0 (fresh_first start sound) told.run told.follows (subst (λ (x : State). sequences.AreClean (turn script) (Clean script) x us) (sym (begin b moves)) w.clean) in
    (λ i inside. r.0 i (omega arith) inside, ap (λ (x : State). sequences.end_of (turn script) x us) (sym (begin b moves)) ∙ r.1)

extend : (script : Script) (start : StartView) (us rest : List ℕ) (z : State) → IsSound start → Runs script start us → sequences.IsWhole (turn script) runs_at (Clean script) (sequences.end_of (turn script) (tracked (first_board start) [] 0) us) rest z
    → Runs script start (us ++ rest) × (sequences.end_of (turn script) (tracked (first_board start) [] 0) (us ++ rest) ≡ z)
extend script start us [] z sound w whole = (
  subst (λ (xs : List ℕ). Runs script start xs) (sym (append_none us)) w,
  ap (λ (xs : List ℕ). sequences.end_of (turn script) (tracked (first_board start) [] 0) xs) (append_none us) ∙ whole.ends,
)
extend script start us (c ∷ rest) z sound w whole =
    let b : Board = first_board start in
    let moves : List Move = moves_by script start us in
    let told = run_told script start us w.run in
    let e = (ends_told script start us sound w).1 in
    let runs : is_running ((stage_after script (first_stage start) us).board.state c) ≡ true =
    ap (λ (a : Board). is_running (a.state c)) told.board
    ∙ runs_back ((board_at b moves (length moves)).state c) (ap (λ (s : Seat). machine.is_running s) (sym (seat_at b moves (length moves) c)) ∙ ap (λ (x : State). runs_at x c) (sym e) ∙ whole.run.0) in
    let more : Runs script start (us ++ c ∷ []) = record { run = run_more script (first_stage start) us c w.run runs; clean = clean_more script (tracked b [] 0) us c w.clean whole.clean.0 } in
    let f = end_more script (tracked b [] 0) us c in
    let r = extend script start (us ++ c ∷ []) rest z sound more (subst (λ (x : State). sequences.IsWhole (turn script) runs_at (Clean script) x rest z) (sym f) (record { run = whole.run.1; clean = whole.clean.1; over = whole.over; ends = whole.ends })) in
    (subst (λ (xs : List ℕ). Runs script start xs) (append_one us c rest) r.0, ap (λ (xs : List ℕ). sequences.end_of (turn script) (tracked b [] 0) xs) (sym (append_one us c rest)) ∙ r.1)

-- runs with one end have one result
result_of : (script : Script) (start : StartView) (cs ds : List ℕ) → IsSound start → IsRunOf script start cs → IsRunOf script start ds
    → tracked (first_board start) (moves_by script start cs) (length (moves_by script start cs)) ≡ tracked (first_board start) (moves_by script start ds) (length (moves_by script start ds)) → HaveSameResult script start cs ds
result_of script start cs ds sound run_c run_d e =
    let b : Board = first_board start in
    let ms : List Move = moves_by script start cs in
    let ns : List Move = moves_by script start ds in
    let c = run_told script start cs run_c in
    let d = run_told script start ds run_d in
    let same = same_end b ms ns (fresh_first start sound) c.run d.run e in
    let board : (stage_after script (first_stage start) cs).board ≡ (stage_after script (first_stage start) ds).board = c.board ∙ board_end b ms ∙ same.0 ∙ sym (board_end b ns) ∙ sym d.board in
    record {
      order = same_order b ms ns same.1;
      grants = λ x. c.grants x ∙ sym (grants_own b ms (length ms) x) ∙ ap (λ (t : State). (t.own x).grants) e ∙ grants_own b ns (length ns) x ∙ sym (d.grants x);
      board = board;
      ends = ap ends_of board;
    }

-- the next channel of a run runs
run_at : (script : Script) (stage : Stage) (us : List ℕ) (c : ℕ) (rest : List ℕ) → IsRun script stage (us ++ c ∷ rest) → is_running ((stage_after script stage us).board.state c) ≡ true
run_at script stage [] c rest run = run.0
run_at script stage (u ∷ us) c rest run = run_at script (after_turn script stage u) us c rest run.1

record Progress (script : Script) (start : StartView) (us : List ℕ) (z : State) : Type 0 where
  pub runs : Runs script start us
  pub rest : List ℕ
  pub whole : sequences.IsWhole (turn script) runs_at (Clean script) (sequences.end_of (turn script) (tracked (first_board start) [] 0) us) rest z

-- each step of another run is clean, since the channel could have gone first in the clean run
progress : (script : Script) (start : StartView) (us vs ps : List ℕ) (z : State) → IsSound start → Runs script start us → IsRunOf script start (us ++ vs)
    → sequences.IsWhole (turn script) runs_at (Clean script) (sequences.end_of (turn script) (tracked (first_board start) [] 0) us) ps z → Progress script start (us ++ vs) z
progress script start us [] ps z sound w run whole =
    subst (λ (xs : List ℕ). Progress script start xs z) (sym (append_none us)) (record { runs = w; rest = ps; whole = whole })
progress script start us (v ∷ vs) ps z sound w run whole =
    let b : Board = first_board start in
    let moves : List Move = moves_by script start us in
    let told = run_told script start us w.run in
    let fresh = fresh_first start sound in
    let x : State = sequences.end_of (turn script) (tracked b [] 0) us in
    let e = (ends_told script start us sound w).1 in
    let on = run_at script (first_stage start) us v vs run in
    let runs : runs_at x v ≡ true =
    ap (λ (y : State). runs_at y v) e ∙ ap (λ (s : Seat). machine.is_running s) (seat_at b moves (length moves) v)
    ∙ runs_in ((board_at b moves (length moves)).state v) (ap (λ (a : Board). is_running (a.state v)) (sym told.board) ∙ on) in
    let rests : Rests x = subst (λ (y : State). Rests y) (sym e) (rests_at b moves (length moves) (held_at b moves (length moves) fresh told.run (omega arith))) in
    let f = first script x z v ps rests runs whole in
    let more : Runs script start (us ++ v ∷ []) = record { run = run_more script (first_stage start) us v w.run on; clean = clean_more script (tracked b [] 0) us v w.clean f.0 } in
    let r = progress script start (us ++ v ∷ []) vs f.1.0 z sound more (subst (λ (xs : List ℕ). IsRunOf script start xs) (sym (append_one us v vs)) run)
    (subst (λ (y : State). sequences.IsWhole (turn script) runs_at (Clean script) y f.1.0 z) (sym (end_more script (tracked b [] 0) us v)) f.1.1.1) in
    subst (λ (xs : List ℕ). Progress script start xs z) (append_one us v vs) r

-- a run goes on alike, and to the same state of the machine
pub record GoesOnTracked (script : Script) (start : StartView) (cs vs : List ℕ) : Type 0 where
  pub alike : GoesOnAlike script start cs vs
  pub state : tracked (first_board start) (moves_by script start cs) (length (moves_by script start cs))
      ≡ tracked (first_board start) (moves_by script start (vs ++ alike.rest)) (length (moves_by script start (vs ++ alike.rest)))

-- one maximal run without a race speaks for every run
pub speaks_of_states : (script : Script) (start : StartView) (cs vs : List ℕ) → IsQuietRun script start cs → IsRunOf script start vs → GoesOnTracked script start cs vs
speaks_of_states script start cs vs q run =
    let b : Board = first_board start in
    let ms : List Move = moves_by script start cs in
    let fresh = fresh_first start q.sound in
    let c = run_told script start cs q.maximal.run in
    let t : State = tracked b [] 0 in
    let z : State = tracked b ms (length ms) in
    let m = quiet_runs script b ms cs 0 fresh c.run c.follows (λ j up inside. q.quiet j inside) in
    let over : (p : ℕ) → runs_at z p ≡ false = λ p. machine_over start ms p q.sound q.numbers c.run (ap is_over (sym c.board) ∙ q.maximal.over) in
    let whole : sequences.IsWhole (turn script) runs_at (Clean script) t cs z = record {
      run = subst (λ (x : State). sequences.IsRun (turn script) runs_at x cs) (begin b ms) m.run;
      clean = subst (λ (x : State). sequences.AreClean (turn script) (Clean script) x cs) (begin b ms) m.clean;
      over = over;
      ends = ap (λ (x : State). sequences.end_of (turn script) x cs) (sym (begin b ms)) ∙ m.ends;
    } in
    let p = progress script start [] vs cs z q.sound (record { run = tt; clean = tt }) run whole in
    let rest : List ℕ = p.rest in
    let all = extend script start vs rest z q.sound p.runs p.whole in
    let ends = ends_told script start (vs ++ rest) q.sound all.0 in
    let end : z ≡ tracked b (moves_by script start (vs ++ rest)) (length (moves_by script start (vs ++ rest))) = sym all.1 ∙ ends.1 in
    let final = run_told script start (vs ++ rest) all.0.run in
    record {
      alike = record {
        quiet = (ends_told script start vs q.sound p.runs).0;
        rest = rest;
        maximal = record {
          run = all.0.run;
          over = ap is_over final.board ∙ board_over b (moves_by script start (vs ++ rest)) (length (moves_by script start (vs ++ rest))) (λ c. ap (λ (x : State). runs_at x c) (sym end) ∙ over c);
        };
        same = result_of script start cs (vs ++ rest) q.sound q.maximal.run all.0.run end;
      };
      state = end;
    }

pub speaks : (script : Script) (start : StartView) (cs vs : List ℕ) → IsQuietRun script start cs → IsRunOf script start vs → GoesOnAlike script start cs vs
speaks script start cs vs q run = (speaks_of_states script start cs vs q run).alike

-- a maximal run does not go on
no_more : (script : Script) (stage : Stage) (vs rest : List ℕ) → is_over (stage_after script stage vs).board ≡ true → ((c : ℕ) → is_running ((stage_after script stage vs).board.state c) ≡ true → among channel_numbers c ≡ true) → IsRun script stage (vs ++ rest) → rest ≡ []
no_more script stage vs [] over listed run = refl
no_more script stage vs (c ∷ rest) over listed run =
    let on = run_at script stage vs c rest run in
    no over (ap not (some_pass (λ d. is_running ((stage_after script stage vs).board.state d)) channel_numbers c (listed c on) on))

pub all_agree : (script : Script) (start : StartView) (cs vs : List ℕ) → IsQuietRun script start cs → IsMaximalOf script start vs → HaveSameResult script start cs vs
all_agree script start cs vs q maximal =
    let b : Board = first_board start in
    let ns : List Move = moves_by script start vs in
    let g = speaks script start cs vs q maximal.run in
    let told = run_told script start vs maximal.run in
    let w = kept_at b ns (length ns) (keeps_first start q.sound) told.run (omega arith) in
    let none : g.rest ≡ [] = no_more script (first_stage start) vs g.rest maximal.over (λ c on. q.numbers c (ap (λ (s : StartView). has_channel s c) (sym w.start) ∙ runs_known (board_at b ns (length ns)) c w.keeps (ap (λ (a : Board). is_running (a.state c)) (sym told.board) ∙ on))) g.maximal.run in
    subst (λ (xs : List ℕ). HaveSameResult script start cs xs) (ap (λ (r : List ℕ). vs ++ r) none ∙ append_none vs) g.same
