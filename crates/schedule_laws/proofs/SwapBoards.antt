-- Two steps on boards, in either order.
use Rattle.std.proofs.Common.{◌≡◌, ℕ, suc, ◌==◌, true, false, List, [], ◌∷◌, ◌++◌, length, refl, sym, ap, ap₂, subst, ◌∙◌}
use Rattle.coord_core.specs.Boards.{BoardView, replayed, with_step, with_step_reserved, HaveSameEntries}
use Rattle.order_clocks.specs.Clocked.{moves_in}
use Rattle.order_clocks.proofs.WholeLaws.{running_moves, same_board, moves_size}
use Rattle.schedule_laws.specs.BoardPairs.{TellTheSameWithoutRaces}
use Rattle.schedule_laws.specs.EventPlaces.{HaveSameOrder}
use Rattle.schedule_laws.specs.Swaps.{HasNoRaceAt, EitherWay}
use Rattle.schedule_laws.proofs.Stepwise.{fresh_first, runs_on, either_way}
use Rattle.sync_types.specs.Boards.{Board, is_running, first_board}
use Rattle.sync_types.specs.Starts.{IsSound}
use Rattle.sync_types.specs.Turns.{Move, after_step, after_moves, after_entries, AreEntries, entry_of}
use Rattle.sync_types.specs.Views.{StartView, EntryView}
use Rattle.sync_types.specs.declared.Step.{Step}
use Rattle.sync_types.proofs.EntryLaws.{after_one_more}

abbrev move_made : ℕ → Step → Move
move_made p s = record { channel = p; step = s }

-- a board that has made so many steps
pub record Known (view : BoardView) : Type 0 where
  pub sound : IsSound view.start
  pub lawful : AreEntries (first_board view.start) view.entries

told : (view : BoardView) → replayed view ≡ after_moves (first_board view.start) (moves_in view.entries)
told view = same_board view.entries (first_board view.start)

-- who runs does so after a step of another
pub second_runs : (view : BoardView) (p q : ℕ) (s : Step) → Known view → is_running ((replayed view).state p) ≡ true → is_running ((replayed view).state q) ≡ true → (q == p) ≡ false
    → is_running ((replayed (with_step_reserved view p s)).state q) ≡ true
second_runs view p q s w p_runs q_runs n =
    ap (λ (b : Board). is_running (b.state q)) (after_one_more (first_board view.start) view.entries (entry_of (replayed view) p s) ∙ ap (λ (b : Board). after_step b p s) (told view))
    ∙ runs_on (first_board view.start) (moves_in view.entries) (move_made p s) q (fresh_first view.start w.sound) (running_moves view.entries (first_board view.start) w.lawful)
    (ap (λ (b : Board). is_running (b.state p)) (sym (told view)) ∙ p_runs) (ap (λ (b : Board). is_running (b.state q)) (sym (told view)) ∙ q_runs) n

-- two steps on a board
abbrev pub with_two : BoardView → ℕ → Step → ℕ → Step → BoardView
with_two view p s q r = with_step (with_step view p s) q r

pub two_steps : (a v z : BoardView) (p q : ℕ) (s r : Step) → v ≡ with_step_reserved a p s → z ≡ with_step_reserved v q r → HaveSameEntries z (with_two a p s q r)
two_steps a v z p q s r e f =
    subst (λ (x : BoardView). HaveSameEntries x (with_two a p s q r)) (sym f)
    (subst (λ (y : BoardView). HaveSameEntries (with_step_reserved y q r) (with_two a p s q r)) (sym e) (record { start = refl; entries = refl }))

abbrev entries_made : StartView → List EntryView → ℕ → Step → List EntryView
entries_made start entries p s = entries ++ entry_of (after_entries (first_board start) entries) p s ∷ []

abbrev two_made : StartView → List EntryView → ℕ → Step → ℕ → Step → List EntryView
two_made start entries p s q r = entries_made start (entries_made start entries p s) q r

pub same_two : (a b z : BoardView) (p q : ℕ) (s r : Step) → HaveSameEntries a b → HaveSameEntries z (with_two a p s q r) → HaveSameEntries z (with_two b p s q r)
same_two a b z p q s r same w = record {
  start = w.start ∙ same.start;
  entries = w.entries ∙ ap₂ (λ (start : StartView) (entries : List EntryView). two_made start entries p s q r) same.start same.entries;
}

moves_two : (es : List EntryView) (e f : EntryView) → moves_in ((es ++ e ∷ []) ++ f ∷ []) ≡ moves_in es ++ move_made e.channel e.step ∷ move_made f.channel f.step ∷ []
moves_two [] e f = refl
moves_two (x ∷ es) e f = ap (λ (ms : List Move). move_made x.channel x.step ∷ ms) (moves_two es e f)

moves_told : (a z : BoardView) (p q : ℕ) (s r : Step) → HaveSameEntries z (with_two a p s q r) → moves_in z.entries ≡ moves_in a.entries ++ move_made p s ∷ move_made q r ∷ []
moves_told a z p q s r w = ap moves_in w.entries ∙ moves_two a.entries (entry_of (replayed a) p s) (entry_of (replayed (with_step a p s)) q r)

abbrev NoneAt : StartView → List Move → ℕ → Type 0
NoneAt start moves n = HasNoRaceAt (first_board start) moves n

moved : (start start' : StartView) (ms ns : List Move) (n m : ℕ) → start ≡ start' → ms ≡ ns → n ≡ m → NoneAt start ms n → NoneAt start' ns m
moved start start' ms ns n m e f g none = subst (λ (x : StartView). NoneAt x ns m) e (subst (λ (x : List Move). NoneAt start x m) f (subst (λ (x : ℕ). NoneAt start ms x) g none))

-- the law on boards
pub swap_law : (a l r : BoardView) (p q : ℕ) (p_step q_step : Step) → Known a → is_running ((replayed a).state p) ≡ true → is_running ((replayed a).state q) ≡ true → (p == q) ≡ false
    → HaveSameEntries l (with_two a p p_step q q_step) → HaveSameEntries r (with_two a q q_step p p_step) → TellTheSameWithoutRaces l r (length a.entries)
swap_law a l r p q p_step q_step w p_runs q_runs n left right quiet =
    let b : Board = first_board a.start in
    let ms : List Move = moves_in a.entries in
    let one : Move = move_made p p_step in
    let other : Move = move_made q q_step in
    let size : length ms ≡ length a.entries = moves_size a.entries in
    let moves_l = moves_told a l p q p_step q_step left in
    let moves_r = moves_told a r q p q_step p_step right in
    let swap : EitherWay b ms one other = either_way a.start ms one other (record {
      sound = w.sound;
      run = running_moves a.entries b w.lawful;
      one_runs = ap (λ (x : Board). is_running (x.state p)) (sym (told a)) ∙ p_runs;
      other_runs = ap (λ (x : Board). is_running (x.state q)) (sym (told a)) ∙ q_runs;
      differ = n;
      quiet = record {
        first = moved l.start a.start (moves_in l.entries) (ms ++ one ∷ other ∷ []) (length a.entries) (length ms) left.start moves_l (sym size) quiet.first;
        second = moved l.start a.start (moves_in l.entries) (ms ++ one ∷ other ∷ []) (suc (length a.entries)) (suc (length ms)) left.start moves_l (ap suc (sym size)) quiet.second;
      };
    }) in
    record {
      board = told l ∙ ap₂ (λ (x : StartView) (y : List Move). after_moves (first_board x) y) left.start moves_l ∙ swap.board
          ∙ sym (told r ∙ ap₂ (λ (x : StartView) (y : List Move). after_moves (first_board x) y) right.start moves_r);
      order = subst (λ (x : StartView). HaveSameOrder (first_board x) (moves_in l.entries) (moves_in r.entries)) (sym left.start)
          (subst (λ (x : List Move). HaveSameOrder b x (moves_in r.entries)) (sym moves_l) (subst (λ (x : List Move). HaveSameOrder b (ms ++ one ∷ other ∷ []) x) (sym moves_r) swap.order));
      quiet = record {
        first = moved a.start r.start (ms ++ other ∷ one ∷ []) (moves_in r.entries) (length ms) (length a.entries) (sym right.start) (sym moves_r) size swap.quiet.first;
        second = moved a.start r.start (ms ++ other ∷ one ∷ []) (moves_in r.entries) (suc (length ms)) (suc (length a.entries)) (sym right.start) (sym moves_r) (ap suc size) swap.quiet.second;
      };
    }

same_on : (a b d : BoardView) → HaveSameEntries a b → HaveSameEntries b d → HaveSameEntries a d
same_on a b d one two = record { start = one.start ∙ two.start; entries = one.entries ∙ two.entries }

same_back : (a b : BoardView) → HaveSameEntries a b → HaveSameEntries b a
same_back a b one = record { start = sym one.start; entries = sym one.entries }

replayed_same : (a b : BoardView) → HaveSameEntries a b → replayed a ≡ replayed b
replayed_same a b w = ap₂ (λ (s : StartView) (es : List EntryView). after_entries (first_board s) es) w.start w.entries

known_same : (a b : BoardView) → HaveSameEntries a b → Known a → Known b
known_same a b w k = record {
  sound = subst (λ (s : StartView). IsSound s) w.start k.sound;
  lawful = subst (λ (s : StartView). AreEntries (first_board s) b.entries) w.start (subst (λ (es : List EntryView). AreEntries (first_board a.start) es) w.entries k.lawful);
}

-- the law from where the two boards were, which have room for the steps since
pub swap_law_from : (old_l old_r a z l r : BoardView) (p q : ℕ) (p_step q_step : Step) → HaveSameEntries old_l old_r → HaveSameEntries a old_l → HaveSameEntries z old_r → Known a
    → is_running ((replayed old_l).state p) ≡ true → is_running ((replayed old_l).state q) ≡ true → (p == q) ≡ false
    → HaveSameEntries l (with_two a p p_step q q_step) → HaveSameEntries r (with_two z q q_step p p_step) → TellTheSameWithoutRaces l r (length old_l.entries)
swap_law_from old_l old_r a z l r p q p_step q_step same left right known p_runs q_runs n made_l made_r =
    swap_law old_l l r p q p_step q_step (known_same a old_l left known) p_runs q_runs n
    (same_two a old_l l p q p_step q_step left made_l)
    (same_two z old_l r q p q_step p_step (same_on z old_r old_l right (same_back old_l old_r same)) made_r)
