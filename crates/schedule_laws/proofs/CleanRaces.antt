-- A clean step has no race.
use Rattle.std.proofs.Common.{◌≡◌, ℕ, suc, ◌≤◌, ◌<◌, ◌==◌, ◌&&◌, ◌||◌, not, Bool, true, false, List, length, Option, Some, None, inl, inr, refl, sym, ap, ap₂, subst, ◌∙◌, arith}
use Rattle.std.proofs.lemmas.Bool.{cases_Bool, eqb-true, eq-eqb, and_parts, and_from, true≢false}
use Rattle.sync_types.specs.BoardActions.{after_own_part}
use Rattle.sync_types.specs.Boards.{State as Doing, IsIdle, IsRunning, IsHolding, HasEnded, HasAlarmed, Hold, AtMarks, AtEnds, AtAxes, Board, among}
use Rattle.sync_types.specs.Boards as boards
use Rattle.sync_types.specs.GoingOn.{Going}
use Rattle.sync_types.specs.Turns.{Move}
use Rattle.sync_types.specs.declared.runs.EventId.{EventId}
use Rattle.order_clocks.specs.Counters.{row}
use Rattle.order_clocks.specs.CourseOf.{course_of}
use Rattle.order_clocks.specs.Courses.{IsEventIn}
use Rattle.order_clocks.specs.Happenings.{Happening, board_at, happening_of, happening_at, going_of, of_going}
use Rattle.order_clocks.specs.TracedRaces.{Trace, Lowered, Needed, Took, Touched, act_leaves, going_leaves, act_minds, going_minds, Apart, StillWaits, Differ, StillAsks, AreApart, leaves_at, minds_at}
use Rattle.order_clocks.proofs.OrderLaws.{event_in}
use Rattle.board_laws.specs.Machine.{Mark, Axis, Seat, In, Called, Own, State, asks, is_at, doing_of, board_of, effect, go_clock}
use Rattle.board_laws.specs.Clean.{IsClean, Inv}
use Rattle.board_laws.proofs.Basics.{no, off_from}
use Rattle.board_laws.proofs.Parts.{put_other, touched_asks}
use Rattle.board_laws.proofs.Goings.{Went, from_of}
use Rattle.schedule_laws.specs.Tracked.{actor, goes_in, last_place, own_at, tracked}
use Rattle.schedule_laws.proofs.Steps.{Here, mid, found_in, actor_told, went_told}
use Rattle.schedule_laws.proofs.Held.{HeldIn, kept_told, runs_told}
use Rattle.schedule_laws.proofs.Mates.{meets_from}
use Rattle.schedule_laws.proofs.GoRows.{goer, taking_parts}
use Rattle.schedule_laws.proofs.Places.{event, NoRace, counts_no_race}
use Rattle.schedule_laws.proofs.Told.{marks_waited, axes_waited, touched_told, act_count, go_count, going_lowers, going_minds_need}
use Rattle.schedule_laws.proofs.RacesClean.{lowered_at, needs_at, took_at, started_at, effect_seat, effect_marks, needs_mid, after_at, act_minds_at}
use Rattle.schedule_laws.proofs.NextTurn.{Tidy, goes_all}

-- a clean step
pub record CleanAt (b : Board) (moves : List Move) (i : ℕ) : Type 0 where
  pub here : Here b moves i
  pub held : HeldIn here
  pub inv : Inv (mid here)
  pub inside : i < length moves
  pub clean : IsClean (tracked b moves i) here.p here.step

abbrev pub tidy : (b : Board) (moves : List Move) (i : ℕ) → CleanAt b moves i → Tidy b moves i
tidy b moves i q = record { here = q.here; held = q.held; inv = q.inv; clean = q.clean.going }

nothing : {A : Type 0} (b : Board) (moves : List Move) (i c : ℕ) (t : Trace) → of_going (going_of (happening_at b moves i).goings c) (λ g. going_minds g t) ≡ true → ((g : Going) → going_minds g t ≡ false) → A
nothing b moves i c t on none = no on (go (going_of (happening_at b moves i).goings c))
  where
    go : (o : Option Going) → of_going o (λ g. going_minds g t) ≡ false
    go (Some g) = none g
    go None = refl

-- the last place at which a trace was left that an event minds is counted by it
minds_act : (b : Board) (moves : List Move) (i : ℕ) (q : CleanAt b moves i) (d : ℕ) (t : Trace) → (d == q.here.p) ≡ false → act_minds (happening_of (board_of (tracked b moves i)) q.here.p q.here.step) t ≡ true
    → ((c k : ℕ) → t ≡ Lowered c k → c ≡ d) → last_place b moves i d t ≤ (own_at b moves i q.here.p).past d
minds_act b moves i q d (Lowered c k) n on own =
    let w = q.here in
    let s : c ≡ d = own c k refl in
    let asked : asks (effect (tracked b moves i) w.p w.step).own.seat (Mark c k) ≡ true = ap (λ (z : Seat). asks z (Mark c k)) (effect_seat (tracked b moves i) w.p w.step) ∙ sym (marks_waited ((after_own_part (board_of (tracked b moves i)) w.p w.step).state w.p) c k) ∙ on in
    let l = q.clean.act.waiting d k (ap (λ (z : ℕ). asks (effect (tracked b moves i) w.p w.step).own.seat (Mark z k)) (sym s) ∙ asked) n in
    let r = lowered_at b moves i d k in
    let e : last_place b moves i d (Lowered c k) ≡ last_place b moves i d (Lowered d k) = ap (λ (z : ℕ). last_place b moves i d (Lowered z k)) s in
    omega (arith, l, r, e)
minds_act b moves i q d (Needed c k) n on own =
    let w = q.here in
    let p = and_parts (c == w.p) ((own_at b moves i w.p).marks k && not ((after_own_part (board_of (tracked b moves i)) w.p w.step).marks w.p k)) on in
    let s : c ≡ w.p = eqb-true c w.p p.0 in
    let m = and_parts ((own_at b moves i w.p).marks k) (not ((after_own_part (board_of (tracked b moves i)) w.p w.step).marks w.p k)) p.1 in
    let off : (effect (tracked b moves i) w.p w.step).own.marks k ≡ false = ap (λ (f : ℕ → Bool). f k) (effect_marks (tracked b moves i) w.p w.step) ∙ off_from ((after_own_part (board_of (tracked b moves i)) w.p w.step).marks w.p k) m.1 in
    let l = q.clean.act.lowering d k m.0 off n in
    let r = needs_at b moves i d w.p k in
    let e : last_place b moves i d (Needed c k) ≡ last_place b moves i d (Needed w.p k) = ap (λ (z : ℕ). last_place b moves i d (Needed z k)) s in
    omega (arith, l, r, e)
minds_act b moves i q d (Took x) n on own =
    let w = q.here in
    let asked : asks (effect (tracked b moves i) w.p w.step).own.seat (Axis x) ≡ true = ap (λ (z : Seat). asks z (Axis x)) (effect_seat (tracked b moves i) w.p w.step) ∙ sym (axes_waited ((after_own_part (board_of (tracked b moves i)) w.p w.step).state w.p) x) ∙ on in
    let l = q.clean.act.asking d x asked n in
    let r = took_at b moves i d x in
    omega (arith, l, r)
minds_act b moves i q d (Touched y) n on own =
    let l = q.clean.act.starting d y (sym (touched_told q.here.step.action y) ∙ on) n in
    let r = started_at b moves i d y in
    omega (arith, l, r)

minds_go : (b : Board) (moves : List Move) (i : ℕ) (q : CleanAt b moves i) (c d : ℕ) (t : Trace) → goes_in b moves i c ≡ true → (d == c) ≡ false → of_going (going_of (happening_at b moves i).goings c) (λ g. going_minds g t) ≡ true
    → last_place b moves i d t ≤ go_clock (mid q.here) c d
minds_go b moves i q c d (Needed e k) on n minds =
    let w = q.here in
    let g = goer b moves i w c on in
    let found : going_minds g.going (Needed e k) ≡ true = ap (λ (o : Option Going). of_going o (λ g. going_minds g (Needed e k))) (sym g.found) ∙ minds in
    let p = and_parts (e == g.going.channel) _ found in
    let s : e ≡ c = eqb-true e g.going.channel p.0 ∙ g.channel in
    let at : is_at ((mid w).own c).seat k ≡ true = sym (going_minds_need b moves i w c k g) ∙ ap (λ (z : ℕ). of_going (going_of (happening_at b moves i).goings c) (λ g. going_minds g (Needed z k))) (sym s) ∙ minds in
    let l = (q.clean.going.marks c d k g.goes at n).needed in
    let r = needs_mid b moves i w d c k in
    let u = needs_at b moves i d c k in
    let v : last_place b moves i d (Needed e k) ≡ last_place b moves i d (Needed c k) = ap (λ (z : ℕ). last_place b moves i d (Needed z k)) s in
    omega (arith, l, r, u, v)
minds_go b moves i q c d (Lowered e k) on n minds = nothing b moves i c (Lowered e k) minds (λ g. refl)
minds_go b moves i q c d (Took x) on n minds = nothing b moves i c (Took x) minds (λ g. refl)
minds_go b moves i q c d (Touched y) on n minds = nothing b moves i c (Touched y) minds (λ g. refl)

-- an event of the step counts what it minds
minds_all : (b : Board) (moves : List Move) (i : ℕ) (q : CleanAt b moves i) (c d : ℕ) (go : Bool) (t : Trace) → IsEventIn (course_of b moves) (event i c go) → (d == c) ≡ false → minds_at b moves (event i c go) t ≡ true
    → ((e k : ℕ) → t ≡ Lowered e k → e ≡ d) → last_place b moves i d t ≤ row (course_of b moves) (event i c go) d
minds_all b moves i q c d true t there n minds own =
    let l = minds_go b moves i q c d t there n minds in
    let r = go_count b moves i q.here q.held c d (meets_from (mid q.here) q.clean.going) q.inv there in
    omega (arith, l, r)
minds_all b moves i q c d false t there n minds own =
    let s : c ≡ q.here.p = sym there ∙ actor_told b moves i q.here in
    let n' : (d == q.here.p) ≡ false = ap (λ (z : ℕ). d == z) (sym s) ∙ n in
    let l = minds_act b moves i q d t n' (sym (act_minds_at b moves i q.here t) ∙ minds) own in
    let r = act_count b moves i q.here d n' in
    let e : row (course_of b moves) (event i c false) d ≡ row (course_of b moves) (event i q.here.p false) d = ap (λ (z : ℕ). row (course_of b moves) (event i z false) d) s in
    omega (arith, l, r, e)

-- who leaves that a mark was lowered has that mark
leaves_own : (b : Board) (moves : List Move) (j c : ℕ) (go : Bool) (e k : ℕ) → leaves_at b moves (event j c go) (Lowered e k) ≡ true → IsEventIn (course_of b moves) (event j c go) → e ≡ c
leaves_own b moves j c true e k on there = go (going_of (happening_at b moves j).goings c) refl on
  where
    go : (o : Option Going) → going_of (happening_at b moves j).goings c ≡ o → of_going o (λ g. going_leaves g (Lowered e k)) ≡ true → e ≡ c
    go None is on = absurd (true≢false (sym on))
    go (Some g) is on = let f = found_in (happening_at b moves j).goings c g is in let p = and_parts (e == g.channel) _ on in eqb-true e g.channel p.0 ∙ f.1
leaves_own b moves j c false e k on there = let p = and_parts (e == actor b moves j) _ on in eqb-true e (actor b moves j) p.0 ∙ there

no_apart : (b : Board) (moves : List Move) (i : ℕ) (q : CleanAt b moves i) (early late : EventId) (t : Trace) → late.step ≡ i → AreApart b moves early late t → ⊥
no_apart b moves i q early late t s apart =
    let here' : IsEventIn (course_of b moves) (event i late.channel late.go) = subst (λ (j : ℕ). IsEventIn (course_of b moves) (event j late.channel late.go)) s (event_in b moves late apart.second) in
    let minds : minds_at b moves (event i late.channel late.go) t ≡ true = subst (λ (j : ℕ). minds_at b moves (event j late.channel late.go) t ≡ true) s apart.minded in
    let l = minds_all b moves i q late.channel early.channel late.go t here' apart.channels minds
    (λ e k is. leaves_own b moves early.step early.channel early.go e k (subst (λ (z : Trace). leaves_at b moves early z ≡ true) is apart.left) (event_in b moves early apart.first)) in
    let inside = q.inside in
    counts_no_race b moves early late t (omega (arith, s, inside)) apart
    (subst (λ (j : ℕ). last_place b moves j early.channel t ≤ row (course_of b moves) (event j late.channel late.go) early.channel) (sym s) l)

-- who waits after the step waited within it
waited : (b : Board) (moves : List Move) (i : ℕ) (w : Here b moves i) (d : ℕ) (hold : Hold) (line : ℕ) → (happening_at b moves i).after d ≡ IsHolding hold line → (goes_in b moves i d ≡ false) × (((mid w).own d).seat ≡ In (IsHolding hold line))
waited b moves i w d hold line e =
    let state : (board_at b moves (suc i)).state d ≡ IsHolding hold line = sym (after_at b moves i w d) ∙ e in
    let out : goes_in b moves i d ≡ false = elim (cases_Bool (goes_in b moves i d)) [
      | inr off ↦ off
      | inl on ↦ no (runs_told b moves i w d on) (ap (λ (s : Doing). boards.is_running s) state)
    ] in
    (out, unshown (mid w) d ((mid w).own d).seat (sym (kept_told b moves i w d out) ∙ state))
  where
    unshown : (t : State) (c : ℕ) (s : Seat) → doing_of t c s ≡ IsHolding hold line → s ≡ In (IsHolding hold line)
    unshown t c (In state) e = ap In e
    unshown t c (Called p) e = absurd (true≢false (ap (λ (s : Doing). boards.is_running s) e))

asks_named : (k : ℕ) (named : List ℕ) (line d : ℕ) → among named d ≡ true → asks (In (IsHolding (AtMarks k named) line)) (Mark d k) ≡ true
asks_named k named line d on = sym (marks_waited (IsHolding (AtMarks k named) line) d k) ∙ and_from (k == k) (among named d) (eq-eqb k k refl) on

no_wait : (b : Board) (moves : List Move) (i : ℕ) (q : CleanAt b moves i) (c d k line : ℕ) (named : List ℕ) (go : Bool) → IsEventIn (course_of b moves) (event i c go) → leaves_at b moves (event i c go) (Lowered c k) ≡ true → (d == c) ≡ false
    → (happening_at b moves i).after d ≡ IsHolding (AtMarks k named) line → among named c ≡ true → ⊥
no_wait b moves i q c d k line named true there leaves n after names =
    let w = q.here in
    let z = waited b moves i w d (AtMarks k named) line after in
    let g = goer b moves i w c there in
    let at : is_at ((mid w).own c).seat k ≡ true = sym (going_lowers b moves i w c k g) ∙ leaves in
    let asked : asks ((mid w).own d).seat (Mark c k) ≡ true = ap (λ (s : Seat). asks s (Mark c k)) z.1 ∙ asks_named k named line c names in
    let r = (q.clean.going.marks c d k g.goes at n).goes asked in
    no (goes_all b moves i (tidy b moves i q) d ∙ r) z.0
no_wait b moves i q c d k line named false there leaves n after names =
    let w = q.here in
    let s : c ≡ w.p = sym there ∙ actor_told b moves i w in
    let z = waited b moves i w d (AtMarks k named) line after in
    let n' : (d == w.p) ≡ false = ap (λ (z : ℕ). d == z) (sym s) ∙ n in
    let asked : asks ((mid w).own d).seat (Mark w.p k) ≡ true = ap (λ (s : Seat). asks s (Mark w.p k)) z.1 ∙ asks_named k named line w.p (ap (among named) (sym s) ∙ names) in
    let before : asks (own_at b moves i d).seat (Mark w.p k) ≡ true =
    sym (ap (λ (o : Own). asks o.seat (Mark w.p k)) (put_other (tracked b moves i) w.p (effect (tracked b moves i) w.p w.step) d n') ∙ touched_asks (effect (tracked b moves i) w.p w.step) w.p d (own_at b moves i d) (Mark w.p k) refl) ∙ asked in
    let left : act_leaves (happening_of (board_of (tracked b moves i)) w.p w.step) (Lowered w.p k) ≡ true =
    ap (λ (h : Happening). act_leaves h (Lowered w.p k)) (sym w.happens) ∙ ap (λ (z : ℕ). act_leaves (happening_at b moves i) (Lowered z k)) (sym s) ∙ leaves in
    let p = and_parts (w.p == w.p) ((own_at b moves i w.p).marks k && not ((after_own_part (board_of (tracked b moves i)) w.p w.step).marks w.p k)) left in
    let m = and_parts ((own_at b moves i w.p).marks k) (not ((after_own_part (board_of (tracked b moves i)) w.p w.step).marks w.p k)) p.1 in
    let off : (effect (tracked b moves i) w.p w.step).own.marks k ≡ false = ap (λ (f : ℕ → Bool). f k) (effect_marks (tracked b moves i) w.p w.step) ∙ off_from ((after_own_part (board_of (tracked b moves i)) w.p w.step).marks w.p k) m.1 in
    no before (q.clean.act.unasked d k m.0 off n')

-- two that go on from one number
from_seat : (s : Seat) (hold : Hold) (line : ℕ) → from_of s ≡ IsHolding hold line → s ≡ In (IsHolding hold line)
from_seat (In state) hold line e = ap In e
from_seat (Called p) hold line e = absurd (true≢false (ap (λ (s : Doing). boards.is_idle s) e))

named_names : (k : ℕ) (named : List ℕ) (line x : ℕ) → among named x ≡ asks (In (IsHolding (AtMarks k named) line)) (Mark x k)
named_names k named line x = sym (left (k == k) (among named x) (eq-eqb k k refl)) ∙ marks_waited (IsHolding (AtMarks k named) line) x k
  where
    left : (a b : Bool) → a ≡ true → (a && b) ≡ b
    left true b on = refl
    left false b on = no refl (sym on)

no_differ : (b : Board) (moves : List Move) (i : ℕ) (q : CleanAt b moves i) (g h : Going) (m line other_line x : ℕ) (named other_named : List ℕ) → Went (mid q.here) g → Went (mid q.here) h
    → g.from ≡ IsHolding (AtMarks m named) line → h.from ≡ IsHolding (AtMarks m other_named) other_line → among named h.channel ≡ true
    → (((x == g.channel) || among named x) ≡ ((x == h.channel) || among other_named x) → ⊥) → ⊥
no_differ b moves i q g h m line other_line x named other_named wg wh from_g from_h names differ =
    let t : State = mid q.here in
    let seat_g : (t.own g.channel).seat ≡ In (IsHolding (AtMarks m named) line) = from_seat (t.own g.channel).seat (AtMarks m named) line (sym wg.from ∙ from_g) in
    let seat_h : (t.own h.channel).seat ≡ In (IsHolding (AtMarks m other_named) other_line) = from_seat (t.own h.channel).seat (AtMarks m other_named) other_line (sym wh.from ∙ from_h) in
    let names_g : among named x ≡ asks (t.own g.channel).seat (Mark x m) = named_names m named line x ∙ ap (λ (s : Seat). asks s (Mark x m)) (sym seat_g) in
    let names_h : among other_named x ≡ asks (t.own h.channel).seat (Mark x m) = named_names m other_named other_line x ∙ ap (λ (s : Seat). asks s (Mark x m)) (sym seat_h) in
    elim (cases_Bool (g.channel == h.channel)) [
      | inl y ↦
          let s : g.channel ≡ h.channel = eqb-true g.channel h.channel y in
          differ (ap₂ (λ (a b : Bool). a || b) (ap (λ (z : ℕ). x == z) s) (names_g ∙ ap (λ (z : ℕ). asks (t.own z).seat (Mark x m)) s ∙ sym names_h))
      | inr n ↦
          let at : is_at (t.own h.channel).seat m ≡ true = ap (λ (s : Seat). is_at s m) seat_h ∙ eq-eqb m m refl in
          let asked : asks (t.own g.channel).seat (Mark h.channel m) ≡ true = ap (λ (s : Seat). asks s (Mark h.channel m)) seat_g ∙ sym (named_names m named line h.channel) ∙ names in
          let set = (q.clean.going.marks h.channel g.channel m wh.goes at n).set asked x in
          differ (ap (λ (b : Bool). (x == g.channel) || b) names_g ∙ set ∙ ap (λ (b : Bool). (x == h.channel) || b) (sym names_h))
    ]

no_asking : (b : Board) (moves : List Move) (i : ℕ) (q : CleanAt b moves i) (g : Going) (d x line : ℕ) (from_standing : Bool) (axes : List ℕ) → Went (mid q.here) g → among g.took x ≡ true → (d == g.channel) ≡ false → (happening_at b moves i).after d ≡ IsHolding (AtAxes from_standing axes) line
    → among axes x ≡ true → ⊥
no_asking b moves i q g d x line from_standing axes wg took n after names =
    let t : State = mid q.here in
    let z = waited b moves i q.here d (AtAxes from_standing axes) line after in
    let p = taking_parts t g.channel (t.own g.channel).seat x (sym (wg.took x) ∙ took) in
    let asked : asks (t.own d).seat (Axis x) ≡ true = ap (λ (s : Seat). asks s (Axis x)) z.1 ∙ sym (axes_waited (IsHolding (AtAxes from_standing axes) line) x) ∙ names in
    no asked (q.clean.going.axes g.channel d x wg.goes p.0 p.1 n)

-- a clean step has no race
pub clean_quiet : (b : Board) (moves : List Move) (i : ℕ) → CleanAt b moves i → NoRace b moves i
clean_quiet b moves i q race (Apart early late trace s apart shown_as) = no_apart b moves i q early late trace s apart
clean_quiet b moves i q race (StillWaits lowering d m line named s event_there leaves n after names shown_as) =
    no_wait b moves i q lowering.channel d m line named lowering.go (subst (λ (j : ℕ). IsEventIn (course_of b moves) (event j lowering.channel lowering.go)) s (event_in b moves lowering event_there))
    (subst (λ (j : ℕ). leaves_at b moves (event j lowering.channel lowering.go) (Lowered lowering.channel m) ≡ true) s leaves) n after names
clean_quiet b moves i q race (Differ g h m line other_line x named other_named g_in h_in from_g from_h names differ shown_as) =
    no_differ b moves i q g h m line other_line x named other_named (went_told b moves i q.here g g_in) (went_told b moves i q.here h h_in) from_g from_h names differ
clean_quiet b moves i q race (StillAsks g d x line from_standing axes g_in took n after names shown_as) = no_asking b moves i q g d x line from_standing axes (went_told b moves i q.here g g_in) took n after names
