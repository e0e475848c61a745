-- What is known on the way of a turn.
use Rattle.atomic_table.specs.Seated.{TableId}
use Rattle.coord_core.proofs.Outcomes.{tells_what_is}
use Rattle.coord_core.proofs.Running.{seen_running}
use Rattle.coord_core.specs.BoardTurns.{Brings, ToAct, ToClosed, ToLook, ToNoMemory, closed_after}
use Rattle.coord_core.specs.Desks.{Acts, Closes, IsSamePass, Looks, SeesOn, own_entries}
use Rattle.coord_core.specs.Histories.{History, answer_of, board_of, history_of, runs}
use Rattle.coord_core.specs.declared.locked.Locked.{Locked}
use Rattle.coord_core.specs.declared.outcome.Outcome.{Outcome}
use Rattle.coord_core.specs.declared.outcome.Outcome.TheVariants.{Closed, Done, Granted, NoMemory, Over}
use Rattle.std.proofs.Common.{◌&&◌, ◌||◌, Bool, List, MatchBool, not, None, Option, Some, ap, eq-eqb, false, inl, inr, map, ne_eqb, refl, subst, sym, true, ℕ, ◌≡◌, ◌≢◌, ◌+◌, ◌%◌, ◌<◌, ◌==◌, [], ◌∷◌, ◌++◌, ◌∙◌}
use Rattle.sync_types.proofs.BoardTests.{no_truth}
use Rattle.sync_types.proofs.EntryLaws.{lawful_with_one_more}
use Rattle.sync_types.specs.Boards.{first_board}
use Rattle.sync_types.specs.Turns.{entry_of}
use Rattle.sync_types.specs.Views.{EntryView, StartView}
use Rattle.sync_types.specs.declared.Step.{Step}
use Rattle.ticket_board.proofs.Histories.{counted_mark, goes_lawful, history, own_append, own_seen}
use Rattle.ticket_board.specs.Passes.{AnEntry, Makes, NoEntry, PutsMark, is_no_memory, told_of}
use Rattle.ticket_board.specs.Rule.{AreLawful, Every, Fits, length_with_mark}
use Rattle.ticket_board.specs.Steps.{Goes, Mine, Reads, Takes, at_stage, awaited_ticket, puts_mark, with_count, with_seen}
use Rattle.ticket_board.specs.Turns.{IsPass, count_at, part_of, pass_view, wants_memory}
use Rattle.ticket_board.specs.declared.rule.ChannelPart.{ChannelPart}
use Rattle.ticket_board.specs.declared.rule.Stage.{Stage}
use Rattle.ticket_board.specs.declared.rule.Stage.TheVariants.{Holding, Idle, Waiting}

pub reads_hit : (m m' : Mine) (r t n : ℕ) → m.0.stage ≡ Waiting n → t ≡ n % 18446744073709551616 → r ≡ t → Reads m r m' → Takes m n m'
reads_hit m m' r t n waits is hit told = let e : awaited_ticket m.0.stage ≡ n = ap awaited_ticket waits in
    let told' : MatchBool (r == (n % 18446744073709551616)) (Takes m n m') (m' ≡ m) = subst (λ (x : ℕ). MatchBool (r == (x % 18446744073709551616)) (Takes m x m') (m' ≡ m)) e told in
    subst (λ (b : Bool). MatchBool b (Takes m n m') (m' ≡ m)) (eq-eqb r (n % 18446744073709551616) (hit ∙ is)) told'

pub reads_miss : (m m' : Mine) (r t n : ℕ) → m.0.stage ≡ Waiting n → t ≡ n % 18446744073709551616 → r ≢ t → Reads m r m' → m' ≡ m
reads_miss m m' r t n waits is miss told = let e : awaited_ticket m.0.stage ≡ n = ap awaited_ticket waits in
    let told' : MatchBool (r == (n % 18446744073709551616)) (Takes m n m') (m' ≡ m) = subst (λ (x : ℕ). MatchBool (r == (x % 18446744073709551616)) (Takes m x m') (m' ≡ m)) e told in
    subst (λ (b : Bool). MatchBool b (Takes m n m') (m' ≡ m)) (ne_eqb r (n % 18446744073709551616) (λ h. miss (h ∙ sym is))) told'

-- what a seat with the part p has once it has taken the slot with l in it
abbrev pub HasTaken : Mine → ChannelPart → ℕ → Locked → Mine → Type 0
HasTaken m p n l m' = m' ≡ (record { start = m.0.start; parts = with_seen (history_of l) p ∷ []; stage = Holding n }, (0, Some l) ∷ [])

-- and once the board is out of the slot
abbrev pub HasOut : Mine → ChannelPart → ℕ → Locked → Mine → Type 0
HasOut m p n l m' = m' ≡ (record { start = m.0.start; parts = with_seen (history_of l) p ∷ []; stage = Holding n }, (0, None) ∷ [])

-- what is known of the board that is taken
abbrev pub IsTaken : Mine → ChannelPart → Locked → Type 0
IsTaken m p l = (l.board.start ≡ m.0.start) × AreLawful m.0.start l.board.entries × Fits m.0.start (history_of l) p

abbrev pub Holds : Mine → ChannelPart → ℕ → Mine → Type 0
Holds m p n m' = (l : Locked) × HasTaken m p n l m' × IsTaken m p l

takes_holds : (m m' : Mine) (p : ChannelPart) (n : ℕ) (st : Stage) → m.1 ≡ [] → m.0.parts ≡ p ∷ [] → Takes (at_stage m.0 st, m.1) n m' → Holds m p n m'
takes_holds m m' p n st slots parts t = let l : Locked = t.0 in (
  l,
  t.1 ∙ (λ i. (record { start = m.0.start; parts = map (with_seen (history_of l)) (parts i); stage = Holding n }, (0, Some l) ∷ slots i)),
  (t.2, t.3, (subst (Every (Fits m.0.start (history_of l))) parts t.4).0),
)

pub entered : (m m' m'' : Mine) (p : ChannelPart) (n : ℕ) → m.1 ≡ [] → m.0.parts ≡ p ∷ [] → m' ≡ (at_stage m.0 (Waiting n), m.1) → Takes m' n m'' → Holds m p n m''
entered m m' m'' p n slots parts is t = takes_holds m m'' p n (Waiting n) slots parts (subst (λ (x : Mine). Takes x n m'') is t)

-- the board that was taken out is the one that the slot held
abbrev held_value : Locked → List (ℕ × Option Locked) → Locked
held_value l [] = l
held_value l ((k, Some x) ∷ xs) = x
held_value l ((k, None) ∷ xs) = l

pub taken_out : (m m' m'' : Mine) (p : ChannelPart) (n : ℕ) (l : Locked) → Holds m p n m' → m'.1 ≡ (0, Some l) ∷ [] → m'' ≡ (m'.0, (0, None) ∷ []) → HasOut m p n l m'' × IsTaken m p l
taken_out m m' m'' p n l h out is = let same : h.0 ≡ l = ap (held_value l) (sym (ap (λ (x : Mine). x.1) h.1) ∙ out) in
    subst (λ (x : Locked). HasOut m p n x m'' × IsTaken m p x) same (is ∙ ap (λ (x : Mine). (x.0, (0, None) ∷ [])) h.1, h.2)

-- ---- what a turn did is counted

acts_goes : (start : StartView) (h after : History) (p : ChannelPart) (step : Step) (answer : Option Outcome) → AreLawful start h.entries → runs start h p.channel ≡ true
    → Brings start p.channel step h answer after → Goes start (with_seen h p) after (count_at h.closed)
acts_goes start h after p step answer lawful on (ToClosed closed same said) = inl (same, ap count_at closed)
acts_goes start h after p step answer lawful on (ToLook off same said) = no_truth (runs start h p.channel) on off
acts_goes start h after p step answer lawful on (ToAct closed ran made said) =
    let e : EntryView = entry_of (board_of start h) p.channel step in
    inr (closed, ap count_at closed, inl (e, refl, lawful_with_one_more (first_board start) h.entries e lawful ran refl, made ∙ ap (history (h.entries ++ e ∷ [])) closed))
acts_goes start h after p step answer lawful on (ToNoMemory closed ran made said) = inr (closed, ap count_at closed, inr made)

pub act_goes : (m : Mine) (c : ℕ) (step : Step) (l l' : Locked) (answer : Option Outcome) (more : ℕ) → IsPass m c → IsTaken m (part_of m.0) l → runs m.0.start (part_of m.0).seen c ≡ true
    → Brings l.board.start c step (history_of l) answer (history_of l') → more ≡ count_at l.closed → Goes m.0.start (with_seen (history_of l) (part_of m.0)) (history_of l') more
act_goes m c step l l' answer more pass taken on brings is =
    let p : ChannelPart = part_of m.0 in let h : History = history_of l in let f = taken.2 in
    let ran : runs m.0.start h p.channel ≡ true = seen_running m.0.start p.channel p.seen h (ap (runs m.0.start p.seen) pass.3 ∙ on) f.sees in
    subst (λ (k : ℕ). Goes m.0.start (with_seen h p) (history_of l') k) (sym is)
    (acts_goes m.0.start h (history_of l') p step answer taken.1 ran (subst (λ (z : StartView × ℕ). Brings z.0 z.1 step h answer (history_of l')) (λ i. (taken.0 i, sym pass.3 i)) brings))

shut_goes_by : (start : StartView) (es : List EntryView) (p : ChannelPart) (b : Bool) → Goes start (with_seen (history es b) p) (history es true) (count_at b)
shut_goes_by start es p true = inl (refl, refl)
shut_goes_by start es p false = inr (refl, refl, inr refl)

pub shut_goes : (m : Mine) (l l' : Locked) (more : ℕ) → history_of l' ≡ closed_after (history_of l) → more ≡ count_at l.closed → Goes m.0.start (with_seen (history_of l) (part_of m.0)) (history_of l') more
shut_goes m l l' more turn is = subst (λ (z : History × ℕ). Goes m.0.start (with_seen (history_of l) (part_of m.0)) z.0 z.1) (λ j. (sym turn j, sym is j)) (shut_goes_by m.0.start l.board.entries (part_of m.0) l.closed)

-- what is asked of a seat that leaves
pub leaving : (m m1 : Mine) (n : ℕ) (l l' : Locked) (more : ℕ) → HasOut m (part_of m.0) n l m1 → l'.board.start ≡ l.board.start → l.board.start ≡ m.0.start
    → Goes m.0.start (with_seen (history_of l) (part_of m.0)) (history_of l') more → length_with_mark (history_of l) + more < 18446744073709551616
    → ((k : ℕ) × (m1.0.stage ≡ Holding k)) × ((m1.1 ≡ (0, None) ∷ []) × (m1.0.parts ≡ part_of m1.0 ∷ []))
    × ((l'.board.start ≡ m1.0.start) × Goes m1.0.start (part_of m1.0) (history_of l') more × (length_with_mark (part_of m1.0).seen + more < 18446744073709551616))
leaving m m1 n l l' more is start_same start_is goes few = (
  (n, ap (λ (x : Mine). x.0.stage) is),
  (ap (λ (x : Mine). x.1) is, subst (λ (x : Mine). x.0.parts ≡ part_of x.0 ∷ []) (sym is) refl),
  subst (λ (x : Mine). (l'.board.start ≡ x.0.start) × Goes x.0.start (part_of x.0) (history_of l') more × (length_with_mark (part_of x.0).seen + more < 18446744073709551616)) (sym is) (start_same ∙ start_is, goes, few),
)

-- ---- the pass after a turn

-- a turn went from the history of l to that of l'
pub record HasTurned (m : Mine) (c : ℕ) (l l' : Locked) (m' : Mine) : Type 0 where
  pub pass : IsPass m' c
  pub start : m'.0.start ≡ m.0.start
  pub found : SeesOn c (part_of m.0).seen (history_of l)
  pub seen : (part_of m'.0).seen ≡ history_of l'
  pub lawful : AreLawful m.0.start l'.board.entries
  pub shut : (part_of m'.0).shut ≡ ((part_of m.0).shut || puts_mark (history_of l) (history_of l'))

pub turn_done : (m m1 m2 : Mine) (n c : ℕ) (l l' : Locked) (more : ℕ) → IsPass m c → HasOut m (part_of m.0) n l m1 → IsTaken m (part_of m.0) l
    → m2 ≡ (record { start = m1.0.start; parts = with_count (history_of l') (part_of m1.0) ∷ []; stage = Idle }, [])
    → Goes m.0.start (with_seen (history_of l) (part_of m.0)) (history_of l') more → HasTurned m c l l' m2
turn_done m m1 m2 n c l l' more pass is taken is' goes =
    let p : ChannelPart = part_of m.0 in let h : History = history_of l in let h' : History = history_of l' in
    let lawful : AreLawful m.0.start h'.entries = goes_lawful m.0.start (with_seen h p) h' more goes taken.1 in
    let m3 : Mine = (record { start = m.0.start; parts = with_count h' (with_seen h p) ∷ []; stage = Idle }, []) in
    let e : m2 ≡ m3 = is' ∙ (λ i. (record { start = (is i).0.start; parts = with_count h' (part_of (is i).0) ∷ []; stage = Idle }, [])) in
    let own : own_entries c h'.entries ≡ own_entries p.channel h'.entries = ap (λ (x : ℕ). own_entries x h'.entries) (sym pass.3) in
    let seen : p.shut ≡ true → h.closed ≡ true = λ on. ap (λ (x : History). x.closed) (taken.2.sees.closed (pass.6 on)) ∙ pass.6 on in
    subst (HasTurned m c l l') (sym e) record {
      pass = (refl, refl, refl, pass.3, lawful, own, counted_mark m.0.start (with_seen h p) h' more goes seen);
      start = refl;
      found = subst (λ (x : ℕ). SeesOn x p.seen h) pass.3 taken.2.sees;
      seen = refl;
      lawful = lawful;
      shut = refl;
    }

same_pass : (t t' : TableId) (m m' : Mine) (c : ℕ) (l l' : Locked) → HasTurned m c l l' m' → IsSamePass (told_of (pass_view t m c)) (told_of (pass_view t' m' c))
same_pass t t' m m' c l l' d = record {
  channel = refl;
  start = d.start;
  lawful = subst (λ (z : StartView × History). AreLawful z.0 z.1.entries) (λ i. (sym d.start i, sym d.seen i)) d.lawful;
}

pub acted : (t t' : TableId) (m m' : Mine) (c : ℕ) (step : Step) (l l' : Locked) (answer : Option Outcome) → l.board.start ≡ m.0.start → Brings l.board.start c step (history_of l) answer (history_of l')
    → HasTurned m c l l' m' → Acts (told_of (pass_view t m c)) step answer (told_of (pass_view t' m' c))
acted t t' m m' c step l l' answer start_is brings d = record {
  pass = same_pass t t' m m' c l l' d;
  found = history_of l;
  seen = d.found;
  brought = subst (λ (z : StartView × History). Brings z.0 c step (history_of l) answer z.1) (λ i. (start_is i, sym d.seen i)) brings;
}

pub looked : (t t' : TableId) (m m' : Mine) (c : ℕ) (l : Locked) (answer : Option Outcome) → l.board.start ≡ m.0.start → answer ≡ answer_of l.board.start (history_of l) c
    → HasTurned m c l l m' → Looks (told_of (pass_view t m c)) answer (told_of (pass_view t' m' c))
looked t t' m m' c l answer start_is says d = record {
  pass = same_pass t t' m m' c l l d;
  seen = subst (SeesOn c (part_of m.0).seen) (sym d.seen) d.found;
  told = says ∙ (λ i. answer_of ((start_is ∙ sym d.start) i) (sym d.seen i) c);
}

pub closed : (t t' : TableId) (m m' : Mine) (c : ℕ) (l l' : Locked) → history_of l' ≡ closed_after (history_of l) → HasTurned m c l l' m' → Closes (told_of (pass_view t m c)) (told_of (pass_view t' m' c))
closed t t' m m' c l l' is d = record {
  pass = same_pass t t' m m' c l l' d;
  found = history_of l;
  seen = d.found;
  closed = d.seen ∙ is;
}

-- ---- where the closing mark is put

no_mark : (b : Bool) → (not b && b) ≡ false
no_mark true = refl
no_mark false = refl

pub or_false : (b : Bool) → (b || false) ≡ b
or_false true = refl
or_false false = refl

and_true : (b : Bool) → (b && true) ≡ b
and_true true = refl
and_true false = refl

is_another : (a : Outcome) → (a ≡ NoMemory → ⊥) → is_no_memory a ≡ false
is_another (Granted grant) other = refl
is_another Done other = refl
is_another Over other = refl
is_another Closed other = refl
is_another NoMemory other = absurd (other refl)

wants_none : (a : Option Outcome) → (a ≡ Some NoMemory → ⊥) → wants_memory a ≡ false
wants_none None other = refl
wants_none (Some a) other = is_another a (λ is. other (ap (λ (o : Outcome). Some o) is))

pub look_wants_none : (start : StartView) (h : History) (c : ℕ) (a : Option Outcome) → a ≡ answer_of start h c → wants_memory a ≡ false
look_wants_none start h c a said = wants_none a (λ is. (tells_what_is start h c).memory (sym said ∙ is))

brought_mark : (start : StartView) (c : ℕ) (step : Step) (h after : History) (a : Option Outcome) → runs start h c ≡ true → Brings start c step h a after → puts_mark h after ≡ wants_memory a
brought_mark start c step h after a on (ToClosed closed same said) = ap (λ (b : Bool). not b && after.closed) closed ∙ sym (ap wants_memory said)
brought_mark start c step h after a on (ToLook off same said) = no_truth (runs start h c) on off
brought_mark start c step h after a on (ToAct closed ran made said) =
    let open_ : after.closed ≡ false = ap (λ (x : History). x.closed) made ∙ closed in
    (λ i. not (closed i) && open_ i) ∙ sym (look_wants_none start after c a said)
brought_mark start c step h after a on (ToNoMemory closed ran made said) = (λ i. not (closed i) && (made i).closed) ∙ sym (ap wants_memory said)

pub act_mark : (m m' : Mine) (c : ℕ) (step : Step) (l l' : Locked) (answer : Option Outcome) → HasTurned m c l l' m' → l.board.start ≡ m.0.start → runs m.0.start (part_of m.0).seen c ≡ true
    → Brings l.board.start c step (history_of l) answer (history_of l') → (part_of m'.0).shut ≡ ((part_of m.0).shut || wants_memory answer)
act_mark m m' c step l l' answer d start_is on brings = d.shut ∙ ap (λ (b : Bool). (part_of m.0).shut || b)
    (brought_mark m.0.start c step (history_of l) (history_of l') answer (seen_running m.0.start c (part_of m.0).seen (history_of l) on d.found)
    (subst (λ (s : StartView). Brings s c step (history_of l) answer (history_of l')) start_is brings))

pub look_mark : (m m' : Mine) (c : ℕ) (l : Locked) → HasTurned m c l l m' → (part_of m'.0).shut ≡ (part_of m.0).shut
look_mark m m' c l d = d.shut ∙ (ap (λ (b : Bool). (part_of m.0).shut || b) (no_mark l.closed) ∙ or_false (part_of m.0).shut)

pub close_mark : (t t' : TableId) (m m' : Mine) (c : ℕ) (l l' : Locked) → history_of l' ≡ closed_after (history_of l) → HasTurned m c l l' m' → PutsMark (pass_view t m c) (pass_view t' m' c)
close_mark t t' m m' c l l' is d = record {
  found = history_of l;
  seen = d.found;
  closed = d.seen ∙ is;
  shut = d.shut ∙ (ap (λ (h : History). (part_of m.0).shut || puts_mark (history_of l) h) is ∙ ap (λ (b : Bool). (part_of m.0).shut || b) (and_true (not l.closed)));
}

-- ---- the own entries after a turn

one_of : (e : EntryView) (c : ℕ) → e.channel ≡ c → own_entries c (e ∷ []) ≡ e ∷ []
one_of e c is = let hit = eq-eqb e.channel c is in rw hit refl

own_found : (m m' : Mine) (c : ℕ) (l l' : Locked) → IsPass m c → HasTurned m c l l' m' → own_entries c l.board.entries ≡ (part_of m.0).mine
own_found m m' c l l' pass d = own_seen c (part_of m.0).seen (history_of l) d.found ∙ pass.5

own_after : (m m' : Mine) (c : ℕ) (l l' : Locked) → HasTurned m c l l' m' → (part_of m'.0).mine ≡ own_entries c l'.board.entries
own_after m m' c l l' d = sym d.pass.5 ∙ ap (λ (h : History). own_entries c h.entries) d.seen

pub mine_same : (m m' : Mine) (c : ℕ) (l l' : Locked) → IsPass m c → l'.board.entries ≡ l.board.entries → HasTurned m c l l' m' → (part_of m'.0).mine ≡ (part_of m.0).mine
mine_same m m' c l l' pass same d = own_after m m' c l l' d ∙ (ap (own_entries c) same ∙ own_found m m' c l l' pass d)

mine_more : (m m' : Mine) (c : ℕ) (l l' : Locked) (e : EntryView) → IsPass m c → e.channel ≡ c → l'.board.entries ≡ l.board.entries ++ e ∷ [] → HasTurned m c l l' m' → (part_of m'.0).mine ≡ (part_of m.0).mine ++ e ∷ []
mine_more m m' c l l' e pass own made d = own_after m m' c l l' d ∙ (ap (own_entries c) made ∙ (own_append c l.board.entries (e ∷ []) ∙ (λ i. own_found m m' c l l' pass d i ++ one_of e c own i)))

makes_by : (t t' : TableId) (m m' : Mine) (c : ℕ) (step : Step) (l l' : Locked) (answer : Option Outcome) (start : StartView) → IsPass m c → HasTurned m c l l' m' → runs start (history_of l) c ≡ true
    → Brings start c step (history_of l) answer (history_of l') → Makes (pass_view t m c) step answer (pass_view t' m' c)
makes_by t t' m m' c step l l' answer start pass d on (ToClosed closed same said) = NoEntry (mine_same m m' c l l' pass (ap (λ (h : History). h.entries) same) d) (inl said)
makes_by t t' m m' c step l l' answer start pass d on (ToLook off same said) = no_truth (runs start (history_of l) c) on off
makes_by t t' m m' c step l l' answer start pass d on (ToAct closed ran made said) =
    AnEntry (entry_of (board_of start (history_of l)) c step) refl (mine_more m m' c l l' (entry_of (board_of start (history_of l)) c step) pass refl (ap (λ (h : History). h.entries) made) d)
makes_by t t' m m' c step l l' answer start pass d on (ToNoMemory closed ran made said) = NoEntry (mine_same m m' c l l' pass (ap (λ (h : History). h.entries) made) d) (inr said)

pub makes : (t t' : TableId) (m m' : Mine) (c : ℕ) (step : Step) (l l' : Locked) (answer : Option Outcome) → IsPass m c → HasTurned m c l l' m' → l.board.start ≡ m.0.start → runs m.0.start (part_of m.0).seen c ≡ true
    → Brings l.board.start c step (history_of l) answer (history_of l') → Makes (pass_view t m c) step answer (pass_view t' m' c)
makes t t' m m' c step l l' answer pass d start_is on brings =
    makes_by t t' m m' c step l l' answer m.0.start pass d (seen_running m.0.start c (part_of m.0).seen (history_of l) on d.found)
    (subst (λ (s : StartView). Brings s c step (history_of l) answer (history_of l')) start_is brings)
