-- Passes that are cut from the first seat, and passes that come back.
use Rattle.atomic_table.specs.Seated.{TableId}
use Rattle.atomic_table.specs.Table.{Final, Seen}
use Rattle.axis_sets.specs.declared.limits.TheConstants.{CHANNEL_PLACES}
use Rattle.coord_core.specs.Histories.{History, history_of}
use Rattle.coord_core.specs.declared.locked.Locked.{Locked}
use Rattle.std.proofs.Common.{◌||◌, All, Bool, List, Option, Some, ap, append-nil, arith, false, filter, length, map, refl, subst, suc, sym, take, true, zero, ℕ, ◌≡◌, ◌+◌, ◌<◌, ◌≤◌, [], ◌∷◌, ◌++◌, ◌∙◌, ◌-◌, if◌then◌else◌}
use Rattle.std.specs.List.{list_any, range_with_len}
use Rattle.sync_types.specs.Starts.{has_channel}
use Rattle.sync_types.specs.Views.{StartView}
use Rattle.ticket_board.proofs.Framing.{at_most_one, final_home}
use Rattle.ticket_board.proofs.Histories.{differ, own_whole}
use Rattle.ticket_board.proofs.Totals.{length_map}
use Rattle.ticket_board.specs.Passes.{EndsFor, HasOneHistory, IsPassOf, TicketBoardView, TicketPassView, channels_of, fresh_pass, fresh_passes}
use Rattle.ticket_board.specs.Rule.{Every, Fits, IsKept, fresh_part, marks_for, one_if}
use Rattle.ticket_board.specs.Steps.{Mine, only_first}
use Rattle.ticket_board.specs.Turns.{IsPass, first_pass, part_in, part_of, pass_view}
use Rattle.ticket_board.specs.declared.rule.ChannelPart.{ChannelPart}
use Rattle.ticket_board.specs.declared.rule.Stage.TheVariants.{Idle}
use Rattle.ticket_board.specs.declared.rule.View.{View}
use lib.ListN.{get_elem?}
use mathlib.Core.Option.{some, some-injective}

pub fresh_is_pass : (t : TableId) (v : View) (c : ℕ) (ps : List ChannelPart) → v.parts ≡ fresh_part c ∷ ps → IsPass (only_first v, []) c × (pass_view t (only_first v, []) c ≡ first_pass t v.start c)
fresh_is_pass t v c ps is = subst (λ (qs : List ChannelPart). IsPass (record { start = v.start; parts = take 1 qs; stage = Idle }, []) c × (pass_view t (record { start = v.start; parts = take 1 qs; stage = Idle }, []) c ≡ first_pass t v.start c)) (sym is)
    ((refl, refl, refl, refl, tt, refl, λ on. absurd (differ on)), refl)

pub part_is : (t : TableId) (m : Mine) (c : ℕ) → IsPass m c → m.0.parts ≡ part_in (pass_view t m c) ∷ []
part_is t m c pass = pass.2 ∙ ap (λ (x : ℕ). record { channel = x; seen = (part_of m.0).seen; mine = (part_of m.0).mine; shut = (part_of m.0).shut } ∷ []) pass.3

-- ---- the channels from a number on

abbrev pub channels_from : StartView → ℕ → List ℕ
channels_from start n = filter (has_channel start) (range_with_len n (CHANNEL_PLACES - n))

there_by : (there : Bool) (c : ℕ) (cs : List ℕ) → there ≡ true → (if there then c ∷ cs else cs) ≡ c ∷ cs
there_by true c cs is = refl
there_by false c cs is = cc

missing_by : (there : Bool) (c : ℕ) (cs : List ℕ) → there ≡ false → (if there then c ∷ cs else cs) ≡ cs
missing_by false c cs is = refl
missing_by true c cs is = cc

one_fewer : (start : StartView) (n : ℕ) → n < CHANNEL_PLACES
    → channels_from start n ≡ (if has_channel start n then n ∷ channels_from start (n + 1) else channels_from start (n + 1))
one_fewer start n below =
    let count : CHANNEL_PLACES - n ≡ suc (CHANNEL_PLACES - (n + 1)) = omega arith in
    ap (λ (k : ℕ). filter (has_channel start) (range_with_len n k)) count

pub has_next : (start : StartView) (n : ℕ) → n < CHANNEL_PLACES → has_channel start n ≡ true → channels_from start n ≡ n ∷ channels_from start (n + 1)
has_next start n below there = one_fewer start n below ∙ there_by (has_channel start n) n (channels_from start (n + 1)) there

pub has_no_next : (start : StartView) (n : ℕ) → n < CHANNEL_PLACES → has_channel start n ≡ false → channels_from start n ≡ channels_from start (n + 1)
has_no_next start n below missing = one_fewer start n below ∙ missing_by (has_channel start n) n (channels_from start (n + 1)) missing

-- past the last channel none is left to cut
pub all_cut : (t : TableId) (start : StartView) (passes : List TicketPassView)
    → passes ++ map (first_pass t start) (channels_from start CHANNEL_PLACES) ≡ map (first_pass t start) (channels_from start 1)
    → passes ≡ map (first_pass t start) (channels_of start)
all_cut t start passes is = sym (append-nil passes) ∙ is

-- ---- all passes are back

pub every_mid : {X : Type 0} (P : X → Type 0) (xs ys : List X) (x : X) → Every P (xs ++ x ∷ ys) → P x
every_mid P [] ys x e = e.0
every_mid P (y ∷ xs) ys x e = every_mid P xs ys x e.1

pub every_of_all : {X : Type 0} (P : X → Type 0) (xs : List X) → All P xs → Every P xs
every_of_all P [] a = tt
every_of_all P (x ∷ xs) a = (a 0 x (omega arith), every_of_all P xs (λ k d within. a (suc k) d (omega (arith, within))))

pub all_of_every : {X : Type 0} (P : X → Type 0) (xs : List X) → Every P xs → All P xs
all_of_every P [] e k d within = absurd (omega (arith, within))
all_of_every P (x ∷ xs) e zero d within = e.0
all_of_every P (x ∷ xs) e (suc k) d within = all_of_every P xs e.1 k d (omega (arith, within))

fits_each : (board : TicketBoardView) (cs : List ℕ) → Every (IsPassOf board) (map (fresh_pass board) cs)
fits_each board [] = tt
fits_each board (c ∷ cs) = ((refl, refl), fits_each board cs)

-- the passes of a new board are its passes, and all of them
pub fresh_fit : (board : TicketBoardView) → All (IsPassOf board) (fresh_passes board)
fresh_fit board = all_of_every (IsPassOf board) (fresh_passes board) (fits_each board (channels_of board.start))

pub fresh_count : (board : TicketBoardView) → length (fresh_passes board) ≡ length (channels_of board.start)
fresh_count board = length_map (fresh_pass board) (channels_of board.start)

pub ends_for : (start : StartView) (l : Locked) (ps : List TicketPassView) → Every (Fits start (history_of l)) (map part_in ps) → Every (EndsFor (history_of l)) ps
ends_for start l [] e = tt
ends_for start l (p ∷ ps) e = (record { seen = e.0.sees; mine = own_whole start (history_of l) (part_in p) e.0; shut = e.0.shut }, ends_for start l ps e.1)

-- ---- the closing mark

abbrev has_seen_mark : TicketPassView → Bool
has_seen_mark pass = pass.seen.closed

abbrev has_put_mark : TicketPassView → Bool
has_put_mark pass = pass.shut

same_truth : (a b : Bool) → (a ≡ true → b ≡ true) → (b ≡ true → a ≡ true) → a ≡ b
same_truth true b f g = sym (f refl)
same_truth false true f g = absurd (differ (g refl))
same_truth false false f g = refl

-- ---- where it was put

mark_counted : (b : Bool) (n : ℕ) (left_ : Bool) → 1 ≤ one_if b + n → (1 ≤ n → left_ ≡ true) → (b || left_) ≡ true
mark_counted true n left_ one_there more = refl
mark_counted false n left_ one_there more = more (omega (arith, one_there))

mark_put : (ps : List TicketPassView) → 1 ≤ marks_for (map part_in ps) → list_any has_put_mark ps ≡ true
mark_put [] one_there = absurd (omega (arith, one_there))
mark_put (p ∷ ps) one_there = mark_counted p.shut (marks_for (map part_in ps)) (list_any has_put_mark ps) one_there (mark_put ps)

counts_mark : (b left_ : Bool) (n : ℕ) → (b || left_) ≡ true → (left_ ≡ true → 1 ≤ n) → 1 ≤ one_if b + n
counts_mark true left_ n either more = omega arith
counts_mark false left_ n either more = let m = more either in omega (arith, m)

put_counted : (ps : List TicketPassView) → list_any has_put_mark ps ≡ true → 1 ≤ marks_for (map part_in ps)
put_counted [] one_there = absurd (differ one_there)
put_counted (p ∷ ps) one_there = counts_mark p.shut (list_any has_put_mark ps) (marks_for (map part_in ps)) one_there (put_counted ps)

longer_by : (b : Bool) (p : TicketPassView) (n : ℕ) (ps : List TicketPassView) → n ≡ length ps → one_if b + n ≡ length (if b then p ∷ ps else ps)
longer_by true p n ps is = omega (arith, is)
longer_by false p n ps is = omega (arith, is)

marks_as_put : (ps : List TicketPassView) → marks_for (map part_in ps) ≡ length (filter has_put_mark ps)
marks_as_put [] = refl
marks_as_put (p ∷ ps) = longer_by p.shut p (marks_for (map part_in ps)) (filter has_put_mark ps) (marks_as_put ps)

one_there_is : (b : Bool) → 1 ≤ one_if b → b ≡ true
one_there_is true there = refl
one_there_is false there = absurd (omega (arith, there))

-- the history is closed exactly where a pass has put the mark
closed_as_put : (b : Bool) (ps : List TicketPassView) → marks_for (map part_in ps) ≡ one_if b → b ≡ list_any has_put_mark ps
closed_as_put b ps is = same_truth b (list_any has_put_mark ps)
    (λ on. let one : one_if b ≡ 1 = ap one_if on in mark_put ps (omega (arith, is, one)))
    (λ on. let one = put_counted ps on in one_there_is b (omega (arith, is, one)))

-- which one has
put_once : (b : Bool) (ps : List TicketPassView) → marks_for (map part_in ps) ≡ one_if b → length (filter has_put_mark ps) ≤ 1
put_once b ps is = let as_many = marks_as_put ps in let few = at_most_one b in omega (arith, as_many, few, is)

-- ---- where it was seen

either_more : (a b c d : Bool) → (a || b) ≡ true → (a ≡ true → c ≡ true) → (b ≡ true → d ≡ true) → (c || d) ≡ true
either_more true b c d either here there = ap (λ (x : Bool). x || d) (here refl)
either_more false b true d either here there = refl
either_more false b false d either here there = there either

put_seen : (h : History) (ps : List TicketPassView) → Every (EndsFor h) ps → list_any has_put_mark ps ≡ true → list_any has_seen_mark ps ≡ true
put_seen h [] e one_there = one_there
put_seen h (p ∷ ps) e one_there = either_more p.shut (list_any has_put_mark ps) p.seen.closed (list_any has_seen_mark ps) one_there e.0.shut (put_seen h ps e.1)

mark_by : (a b x : Bool) → (a || b) ≡ true → (a ≡ true → x ≡ true) → (b ≡ true → x ≡ true) → x ≡ true
mark_by true b x either here there = here refl
mark_by false b x either here there = there either

mark_stands : (h : History) (ps : List TicketPassView) → Every (EndsFor h) ps → list_any has_seen_mark ps ≡ true → h.closed ≡ true
mark_stands h [] e one_there = absurd (differ one_there)
mark_stands h (p ∷ ps) e one_there = mark_by p.seen.closed (list_any has_seen_mark ps) h.closed one_there (λ on. ap (λ (x : History). x.closed) (e.0.seen.closed on) ∙ on) (mark_stands h ps e.1)

nil_of : {X : Type 0} (xs : List X) → length xs ≡ 0 → xs ≡ []
nil_of [] h = refl
nil_of (x ∷ xs) h = absurd (omega arith)

-- what is known once all passes are back and the table is closed
pub record HasEnded (key : StartView) (ps : List TicketPassView) (slot : Option Locked) : Type 0 where
  pub locked : Locked
  pub slot_is : slot ≡ Some locked
  pub start_is : locked.board.start ≡ key
  pub history : HasOneHistory ps locked.board

pub finished : (key : StartView) (id : ℕ) (v : View) (ws : List ℕ) (xs : List (Option Locked)) (ps left done : List TicketPassView) (slot : Option Locked) → v.stage ≡ Idle → v.parts ≡ map part_in done → ps ≡ left ++ done → length left ≡ 0
    → length ps ≡ length (channels_of key) → Final (Seen (IsKept key) id v) ws xs → get_elem? xs 0 ≡ some slot → HasEnded key ps slot
finished key id v ws xs ps left done slot idle parts are none_left all final at =
    let same : ps ≡ done = are ∙ ap (λ (zs : List TicketPassView). zs ++ done) (nil_of left none_left) in
    let long = length_map part_in done in let a = ap (λ (zs : List TicketPassView). length zs) same in let b = ap (λ (zs : List ChannelPart). length zs) parts in
    let f = final_home key id v ws xs idle (omega (arith, long, a, b, all)) final in let l : Locked = f.0 in
    let ends : Every (EndsFor (history_of l)) ps = subst (Every (EndsFor (history_of l))) (sym same) (ends_for key l done (subst (Every (Fits key (history_of l))) parts f.3)) in
    let marks : marks_for (map part_in ps) ≡ one_if l.closed = subst (λ (qs : List ChannelPart). marks_for qs ≡ one_if l.closed) (parts ∙ ap (map part_in) (sym same)) f.4 in
    let put : l.closed ≡ list_any has_put_mark ps = closed_as_put l.closed ps marks in record {
      locked = l;
      slot_is = some-injective slot (Some l) (sym at ∙ f.1);
      start_is = f.2;
      history = record {
        history = history_of l;
        entries = refl;
        each = all_of_every (EndsFor (history_of l)) ps ends;
        closed = put;
        seen = same_truth l.closed (list_any has_seen_mark ps) (λ on. put_seen (history_of l) ps ends (sym put ∙ on)) (mark_stands (history_of l) ps ends);
        once = put_once l.closed ps marks;
      };
    }
