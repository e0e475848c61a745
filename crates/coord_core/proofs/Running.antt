-- What others leave of a channel that runs.
use Rattle.std.proofs.Common.{◌≡◌, ℕ, ◌==◌, Bool, true, false, List, [], ◌∷◌, ◌++◌, append_assoc, if◌then◌else◌, inl, inr, refl, sym, ap, ap₂, ◌∙◌, eqb-true, eq-eqb}
use Rattle.std.proofs.lemmas.Bool.{cases_Bool}
use Rattle.std.proofs.lemmas.List.{append-nil}
use Rattle.std.proofs.lemmas.List.Elements.{filter-append}
use Rattle.coord_core.proofs.Staying.{stays, stays_in_step}
use Rattle.coord_core.specs.Desks.{SeesOn, own_entries}
use Rattle.coord_core.specs.DeskLaws.{RunsOn, IsSeenRunning}
use Rattle.coord_core.specs.Histories.{History, board_of, runs}
use Rattle.sync_types.proofs.BoardTests.{no_truth}
use Rattle.sync_types.specs.Boards.{State, IsIdle, IsRunning, IsHolding, HasEnded, HasAlarmed, Board, first_board, is_running}
use Rattle.sync_types.specs.Turns.{after_step, after_entries}
use Rattle.sync_types.specs.Views.{StartView, EntryView}

running_stays : (s : State) → is_running s ≡ true → stays s ≡ true
running_stays (IsRunning grant) on = refl
running_stays IsIdle on = on
running_stays (IsHolding hold line) on = on
running_stays (HasEnded line) on = refl
running_stays (HasAlarmed code line) on = refl

other_way : (a b : ℕ) → (a == b) ≡ false → (b == a) ≡ false
other_way a b off = elim (cases_Bool (b == a)) [
  | inl on ↦ no_truth (a == b) (eq-eqb a b (sym (eqb-true b a on))) off
  | inr other ↦ other
]

runs_on_by : (b : Board) (c : ℕ) (e : EntryView) (es : List EntryView) → ((a : Board) → RunsOn a c es) → is_running (b.state c) ≡ true → (own : Bool) → (e.channel == c) ≡ own
    → (if own then e ∷ own_entries c es else own_entries c es) ≡ [] → (after_entries (after_step b e.channel e.step) es).state c ≡ b.state c
runs_on_by b c e es rest on true own none = absurd cc
runs_on_by b c e es rest on false own none =
    let same = stays_in_step b e.channel e.step c (other_way e.channel c own) (running_stays (b.state c) on) in
    rest (after_step b e.channel e.step) (ap is_running same ∙ on) none ∙ same

-- a channel that runs stays as it is while others make steps
pub runs_on : (b : Board) (c : ℕ) (entries : List EntryView) → RunsOn b c entries
runs_on b c [] on none = refl
runs_on b c (e ∷ es) on none = runs_on_by b c e es (λ a. runs_on a c es) on (e.channel == c) refl none

-- entries one after another
pub after_both : (b : Board) (xs ys : List EntryView) → after_entries b (xs ++ ys) ≡ after_entries (after_entries b xs) ys
after_both b [] ys = refl
after_both b (x ∷ xs) ys = after_both (after_step b x.channel x.step) xs ys

-- what a pass has seen of its channel that runs is so in every later history
pub same_state : (start : StartView) (c : ℕ) (seen later : History) → runs start seen c ≡ true → SeesOn c seen later
    → (board_of start later).state c ≡ (board_of start seen).state c
same_state start c seen later on sees =
    ap (λ (es : List EntryView). (after_entries (first_board start) es).state c) sees.begins
    ∙ ap (λ (b : Board). b.state c) (after_both (first_board start) seen.entries sees.more)
    ∙ runs_on (board_of start seen) c sees.more on sees.others

pub seen_running : (start : StartView) (c : ℕ) (seen later : History) → IsSeenRunning start c seen later
seen_running start c seen later on sees = ap is_running (same_state start c seen later on sees) ∙ on

pub sees_itself : (c : ℕ) (seen : History) → SeesOn c seen seen
sees_itself c seen = record { more = []; begins = sym (append-nil seen.entries); others = refl; closed = λ on. refl }

own_of_both : (c : ℕ) (xs ys : List EntryView) → own_entries c xs ≡ [] → own_entries c ys ≡ [] → own_entries c (xs ++ ys) ≡ []
own_of_both c xs ys none no_more = filter-append (λ (e : EntryView). e.channel == c) xs ys ∙ ap₂ (λ (left right : List EntryView). left ++ right) none no_more

-- what is seen in two looks
pub sees_on : (c : ℕ) (seen later last : History) → SeesOn c seen later → SeesOn c later last → SeesOn c seen last
sees_on c seen later last one two = record {
  more = one.more ++ two.more;
  begins = two.begins ∙ ap (λ (es : List EntryView). es ++ two.more) one.begins ∙ append_assoc seen.entries one.more two.more;
  others = own_of_both c one.more two.more one.others two.others;
  closed = λ on. two.closed (ap (λ (h : History). h.closed) (one.closed on) ∙ on) ∙ one.closed on;
}
