-- Steps. The rule of the table: what its words, its slot and its seats have to do with the one history of the board.
use Rattle.std.specs.Prelude.{◌≡◌, ℕ, ◌+◌, ◌%◌, ◌<◌, ◌≤◌, ◌==◌, Bool, true, false, Option, Some, List, [], ◌∷◌, map, length}
use mathlib.Core.Option.{Option as OptionAt, none, some}
use lib.ListN.{get_elem?}
use Rattle.atomic_table.specs.Table.{State}
use Rattle.coord_core.specs.Desks.{SeesOn, own_entries}
use Rattle.coord_core.specs.Histories.{History, history_of}
use Rattle.coord_core.specs.declared.locked.Locked.{Locked}
use Rattle.sync_types.specs.Boards.{first_board}
use Rattle.sync_types.specs.Turns.{AreEntries}
use Rattle.sync_types.specs.Views.{StartView, EntryView}
use Rattle.ticket_board.specs.Passes.{channels_of, no_history}
use Rattle.ticket_board.specs.declared.rule.ChannelPart.{ChannelPart}
use Rattle.ticket_board.specs.declared.rule.Stage.{Stage}
use Rattle.ticket_board.specs.declared.rule.Stage.TheVariants.{Idle, Waiting, Holding}
use Rattle.ticket_board.specs.declared.rule.View.{View}

abbrev pub AreLawful : StartView → List EntryView → Type 0
AreLawful start entries = AreEntries (first_board start) entries

-- the length of a history, with its closing mark counted
abbrev pub mark_length : Bool → ℕ
mark_length true = 1
mark_length false = 0

abbrev pub length_with_mark : History → ℕ
length_with_mark history = length history.entries + mark_length history.closed

abbrev pub Every : {X : Type 0} → (X → Type 0) → List X → Type 0
Every P [] = Unit {0}
Every P (x ∷ xs) = P x × Every P xs

abbrev pub total : {X : Type 0} → (X → ℕ) → List X → ℕ
total f [] = 0
total f (x ∷ xs) = f x + total f xs

-- the ticket that is out with a seat, and how many such tickets
abbrev pub ticket_in : Stage → OptionAt ℕ
ticket_in Idle = none
ticket_in (Waiting n) = some n
ticket_in (Holding n) = some n

abbrev pub ticket_count : Stage → ℕ
ticket_count Idle = 0
ticket_count (Waiting n) = 1
ticket_count (Holding n) = 1

abbrev pub tickets_of : View → ℕ
tickets_of v = ticket_count v.stage

abbrev pub part_count : View → ℕ
part_count v = length v.parts

abbrev pub one_if : Bool → ℕ
one_if true = 1
one_if false = 0

-- how many parts are of a channel
abbrev pub parts_for : ℕ → List ChannelPart → ℕ
parts_for c ps = total (λ (p : ChannelPart). one_if (p.channel == c)) ps

abbrev pub parts_of_channel : ℕ → View → ℕ
parts_of_channel c v = parts_for c v.parts

-- for how many parts the closing mark was put
abbrev pub marks_for : List ChannelPart → ℕ
marks_for ps = total (λ (p : ChannelPart). one_if p.shut) ps

abbrev pub marks_of : View → ℕ
marks_of v = marks_for v.parts

-- the history begins with what was seen for a channel, which is lawful and has all of the channel's entries; where the closing mark was put for
-- it, that was seen
pub record Fits (start : StartView) (log : History) (p : ChannelPart) : Type 0 where
  pub lawful : AreLawful start p.seen.entries
  pub sees : SeesOn p.channel p.seen log
  pub mine : own_entries p.channel p.seen.entries ≡ p.mine
  pub shut : p.shut ≡ true → p.seen.closed ≡ true

-- a ticket that waits is not served yet; the one that is served holds the slot, and has seen the whole history
abbrev pub Stands : History → ℕ → ℕ → ℕ → Bool → ℕ → List ChannelPart → Stage → Type 0
Stands log drawn served holder out j parts Idle = Unit {0}
Stands log drawn served holder out j parts (Waiting n) = (served ≤ n) × (n < drawn)
Stands log drawn served holder out j parts (Holding n) = (served ≡ n) × (n < drawn) × (out ≡ true) × (j ≡ holder) × Every (λ (p : ChannelPart). p.seen ≡ log) parts

pub record Knows (start : StartView) (log : History) (drawn served holder : ℕ) (out : Bool) (j : ℕ) (v : View) : Type 0 where
  pub start_is : 0 < part_count v → v.start ≡ start
  pub fits : Every (Fits start log) v.parts
  pub room : tickets_of v ≤ part_count v
  pub stands : Stands log drawn served holder out j v.parts v.stage

-- the board is at home and is the replay of the history, or one seat holds it
abbrev pub HomeIs : StartView → History → ℕ → List View → Bool → List (OptionAt (Option Locked)) → Type 0
HomeIs start log holder views true homes = (homes ≡ none ∷ []) × (w : View) × (n : ℕ) × (get_elem? views holder ≡ some w) × (w.stage ≡ Holding n)
HomeIs start log holder views false homes = (l : Locked) × (homes ≡ some (Some l) ∷ []) × (l.board.start ≡ start) × (history_of l ≡ log)

-- no two seats have one ticket
abbrev pub AreApart : List View → Type 0
AreApart views = (i j n : ℕ) (v w : View) → get_elem? views i ≡ some v → get_elem? views j ≡ some w → ticket_in v.stage ≡ some n → ticket_in w.stage ≡ some n → i ≡ j

-- Word 0 counts the tickets drawn, word 1 those served, both modulo 2^64; word 2 is the length of the history. Fewer than 2^64 tickets are out,
-- since each is with a seat that has a part, and there is one part for each channel of the start. The closing mark was put for one part, and
-- where the history has none for no part.
pub record IsKept (key : StartView) (s : State (Option Locked) View) : Type 0 where
  pub drawn : ℕ
  pub served : ℕ
  pub holder : ℕ
  pub out : Bool
  pub log : History
  pub words : s.words ≡ drawn % 18446744073709551616 ∷ served % 18446744073709551616 ∷ length_with_mark log ∷ []
  pub lawful : AreLawful key log.entries
  pub home : HomeIs key log holder s.views out s.homes
  pub each : (j : ℕ) (v : View) → get_elem? s.views j ≡ some v → Knows key log drawn served holder out j v
  pub apart : AreApart s.views
  pub counted : drawn ≡ served + total tickets_of s.views
  pub seats : total part_count s.views ≡ length (channels_of key)
  pub few : length (channels_of key) < 18446744073709551616
  pub lone : (c : ℕ) → total (parts_of_channel c) s.views ≤ 1
  pub marked : total marks_of s.views ≡ one_if log.closed

-- the part of a channel that has seen nothing, and the view of a seat that has all of them
abbrev pub fresh_part : ℕ → ChannelPart
fresh_part c = record { channel = c; seen = no_history; mine = []; shut = false }

abbrev pub first_view : StartView → View
first_view key = record { start = key; parts = map fresh_part (channels_of key); stage = Idle }
