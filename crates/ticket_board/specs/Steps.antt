-- Steps. What each kind of step does to the seat that makes it.
use Rattle.std.specs.Prelude.{◌≡◌, ◌⊎◌, ◌&&◌, ◌||◌, ℕ, ◌%◌, ◌==◌, Bool, true, false, not, Option, Some, List, [], ◌∷◌, ◌++◌, map, take, drop, MatchBool}
use Rattle.atomic_table.specs.Table.{Me, rest}
use Rattle.coord_core.specs.Desks.{own_entries}
use Rattle.coord_core.specs.Histories.{History, history_of}
use Rattle.coord_core.specs.declared.locked.Locked.{Locked}
use Rattle.sync_types.specs.Views.{StartView, EntryView}
use Rattle.ticket_board.specs.Rule.{AreLawful, Every, Fits}
use Rattle.ticket_board.specs.declared.rule.ChannelPart.{ChannelPart}
use Rattle.ticket_board.specs.declared.rule.Stage.{Stage}
use Rattle.ticket_board.specs.declared.rule.Stage.TheVariants.{Idle, Waiting, Holding}
use Rattle.ticket_board.specs.declared.rule.View.{View}

-- a seat: its view, and the slots that it holds
abbrev pub Mine : Type 0
Mine = Me (Option Locked) View

abbrev pub at_stage : View → Stage → View
at_stage v stage = record { start = v.start; parts = v.parts; stage = stage }

-- a ticket is drawn
abbrev pub Draws : Mine → ℕ → Mine → Type 0
Draws m r m' = (n : ℕ) × (r ≡ n % 18446744073709551616) × (m' ≡ (at_stage m.0 (Waiting n), m.1))

-- with the whole history seen
abbrev pub with_seen : History → ChannelPart → ChannelPart
with_seen h p = record { channel = p.channel; seen = h; mine = p.mine; shut = p.shut }

-- the slot is taken
abbrev pub Takes : Mine → ℕ → Mine → Type 0
Takes m n m' = (l : Locked) × (m' ≡ (record { start = m.0.start; parts = map (with_seen (history_of l)) m.0.parts; stage = Holding n }, (0, Some l) ∷ m.1))
    × (l.board.start ≡ m.0.start) × AreLawful m.0.start l.board.entries × Every (Fits m.0.start (history_of l)) m.0.parts

abbrev pub awaited_ticket : Stage → ℕ
awaited_ticket (Waiting n) = n
awaited_ticket other = 0

-- the number served is read; where it is the ticket, the slot is taken
abbrev pub Reads : Mine → ℕ → Mine → Type 0
Reads m r m' = MatchBool (r == (awaited_ticket m.0.stage % 18446744073709551616)) (Takes m (awaited_ticket m.0.stage) m') (m' ≡ m)

-- whether the closing mark is put between two histories
abbrev pub puts_mark : History → History → Bool
puts_mark before after = not before.closed && after.closed

-- what was done is counted: what was seen is the history h, with the own entries in it, and the closing mark where it was put
abbrev pub with_count : History → ChannelPart → ChannelPart
with_count h p = record { channel = p.channel; seen = h; mine = own_entries p.channel h.entries; shut = p.shut || puts_mark p.seen h }

abbrev pub Counts : History → Mine → Mine → Type 0
Counts h m m' = m' ≡ (record { start = m.0.start; parts = map (with_count h) m.0.parts; stage = m.0.stage }, m.1)

-- the history h goes on from what was seen for a channel, by the number k: an entry of that channel, the closing mark, or nothing more
abbrev pub Goes : StartView → ChannelPart → History → ℕ → Type 0
Goes start p h k = ((h ≡ p.seen) × (k ≡ 0))
    ⊎ ((p.seen.closed ≡ false) × (k ≡ 1) × (((e : EntryView) × (e.channel ≡ p.channel) × AreLawful start (p.seen.entries ++ e ∷ []) × (h ≡ record { entries = p.seen.entries ++ e ∷ []; closed = false }))
    ⊎ (h ≡ record { entries = p.seen.entries; closed = true })))

-- the slot goes back
abbrev pub Serves : Mine → Mine → Type 0
Serves m m' = m' ≡ (at_stage m.0 Idle, rest m.1)

-- the first part goes to a seat of its own
abbrev pub all_but_first : View → View
all_but_first v = record { start = v.start; parts = drop 1 v.parts; stage = Idle }

abbrev pub only_first : View → View
only_first v = record { start = v.start; parts = take 1 v.parts; stage = Idle }

-- all parts come together
abbrev pub start_with : StartView → List ChannelPart → StartView → StartView
start_with start [] other = other
start_with start (p ∷ ps) other = start

abbrev pub both_views : View → View → View
both_views v w = record { start = start_with v.start v.parts w.start; parts = w.parts ++ v.parts; stage = v.stage }

abbrev pub spent_view : View
spent_view = record { start = record { channels = []; axes = []; zones = [] }; parts = []; stage = Idle }

-- a seat that comes with nothing
abbrev pub Sits : Mine → Type 0
Sits m' = m' ≡ (spent_view, [])
