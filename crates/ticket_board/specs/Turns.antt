-- Steps. A pass between its turns, as a seat with one part, and what a turn counts.
use Rattle.std.specs.Prelude.{◌≡◌, ℕ, Bool, true, false, Option, Some, None, List, [], ◌∷◌}
use Rattle.atomic_table.specs.Seated.{TableId}
use Rattle.coord_core.specs.Desks.{own_entries}
use Rattle.coord_core.specs.declared.outcome.Outcome.{Outcome}
use Rattle.sync_types.specs.Views.{StartView}
use Rattle.ticket_board.specs.Passes.{TicketPassView, is_no_memory, no_history}
use Rattle.ticket_board.specs.Rule.{AreLawful, fresh_part}
use Rattle.ticket_board.specs.Steps.{Mine}
use Rattle.ticket_board.specs.declared.rule.ChannelPart.{ChannelPart}
use Rattle.ticket_board.specs.declared.rule.Stage.TheVariants.{Idle}
use Rattle.ticket_board.specs.declared.rule.View.{View}

abbrev pub first_part : List ChannelPart → ChannelPart
first_part [] = fresh_part 0
first_part (p ∷ ps) = p

abbrev pub part_of : View → ChannelPart
part_of v = first_part v.parts

-- how much a turn counts that changes a board: nothing at a closed one
abbrev pub count_at : Bool → ℕ
count_at true = 0
count_at false = 1

-- whether a turn that brought a step had no memory for it
abbrev pub wants_memory : Option Outcome → Bool
wants_memory None = false
wants_memory (Some outcome) = is_no_memory outcome

-- a pass between turns: the part of one channel, which has seen a lawful history, with the channel's own entries in it, and the closing mark
-- where it was put for it
abbrev pub IsPass : Mine → ℕ → Type 0
IsPass m c = (m.0.stage ≡ Idle) × (m.1 ≡ []) × (m.0.parts ≡ part_of m.0 ∷ []) × ((part_of m.0).channel ≡ c)
    × AreLawful m.0.start (part_of m.0).seen.entries × (own_entries c (part_of m.0).seen.entries ≡ (part_of m.0).mine)
    × ((part_of m.0).shut ≡ true → (part_of m.0).seen.closed ≡ true)

abbrev pub pass_view : TableId → Mine → ℕ → TicketPassView
pass_view t m c = record { table_id = t; channel = c; start = m.0.start; seen = (part_of m.0).seen; mine = (part_of m.0).mine; shut = (part_of m.0).shut }

abbrev pub part_in : TicketPassView → ChannelPart
part_in pass = record { channel = pass.channel; seen = pass.seen; mine = pass.mine; shut = pass.shut }

-- the pass of a channel with which nothing was done yet
abbrev pub first_pass : TableId → StartView → ℕ → TicketPassView
first_pass t start c = record { table_id = t; channel = c; start = start; seen = no_history; mine = []; shut = false }
