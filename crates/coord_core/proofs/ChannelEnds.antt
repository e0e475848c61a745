-- The ends of channels, one after another.
use Rattle.std.proofs.Common.{◌≡◌, ℕ, suc, ◌+◌, ◌-◌, ◌<◌, Bool, true, false, cond, List, ◌++◌, Option, Some, None, refl, ap, ◌∙◌, arith}
use Rattle.std.specs.List.{range_with_len}
use Rattle.std.specs.Option.{option_to_list}
use Rattle.axis_sets.specs.declared.limits.TheConstants.{CHANNEL_PLACES}
use Rattle.coord_core.specs.Boards.{BoardView, channel_state, replayed}
use Rattle.sync_types.specs.BoardEnds.{end_of, ends_among, with_end}
use Rattle.sync_types.specs.Boards.{State, IsIdle, IsRunning, IsHolding, HasEnded, HasAlarmed, Board, first_board}
use Rattle.sync_types.specs.Starts.{has_channel}
use Rattle.sync_types.specs.Views.{StartView}
use Rattle.sync_types.specs.declared.ChannelEnd.{ChannelEnd}
use Rattle.coord_core.proofs.Numbers.{start_of_entries}
use Rattle.coord_core.specs.Ends.{end_at, end_by}

pub end_told : (s : State) → end_by (channel_state s) ≡ end_of s
end_told IsIdle = refl
end_told (IsRunning grant) = refl
end_told (IsHolding hold line) = refl
end_told (HasEnded line) = refl
end_told (HasAlarmed code line) = refl

-- a board has the channels of its start
pub same_channel : (view : BoardView) (start : StartView) (c : ℕ) → view.start ≡ start → has_channel (replayed view).start c ≡ has_channel start c
same_channel view start c same = ap (λ (s : StartView). has_channel s c) (start_of_entries (first_board view.start) view.entries ∙ same)

one_end : (there : Bool) (o : Option ChannelEnd) (rest : List ChannelEnd) → cond there (with_end o rest) rest ≡ option_to_list (cond there o None) ++ rest
one_end true (Some end) rest = refl
one_end true None rest = refl
one_end false o rest = refl

-- from a number on
pub ends_more : (b : Board) (n : ℕ) → n < CHANNEL_PLACES
    → ends_among b (range_with_len n (CHANNEL_PLACES - n)) ≡ option_to_list (end_at b n) ++ ends_among b (range_with_len (n + 1) (CHANNEL_PLACES - (n + 1)))
ends_more b n below =
    let count : CHANNEL_PLACES - n ≡ suc (CHANNEL_PLACES - (n + 1)) = omega arith in
    ap (λ (k : ℕ). ends_among b (range_with_len n k)) count
    ∙ one_end (has_channel b.start n) (end_of (b.state n)) (ends_among b (range_with_len (n + 1) (CHANNEL_PLACES - (n + 1))))

pub end_there : (b : Board) (c : ℕ) → has_channel b.start c ≡ true → end_of (b.state c) ≡ end_at b c
end_there b c on = rw on refl

pub end_missing : (b : Board) (c : ℕ) → has_channel b.start c ≡ false → None ≡ end_at b c
end_missing b c off = rw off refl
