use Rattle.std.proofs.Common.{◌≡◌, ◌≤◌, ◌-◌, length, drop, map}
use Rattle.std.specs.Prelude.{All}
use Rattle.nc_blocks.specs.Indices.{EntryFits}
use Rattle.nc_blocks.specs.Lists.{list_from, list_at}
use Rattle.nc_blocks.specs.Statement.{frame_entry}
use Rattle.nc_forms.specs.Frames.{frame_word_at}
use Rattle.nc_forms.proofs.frames.frame_words_at.Given as goal

abbrev pub invariant-loop-list : goal.invariant-loop-list
invariant-loop-list l = record {
  within : l.at ≤ length l.words.tokens;
  so_far : list_from (frame_word_at l.words) (map frame_entry l.list.items) l.at (drop l.at l.words.tokens) 0 ≡ list_at (frame_word_at l.words) l.words l.start;
  fits : All EntryFits (map frame_entry l.list.items);
}

abbrev pub decreases-loop-list : goal.decreases-loop-list
decreases-loop-list l = length l.words.tokens - l.at
