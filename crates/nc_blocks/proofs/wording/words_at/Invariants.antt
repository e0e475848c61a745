use Rattle.std.proofs.Common.{◌≡◌, ◌≤◌, ◌-◌, length, drop, map}
use Rattle.std.specs.Prelude.{All}
use Rattle.nc_blocks.specs.Indices.{WordFits}
use Rattle.nc_blocks.specs.Lists.{list_from, list_at}
use Rattle.nc_blocks.specs.Statement.{word_view}
use Rattle.nc_blocks.specs.Wording.{word_item_at}
use Rattle.nc_blocks.proofs.wording.words_at.Given as goal

abbrev pub invariant-loop-list : goal.invariant-loop-list
invariant-loop-list l = record {
  within : l.at ≤ length l.words.tokens;
  so_far : list_from (λ before. word_item_at l.words) (map word_view l.list.items) l.at (drop l.at l.words.tokens) 0 ≡ list_at (λ before. word_item_at l.words) l.words l.start;
  fits : All WordFits (map word_view l.list.items);
}

abbrev pub decreases-loop-list : goal.decreases-loop-list
decreases-loop-list l = length l.words.tokens - l.at
