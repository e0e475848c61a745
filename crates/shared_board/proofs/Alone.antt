-- What a pass tells that has its board for itself.
use Rattle.std.proofs.Common.{◌≡◌, ℕ, refl}
use Rattle.coord_core.proofs.Running.{sees_itself}
use Rattle.coord_core.specs.BoardTurns.{closed_after}
use Rattle.coord_core.specs.Desks.{Closes}
use Rattle.coord_core.specs.Histories.{history_of}
use Rattle.coord_core.specs.declared.locked.Locked.{Locked}
use Rattle.shared_board.specs.Passes.{told_of}
use Rattle.sync_types.specs.Boards.{first_board}
use Rattle.sync_types.specs.Turns.{AreEntries}

pub closes_alone : (c : ℕ) (before after : Locked) → after.board.start ≡ before.board.start
    → AreEntries (first_board after.board.start) after.board.entries → history_of after ≡ closed_after (history_of before)
    → Closes (told_of c before) (told_of c after)
closes_alone c before after same lawful is = record {
  pass = record { channel = refl; start = same; lawful = lawful };
  found = history_of before;
  seen = sees_itself c (history_of before);
  closed = is;
}
