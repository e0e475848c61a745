use Rattle.std.proofs.Common.{arith}
use Rattle.g_groups.proofs.HeldWords.{group_below}
use Rattle.g_groups.proofs.Modal.word.Goals as goal

pub bounds-self-inside-from : goal.bounds-self-inside-from
bounds-self-inside-from c = let below = group_below c.args.group c.requires in omega (arith, c.from.ensures)
