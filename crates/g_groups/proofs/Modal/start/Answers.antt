use Rattle.g_groups.proofs.HeldWords.{IsAfter-start}
use Rattle.g_groups.proofs.Modal.start.Goals as goal

pub returns : goal.returns
returns c = IsAfter-start
