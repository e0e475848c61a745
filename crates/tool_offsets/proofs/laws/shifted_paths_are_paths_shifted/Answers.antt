use Rattle.tool_offsets.proofs.ShiftedPaths.{shifted_from, shifted_to}
use Rattle.tool_offsets.proofs.laws.shifted_paths_are_paths_shifted.Goals as goal

pub returns : goal.returns
returns c by motion point sound = (shifted_from by motion point sound, shifted_to by motion point sound)
