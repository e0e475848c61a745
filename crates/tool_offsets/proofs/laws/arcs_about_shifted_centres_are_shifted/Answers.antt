use Rattle.tool_offsets.proofs.ShiftLaws.{about_shifted}
use Rattle.tool_offsets.proofs.laws.arcs_about_shifted_centres_are_shifted.Goals as goal

pub returns : goal.returns
returns c by ends first second centre plane = about_shifted by ends first second plane centre
