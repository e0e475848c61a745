use Rattle.tool_offsets.proofs.ShiftLaws.{made_sound}
use Rattle.tool_offsets.proofs.shifts.shift.Goals as goal

pub returns-clause-sound : goal.returns-clause-sound
returns-clause-sound c = made_sound c.args.by.now c.args.motion.now c.shift_motion.result c.requires.sound c.shift_motion.ensures
