use Rattle.std.proofs.Common.{refl}
use Rattle.coordination_tests.proofs.Soundness.{sound_by_tests}
use Rattle.coordination_tests.specs.AxisRows.{one_slide}
use Rattle.coordination_tests.proofs.a_start_is_sound.Goals as goal

pub returns : goal.returns
returns c = sound_by_tests one_slide refl refl refl refl refl refl refl
