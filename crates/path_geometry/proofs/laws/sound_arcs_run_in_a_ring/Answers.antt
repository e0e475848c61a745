use Rattle.path_geometry.proofs.RingLaws.{ring}
use Rattle.path_geometry.proofs.laws.sound_arcs_run_in_a_ring.Goals as goal

pub returns : goal.returns
returns c = ring
