-- Law. What is true of every sound arc: it runs in a ring.
use Rattle.std.specs.Prelude.{◌≡◌, ◌<◌, ◌≤◌, ◌*◌, true, unsigned_abs}
use Rattle.path_geometry.specs.Arcs.{start_seen, end_seen}
use Rattle.path_geometry.specs.Vectors.{Vector, square}
use Rattle.path_geometry.specs.declared.motion.Arc.{Arc}

-- a point that is seen from the centre lies between the two radii, and not on the centre
pub record LiesInRing (arc : Arc) (seen : Vector) : Type 0 where
  pub near_u : unsigned_abs seen.u ≤ 20000000
  pub near_v : unsigned_abs seen.v ≤ 20000000
  pub away : 0 < square seen
  pub from_inner : arc.inner * arc.inner ≤ square seen
  pub to_outer : square seen ≤ arc.outer * arc.outer

-- so do the start and the end of the arc, which are one where it is a whole turn
pub record IsInRing (arc : Arc) : Type 0 where
  pub start : LiesInRing arc (start_seen arc)
  pub end : LiesInRing arc (end_seen arc)
  pub ordered : arc.inner ≤ arc.outer
  pub small : arc.outer ≤ 28284274
  pub closed : arc.full ≡ true → start_seen arc ≡ end_seen arc
