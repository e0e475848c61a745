-- The ends of a sound arc are near its centre.
use Rattle.std.proofs.Common.{◌≤◌, subst, sym}
use Rattle.std.specs.Int.RustNames.{unsigned_abs}
use Rattle.std.specs.Prelude.{ℤ, ◌-ℤ◌}
use Rattle.arc_quadrants.proofs.SoundArcs.{start_near, end_near}
use Rattle.arc_quadrants.proofs.seen.seen_ends.Goals as goal

pub away-requires : goal.away-requires
away-requires c =
    subst (λ (z : ℤ). unsigned_abs (z -ℤ c.args.arc.now.centre.0) ≤ 20000000) (sym c.ends_of-start_u.ensures.start) (start_near c.args.arc.now c.requires).u

pub away-requires-2 : goal.away-requires-2
away-requires-2 c =
    subst (λ (z : ℤ). unsigned_abs (z -ℤ c.args.arc.now.centre.1) ≤ 20000000) (sym c.ends_of-start_v.ensures.start) (start_near c.args.arc.now c.requires).v

pub away-requires-3 : goal.away-requires-3
away-requires-3 c =
    subst (λ (z : ℤ). unsigned_abs (z -ℤ c.args.arc.now.centre.0) ≤ 20000000) (sym c.ends_of-start_u.ensures.end) (end_near c.args.arc.now c.requires).u

pub away-requires-4 : goal.away-requires-4
away-requires-4 c =
    subst (λ (z : ℤ). unsigned_abs (z -ℤ c.args.arc.now.centre.1) ≤ 20000000) (sym c.ends_of-start_v.ensures.end) (end_near c.args.arc.now c.requires).v
