-- Meaning. The quadrants of a plane: where an arc begins and where it ends, and vectors turned back into quadrant 0.
use Rattle.std.specs.Prelude.{ℕ, zero, suc, pos, neg_ℤ, ◌&&◌, if◌then◌else◌}
use Rattle.std.specs.Int.RustNames.{int_lt, int_le}
use Rattle.path_geometry.specs.Vectors.{Vector}

-- a vector turned back by so many quarters, at most three
abbrev pub turned_back : ℕ → Vector → Vector
turned_back zero p = p
turned_back (suc zero) p = record { u = p.v; v = neg_ℤ p.u }
turned_back (suc (suc zero)) p = record { u = neg_ℤ p.u; v = neg_ℤ p.v }
turned_back (suc (suc (suc n))) p = record { u = neg_ℤ p.v; v = p.u }

-- the quadrant in which an arc begins, by its start seen from the centre: on an axis the one ahead
abbrev pub begin_quadrant : Vector → ℕ
begin_quadrant s =
    if int_lt (pos 0) s.u && int_le (pos 0) s.v then 0
    else if int_le s.u (pos 0) && int_lt (pos 0) s.v then 1
    else if int_lt s.u (pos 0) && int_le s.v (pos 0) then 2
    else 3

-- the quadrant in which an arc ends, by its end seen from the centre: on an axis the one before
abbrev pub end_quadrant : Vector → ℕ
end_quadrant e =
    if int_le (pos 0) e.u && int_lt (pos 0) e.v then 0
    else if int_lt e.u (pos 0) && int_le (pos 0) e.v then 1
    else if int_le e.u (pos 0) && int_lt e.v (pos 0) then 2
    else 3
