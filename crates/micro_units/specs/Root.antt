-- Meaning. Square roots in whole numbers.
use Rattle.std.specs.Prelude.{ℕ, zero, suc, ◌+◌, ◌*◌, ◌==◌, nat_le, if◌then◌else◌}

-- the greatest number up to k whose square is not above n
abbrev pub root_up_to : ℕ → ℕ → ℕ
root_up_to zero n = 0
root_up_to (suc k) n = if nat_le (suc k * suc k) n then suc k else root_up_to k n

-- the greatest number whose square is not above n
unfoldable pub floor_root : ℕ → ℕ
floor_root n = root_up_to n n

-- the least number whose square is not below n
unfoldable pub ceil_root : ℕ → ℕ
ceil_root n = if floor_root n * floor_root n == n then floor_root n else floor_root n + 1
