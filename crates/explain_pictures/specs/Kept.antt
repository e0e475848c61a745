-- Meaning. Lists of which only the beginning is kept.
use Rattle.std.specs.Prelude.{◌≡◌, ℕ, Bool, List, length, nat_lt, take}

-- the first items of a list, up to a limit, and whether there are more
pub record IsShortened {X : Type 0} (limit : ℕ) (all kept : List X) (more : Bool) : Type 0 where
  pub front : kept ≡ take limit all
  pub rest : more ≡ nat_lt limit (length all)
