-- Steps. What is found once in the text of a program.
use Rattle.std.specs.Prelude.{◌≡◌, ℕ, ◌^◌, ◌<◌, List, length, slice_index}
use Rattle.nc_blocks.specs.Statement.{BlockView}
use Rattle.nc_control_flow.specs.Structures.{closing, branching, opening}
use Rattle.nc_control_flow.specs.Index.{Labels, Numbers, IsIndex}
use Rattle.nc_control_flow.specs.Counted.{plain_from}

-- these hold the end, the branch and the beginning of the structure round each place
pub record AreStructures (blocks : List BlockView) (ends branches openers : List ℕ) : Type 0 where
  pub ends_length : length ends ≡ length blocks
  pub branches_length : length branches ≡ length blocks
  pub openers_length : length openers ≡ length blocks
  pub end_at : (k : ℕ) → k < length blocks → slice_index ends k ≡ closing k blocks
  pub branch_at : (k : ℕ) → k < length blocks → slice_index branches k ≡ branching k blocks
  pub opener_at : (k : ℕ) → k < length blocks → slice_index openers k ≡ opening k blocks

-- these hold the place of the nearest block without `/` at or after each place
pub record IsPlain (blocks : List BlockView) (plain : List ℕ) : Type 0 where
  pub plain_length : length plain ≡ length blocks
  pub plain_at : (k : ℕ) → k < length blocks → slice_index plain k ≡ plain_from blocks k

pub record IsResolved (blocks : List BlockView) (ends branches openers plain : List ℕ) (labels : Labels) (numbers : Numbers) : Type 0 where
  pub few : length blocks < 2 ^ 32
  pub structures : AreStructures blocks ends branches openers
  pub plain_places : IsPlain blocks plain
  pub index : IsIndex blocks labels numbers
