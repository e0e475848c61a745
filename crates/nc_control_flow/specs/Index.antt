-- Steps. Places by label and by block number.
use Rattle.std.specs.Prelude.{◌≡◌, ℕ, Bool, List, [], map, filter, nat_eq}
use Rattle.std.specs.Global.{Vec}
use Rattle.std.specs.Option.{option_map_or}
use Rattle.std.specs.Str.{bytes_eq}
use Rattle.std.specs.HashMap.{HashMap, get, get_by}
use Rattle.std.specs.declared.hash.FoldHasher.{FoldHasher}
use Rattle.std.specs.declared.hash.BuildHasherDefault.{BuildHasherDefault}
use Rattle.arrayvec.specs.ArrayVec.{ArrayVec}
use Rattle.nc_blocks.specs.Statement.{BlockView}
use Rattle.nc_control_flow.specs.Places.{with_places}
use Rattle.nc_control_flow.specs.Targets.{has_label, has_number}

abbrev pub Labels : Type 0
Labels = HashMap (ArrayVec ℕ) (Vec ℕ) (BuildHasherDefault FoldHasher)

abbrev pub Numbers : Type 0
Numbers = HashMap ℕ (Vec ℕ) (BuildHasherDefault FoldHasher)

-- the places that stand under a label, and under a number
abbrev pub label_places : Labels → List ℕ → List ℕ
label_places labels name = option_map_or (λ places. places.items) (get_by (λ key. bytes_eq name key.items) labels) []

abbrev pub number_places : Numbers → ℕ → List ℕ
number_places numbers number = option_map_or (λ places. places.items) (get nat_eq numbers number) []

-- the places of those that pass a test
abbrev pub places_by : {B : Type 0} → (B → Bool) → List (ℕ × B) → List ℕ
places_by test es = map (λ e. e.0) (filter (λ e. test e.1) es)

-- these hold the places of each label and each number of the blocks
pub record IsIndex (blocks : List BlockView) (labels : Labels) (numbers : Numbers) : Type 0 where
  pub by_label : (name : List ℕ) → label_places labels name ≡ places_by (has_label name) (with_places blocks)
  pub by_number : (number : ℕ) → number_places numbers number ≡ places_by (has_number number) (with_places blocks)
