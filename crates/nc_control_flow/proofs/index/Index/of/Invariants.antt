use Rattle.std.proofs.Common.{◌≡◌, List, ℕ, take}
use Rattle.nc_control_flow.specs.Places.{with_places}
use Rattle.nc_control_flow.specs.Parts.{views}
use Rattle.nc_control_flow.specs.Targets.{has_label, has_number}
use Rattle.nc_control_flow.specs.Index.{label_places, number_places, places_by}
use Rattle.nc_control_flow.proofs.index.Index.of.Given as goal

abbrev pub invariant-loop-place : goal.invariant-loop-place
invariant-loop-place l = record {
  by_label : (name : List ℕ) → label_places l.labels name ≡ places_by (has_label name) (take l.place (with_places (views l.blocks)));
  by_number : (number : ℕ) → number_places l.numbers number ≡ places_by (has_number number) (take l.place (with_places (views l.blocks)));
}
