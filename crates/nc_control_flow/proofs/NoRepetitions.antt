-- Where no repetition runs, none is left.
use Rattle.std.proofs.Common.{◌≡◌, ℕ, ◌==◌, Bool, true, List, [], ◌∷◌, length, filter, refl, arith, rules}
use Rattle.nc_control_flow.specs.declared.repeats.Running.{Running}

pub none_left : (keeps : Running → Bool) (running : List Running) → (length running == 0) ≡ true → running ≡ filter keeps running
none_left keeps [] none = refl
none_left keeps (one ∷ others) none =
    let empty : length (one ∷ others) ≡ 0 = search (rules, none) in
    absurd (omega arith)
