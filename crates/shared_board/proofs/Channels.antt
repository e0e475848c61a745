-- Passes of channels, one after another.
use Rattle.std.proofs.Common.{◌≡◌, ℕ, suc, ◌+◌, ◌-◌, ◌<◌, Bool, true, false, List, [], ◌∷◌, ◌++◌, map, refl, sym, ap, ◌∙◌, append_assoc, arith, if◌then◌else◌}
use Rattle.std.specs.Prelude.{filter}
use Rattle.std.specs.List.{range_with_len}
use Rattle.axis_sets.specs.declared.limits.TheConstants.{CHANNEL_PLACES}
use Rattle.shared_board.specs.Passes.{pass_of}
use Rattle.shared_board.specs.declared.shared.Pass.{Pass}
use Rattle.sync_types.specs.Starts.{has_channel}
use Rattle.sync_types.specs.Views.{StartView}

-- the passes of the channels from a number on
abbrev pub passes_from : StartView → ℕ → List Pass
passes_from start n = map pass_of (filter (has_channel start) (range_with_len n (CHANNEL_PLACES - n)))

pass_there : (there : Bool) (c : ℕ) (cs : List ℕ) → there ≡ true → map pass_of (if there then c ∷ cs else cs) ≡ pass_of c ∷ map pass_of cs
pass_there true c cs is = refl
pass_there false c cs is = cc

pass_missing : (there : Bool) (c : ℕ) (cs : List ℕ) → there ≡ false → map pass_of (if there then c ∷ cs else cs) ≡ map pass_of cs
pass_missing false c cs is = refl
pass_missing true c cs is = cc

one_fewer : (start : StartView) (n : ℕ) → n < CHANNEL_PLACES
    → passes_from start n ≡ map pass_of (if has_channel start n then n ∷ filter (has_channel start) (range_with_len (n + 1) (CHANNEL_PLACES - (n + 1))) else filter (has_channel start) (range_with_len (n + 1) (CHANNEL_PLACES - (n + 1))))
one_fewer start n below =
    let count : CHANNEL_PLACES - n ≡ suc (CHANNEL_PLACES - (n + 1)) = omega arith in
    ap (λ (k : ℕ). map pass_of (filter (has_channel start) (range_with_len n k))) count

pub has_pass : (start : StartView) (n : ℕ) (passes : List Pass) → n < CHANNEL_PLACES → has_channel start n ≡ true
    → (passes ++ pass_of n ∷ []) ++ passes_from start (n + 1) ≡ passes ++ passes_from start n
has_pass start n passes below there =
    append_assoc passes (pass_of n ∷ []) (passes_from start (n + 1))
    ∙ ap (λ (ps : List Pass). passes ++ ps) (sym (one_fewer start n below ∙ pass_there (has_channel start n) n (filter (has_channel start) (range_with_len (n + 1) (CHANNEL_PLACES - (n + 1)))) there))

pub has_no_pass : (start : StartView) (n : ℕ) → n < CHANNEL_PLACES → has_channel start n ≡ false → passes_from start (n + 1) ≡ passes_from start n
has_no_pass start n below missing =
    sym (one_fewer start n below ∙ pass_missing (has_channel start n) n (filter (has_channel start) (range_with_len (n + 1) (CHANNEL_PLACES - (n + 1)))) missing)
