-- Places that have what fits no form.
use Rattle.std.proofs.Common.{◌≡◌, ℕ, suc, ◌+◌, ◌-◌, ◌<◌, ap, ◌∙◌, false, arith}
use Rattle.std.specs.Prelude.{◌||◌}
use Rattle.block_scanner.specs.WordsView.{WordsView}
use Rattle.nc_blocks.specs.Pieces.{piece_at}
use Rattle.nc_forms.specs.Coordination.{is_broken, has_broken}

broken_suc : (words : WordsView) (at more : ℕ) → is_broken (piece_at words at) ≡ false → has_broken words at (suc more) ≡ has_broken words (at + 1) more
unfolding has_broken
broken_suc words at more h = ap (λ b. b || has_broken words (at + 1) more) h

pub broken_step : (words : WordsView) (at to : ℕ) → at < to → is_broken (piece_at words at) ≡ false →
    has_broken words at (to - at) ≡ has_broken words (at + 1) (to - (at + 1))
broken_step words at to h e =
    let same : to - at ≡ suc (to - (at + 1)) = omega arith in ap (has_broken words at) same ∙ broken_suc words at (to - (at + 1)) e
