use Rattle.std.proofs.Common.{◌≡◌, ◌∙◌, sym, false, arith}
use Rattle.nc_blocks.specs.Pieces.{piece_at}
use Rattle.nc_forms.specs.Coordination.{is_broken}
use Rattle.nc_forms.proofs.Broken.{broken_step}
use Rattle.nc_forms.proofs.messages.has_broken.Goals as goal

pub loop-at-preserved : goal.loop-at-preserved
loop-at-preserved c =
    let sound : is_broken (piece_at c.args.words.now c.loop-at.at) ≡ false = cc in
    sym (broken_step c.args.words.now c.loop-at.at c.args.end (omega arith) sound) ∙ c.loop-at.invariant
