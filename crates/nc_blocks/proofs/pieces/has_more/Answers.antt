use Rattle.std.specs.Prelude.{◌≡◌, length, nat_lt}
use Rattle.std.proofs.Common.{arith, ap, ◌∙◌}
use Rattle.block_scanner.specs.WordsView.{WordsView}
use Rattle.nc_blocks.proofs.Places.{more_read}
use Rattle.nc_blocks.proofs.pieces.has_more.Goals as goal

pub returns : goal.returns
returns c =
    let all : c.len.result ≡ length c.args.words.now.tokens = omega (arith, c.len.ensures.value, ap (λ (w : WordsView). length w.tokens) c.words.view_is) in
    ap (λ n. nat_lt c.args.at n) all ∙ more_read c.args.words.now c.args.at
