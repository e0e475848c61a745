-- The buffer has room for some of the bytes, or for all.
use Rattle.std.proofs.Common.{◌≡◌, ◌∙◌, length, take, arith}
use Rattle.std.proofs.lemmas.List.{length-take-le}
use Rattle.std.proofs.lemmas.Slice.{take-put_mid}
use Rattle.block_scanner.proofs.LinePartLaws.{take_filled}
use Rattle.block_scanner.proofs.cutter.fill.Goals as goal

pub returns-clause-front : goal.returns-clause-front
returns-clause-front c =
    let kept : length (take c.args.kept c.args.buffer.now) ≡ c.args.kept = length-take-le c.args.kept c.args.buffer.now c.requires in
    take-put_mid c.args.kept _ c.args.buffer.now c.copy_from_slice.new.self _ (omega (arith, c.copy_from_slice.ensures.len)) c.requires
    ∙ (rw (c.copy_from_slice.ensures.after, c.min-more.ensures) (take_filled (length c.args.buffer.now) c.args.kept (take c.args.kept c.args.buffer.now) c.args.bytes.now kept c.requires))
