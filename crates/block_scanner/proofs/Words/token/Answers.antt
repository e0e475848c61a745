use Rattle.std.proofs.Common.{arith, ap, ◌∙◌}
use Rattle.block_scanner.proofs.ReadingLaws.{formed_at}
use Rattle.block_scanner.proofs.ScannedLaws.{scanned_at}
use Rattle.block_scanner.specs.WordsView.{WordsView}
use Rattle.block_scanner.proofs.Words.token.Goals as goal

pub returns-clause-stands : goal.returns-clause-stands
returns-clause-stands c =
    scanned_at c.args.self.now _ _ _ c.requires.scanned (c.deref.ensures ∙ ap (λ (w : WordsView). w.tokens) c.self.view_is) (omega arith)

pub returns-clause-formed : goal.returns-clause-formed
returns-clause-formed c =
    formed_at c.args.self.now _ _ _ c.requires.scanned (c.deref.ensures ∙ ap (λ (w : WordsView). w.tokens) c.self.view_is) (omega arith)
