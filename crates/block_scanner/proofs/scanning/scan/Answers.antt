use Rattle.block_scanner.proofs.ReadingLaws.{answers, formed_answer}
use Rattle.block_scanner.proofs.scanning.scan.Goals as goal

pub returns-clause-said : goal.returns-clause-said
returns-clause-said c = answers c.args.line.now c.scan_from_left.result c.scan_from_left.ensures.exact

pub returns-clause-formed : goal.returns-clause-formed
returns-clause-formed c = formed_answer c.args.line.now c.scan_from_left.result c.scan_from_left.ensures.exact
