-- Meaning. The first answer that a list gives.
pub use Rattle.stop_verdicts.specs.FirstAnswer.{first_some}
