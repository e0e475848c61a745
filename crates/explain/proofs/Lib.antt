pub mod BeginLaws
pub mod DrawLaws
pub mod FirstMet
pub mod JudgeLemmas
pub mod SaidLaws
pub mod LeftOutLaws
pub mod RefusalLaws
pub mod YesLaws
