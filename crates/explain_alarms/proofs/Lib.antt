pub mod BlockLaws
pub mod KeptLaws
pub mod TextLaws
