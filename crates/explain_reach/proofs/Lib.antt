pub mod ShapeLaws
pub mod WayLaws
pub mod LotLaws
pub mod PartLaws
pub mod SomeLaws
