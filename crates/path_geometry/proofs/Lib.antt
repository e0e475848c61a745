pub mod ArcSoundness
pub mod EndsLaws
pub mod RadiusLaws
pub mod RingLaws
pub mod PathEnds
pub mod PathLaws
