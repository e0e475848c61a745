mod LineLaws
mod TrimLaws
mod NumberLaws
mod OriginLaws
