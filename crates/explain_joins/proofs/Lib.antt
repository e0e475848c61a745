mod LineLaws
mod TrimLaws
