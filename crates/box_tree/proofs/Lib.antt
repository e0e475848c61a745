pub mod HullLaws
pub mod SlantLaws
pub mod TreeLaws
pub mod RowLaws
