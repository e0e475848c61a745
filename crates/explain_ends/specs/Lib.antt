pub mod LastBoards
pub mod Missing
