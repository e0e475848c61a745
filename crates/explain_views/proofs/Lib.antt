pub mod PieceLaws
mod RangeLaws
