pub mod PageLemmas
pub mod RowLemmas
pub mod SpanLemmas
pub mod TextLengths
