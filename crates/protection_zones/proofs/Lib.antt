pub mod RowLaws
pub mod BoxLaws
pub mod NoteLaws
pub mod SpanLaws
pub mod TenureLaws
pub mod ExchangeLaws
pub mod LogLaws
pub mod TimeLaws
