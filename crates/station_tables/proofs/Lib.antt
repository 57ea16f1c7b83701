pub mod LineLaws
pub mod QuoteLaws
pub mod PartLaws
