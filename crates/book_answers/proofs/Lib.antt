pub mod TextLaws
pub mod FrontLaws
pub mod StationLaws
pub mod FileLaws
pub mod PartLaws
pub mod TableLaws
pub mod NoteLaws
