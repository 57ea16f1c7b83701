pub mod CommandsLaws
pub mod NamingLaws
pub mod LimitLaws
pub mod MistakeLaws
pub mod RowLaws
pub mod TableLaws
pub mod NoteLaws
