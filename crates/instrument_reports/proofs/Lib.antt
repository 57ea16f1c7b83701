pub mod Kept
pub mod LawLemmas
pub mod TablePrinted
