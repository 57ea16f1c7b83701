pub mod Pushed
pub mod LeastLaws
pub mod LawLemmas
