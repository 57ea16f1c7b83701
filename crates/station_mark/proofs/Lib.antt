pub mod PastLimits
pub mod Givings
pub mod Telling
pub mod Copying
pub mod AnswerLaws
pub mod Joined
