pub mod AnswerLaws
pub mod SomeAnswer
pub mod OwnDirections
