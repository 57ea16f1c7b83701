pub mod Quotients
pub mod OneLimit
