pub mod Histories
pub mod LineLengths
pub mod Resting
pub mod Written
