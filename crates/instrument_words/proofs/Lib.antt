pub mod Alike
pub mod Coming
pub mod Telling
