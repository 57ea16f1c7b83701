pub mod Comparisons
pub mod OneStation
pub mod OneAnswer
pub mod SomeAnswer
pub mod NameLists
pub mod Hinting
