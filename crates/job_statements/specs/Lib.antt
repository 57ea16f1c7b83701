-- The public definitions, in the order in which a reader needs them.
pub mod Numbers
pub mod StatedNumbers
pub mod WrongTexts
pub mod StationCodes
