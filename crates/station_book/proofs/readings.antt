-- The readings of a set, in a file without fault: `laws::one_reading`, `on_circle`.
pub mod FaceReadings
pub mod CleanBlocks
pub mod SetReadings
pub mod WithinLimits
pub mod OneReading
