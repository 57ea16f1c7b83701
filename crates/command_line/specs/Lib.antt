-- The public definitions, which public contracts cite, in the order in which a reader needs them.
pub mod Commands
pub mod StatedNumbers
pub mod StatedChanges
pub mod StatedColumns
pub mod Stated
pub mod StatedNotes
pub mod CommandLine
-- The inside.
pub mod LimitOptions
pub mod CountOptions
pub mod Mistakes
