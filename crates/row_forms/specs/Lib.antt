-- The public definitions, which public contracts cite, in the order in which a reader needs them.
pub mod Forms
pub mod Writing
pub mod ByteSteps
