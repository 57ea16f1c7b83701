-- The public definitions, which public contracts and laws cite, in the order in which a reader
-- needs them.
pub mod Source
pub mod Input
pub mod Came
pub mod Sink
pub mod Writers
pub mod OfRead
pub mod OfWrite
pub mod Keeping
pub mod Script
pub mod Held
