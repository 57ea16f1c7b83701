pub mod Heads
pub mod LinesRead
pub mod PageLaws
