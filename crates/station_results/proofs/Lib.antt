pub mod Fractions
pub mod ResidualLaws
pub mod ReadLaws
pub mod RowLaws
pub mod LeastLaws
pub mod GreatestLaws
