pub mod ArcLaws
pub mod SpreadLaws
pub mod ApartLaws
pub mod RoundingLaws
pub mod LeastLaws
