pub mod OkLaws
pub mod NamingLaws
pub mod ExplainingLaws
