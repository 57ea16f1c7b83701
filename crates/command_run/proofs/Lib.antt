pub mod UnopenedLaws
pub mod ExplainingLaws
