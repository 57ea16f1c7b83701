pub mod FirstEdition
