pub mod OnlyLaws
