-- The public definitions, which public contracts cite.
pub mod Digesting
pub mod DigestLines
pub mod NameTexts
-- The inside: what is put into a slice. No public contract cites it.
pub mod PutAt
