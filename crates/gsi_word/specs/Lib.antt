-- The public definitions, which public contracts and laws cite, in the order in which a reader
-- needs them.
pub mod Bytes
pub mod Words
pub mod Blocks
pub mod LineFaults
pub mod Names
pub mod Angles
pub mod FaultNames
pub mod FoundWords
pub mod BlockViews
pub mod Shapes
pub mod PlainLines
-- The inside: where the code finds the words of a line and the parts of a word. Lemmas join it to
-- the definitions above.
pub mod Layout
