-- The public definitions, in the order in which a reader needs them.
pub mod Stations
pub mod WrittenAgain
pub mod Divisions
pub mod Outside
pub mod Doubts
pub mod Ways
pub mod SetsInWords
pub mod BeginsAndEnds
pub mod BeforeAndAfter
pub mod Fewest
pub mod EqualSets
pub mod Zeniths
pub mod Remarks
pub mod Marks
pub mod Visits
pub mod Judging
pub mod Marking
pub mod Stated
pub mod Placing
pub mod Copies
pub mod Unmarked
pub mod FaultNames
pub mod Markings
pub mod Found
pub mod MarkedBlocks
pub mod MarkedFile
-- The inside: what the code finds on the way.
pub mod Searching
pub mod Ranging
pub mod Sections
pub mod Keeping
pub mod LinePlaces
pub mod Taking
-- What is proved over: the book that goes on over blocks, one after another.
pub mod TreeWalks
pub mod MarkedTree
