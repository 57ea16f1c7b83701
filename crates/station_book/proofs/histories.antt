-- What a book keeps stands for the blocks that it has taken: `Book::take`, `Book::finish`.
pub mod StateHistories
pub mod ReadingHistories
pub mod TakenBlocks
pub mod FileEnd
pub mod Answers
pub mod SomeSurvey
pub mod OneSurvey
