-- The public definitions, which public contracts and laws cite, in the order in which a reader
-- needs them.
pub mod Directions
pub mod Accuracy
pub mod Faces
pub mod Parts
pub mod Saying
pub mod Answers
pub mod PartAnswers
pub mod Runs
pub mod OwnDirections
-- The inside.
pub mod Steps
pub mod OneTexts
