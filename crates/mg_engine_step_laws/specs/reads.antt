-- What is found of keys, tables and walks on the pages is what the machine says.
pub mod Alike
pub mod AnswersLaws
pub mod KeyAnswers
pub mod TableAnswers
pub mod Tables
pub mod TakenKeys
pub mod TakesLaws
pub mod WalkAnswers
pub mod WalkPlaces
pub mod Walking
pub mod WalksLaws
