pub mod Excerpts
pub mod Sentences
pub mod Hints
pub mod Manners
pub mod Progress
