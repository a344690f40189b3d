pub mod NormalForm
pub mod Search
pub mod Roots
pub mod Fingerprints
pub mod Indexed
pub mod Answers
