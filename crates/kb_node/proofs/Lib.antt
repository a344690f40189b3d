pub mod Pairs
pub mod Banking
pub mod Finding
pub mod Adding
pub mod Viewed
pub mod Storing
pub mod Kept
