pub mod Names
pub mod Forks
pub mod NameOrder
pub mod Packed
pub mod Kept
