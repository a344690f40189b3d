pub mod Constants
pub mod Lines
pub mod Means
