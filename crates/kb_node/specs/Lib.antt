pub mod Banked
pub mod Labelled
pub mod Stored
pub mod Views
