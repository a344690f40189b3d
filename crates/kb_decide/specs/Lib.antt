pub mod Constants
pub mod Deciding
pub mod Running
