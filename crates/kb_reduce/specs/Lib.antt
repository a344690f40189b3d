pub mod Reducing
pub mod Telling
pub mod Running
