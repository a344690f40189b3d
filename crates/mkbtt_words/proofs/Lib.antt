pub mod Entries
pub mod Numbers
pub mod Commands
pub mod Read
