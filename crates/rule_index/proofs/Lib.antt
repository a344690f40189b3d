pub mod Entries
pub mod Leading
pub mod Meeting
pub mod Hits
pub mod Strings
