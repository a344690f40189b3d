pub mod Named
pub mod Modes
pub mod Formats
pub mod Selections
pub mod Command
pub mod Reading
pub mod Parsed
