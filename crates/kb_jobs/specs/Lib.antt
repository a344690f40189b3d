pub mod Rules
pub mod Reducing
pub mod Orienting
pub mod Groups
pub mod Overlapping
pub mod Taken
pub mod Closing
pub mod Working
