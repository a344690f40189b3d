pub mod Ended
pub mod Growing
pub mod Holding
pub mod Joining
pub mod Rooms
pub mod Turns
pub mod Sends
