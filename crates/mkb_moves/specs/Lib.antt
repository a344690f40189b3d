pub mod Changes
pub mod Moves
pub mod Order
pub mod Stuck
