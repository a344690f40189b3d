pub mod Boards
pub mod Choosing
pub mod Held
pub mod Listed
pub mod Shelf
pub mod Snapshots
pub mod Takes
pub mod Working
