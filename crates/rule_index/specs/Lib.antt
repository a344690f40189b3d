pub mod Marks
pub mod Agreeing
pub mod Branches
pub mod Pending
pub mod Walk
pub mod Index
