pub mod Overlap
pub mod Trace
pub mod Instance
pub mod View
pub mod Found
