pub mod Unifier
pub mod Answer
pub mod Table
pub mod Extent
pub mod Reading
