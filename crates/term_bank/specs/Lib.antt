pub mod Chains
pub mod Hashing
pub mod Terms
pub mod Cells
