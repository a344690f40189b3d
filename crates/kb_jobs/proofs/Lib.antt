pub mod Preorder
pub mod Reduced
pub mod Adding
pub mod Swapped
pub mod InForce
pub mod TakenLaws
pub mod Settling
pub mod Crossing
