-- The pairs of the nodes, where they come from, and how large they are.
pub mod Pairs
pub mod DistinctPairs
pub mod NewPairs
pub mod Origins
pub mod OriginForms
pub mod Variables
pub mod Sizes
