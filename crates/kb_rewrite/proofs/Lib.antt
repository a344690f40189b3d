mod RewriteRows
pub mod Positions
pub mod FirstRedexes
pub mod Steps
pub mod Irreducible
pub mod Strategy
pub mod Runs
pub mod Determined
pub mod Indexing
pub mod Tops
