pub mod Lpo
pub mod LpoLaws
pub mod LpoDecides
mod LpoBelow
mod LpoBound
pub mod WellFormed
pub mod Arities
mod LpoHalting
pub mod PathOrderLaws
pub mod Places
mod Symbols
mod Exact
mod Cases
pub mod Answering
mod Rows
pub mod First
pub mod Ascending
pub mod Letters
