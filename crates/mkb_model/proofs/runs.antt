-- What holds of each board of a run, and how the entries of a run are steps of completion.
pub mod Endings
pub mod Meanings
pub mod Selections
pub mod Ancestors
pub mod OverReasons
pub mod Findings
pub mod AllFine
pub mod Certificates
pub mod AllInvariants
pub mod Readiness
pub mod Simulation
pub mod Openings
pub mod KnownFacts
pub mod LawsStated
mod Runs
