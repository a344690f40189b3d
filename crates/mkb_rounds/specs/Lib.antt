pub mod Rounds
pub mod Ends
pub mod Playing
pub mod Outcomes
