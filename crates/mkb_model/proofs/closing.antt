-- Processes that close, rest or are complete.
pub mod LeftAlone
pub mod RestInRuns
pub mod Staying
pub mod NormalTerms
pub mod Interreduced
pub mod Unjoining
pub mod StillClosed
pub mod Completed
