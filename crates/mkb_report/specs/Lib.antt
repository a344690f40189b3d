pub mod Reports
pub mod Summaries
pub mod Cited
