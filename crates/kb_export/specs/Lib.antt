pub mod RuleTexts
pub mod Graphs
pub mod ReadBack
