pub mod Numbered
pub mod Bounds
pub mod RuleTokens
pub mod RuleUtf8
pub mod NameCounts
pub mod WrittenTerms
pub mod RulesSpelled
