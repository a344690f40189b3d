pub mod Ordering
mod OrderRows
pub mod Parts
pub mod Texts
pub mod Members
pub mod Fields
pub mod ReadingLaws
pub mod RowLaws
pub mod Different
pub mod CertLaws
pub mod FamilyLaws
pub mod OrderTexts
pub mod FourSymbols
