pub mod Extensions
pub mod FittingLaws
