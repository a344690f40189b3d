pub mod Fitting
pub mod Matching
pub mod Extending
pub mod Binding
