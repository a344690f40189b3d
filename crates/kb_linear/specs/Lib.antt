pub mod LinearOrder
pub mod Interpretations
pub mod Limits
pub mod Forms
pub mod Numbers
