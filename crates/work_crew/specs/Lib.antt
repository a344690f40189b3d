pub mod Alone
pub mod Moments
pub mod Room
pub mod Together
