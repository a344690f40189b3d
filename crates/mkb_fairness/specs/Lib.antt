pub mod Fairness
