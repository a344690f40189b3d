pub mod PathOrder
pub mod Precedences
pub mod PathOrderLaws
pub mod Agreeing
pub mod Search
