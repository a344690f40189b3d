pub mod Booleans
pub mod Numbers
pub mod Options
pub mod Membership
pub mod Lists
pub mod Texts
