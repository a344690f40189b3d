pub mod KnuthBendix
pub mod Orders
pub mod KnuthBendixLaws
pub mod Measures
pub mod Asking
pub mod Search
