-- Tickets in flight, and those that are dropped.
pub mod NoClash
pub mod InFlight
pub mod Drops
