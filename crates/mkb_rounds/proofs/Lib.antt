pub mod OneJournal
pub mod Lists
pub mod Going
pub mod Playing
pub mod Takers
pub mod Ended
pub mod Syncs
