pub mod EntryLines
pub mod Journals
pub mod JournalSections
pub mod LineReading
pub mod LineMoves
pub mod Replays
