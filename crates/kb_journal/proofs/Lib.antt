pub mod Kept
pub mod LineLaws
pub mod JournalForm
pub mod Reading
pub mod SectionsRead
pub mod LinesOfRuns
pub mod Making
