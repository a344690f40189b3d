pub mod Confluence
pub mod Conversion
pub mod Peaks
pub mod ReplacedInstances
pub mod Overlaps
pub mod Closing
pub mod Cleaning
pub mod CompletionLaws
pub mod ConfluenceLaws
pub mod RunLaws
pub mod Complete
pub mod Orderable
pub mod Stated
pub mod LoneRule
pub mod Renamings
pub mod Twins
mod SystemRows
mod SquareRows
