mod DueJobs
pub mod OpenRules
mod Anew
mod Alike
mod Again
mod Opened
pub mod FirstOffered
mod Gained
mod Committed
mod ByRule
mod NodeWork
mod Nearly
mod Frames
pub mod NodeFrames
mod Brought
mod Ended
mod Splitting
mod Found
mod LimitFrames
mod Followed
pub mod Sleeping
