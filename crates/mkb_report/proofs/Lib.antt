pub mod Rising
pub mod Traces
pub mod Forms
pub mod OneWay
pub mod Boards
pub mod Viewed
pub mod Counted
pub mod Made
