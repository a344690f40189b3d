-- Worked examples and whole small runs, computed.
mod Worked
mod Unreached
mod Sleeping
mod EmptyRun
mod ForkRun
mod ForkViews
mod Replays
