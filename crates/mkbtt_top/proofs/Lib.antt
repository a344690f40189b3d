mod Takes
mod Endings
mod Reported
mod Generated
mod Tasks
mod Handed
mod ByRounds
mod OneText
