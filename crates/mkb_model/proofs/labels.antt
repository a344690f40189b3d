-- Lists of names: labels, who lives and who sleeps.
pub mod LivingNames
pub mod NameLists
pub mod Sleepers
pub mod LivingLabels
pub mod AtMostSixtyFour
