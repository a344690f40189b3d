-- Which lemma files show which part of the code; what they stand on themselves is in their imports.
--   board::Board::take        Readable, Flying, Growing, Kept, Listed, AtRest
--   board::Board::finish      Ready (by There), Ends, AtRest, Sleepers (by Asleep), Listed (by Followable), Following (by StillWorking)
--   choosing (verdicts)       Verdicts, StillWorking, Going, Idle, Picking
--   cost                      Costs
--   holding                   Having
--   settling                  Sleepers, Placing, AtRest, Listed
--   takable                   AnyJob, Choices, Firsts (by Least), Picking
--   working                   Placing
--   shelf, snapshots          Kept, Viewed, Open, Having
--   law held_tickets_stay     Held, Others
--   law commits_can_be_followed  Followable (by Ends, There, Asleep)
pub mod Asleep
pub mod Choices
pub mod Costs
pub mod Ends
pub mod Firsts
pub mod Flying
pub mod Going
pub mod Growing
pub mod Held
pub mod Idle
pub mod Least
pub mod Picking
pub mod Readable
pub mod Ready
pub mod There
pub mod Sleepers
pub mod Viewed
pub mod Others
pub mod AtRest
pub mod Open
pub mod Having
pub mod Kept
pub mod StillWorking
pub mod Placing
pub mod Verdicts
pub mod Following
pub mod AnyJob
pub mod Followable
pub mod Listed
