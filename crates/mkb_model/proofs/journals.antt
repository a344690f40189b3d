-- That a journal, the moves of a run or one worker decide the run.
pub mod OneRun
pub mod AlikeOverlaps
pub mod OneProposal
pub mod MovesDecide
pub mod OneWorker
