-- ---- the laws
pub mod OpenLogs
pub mod KeptPlaces
pub mod ProperStays
pub mod OneNote
pub mod Opens
pub mod Answering
pub mod SpelledRows
pub mod OneStatement
pub mod MaySend
pub mod OwnLocks
pub mod SpelledPlans
pub mod Makes
pub mod Closes
-- ---- for the functions
pub mod LowestSigners
pub mod KindCauses
pub mod SameHeight
pub mod AtClock
