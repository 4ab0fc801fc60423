-- Clients are answered the operations that are committed, what they are refused is justified, and every schedule is one copy. It
-- uses all of the above.
pub mod At
pub mod Moves
pub mod Runs
pub mod Untold
pub mod FairTold
pub mod Begun
pub mod OneCopy
pub mod InOpening
pub mod ReportsFit
pub mod Tables
