-- Lists of positions and of blocks, and what holds of those between two pages.
pub mod Sizes
pub mod Between
-- A book beside others: its answers, what each command leaves of it, and a run of it.
pub mod Same
pub mod After
pub mod Stepping
pub mod Listing
-- The two parts of a fork, and a fork in its run.
pub mod Halves
pub mod ForkRuns
-- Sets of lines that lack frames: runs by sets that agree, and the set that is read off the replies.
pub mod Lines
pub mod Reading
pub mod Beside
-- The need of commands and the account of frames.
pub mod Enough
pub mod NeedRuns
mod Counting
-- What a purse loses inside forks, and the lines that a fork covers.
pub mod Purses
pub mod Loop
mod Covering
pub mod Whole
mod Calm
-- The definitions at numbers.
mod NeedCases
