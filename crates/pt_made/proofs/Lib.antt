-- The pages that made commands go over.
pub mod Pages
-- Which maps their numbers alone refuse.
pub mod Admitting
-- The commands of a body as they are drawn.
pub mod Drawing
-- What is drawn, and that the lines of a body are those of a script.
pub mod Calls
pub mod Lawful
pub mod FewLines
-- What each name of a format has.
pub mod Names
-- The forks of a body, and what its maps need.
pub mod Nested
pub mod Bound
-- The parts of a made script.
pub mod Generated
-- The definitions at numbers.
mod Cases
