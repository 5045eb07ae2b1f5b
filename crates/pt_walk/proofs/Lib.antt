-- Facts for other crates: numbers as the code makes them, what a load tells of the pieces over a page, ranges of pages
-- under a table, and what the book of a view at rest says of a page and of an address.
pub mod Cuts
pub mod Descent
pub mod Ranges
pub mod Books
pub mod Bytes
-- entries in a row that are empty
mod EmptyRuns
-- paths that lose nodes, and words of blocks
mod Climbs
mod Leaves
-- the walk over a range: the blocks that are left, the tables where it stands, its steps
mod LeftBlocks
mod WalkTables
mod WalkSteps
-- the cut of a span
mod Crossing
