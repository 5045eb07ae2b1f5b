-- Facts for other crates: frames that are drawn one after another.
pub mod Drawn
-- tables that go, and the frames that come for them
pub mod GoneTables
-- tables that are unlinked one after another, and those that lie in a range without pieces
pub mod Empties
pub mod EmptyTables
-- pieces that are apart; sweeps one after another; the tables and the pieces of a range, entry by entry
mod Apart
mod Sweeps
mod SweptTables
mod SweptPieces
-- the pieces of a book's blocks, and its tables
mod BlockPieces
mod BookTables
-- the numbers of a request, and the blocks that a range cuts
mod RangeNumbers
mod CutBlocks
mod Unmapped
-- a range under one entry
mod OneEntry
-- and a root that is raised level by level
mod RootRaised
