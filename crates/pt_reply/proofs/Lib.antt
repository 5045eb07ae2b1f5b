-- For other crates: the blocks of a view at rest are read from its pieces.
pub mod RestBlocks
-- The numbers of a block's line.
mod BlockBytes
-- What a map answers, and what loads leave.
mod MapFacts
-- For other crates: what an unmap answers, and the block that a refusal names.
pub mod UnmapFacts
-- What a dump counts and lists.
mod DumpFacts
