mod Entries
mod Sizes
mod Numbers
mod Rebuild
mod Begun
mod Groups
mod Moves
mod Copying
mod Visiting
mod Starts
mod Sounds
mod Firsts
mod Pointing
mod OneBlock
mod Goodness
mod Judging
mod Whole
mod ImageCases
mod BookCases
mod HeaderCases
mod Resting
mod Reaching
mod RestingBlocks
mod RestingGood
mod RestingStrays
mod RestingBook
pub mod Laws
pub mod SavedBytes
