-- Lists of commands that rise, and replies to commands.
mod Listing
-- Stretches of a run over the whole space.
mod Whole
-- What each step of a run comes to.
mod Passing
-- What the branches of a fork come to together.
mod Forking
-- A run that is over.
mod Ended
