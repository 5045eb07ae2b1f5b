-- Pages that no block is on both sides of, and what a command leaves of them.
mod Apart
-- Requests by a part of a book's span: those that reach out of it, and the others.
mod Reaching
-- Spans that stand in cuts.
mod Stands
-- What a command of the whole owner does to a place, and a fork.
mod Commands
mod Forks
-- A run that is over.
mod Ran
