-- What the walk of a closed space answers.
mod AskFacts
-- The lines that lack frames inside forks.
mod ForksLines
-- The run of a body on a new space, and what is asked behind it.
mod RunFacts
-- The same on a shared space, new or of saved words.
mod SharedFacts
-- Where the run on a shared space is that over one owner.
mod PlainFacts
