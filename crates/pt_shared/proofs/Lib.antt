-- Places of views that keep their ranges and books, and of the parts of a view.
pub mod Places
-- What the answer to a command leaves of a place.
mod Answering
