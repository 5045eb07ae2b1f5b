-- What is put, as the words ask.
mod PutFacts
-- The numbers of formats in images.
mod Numbers
-- An input that can be resumed is.
mod ResumeFacts
-- The image of the words that a script leaves.
mod SaveFacts
