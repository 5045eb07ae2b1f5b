-- A body as commands, and the fork at its front.
pub mod Bodies
-- What each step of a run comes to.
pub mod Passing
