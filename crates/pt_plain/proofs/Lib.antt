-- The fields of an owner, the view that they say, and one step.
mod Laws
mod Chains
mod Paths
mod Known
mod Matches
mod Owners
mod ReadBack
mod Steps
mod Carried
-- The calls, and a new space.
mod RunWords
mod PathCalls
mod TagCalls
mod EntryCalls
mod UnlinkCalls
mod GrowCalls
mod RunLooks
mod RunCalls
mod ClearRunCalls
mod Opens
