-- Addresses and their pages, and a range of bytes as a run of pages.
pub mod Halves
mod RangeBytes
-- Quotients of page numbers, and the tiling of a range.
pub mod Quotients
pub mod TilingFacts
-- Positions of tables, their order, and the top that a tree needs.
pub mod Positions
pub mod Tops
-- The words of a space: a write at one place and a read at another.
pub mod Places
-- The definitions at numbers: a first script, tables that go and tops that rise, forks, and the words of families of formats.
pub mod FirstPath
mod MachineCases
mod ForkCases
mod Families
