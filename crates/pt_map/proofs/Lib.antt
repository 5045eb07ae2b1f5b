-- Lists: pieces and blocks put among others, and the lowest mapped page by both.
mod PiecesAdded
mod BlocksAdded
mod FirstMapped
-- Words of blocks, the tables that blocks need, and those that they take the place of.
mod BlockWords
mod TopsOver
mod NeededTables
mod ReplacedTables
mod PastRoot
mod NearRoot
mod LackingTables
-- The numbers of a request, and where the way to its extent stands.
mod RequestNumbers
mod PathTables
mod StandAfter
-- The look before a change: what is absent.
mod AbsentShown
mod AbsentCounted
mod SurveyFinds
mod FramesDrawn
-- Way is made: the tables that blocks take the place of are unlinked.
mod WayMade
-- The writing: tables that are linked, frames that are spent, and words.
mod LinkedTables
mod FramesSpent
mod RunEntries
mod WordsWritten
mod FilledParts
mod FillTurns
-- A map: one block, from a table on down, from the root, and its answer.
mod OneBlock
mod TablesAfter
mod MapFromTable
mod MapResults
mod MapFromRoot
mod MapAnswers
mod BeyondMapped
mod BeyondAnswers
