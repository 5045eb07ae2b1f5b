-- Facts for other crates: the laws, and what the rule says of tags, of tables added to a book, of pieces, of holders, and of the growth of
-- one owner's words.
pub mod Laws
pub mod TagFacts
pub mod TablesAdded
pub mod PieceFacts
pub mod PieceRuns
pub mod LoneGrowth
pub mod HolderFacts
-- Numbers, lists and positions: totals over views, a few frames, spans, positions and the pieces over them.
mod TotalsKept
mod FewFrames
mod SpansFacts
mod PositionFacts
mod ListsWithout
mod PathTables
mod OrderedPieces
-- The tree: the frames at its positions, and the path above a block.
mod TreeFacts
mod PathOverBlock
mod PiecesApart
-- What keeps the rule part by part, where one view or one tag changes.
mod PartsKept
mod FindsKept
mod NotesKept
mod MayNote
mod TagWritten
mod RegroupedViews
mod AloneKept
-- The law of each kind of step: first those of tags, then loads, then stores and exchanges of entries, then of the root.
mod TakeKept
mod PlaceKept
mod UnplaceKept
mod FreeKept
mod MarkKept
mod RootKept
mod LookKept
mod InstallMet
mod NewTable
mod InstallWon
mod InstallKept
mod WriteFacts
mod StoredEntry
mod WriteKept
mod ClearKept
mod UnlinkFacts
mod UnlinkKept
mod BridgeKept
mod RaiseWon
mod RaiseKept
mod StepsKept
mod OpeningKept
-- What holds of live views, and what is read from the words.
mod CountKept
mod RestingBook
mod ReadTables
mod ReadPiece
mod ReadPieces
mod ReadWhole
mod ReadEntries
mod CensusRead
mod WalkUnion
mod LiveViews
-- Cuts: a path that is cut, a view cut in two, and two views as one.
mod CutPaths
mod CutLists
mod HalfBook
mod SplitKept
mod JoinKept
-- Calls: what the steps are to a holder.
mod CallsRooted
mod CallsWent
mod CallsInstalled
mod CallsTags
mod CallsWritten
mod CallsCleared
mod CallsUnlinked
mod CallsGrown
mod CallsMeet
-- Small states by evaluation: lawful ones, steps between them, and spoiled ones.
mod StateMapped
mod StateShared
mod StateSteps
mod StateCleared
mod StateGrowth
mod StateRead
mod StateSpoiled
