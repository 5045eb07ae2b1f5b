-- Need, use and covering at numbers.
use Rattle.std.proofs.Common.{◌≡◌, ◌++◌, ◌^◌, ◌≤◌, ◌∷◌, [], refl, ℕ, List, inr, arith}
use Rattle.pt_model.specs.declared.block.Prot.TheVariants.{ReadWrite}
use Rattle.pt_model.specs.declared.command.What.{What}
use Rattle.pt_model.specs.declared.command.What.TheVariants.{Map, Unmap, Fork, With, End}
use Rattle.pt_model.specs.declared.command.Command.{Command}
use Rattle.pt_model.specs.declared.reply.MapAnswer.TheVariants as mapping
use Rattle.pt_model.specs.declared.reply.Answer.TheVariants as answer
use Rattle.pt_model.specs.Run.{Machine}
use Rattle.pt_model.specs.Unmap.{unmapped}
use Rattle.pt_model.specs.Book.{Book, mapped, new_book}
use Rattle.pt_model.proofs.FirstPath.{on, three_levels}
use Rattle.pt_laws.specs.Need.{need, use_of, share_at, is_short_fork, CoversLeft}
use Rattle.pt_laws.specs.Covers
use Rattle.pt_laws.specs.Covers.{KeepsUse, Runs}

abbrev machine : ℕ → Machine
machine frames = record { layout = three_levels; levels = 3; frames = frames }

-- two maps on either side of a cut, in two tables under each: branches count
pub forked_need : need (machine 16)
    (on 4 (Fork 0x100000) ∷ on 5 (Map 0xff000 0x5000 0x1000 ReadWrite) ∷ on 6 With ∷ on 7 (Map 0x100000 0x7000 0x1000 ReadWrite) ∷ on 8 End ∷ [])
    ≡ 4
forked_need = refl

-- a map that its numbers refuse needs nothing, and one of more tables than frames one more than all frames
pub refused_need : need (machine 16) (on 4 (Map 0x123 0x0 0x1000 ReadWrite) ∷ on 5 (Map 0x7ffffff000 0x0 0x2000 ReadWrite) ∷ []) ≡ 0
refused_need = refl

pub capped_need : need (machine 1) (on 4 (Map 0x3ffff000 0x0 0x2000 ReadWrite) ∷ []) ≡ 2
capped_need = refl

-- Two maps in one branch whose tables are the same: their need is 4 and their use is 2. Where two frames are left the fork is
-- short, and covers both lines, the second one by use alone. The second map runs where the purse is empty.
abbrev first_map : What
first_map = Map 0x1000 0x5000 0x1000 ReadWrite

abbrev second_map : What
second_map = Map 0x2000 0x6000 0x1000 ReadWrite

abbrev twice : List Command
twice = on 5 first_map ∷ on 6 second_map ∷ []

pub twice_need : need (machine 3) twice ≡ 4
twice_need = refl

pub twice_use : use_of (machine 3) twice ≡ 2
twice_use = refl

abbrev fresh : Book
fresh = new_book three_levels 3

pub twice_short : is_short_fork (machine 3) fresh twice []
twice_short = omega arith

pub twice_covered : CoversLeft (machine 3) fresh twice (on 5 first_map ∷ []) (on 6 second_map)
twice_covered = inr (((λ at e. cc), tt), omega arith)

pub twice_not_by_need : ¬ (need (machine 3) twice ≤ share_at (machine 3) fresh)
twice_not_by_need h = omega arith

abbrev once_mapped : Book
once_mapped = mapped three_levels 3 fresh 1 1 5 ReadWrite

abbrev twice_mapped : Book
twice_mapped = mapped three_levels 3 once_mapped 2 1 6 ReadWrite

pub twice_runs : Runs (machine 3) twice (record { book = fresh; purse = 2 }) (record { book = twice_mapped; purse = 0 })
    (record { line = 5; answer = answer.Map mapping.Mapped } ∷ record { line = 6; answer = answer.Map mapping.Mapped } ∷ [])
twice_runs =
    Covers.call 5 first_map (on 6 second_map ∷ []) (record { book = fresh; purse = 2 }) (record { book = once_mapped; purse = 0 }) (record { book = twice_mapped; purse = 0 }) (answer.Map mapping.Mapped) (record { line = 6; answer = answer.Map mapping.Mapped } ∷ [])
    (Covers.map 0x1000 0x5000 0x1000 ReadWrite (record { book = fresh; purse = 2 }) (record { book = once_mapped; purse = 0 }) mapping.Mapped
    (record { admitted = refl; low = omega arith; book = refl; drawn = 0; unlinked = 0; linked = 2; purse = refl; freed = omega arith; few = omega arith; capped = omega arith }))
    (Covers.call 6 second_map [] (record { book = once_mapped; purse = 0 }) (record { book = twice_mapped; purse = 0 }) (record { book = twice_mapped; purse = 0 }) (answer.Map mapping.Mapped) []
    (Covers.map 0x2000 0x6000 0x1000 ReadWrite (record { book = once_mapped; purse = 0 }) (record { book = twice_mapped; purse = 0 }) mapping.Mapped
    (record { admitted = refl; low = omega arith; book = refl; drawn = 0; unlinked = 0; linked = 0; purse = refl; freed = omega arith; few = omega arith; capped = omega arith }))
    (Covers.nothing (record { book = twice_mapped; purse = 0 })))

-- an unmap that takes both tables out of the book, and gives no frame back, breaks the invariant by use: a third map in these tables
-- is on a covered line, and finds an empty purse
abbrev emptied : Book
emptied = unmapped three_levels once_mapped 0 (2 ^ 18)

abbrev mapped_and_not : List Command
mapped_and_not = on 5 first_map ∷ on 6 (Unmap 0x0 0x40000000) ∷ []

pub frames_kept_back : ¬ KeepsUse (machine 3) 2 mapped_and_not (record { book = emptied; purse = 0 })
frames_kept_back h = omega arith

pub frames_given_back : KeepsUse (machine 3) 2 mapped_and_not (record { book = emptied; purse = 2 })
frames_given_back = omega arith

pub third_use : use_of (machine 3) (mapped_and_not ++ on 7 second_map ∷ []) ≡ 2
third_use = refl
