-- The book machine at numbers: a table that goes under a new block, a top that rises, and ranges that are taken away.
use Rattle.std.proofs.Common.{◌≡◌, ◌∷◌, [], refl, true, ℕ, List}
use Rattle.std.specs.Prelude.{codes}
use Rattle.std.specs.Fmt.{digits}
use Rattle.pt_model.specs.declared.block.Prot.TheVariants.{Read, ReadWrite}
use Rattle.pt_model.specs.declared.command.What.TheVariants.{Map, Unmap, Lookup}
use Rattle.pt_model.specs.declared.command.Command.{Command}
use Rattle.pt_model.specs.declared.position.Position.{Position}
use Rattle.pt_model.specs.Layout.{Layout}
use Rattle.pt_model.specs.Run.{Machine, ByAccount, last_book}
use Rattle.pt_model.specs.Book.{Book, linked_count, mapped, new_book}
use Rattle.pt_model.specs.Unmap.{unmapped}
use Rattle.pt_model.proofs.FirstPath.{on, replies_to, three_levels}

abbrev at : ℕ → ℕ → Position
at level base = record { level = level; base = base }

-- A block of 2 MiB from page 512 on takes the place of the table there, which has no block; the table of the pages
-- before it, and the one above both, stay.
abbrev with_empty_table : Book
with_empty_table = record (new_book three_levels 3) { tables = at 0 0 ∷ at 0 512 ∷ at 1 0 ∷ [] }

pub table_goes : (mapped three_levels 3 with_empty_table 512 512 0 Read).tables ≡ at 0 0 ∷ at 1 0 ∷ []
table_goes = refl

pub one_block : (mapped three_levels 3 with_empty_table 512 512 0 Read).blocks ≡ record { first = 512; log2 = 9; out = 0; prot = Read } ∷ []
one_block = refl

-- pages there take no table's place
pub table_stays : (mapped three_levels 3 with_empty_table 512 511 0 Read).tables ≡ with_empty_table.tables
table_stays = refl

-- A format that grows from 3 levels to 6, over addresses of 64 bits.
abbrev growing : Layout
growing = record three_levels { input = 64; levels = 6; grows = true }

abbrev machine : Machine
machine = record { layout = growing; levels = 3; frames = 9 }

-- the first page past three levels: a spine table over them, and two tables under its second entry
abbrev past_three : List Command
past_three = on 4 (Map 0x8000000000 0x1000 0x1000 Read) ∷ []

pub top_rises : (last_book machine ByAccount past_three).top ≡ 3
top_rises = refl

pub under_the_new_top : (last_book machine ByAccount past_three).tables ≡ at 0 0x8000000 ∷ at 1 0x8000000 ∷ at 2 0x8000000 ∷ []
under_the_new_top = refl

pub linked_at_four_levels : linked_count 3 (last_book machine ByAccount past_three) ≡ 5
linked_at_four_levels = refl

-- the last page needs all six levels and five tables under the top: nine frames are enough, and eight are too few
abbrev last_page : List Command
last_page = on 4 (Map 0xfffffffffffff000 0x0 0x1000 ReadWrite) ∷ on 5 (Lookup 0xffffffffffffffff) ∷ []

pub nine_are_enough : replies_to machine last_page ≡ codes "4 map ok\n5 lookup 0xfff rw\n"
unfolding digits
nine_are_enough = refl

pub eight_are_too_few : replies_to (record machine { frames = 8 }) last_page ≡ codes "4 map frames\n5 lookup none\n"
unfolding digits
eight_are_too_few = refl

pub all_levels : (last_book machine ByAccount last_page).top ≡ 5
all_levels = refl

-- Ranges that are taken away, in a tree of three levels: a block of 2 MiB whole and in part on either side, a table that
-- empties one page at a time and stays until a range has all of it, and the range of its pages.
abbrev small : Machine
small = record { layout = three_levels; levels = 3; frames = 16 }

abbrev taken_away : List Command
taken_away =
    on 4 (Map 0x200000 0x801000 0x2000 ReadWrite) ∷ on 5 (Unmap 0x200000 0x1000) ∷ on 6 (Unmap 0x201000 0x1000)
    ∷ on 7 (Map 0x200000 0x400000 0x200000 Read) ∷ on 8 (Unmap 0x300000 0x1000) ∷ on 9 (Unmap 0x1ff000 0x2000)
    ∷ on 10 (Unmap 0x3ff000 0x2000) ∷ on 11 (Unmap 0x3ff001 0x1000) ∷ on 12 (Unmap 0x3ff000 0x0) ∷ on 13 (Unmap 0x7ffffff000 0x2000)
    ∷ on 14 (Lookup 0x3fffff) ∷ on 15 (Unmap 0x1ff000 0x202000) ∷ on 16 (Unmap 0x0 0x8000000000) ∷ []

pub taken_away_text : replies_to small taken_away
    ≡ codes "4 map ok\n5 unmap ok 1\n6 unmap ok 1\n7 map ok\n8 unmap cuts 0x200000 0x200000\n9 unmap cuts 0x200000 0x200000\n10 unmap cuts 0x200000 0x200000\n11 unmap misaligned\n12 unmap misaligned\n13 unmap outside\n14 lookup 0x5fffff r\n15 unmap ok 512\n16 unmap ok 0\n"
unfolding digits
taken_away_text = refl

-- the table of a range's pages goes with it, and the one over both stays until a range has all of its pages
abbrev two_tables : Book
two_tables = record (new_book three_levels 3) { tables = at 0 0 ∷ at 0 512 ∷ at 1 0 ∷ [] }

pub a_page_less : (unmapped three_levels two_tables 512 511).tables ≡ two_tables.tables
a_page_less = refl

pub its_pages : (unmapped three_levels two_tables 512 512).tables ≡ at 0 0 ∷ at 1 0 ∷ []
its_pages = refl

pub both_and_no_more : (unmapped three_levels two_tables 0 0x3ffff).tables ≡ at 1 0 ∷ []
both_and_no_more = refl

pub all_three : (unmapped three_levels two_tables 0 0x40000).tables ≡ []
all_three = refl
