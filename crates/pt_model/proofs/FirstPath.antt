-- The definitions at numbers: the run of a first script.
use Rattle.std.proofs.Common.{◌≡◌, ◌∷◌, [], refl, true, false, ℕ, ◌+◌, List}
use Rattle.std.specs.Prelude.{codes}
use Rattle.std.specs.Fmt.{digits}
use Rattle.pt_model.specs.declared.block.Prot.TheVariants.{Read, ReadWrite}
use Rattle.pt_model.specs.declared.command.What.{What}
use Rattle.pt_model.specs.declared.command.What.TheVariants.{Map, Lookup}
use Rattle.pt_model.specs.declared.command.Command.{Command}
use Rattle.pt_model.specs.Layout.{Layout, nothing, nowhere}
use Rattle.pt_model.specs.Run.{Machine, ByAccount, run_by, last_book}
use Rattle.pt_model.specs.Book.{linked_count}
use Rattle.pt_model.specs.Text.{replies_text}

abbrev pub three_levels : Layout
three_levels = record { granule = 12; index = 9; input = 39; output = 52; start = 3; levels = 3; grows = false; signed = false; sizes = 0 ∷ 9 ∷ 18 ∷ []; states = λ p. true; pointer = λ l a. a + 3; leaf = λ l k o p n. o; step = λ l w p. nothing; walk = λ ws a. nowhere }

abbrev pub machine : Machine
machine = record { layout = three_levels; levels = 3; frames = 16 }

abbrev pub on : ℕ → What → Command
on line what = record { line = line; what = what }

-- the replies to commands outside forks
abbrev pub replies_to : Machine → List Command → List ℕ
replies_to m commands = replies_text m.layout (run_by m ByAccount commands [])

abbrev pub first_path : List Command
first_path =
    on 4 (Map 0x1000 0x200000 0x1000 ReadWrite) ∷ on 5 (Lookup 0x1abc) ∷ on 6 (Map 0x1000 0x3000 0x1000 Read)
    ∷ on 7 (Map 0x1234 0x3000 0x1000 Read) ∷ on 8 (Map 0x8000000000 0x0 0x1000 Read) ∷ on 9 (Lookup 0x2000) ∷ on 10 (Lookup 0x8000000000) ∷ []

pub first_path_text : replies_to machine first_path
    ≡ codes "4 map ok\n5 lookup 0x200abc rw\n6 map occupied 0x1000\n7 map misaligned\n8 map outside\n9 lookup none\n10 lookup outside\n"
unfolding digits
first_path_text = refl

-- one page needs two tables under the starting top, and a second page in the same table none
pub first_path_linked : linked_count 3 (last_book machine ByAccount first_path) ≡ 3
first_path_linked = refl

pub few_frames : replies_to (record machine { frames = 3 }) (on 4 (Map 0x1000 0x200000 0x1000 ReadWrite) ∷ on 5 (Map 0x40000000 0x2000 0x1000 ReadWrite) ∷ on 6 (Map 0x2000 0x2000 0x1000 Read) ∷ [])
    ≡ codes "4 map ok\n5 map frames\n6 map ok\n"
unfolding digits
few_frames = refl
