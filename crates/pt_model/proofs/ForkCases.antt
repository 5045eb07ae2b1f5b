-- The definitions at numbers: worked scripts with forks, dumps and what is asked of the last book.
use Rattle.std.proofs.Common.{◌≡◌, ◌++◌, ◌∷◌, [], refl, true, false, ℕ, List}
use Rattle.std.specs.Prelude.{codes, ◌==◌}
use Rattle.std.specs.Fmt.{digits}
use Rattle.pt_model.specs.declared.block.Prot.TheVariants.{Read, ReadWrite}
use Rattle.pt_model.specs.declared.command.What.TheVariants.{Map, Unmap, Lookup, Dump, Release, Fork, With, End}
use Rattle.pt_model.specs.declared.command.AskWhat.{AskWhat}
use Rattle.pt_model.specs.declared.command.AskWhat.TheVariants.{Walk, Census}
use Rattle.pt_model.specs.declared.command.Command.{Command}
use Rattle.pt_model.specs.declared.command.Ask.{Ask}
use Rattle.pt_model.specs.Run.{Machine, ByAccount, lines_of_one, run_by, run_of}
use Rattle.pt_model.specs.Text.{replies_text}
use Rattle.pt_model.proofs.FirstPath.{on, three_levels}

abbrev machine : ℕ → Machine
machine frames = record { layout = three_levels; levels = 3; frames = frames }

abbrev ask : ℕ → AskWhat → Ask
ask line what = record { line = line; what = what }

abbrev forked : List Command
forked =
    on 4 (Fork 0x100000) ∷ on 5 (Map 0xff000 0x5000 0x1000 ReadWrite) ∷ on 6 With ∷ on 7 (Map 0x100000 0x7000 0x1000 ReadWrite)
    ∷ on 8 End ∷ []

pub forked_text : replies_text three_levels (run_of (machine 16) forked (ask 10 (Walk 0x100010) ∷ ask 11 Census ∷ []) (λ n. false))
    ≡ codes "4 fork ok\n5 map ok\n7 map ok\n10 walk 0x7010 rw\n11 census levels 3 tables 3 blocks 2 pages 2\n"
unfolding digits
forked_text = refl

-- a refused fork: its branches are skipped, forks inside it too
pub skipped_text : replies_text three_levels (run_of (machine 8)
    (on 4 (Map 0x200000 0x200000 0x200000 ReadWrite) ∷ on 5 (Fork 0x300000) ∷ on 6 (Lookup 0x0) ∷ on 7 (Fork 0x100000) ∷ on 8 With
    ∷ on 9 End ∷ on 10 With ∷ on 11 (Lookup 0x300000) ∷ on 12 End ∷ on 13 (Lookup 0x300000) ∷ on 14 Dump ∷ [])
    [] (λ n. false))
    ≡ codes "4 map ok\n5 fork cuts 0x200000 0x200000\n13 lookup 0x300000 rw\n14 dump 1\n"
    ++ codes "block 0x200000 0x200000 0x200000 rw 1 0x200 0x200\n"
unfolding digits
skipped_text = refl

pub unmapped_text : replies_text three_levels (run_by (machine 3) ByAccount
    (on 4 (Map 0x0 0x1000 0x1000 ReadWrite) ∷ on 5 (Map 0x40000000 0x2000 0x1000 ReadWrite) ∷ on 6 (Unmap 0x0 0x40000000)
    ∷ on 7 (Map 0x40000000 0x2000 0x1000 ReadWrite) ∷ on 8 Release ∷ [])
    (ask 10 Census ∷ []))
    ≡ codes "4 map ok\n5 map frames\n6 unmap ok 1\n7 map ok\n8 release ok\n10 census levels 3 tables 3 blocks 1 pages 1\n"
unfolding digits
unmapped_text = refl

-- forks that are refused by their byte
pub refused_text : replies_text three_levels (run_of (machine 8)
    (on 4 (Fork 0x123) ∷ on 5 With ∷ on 6 End ∷ on 7 (Fork 0x0) ∷ on 8 With ∷ on 9 End ∷ on 10 (Fork 0x8000000000)
    ∷ on 11 With ∷ on 12 End ∷ []) [] (λ n. false))
    ≡ codes "4 fork misaligned\n7 fork outside\n10 fork outside\n"
unfolding digits
refused_text = refl

-- forks in forks: spans, dumps of the present span, a map that a set refuses, and the whole span behind the last `end`
abbrev nested : List Command
nested =
    on 4 (Map 0x1000 0x1000 0x1000 Read) ∷ on 5 (Fork 0x200000) ∷ on 6 (Fork 0x100000) ∷ on 7 Dump ∷ on 8 With
    ∷ on 9 (Lookup 0x1000) ∷ on 10 (Map 0x100000 0x3000 0x1000 ReadWrite) ∷ on 11 End
    ∷ on 12 (Lookup 0x1000) ∷ on 13 With ∷ on 14 (Map 0x200000 0x5000 0x1000 ReadWrite) ∷ on 15 (Fork 0x100000) ∷ on 16 With
    ∷ on 17 End ∷ on 18 Dump ∷ on 19 End ∷ on 20 Dump ∷ []

pub nested_text : replies_text three_levels (run_of (machine 8) nested [] (λ n. n == 10))
    ≡ codes "4 map ok\n5 fork ok\n6 fork ok\n7 dump 1\nblock 0x1000 0x1000 0x1000 r 1 0x1 0x1\n9 lookup outside\n"
    ++ codes "10 map frames\n12 lookup 0x1000 r\n14 map ok\n15 fork outside\n18 dump 1\n"
    ++ codes "block 0x200000 0x1000 0x5000 rw 1 0x5 0x5\n20 dump 2\nblock 0x1000 0x1000 0x1000 r 1 0x1 0x1\n"
    ++ codes "block 0x200000 0x1000 0x5000 rw 1 0x5 0x5\n"
unfolding digits
nested_text = refl

-- the lines at which the account is short: with 3 frames the map of line 14 wants a fourth
pub short_lines : lines_of_one (machine 3) nested 14 ≡ true
short_lines = refl

pub enough_lines : lines_of_one (machine 4) nested 14 ≡ false
enough_lines = refl
