-- The words of x86-64 tables.
use Rattle.std.specs.Prelude.{ℕ, ◌+◌, ◌*◌, ◌^◌}
use Rattle.pt_model.specs.declared.block.Prot.{Prot}
use Rattle.pt_model.specs.Layout.{Layout}
use Rattle.pt_format.specs.FourKib.{write_bit}
use Rattle.pt_manual.specs.X86Walk.{entry_at, walk}
use Rattle.fmt_nine_bit.specs.CommonWords.{CommonWords, layout_of}

-- P, U/S, A and D, and R/W where writes are permitted
abbrev pub of_leaf : Prot → ℕ
of_leaf prot = 2 ^ 0 + 2 ^ 2 + 2 ^ 5 + 2 ^ 6 + write_bit prot

-- a pointer has P, R/W, U/S and A; input addresses are the lower half of canonical ones
abbrev pub words : CommonWords
words = record {
  entry = entry_at;
  walk = walk;
  of_leaf = of_leaf;
  of_pointer = 2 ^ 0 + 2 ^ 1 + 2 ^ 2 + 2 ^ 5;
  input = λ levels. 11 + 9 * levels;
}

-- tables of four or five levels
abbrev pub layout : (levels : ℕ) → Layout
layout = layout_of words
