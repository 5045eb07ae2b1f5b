-- The words of VT-d second-stage tables.
use Rattle.std.specs.Prelude.{ℕ, ◌+◌, ◌*◌, ◌^◌}
use Rattle.pt_model.specs.declared.block.Prot.{Prot}
use Rattle.pt_model.specs.Layout.{Layout}
use Rattle.pt_format.specs.FourKib.{read_bit, write_bit}
use Rattle.pt_manual.specs.VtdWalk.{entry_at, walk}
use Rattle.fmt_nine_bit.specs.CommonWords.{CommonWords, layout_of}

-- R and W, as the permission says
abbrev pub of_leaf : Prot → ℕ
of_leaf prot = read_bit prot + write_bit prot

-- a pointer has R and W; an input address has 12 bits of offset and 9 for each level
abbrev pub words : CommonWords
words = record { entry = entry_at; walk = walk; of_leaf = of_leaf; of_pointer = 2 ^ 0 + 2 ^ 1; input = λ levels. 12 + 9 * levels }

-- tables of three, four or five levels
abbrev pub layout : (levels : ℕ) → Layout
layout = layout_of words
