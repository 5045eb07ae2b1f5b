-- The text of replies: a line each, with the number of the command's line; behind a dump's a line for each block.
use Rattle.std.specs.Prelude.{ℕ, ◌+◌, ◌-◌, ◌*◌, ◌^◌, List, [], ◌∷◌, ◌++◌, Option, Some, None, codes}
use Rattle.pt_model.specs.Numbers.{decimal, hexadecimal}
use Rattle.pt_model.specs.declared.block.Prot.{Prot}
use Rattle.pt_model.specs.declared.block.Prot.TheVariants.{Read, ReadWrite}
use Rattle.pt_model.specs.declared.reply.MapAnswer.{MapAnswer}
use Rattle.pt_model.specs.declared.reply.MapAnswer.TheVariants as mapping
use Rattle.pt_model.specs.declared.reply.UnmapAnswer.{UnmapAnswer}
use Rattle.pt_model.specs.declared.reply.UnmapAnswer.TheVariants as unmapping
use Rattle.pt_model.specs.declared.reply.LookupAnswer.{LookupAnswer}
use Rattle.pt_model.specs.declared.reply.LookupAnswer.TheVariants as looking
use Rattle.pt_model.specs.declared.reply.ForkAnswer.{ForkAnswer}
use Rattle.pt_model.specs.declared.reply.ForkAnswer.TheVariants as forking
use Rattle.pt_model.specs.declared.reply.Dump.{Dump}
use Rattle.pt_model.specs.declared.reply.Census.{Census}
use Rattle.pt_model.specs.declared.reply.Answer.{Answer}
use Rattle.pt_model.specs.declared.reply.Answer.TheVariants as answer
use Rattle.pt_model.specs.declared.reply.Reply.{Reply}
use Rattle.pt_model.specs.declared.block.Block.{Block}
use Rattle.pt_model.specs.Layout.{Layout, level_of_size}
use Rattle.pt_model.specs.Pages.{byte_at}

abbrev pub prot_text : Prot → List ℕ
prot_text Read = codes "r"
prot_text ReadWrite = codes "rw"

abbrev pub map_text : MapAnswer → List ℕ
map_text mapping.Mapped = codes "map ok"
map_text mapping.Misaligned = codes "map misaligned"
map_text mapping.Outside = codes "map outside"
map_text mapping.Output = codes "map output"
map_text (mapping.Occupied address) = codes "map occupied " ++ hexadecimal address
map_text mapping.Frames = codes "map frames"

-- the bytes of a block
abbrev pub bytes_of : Layout → Block → ℕ
bytes_of f b = 2 ^ (f.granule + b.log2)

-- the block that a range or a fork cuts: its first address, and its bytes
abbrev pub cut_text : Layout → Block → List ℕ
cut_text f b = hexadecimal (byte_at f b.first) ++ codes " " ++ hexadecimal (bytes_of f b)

abbrev pub unmap_text : Layout → UnmapAnswer → List ℕ
unmap_text f (unmapping.Unmapped pages) = codes "unmap ok " ++ decimal pages
unmap_text f unmapping.Misaligned = codes "unmap misaligned"
unmap_text f unmapping.Outside = codes "unmap outside"
unmap_text f (unmapping.Cuts block) = codes "unmap cuts " ++ cut_text f block

abbrev pub fork_text : Layout → ForkAnswer → List ℕ
fork_text f forking.Forked = codes "fork ok"
fork_text f forking.Misaligned = codes "fork misaligned"
fork_text f forking.Outside = codes "fork outside"
fork_text f (forking.Cuts block) = codes "fork cuts " ++ cut_text f block

abbrev pub lookup_text : LookupAnswer → List ℕ
lookup_text (looking.Found out prot) = codes "lookup " ++ hexadecimal out ++ codes " " ++ prot_text prot
lookup_text looking.Nothing = codes "lookup none"
lookup_text looking.Outside = codes "lookup outside"

-- the number of entry words of a block, and the word of one of its parts
abbrev pub words_of : Layout → Block → ℕ
words_of f b = 2 ^ (b.log2 - f.index * level_of_size f b.log2)

abbrev pub part_word : Layout → Block → (part : ℕ) → ℕ
part_word f b part = f.leaf (level_of_size f b.log2) b.log2 b.out b.prot part

-- a block: its input address, bytes, output address and permission, how many words it has, and the first and the last
abbrev pub block_text : Layout → Block → List ℕ
block_text f b =
    codes "block " ++ hexadecimal (byte_at f b.first) ++ codes " " ++ hexadecimal (bytes_of f b)
    ++ codes " " ++ hexadecimal (b.out * 2 ^ f.granule) ++ codes " " ++ prot_text b.prot ++ codes " " ++ decimal (words_of f b)
    ++ codes " " ++ hexadecimal (part_word f b 0) ++ codes " " ++ hexadecimal (part_word f b (words_of f b - 1))

-- each block on a line of its own
abbrev pub block_lines : Layout → List Block → List ℕ
block_lines f [] = []
block_lines f (b ∷ bs) = codes "\n" ++ block_text f b ++ block_lines f bs

abbrev pub dump_text : Layout → Dump → List ℕ
dump_text f d = codes "dump " ++ decimal d.count ++ block_lines f d.lowest

abbrev pub walk_text : Option (ℕ × Prot) → List ℕ
walk_text None = codes "walk none"
walk_text (Some t) = codes "walk " ++ hexadecimal t.0 ++ codes " " ++ prot_text t.1

abbrev pub census_text : Census → List ℕ
census_text c =
    codes "census levels " ++ decimal c.levels ++ codes " tables " ++ decimal c.tables ++ codes " blocks " ++ decimal c.blocks
    ++ codes " pages " ++ decimal c.pages

abbrev pub answer_text : Layout → Answer → List ℕ
answer_text f (answer.Map a) = map_text a
answer_text f (answer.Unmap a) = unmap_text f a
answer_text f (answer.Lookup a) = lookup_text a
answer_text f (answer.Dump d) = dump_text f d
answer_text f answer.Release = codes "release ok"
answer_text f (answer.Fork a) = fork_text f a
answer_text f (answer.Walk a) = walk_text a
answer_text f (answer.Census c) = census_text c

abbrev pub reply_text : Layout → Reply → List ℕ
reply_text f r = decimal r.line ++ codes " " ++ answer_text f r.answer ++ codes "\n"

abbrev pub replies_text : Layout → List Reply → List ℕ
replies_text f [] = []
replies_text f (r ∷ rs) = reply_text f r ++ replies_text f rs
