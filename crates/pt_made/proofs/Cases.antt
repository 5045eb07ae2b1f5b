-- The definitions at numbers.
use Rattle.std.proofs.Common.{◌≡◌, [], ◌∷◌, refl}
use Rattle.pt_model.specs.declared.block.Prot.TheVariants.{Read}
use Rattle.pt_model.specs.declared.command.Name.TheVariants.{AmdV1, Vmsa16, Vmsa64, Sv57}
use Rattle.pt_model.specs.declared.command.What.TheVariants.{Map, Lookup}
use Rattle.pt_model.specs.declared.reply.MapAnswer.TheVariants as mapping
use Rattle.pt_model.specs.declared.reply.UnmapAnswer.TheVariants as unmapping
use Rattle.pt_model.specs.declared.reply.Answer.TheVariants as answer
use Rattle.pt_names.specs.Names.{layout_of}
use Rattle.pt_made.specs.Formats.{name_at}
use Rattle.pt_made.specs.Draws.{next, drawn}
use Rattle.pt_made.specs.Made.{bytes, first_of, per_branch, drawn_commands}
use Rattle.pt_made.specs.declared.summary.Counted.TheVariants.{Mapped}
use Rattle.pt_made.specs.Summary.{count_of, pages_unmapped}

pub first_draw : drawn (next 0) ≡ 167951807
first_draw = refl

-- the first two commands of number 0: a lookup, and a map of 101 pages that may be read
pub first_commands : drawn_commands (layout_of AmdV1) 0 2 0 ≡ Lookup 0x808000 ∷ Map 0x89b000 0x10089c000 0x65000 Read ∷ []
unfolding drawn_commands
first_commands = refl

pub outer_fork : bytes (layout_of AmdV1) (first_of (layout_of AmdV1) 2) ≡ 0x1100000
outer_fork = refl

pub seventh : name_at 7 ≡ Vmsa16
seventh = refl

pub wrapped : name_at 23 ≡ Sv57
wrapped = refl

pub few_large_pages : per_branch (layout_of Vmsa64) ≡ 60
few_large_pages = refl

-- a map that lacks frames is none of those that are counted, and the pages of unmaps add up
pub one_map : count_of Mapped (record { line = 6; answer = answer.Map mapping.Mapped } ∷ record { line = 7; answer = answer.Map mapping.Frames } ∷ []) ≡ 1
one_map = refl

pub seven_pages : pages_unmapped (record { line = 6; answer = answer.Unmap (unmapping.Unmapped 3) } ∷ record { line = 7; answer = answer.Unmap (unmapping.Unmapped 4) } ∷ []) ≡ 7
seven_pages = refl
