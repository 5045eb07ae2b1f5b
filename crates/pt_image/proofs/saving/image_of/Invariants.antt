use Rattle.std.proofs.Common.{◌≡◌, ◌++◌, take}
use Rattle.std.specs.Prelude.{flat_map, slice_index}
use Rattle.byteorder.specs.Endian.{little_bytes}
use Rattle.pt_image.specs.Bytes.{head_bytes}
use Rattle.pt_image.proofs.saving.image_of.Given as goal

abbrev pub invariant-loop-word : goal.invariant-loop-word
invariant-loop-word l = l.image.items ≡ head_bytes l.number l.levels l.frames (slice_index l.words 0) ++ flat_map (little_bytes 8) (take l.word-index l.word-items)
