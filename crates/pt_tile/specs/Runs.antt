-- Runs of equal blocks.
use Rattle.std.specs.Prelude.{◌≡◌, ◌⊎◌, ℕ, zero, suc, ◌+◌, ◌*◌, ◌%◌, ◌^◌, ◌<◌, IsTrue, List, [], ◌∷◌}
use Rattle.pt_model.specs.declared.block.Block.{Block}
use Rattle.pt_model.specs.declared.block.Prot.{Prot}
use Rattle.pt_model.specs.Layout.{Layout, is_size}
use Rattle.pt_model.specs.Tiling.{block_at}

-- `count` blocks of 2 ^ log2 pages that follow each other from page `first`, their outputs from page `out`
abbrev pub run_blocks : (count log2 : ℕ) → Prot → (first out : ℕ) → List Block
run_blocks zero log2 prot first out = []
run_blocks (suc count) log2 prot first out =
    block_at first log2 out prot ∷ run_blocks count log2 prot (first + 2 ^ log2) (out + 2 ^ log2)

-- a greater block than one of 2 ^ log2 pages could begin at these places
abbrev pub MayBeGreater : Layout → (log2 first out : ℕ) → Type 0
MayBeGreater f log2 first out =
    (k : ℕ) × IsTrue (is_size f k) × (log2 < k) × (first % 2 ^ k ≡ 0) × (out % 2 ^ k ≡ 0)

-- a run of `count` blocks ends where less than one more is left, or where a greater block could begin
abbrev pub IsRunEnd : Layout → (first out left log2 count : ℕ) → Type 0
IsRunEnd f first out left log2 count =
    (left < (count + 1) * 2 ^ log2) ⊎ MayBeGreater f log2 (first + count * 2 ^ log2) (out + count * 2 ^ log2)
