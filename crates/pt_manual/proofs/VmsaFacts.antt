-- One step of the walk of VMSAv8-64 tables, as a loop makes it.
use Rattle.std.proofs.Common.{◌≡◌, ℕ, suc, ◌+◌, ◌-◌, ◌<◌, List, ap, sym, ◌∙◌, arith}
use Rattle.pt_model.specs.Words.{entry_in}
use Rattle.pt_manual.specs.VmsaWalk.{descriptor_at, followed, index_at, index_bits, walk_from}
use Rattle.pt_manual.specs.declared.descriptor.Descriptor.{Descriptor}

-- the descriptor that a loop reads gives the rest of the walk
left_next : (granule : ℕ) (words : List ℕ) (address left level frame word : ℕ) (descriptor : Descriptor) → left + level ≡ 3 →
    word ≡ entry_in (index_bits granule) words frame (index_at granule level address) → descriptor ≡ descriptor_at granule level word →
    walk_from granule words address (suc left) frame ≡ followed granule words address level (walk_from granule words address left) descriptor
left_next granule words address left level frame word descriptor is e d =
    let level_is : 3 - left ≡ level = omega arith in
    rw level_is (ap (followed granule words address level (walk_from granule words address left)) (sym (d ∙ ap (descriptor_at granule level) e)))

pub vmsa_next : (granule : ℕ) (words : List ℕ) (address level frame word : ℕ) (descriptor : Descriptor) → level < 4 →
    word ≡ entry_in (index_bits granule) words frame (index_at granule level address) → descriptor ≡ descriptor_at granule level word →
    walk_from granule words address (4 - level) frame
    ≡ followed granule words address level (walk_from granule words address (4 - (level + 1))) descriptor
vmsa_next granule words address level frame word descriptor low e d =
    let more : 4 - level ≡ suc (4 - (level + 1)) = omega arith in
    ap (λ n. walk_from granule words address n frame) more
    ∙ left_next granule words address (4 - (level + 1)) level frame word descriptor (omega arith) e d
