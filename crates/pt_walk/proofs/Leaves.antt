-- The words of a block: what is read from one of them, and where the block begins.
use Rattle.std.proofs.Common.{◌≡◌, ℕ, ◌+◌, ◌-◌, ◌*◌, ◌/◌, ◌%◌, ◌^◌, ◌<◌, ◌≤◌, inl, inr, ap, sym, ◌∙◌, subst, arith}
use Rattle.std.proofs.lemmas.Bool.{cases_lt}
use Rattle.std.proofs.lemmas.Nat.{mul-le, pow-add}
use Rattle.std.proofs.Math.Pow.{pow_mono}
use Rattle.pt_model.specs.declared.block.Block.{Block}
use Rattle.pt_model.specs.declared.block.Prot.{Prot}
use Rattle.pt_model.specs.Layout.{Layout, output_pages, pages_of_entry}
use Rattle.pt_format.specs.Laws.{IsLayout, WordsDiffer}
use Rattle.pt_format.specs.Words.{IsLeaf}
use Rattle.pt_walk.specs.RangeWalks.{IsBlockOf}
use Rattle.pt_model.proofs.Quotients.{multiple_under, size_split, whole}

module _ (f : Layout) (good : IsLayout f) (differ : WordsDiffer f) (level word page : ℕ) (b : Block) (is : IsBlockOf f level word page b) where
  -- the last page of a part is one of the block's
  part_in_block : page < b.first + 2 ^ b.log2
  part_in_block =
      let m = is.may in
      let e : ℕ = pages_of_entry f level in
      let split : b.log2 ≡ b.log2 - f.index * level + f.index * level = subst (λ (k : ℕ). b.log2 ≡ b.log2 - f.index * k + f.index * k) m.at_level (size_split f.index b.log2 (omega (arith, good.index_is, good.granule_low))) in
      let pages : 2 ^ b.log2 ≡ 2 ^ (b.log2 - f.index * level) * e = ap (λ k. 2 ^ k) split ∙ pow-add 2 (b.log2 - f.index * level) (f.index * level) in
      let few = m.a_part in
      let h = mul-le (is.part + 1) e (2 ^ (b.log2 - f.index * level)) e (omega arith) (omega arith) in
      let to = is.under.to in
      omega (arith, h, pages)

  -- what is read of the word is the block's
  pub same_read : (log2 : ℕ) (prot : Prot) → IsLeaf f level word log2 prot → (log2 ≡ b.log2) × (prot ≡ b.prot)
  same_read log2 prot leaf = differ.one_size level log2 b.log2 leaf.out b.out leaf.part is.part prot b.prot leaf.may is.may (sym leaf.word_is ∙ is.word_is)

  pub size_few : b.log2 < 64
  size_few = elim (cases_lt b.log2 64) [
    | inl less ↦ less
    | inr over ↦ absurd (
        let wide : 2 ^ 64 ≤ 2 ^ b.log2 = pow_mono over in
        let bits : f.output - f.granule ≤ 56 = omega (arith, good.output_high) in
        let few : output_pages f ≤ 2 ^ 56 = pow_mono bits in
        let within = is.may.within in omega arith)
  ]

  -- a multiple of the block's pages, that they reach the page from, is its first page
  pub same_first : (first log2 : ℕ) → log2 ≡ b.log2 → first % 2 ^ log2 ≡ 0 → first ≤ page → page < first + 2 ^ log2 → first ≡ b.first
  same_first first log2 e aligned low high =
      let from = is.under.from in
      let mine : b.first % 2 ^ log2 ≡ 0 = ap (λ k. b.first % 2 ^ k) e ∙ is.under.aligned in
      let size : 2 ^ log2 ≡ 2 ^ b.log2 = ap (λ k. 2 ^ k) e in
      let inside = part_in_block in
      let one : first / 2 ^ log2 ≡ page / 2 ^ log2 = multiple_under page log2 first aligned low high in
      let two : b.first / 2 ^ log2 ≡ page / 2 ^ log2 = multiple_under page log2 b.first mine (omega arith) (omega arith) in
      whole first log2 aligned ∙ ap (λ q. q * 2 ^ log2) (one ∙ sym two) ∙ sym (whole b.first log2 mine)
