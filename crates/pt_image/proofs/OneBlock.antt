-- An entry is a word of at most one block, and the blocks that begin before an entry end before it.
use Rattle.std.proofs.Common.{◌≡◌, ℕ, ◌+◌, ◌-◌, ◌*◌, ◌/◌, ◌^◌, ◌<◌, ◌≤◌, List, sym, ap, ◌∙◌, subst, arith}
use Rattle.std.proofs.lemmas.Nat.{div-mul-add, pow_pos, shl-shr}
use mathlib.Core.Logic.{dite}
use native.Mathlib.Decide.{ℕ_discrete, dec_le}
use Rattle.pt_model.specs.declared.block.Block.{Block}
use Rattle.pt_model.specs.declared.block.Prot.{Prot}
use Rattle.pt_model.specs.declared.position.Position.{Position}
use Rattle.pt_model.specs.Layout.{Layout, Found, page, nothing, table, alien, end_of, input_pages, level_of_size, pages_of_entry}
use Rattle.pt_model.proofs.Quotients.{whole}
use Rattle.pt_format.specs.Words.{IsLeaf, IsUnder, MayBeLeaf}
use Rattle.pt_format.specs.Laws.{IsLayout, WordsDiffer}
use Rattle.pt_format.specs.Manual.{IsOutput, StepsAgree}
use Rattle.pt_view.specs.Calls.{entry_first}
use Rattle.pt_view.specs.Pieces.{IsLegalPiece, words_of}
use Rattle.pt_view.proofs.Pieces.{ends_in_block, may_be_leaf}
use Rattle.pt_image.specs.Bytes.{entry_at}
use Rattle.pt_image.specs.Checks.{EndBefore}
use Rattle.pt_image.specs.Drafts.{part_of}
use Rattle.pt_image.specs.Faults.{HasBlockAt, IsInBlock}

abbrev out_in : Found → ℕ
out_in nothing = 0
out_in (page out prot) = out
out_in (table address) = 0
out_in alien = 0

-- A word of a block that stands in a table.
module _ (f : Layout) (good : IsLayout f) (image : List ℕ) (frame : ℕ) (p : Position) (number : ℕ) (b : Block) (h : HasBlockAt f image frame p number b) (part : ℕ) (short : part < words_of f b) where
  legal_piece : IsLegalPiece f (part_of b part)
  legal_piece = record { a_part = short; legal = h.legal; stated = h.stated }

  pub part_may : MayBeLeaf f p.level b.log2 b.out b.prot part
  part_may = subst (λ (k : ℕ). MayBeLeaf f k b.log2 b.out b.prot part) h.level_is (may_be_leaf good legal_piece)

  pub part_word : entry_at f image frame (number + part) ≡ f.leaf p.level b.log2 b.out b.prot part
  part_word = h.words part short ∙ ap (λ (k : ℕ). f.leaf k b.log2 b.out b.prot part) h.level_is

  pub part_leaf : IsLeaf f p.level (entry_at f image frame (number + part)) b.log2 b.prot
  part_leaf = record { out = b.out; part = part; may = part_may; word_is = part_word }

  abbrev before : ℕ
  before = part * pages_of_entry f p.level

  part_first : entry_first f p (number + part) ≡ b.first + before
  part_first = (let z : p.base + (number + part) * pages_of_entry f p.level ≡ p.base + number * pages_of_entry f p.level + before = omega arith in z) ∙ ap (λ k. k + before) (sym h.first_is)

  part_ends : b.first + before + pages_of_entry f p.level ≤ end_of b
  part_ends = subst (λ (k : ℕ). b.first + part * pages_of_entry f k + pages_of_entry f k ≤ end_of b) h.level_is (ends_in_block good legal_piece)

  pub part_inside : entry_first f p (number + part) < input_pages f
  part_inside = let a = part_first in let e = part_ends in let c = h.legal.in_input in let some = pow_pos (f.index * p.level) in omega arith

  pub part_begins : entry_first f p (number + part) / 2 ^ b.log2 * 2 ^ b.log2 ≡ b.first
  part_begins =
      let m : ℕ = b.first / 2 ^ b.log2 in
      let w : b.first ≡ m * 2 ^ b.log2 = whole b.first b.log2 h.legal.first_aligned in
      let some = pow_pos (f.index * p.level) in
      let low : before < 2 ^ b.log2 = (let e = part_ends in omega arith) in
      ap (λ k. k / 2 ^ b.log2 * 2 ^ b.log2) (part_first ∙ ap (λ k. k + before) w)
      ∙ ap (λ k. k * 2 ^ b.log2) (div-mul-add m (2 ^ b.log2) before low) ∙ sym w

  pub part_step : StepsAgree f → f.step p.level (entry_at f image frame (number + part)) (entry_first f p (number + part)) ≡ page (b.out + before) b.prot
  part_step agree =
      let here : ℕ = entry_first f p (number + part) in
      let e = part_first in
      let some = pow_pos (f.index * p.level) in
      let under : IsUnder f p.level b.log2 b.first part here = record {
        aligned = h.legal.first_aligned;
        from = omega arith;
        to = omega arith;
      } in
      let off : here - b.first ≡ before = omega arith in
      ap (λ (w : ℕ). f.step p.level w here) part_word
      ∙ agree.leaf p.level b.log2 b.out part b.first here b.prot part_may under
      ∙ ap (λ k. page (b.out + k) b.prot) off

-- two blocks that share an entry are one, and begin at one entry
module _ (f : Layout) (good : IsLayout f) (differ : WordsDiffer f) (agree : StepsAgree f) (image : List ℕ) (frame : ℕ) (p : Position)
    (i j : ℕ) (b c : Block) (h : HasBlockAt f image frame p i b) (k : HasBlockAt f image frame p j c) (s t : ℕ) (short : s < words_of f b) (few : t < words_of f c) (same : i + s ≡ j + t) where
  size : (b.log2 ≡ c.log2) × (b.prot ≡ c.prot)
  size = differ.one_size p.level b.log2 c.log2 b.out c.out s t b.prot c.prot (part_may f good image frame p i b h s short) (part_may f good image frame p j c k t few)
      (sym (part_word f good image frame p i b h s short) ∙ ap (entry_at f image frame) same ∙ part_word f good image frame p j c k t few)

  firsts : b.first ≡ c.first
  firsts = sym (part_begins f good image frame p i b h s short) ∙ (λ z. entry_first f p (same z) / 2 ^ size.0 z * 2 ^ size.0 z) ∙ part_begins f good image frame p j c k t few

  outs : b.out + s * pages_of_entry f p.level ≡ c.out + t * pages_of_entry f p.level
  outs = ap out_in (sym (part_step f good image frame p i b h s short agree) ∙ (λ z. f.step p.level (entry_at f image frame (same z)) (entry_first f p (same z)))
      ∙ part_step f good image frame p j c k t few agree)

  pub one_entry : i ≡ j
  one_entry =
      let e : ℕ = pages_of_entry f p.level in
      let a : p.base + i * e ≡ p.base + j * e = sym h.first_is ∙ firsts ∙ k.first_is in
      let offs : i * e ≡ j * e = omega arith in
      sym (shl-shr i (f.index * p.level)) ∙ ap (λ (z : ℕ). z / e) offs ∙ shl-shr j (f.index * p.level)

  pub one_block : b ≡ c
  one_block =
      let e : ℕ = pages_of_entry f p.level in
      let at = one_entry in
      let parts : s ≡ t = omega arith in
      let offs : s * e ≡ t * e = ap (λ (z : ℕ). z * e) parts in
      let sums = outs in
      let out : b.out ≡ c.out = omega arith in
      λ z. record { first = firsts z; log2 = size.0 z; out = out z; prot = size.1 z }

-- a block that begins at an entry has the size and the permission of the entry's word, and begins onto the page that the step gives
module _ (f : Layout) (good : IsLayout f) (differ : WordsDiffer f) (agree : StepsAgree f) (image : List ℕ) (frame : ℕ) (p : Position) (number : ℕ) (b : Block) (h : HasBlockAt f image frame p number b)
    (word log2 : ℕ) (prot : Prot) (leaf : IsLeaf f p.level word log2 prot) (is : word ≡ entry_at f image frame number) where
  some : 0 < words_of f b
  some = pow_pos (b.log2 - f.index * level_of_size f b.log2)

  here : number + 0 ≡ number
  here = omega arith

  pub begins_size : (b.log2 ≡ log2) × (b.prot ≡ prot)
  begins_size = differ.one_size p.level b.log2 log2 b.out leaf.out 0 leaf.part b.prot prot (part_may f good image frame p number b h 0 some) leaf.may
      (sym (part_word f good image frame p number b h 0 some) ∙ ap (entry_at f image frame) here ∙ sym is ∙ leaf.word_is)

  pub begins_out : (out : ℕ) → IsOutput f p.level word (entry_first f p number) out → b.out ≡ out
  begins_out out step =
      let none : b.out + 0 * pages_of_entry f p.level ≡ b.out = omega arith in
      sym none ∙ ap out_in (sym (part_step f good image frame p number b h 0 some agree)
      ∙ (λ z. f.step p.level (entry_at f image frame (here z)) (entry_first f p (here z)))
      ∙ ap (λ (w : ℕ). f.step p.level w (entry_first f p number)) (sym is) ∙ step log2 prot leaf)

-- The blocks that begin before an entry end before it.
module _ (f : Layout) (image : List ℕ) (frame : ℕ) (p : Position) where
  pub ends_begin : EndBefore f image frame p 0
  ends_begin b i lt h = absurd (omega arith)

  -- past an entry at which no block begins
  pub ends_pass : (number : ℕ) → ((b : Block) → ¬ HasBlockAt f image frame p number b) → EndBefore f image frame p number → EndBefore f image frame p (number + 1)
  ends_pass number free old b i lt h = dite (ℕ_discrete i number)
      (λ e. absurd (free b (subst (λ (k : ℕ). HasBlockAt f image frame p k b) e h)))
      (λ ne. let z = old b i (omega arith) h in omega arith)

  -- past a block
  pub ends_copy : IsLayout f → WordsDiffer f → StepsAgree f → (number : ℕ) (b : Block) → HasBlockAt f image frame p number b → EndBefore f image frame p number →
      EndBefore f image frame p (number + words_of f b)
  ends_copy good differ agree number b here old c i lt h = dite (dec_le number i)
      (λ le.
      let s : ℕ = i - number in
      let some = pow_pos (c.log2 - f.index * level_of_size f c.log2) in
      let same : number + s ≡ i + 0 = omega arith in
      let at : number ≡ i = one_entry f good differ agree image frame p number i b c here h s 0 (omega arith) some same in
      let is : b ≡ c = one_block f good differ agree image frame p number i b c here h s 0 (omega arith) some same in
      let long : words_of f b ≡ words_of f c = ap (words_of f) is in
      omega arith)
      (λ less. let z = old c i (omega arith) h in omega arith)

  -- an entry at which no block begins is in none
  pub in_none : (number : ℕ) → ((b : Block) → ¬ HasBlockAt f image frame p number b) → EndBefore f image frame p number → ¬ IsInBlock f image (record { frame = frame; position = p; number = number })
  in_none number free old x = dite (ℕ_discrete x.part 0)
      (λ zero. free x.block (subst (λ (k : ℕ). HasBlockAt f image frame p k x.block) (let a = x.here in let z : x.number ≡ number = omega arith in z) x.has))
      (λ ne. let a = x.here in let s = x.a_part in let e = old x.block x.number (omega arith) x.has in omega arith)
