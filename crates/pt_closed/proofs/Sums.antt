-- Counts over the words of a closed space: they only grow, and are few.
use Rattle.std.proofs.Common.{inl, inr, ◌≡◌, ℕ, zero, suc, Bool, true, false, ◌+◌, ◌-◌, ◌*◌, ◌/◌, ◌^◌, ◌≤◌, ◌<◌, List, [], ◌∷◌, length, refl, ap, sym, ◌∙◌, arith}
use Rattle.std.specs.Prelude.{◌==◌, Option, None, Some}
use Rattle.std.proofs.lemmas.Bool.{cases_Bool}
use Rattle.std.proofs.lemmas.Nat.{pow_pos}
use Rattle.std.proofs.Math.Nat.{div-mul-le_self}
use mathlib.Core.Logic.{dite}
use native.Mathlib.Decide.{ℕ_discrete, dec_le}
use Rattle.std.proofs.Math.Pow.{pow_mono}
use Rattle.pt_model.specs.Layout.{Layout, input_pages}
use Rattle.pt_model.specs.declared.reply.Census.{Census}
use Rattle.pt_model.specs.Dumps.{census_of}
use Rattle.pt_model.specs.Sets.{one_if}
use Rattle.pt_model.specs.Tables.{levels_between, starting_top}
use Rattle.pt_model.specs.Words.{tag, placed_at, entry_of, root_level}
use Rattle.pt_model.proofs.Positions.{bit_le}
use Rattle.pt_model.specs.declared.block.Prot.{Prot}
use Rattle.pt_format.specs.Words.{IsLeaf}
use Rattle.pt_format.specs.Laws.{IsLayout, WordsDiffer}
use Rattle.pt_format.specs.Manual.{StepsAgree}
use Rattle.pt_view.specs.declared.view.View.{View}
use Rattle.pt_view.specs.declared.view.Piece.{Piece}
use Rattle.pt_view.specs.Views.{book_of}
use Rattle.pt_view.specs.Pieces.{level_of}
use Rattle.pt_rule.specs.Tags.{is_placed}
use Rattle.pt_rule.specs.WholeView.{is_linked_in, piece_in, prepared_frame}
use Rattle.pt_rule.specs.WholeCounts.{IsCounted, added_in, added_in_frame, counts_block, counts_pages, if_any, linked_frames_in}
use Rattle.pt_rule.proofs.Laws.{census_is_read, readings_tell, whole_is_read}
use Rattle.pt_closed.specs.Closed.{IsClosed, IsToldBy}

-- the laws of a format that the counts stand on
pub record Laws (f : Layout) : Type 0 where
  pub layout : IsLayout f
  pub differ : WordsDiffer f
  pub agree : StepsAgree f

-- a leaf's size has the bits of its level's entries, and is small
pub leaf_small : {f : Layout} → IsLayout f → {level word log2 : ℕ} {prot : Prot} → IsLeaf f level word log2 prot → (f.index * level ≤ log2) × (log2 < 64)
leaf_small {f} good {level} {word} {log2} {prot} is =
    let low : log2 / f.index * f.index ≤ log2 = div-mul-le_self log2 f.index in
    let at : log2 / f.index * f.index ≡ f.index * level = ap (λ (k : ℕ). k * f.index) is.may.at_level ∙ (let e : level * f.index ≡ f.index * level = omega arith in e) in (
      omega arith,
      dite (dec_le 64 log2)
          (λ big. absurd (let a : 2 ^ 64 ≤ 2 ^ log2 = pow_mono big in let bits : f.output - f.granule ≤ 56 = (let h = good.output_high in omega arith) in
          let b : 2 ^ (f.output - f.granule) ≤ 2 ^ 56 = pow_mono bits in let c = is.may.within in omega arith))
          (λ few. omega arith),
    )

-- a piece has a page, and so has its block
block_le : (f : Layout) (o : Option Piece) → if_any counts_block o ≤ if_any (counts_pages f) o
block_le f None = omega arith
block_le f (Some x) = let a = bit_le (x.part == 0) in let b = pow_pos (f.index * level_of f x) in omega arith

module _ (f : Layout) (n : ℕ) (words : List ℕ) where
  frame_le : (frame count : ℕ) → added_in_frame f n words counts_block frame count ≤ added_in_frame f n words (counts_pages f) frame count
  frame_le frame zero = omega arith
  frame_le frame (suc i) =
      let rest = frame_le frame i in let here = block_le f (piece_in f (placed_at (tag words frame)) i (entry_of f n words frame i)) in omega arith

  frame_grows : (number : Piece → ℕ) (frame i j : ℕ) → i ≤ j → added_in_frame f n words number frame i ≤ added_in_frame f n words number frame j
  frame_grows number frame i zero le = let e : i ≡ 0 = omega arith in let same = ap (added_in_frame f n words number frame) e in omega arith
  frame_grows number frame i (suc j) le = dite (ℕ_discrete i (suc j))
      (λ e. let same = ap (added_in_frame f n words number frame) e in omega arith) (λ ne. let rest = frame_grows number frame i j (omega arith) in omega arith)

  -- a linked frame adds what its entries add up to, and another nothing
  pub linked_adds : (number : Piece → ℕ) (frame : ℕ) → is_linked_in None words frame ≡ true →
      added_in f n None words number (suc frame) ≡ added_in f n None words number frame + added_in_frame f n words number frame (2 ^ f.index)
  linked_adds number frame is = rw is refl

  pub other_adds : (number : Piece → ℕ) (frame : ℕ) → is_linked_in None words frame ≡ false → added_in f n None words number (suc frame) ≡ added_in f n None words number frame
  other_adds number frame is = rw is (omega arith)

  frames_le : (frames : ℕ) → added_in f n None words counts_block frames ≤ added_in f n None words (counts_pages f) frames
  frames_le zero = omega arith
  frames_le (suc frame) = elim (cases_Bool (is_linked_in None words frame)) [
    | inl e ↦ (let rest = frames_le frame in let a = linked_adds counts_block frame e in let b = linked_adds (counts_pages f) frame e in let c = frame_le frame (2 ^ f.index) in omega arith)
    | inr e ↦ (let rest = frames_le frame in let a = other_adds counts_block frame e in let b = other_adds (counts_pages f) frame e in omega arith)
  ]

  frames_grow : (number : Piece → ℕ) (i j : ℕ) → i ≤ j → added_in f n None words number i ≤ added_in f n None words number j
  frames_grow number i zero le = let e : i ≡ 0 = omega arith in let same = ap (added_in f n None words number) e in omega arith
  frames_grow number i (suc j) le = dite (ℕ_discrete i (suc j))
      (λ e. let same = ap (added_in f n None words number) e in omega arith)
      (λ ne. let rest = frames_grow number i j (omega arith) in elim (cases_Bool (is_linked_in None words j)) [
        | inl e ↦ (let a = linked_adds number j e in omega arith)
        | inr e ↦ (let a = other_adds number j e in omega arith)
      ])

  -- a linked frame is placed, where none is prepared
  pub linked_is : (frame : ℕ) → is_placed (tag words frame) ≡ true → is_linked_in None words frame ≡ true
  linked_is frame e = rw e refl

  pub unlinked_is : (frame : ℕ) → is_placed (tag words frame) ≡ false → is_linked_in None words frame ≡ false
  unlinked_is frame e = rw e refl

  -- a linked frame is one table more
  pub table_adds : (frame : ℕ) → is_linked_in None words frame ≡ true → linked_frames_in None words (suc frame) ≡ linked_frames_in None words frame + 1
  table_adds frame e = ap (λ (t : Bool). linked_frames_in None words frame + one_if t) e

  pub no_table : (frame : ℕ) → is_linked_in None words frame ≡ false → linked_frames_in None words (suc frame) ≡ linked_frames_in None words frame
  no_table frame e = let none : one_if (is_linked_in None words frame) ≡ 0 = ap (λ (t : Bool). one_if t) e in omega arith

  pub linked_few : (frames : ℕ) → linked_frames_in None words frames ≤ frames
  linked_few zero = omega arith
  linked_few (suc frame) = let rest = linked_few frame in let one = bit_le (is_linked_in None words frame) in omega arith

module _ {f : Layout} (laws : Laws f) {n : ℕ} {words : List ℕ} (closed : IsClosed f n words) where
  pub counted : IsCounted f n words closed.view closed.blocks
  counted = census_is_read f laws.layout laws.differ laws.agree n closed.levels words (closed.view ∷ []) 0 closed.view closed.lawful refl closed.whole closed.blocks closed.rest

  all_few : added_in f n None words (counts_pages f) n ≤ 2 ^ 52
  all_few =
      let most = counted.few in let same = counted.pages in
      let bits : f.input - f.granule ≤ 52 = (let h = laws.layout.pages_high in omega arith) in
      let space : input_pages f ≤ 2 ^ 52 = pow_mono bits in omega arith

  -- the first so many frames have few pages, and no more blocks
  pub frames_few : (frames : ℕ) → frames ≤ n → (added_in f n None words (counts_pages f) frames ≤ 2 ^ 52) × (added_in f n None words counts_block frames ≤ 2 ^ 52)
  frames_few frames low =
      let grow = frames_grow f n words (counts_pages f) frames n low in
      let all = all_few in let le = frames_le f n words frames in (omega arith, omega arith)

  -- the first so many entries of a linked frame too
  pub entries_few : (frame count : ℕ) → frame < n → is_linked_in None words frame ≡ true → count ≤ 2 ^ f.index →
      (added_in_frame f n words (counts_pages f) frame count ≤ 2 ^ 52) × (added_in_frame f n words counts_block frame count ≤ 2 ^ 52)
  entries_few frame count low is small =
      let grow = frame_grows f n words (counts_pages f) frame count (2 ^ f.index) small in
      let sum = linked_adds f n words (counts_pages f) frame is in
      let all = (frames_few (suc frame) (omega arith)).0 in
      let le = frame_le f n words frame count in (omega arith, omega arith)

  -- what an entry's word reads as
  pub told_by : (frame number : ℕ) → frame < n → number < 2 ^ f.index → is_linked_in None words frame ≡ true →
      IsToldBy f (placed_at (tag words frame)).level number (entry_of f n words frame number) (piece_in f (placed_at (tag words frame)) number (entry_of f n words frame number))
  told_by frame number low small is read reads =
      let none : prepared_frame closed.view.prepared ≡ None = ap prepared_frame closed.rest.prepared in
      readings_tell f laws.layout laws.differ laws.agree n closed.levels words (closed.view ∷ []) 0 closed.view closed.lawful refl closed.whole frame number low small
      (ap (λ (o : Option ℕ). is_linked_in o words frame) none ∙ is) read reads

  -- the counts over all frames are the census of the book
  pub census_is : (tables blocks pages : ℕ) → tables ≡ linked_frames_in None words n → blocks ≡ added_in f n None words counts_block n →
      pages ≡ added_in f n None words (counts_pages f) n →
      (let c : Census = record { levels = root_level words + 1; tables = tables; blocks = blocks; pages = pages } in c) ≡ census_of closed.levels (book_of closed.view closed.blocks)
  census_is tables blocks pages t b p =
      let v : View = closed.view in
      let live : 0 < v.count = (let some = pow_pos (f.input - f.granule) in let all = closed.whole in omega arith) in
      let levels : v.levels ≡ closed.levels = (closed.lawful.sizes.live 0 v refl live).1 in
      let top : v.top ≡ root_level words =
      (whole_is_read f laws.layout laws.differ laws.agree n closed.levels words (v ∷ []) 0 v closed.lawful refl closed.whole).2 in
      let linked : tables ≡ length v.tables + length (levels_between (starting_top closed.levels) v.top) =
      t ∙ sym counted.tables ∙ ap (λ (l : ℕ). length v.tables + length (levels_between (starting_top l) v.top)) levels in
      λ i. record { levels = sym top i + 1; tables = linked i; blocks = (b ∙ sym counted.blocks_are) i; pages = (p ∙ sym counted.pages) i }
