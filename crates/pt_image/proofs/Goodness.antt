-- Entries without a fault: zero, a pointer to a frame that isn't reached, and the words of a block.
use Rattle.std.proofs.Common.{◌≡◌, ◌≢◌, ⊎_elim, ℕ, zero, suc, ◌+◌, ◌<◌, ◌≤◌, List, [], ◌∷◌, ◌++◌, refl, sym, ap, ◌∙◌, subst, arith}
use Rattle.std.specs.Prelude.{None, Some}
use Rattle.pt_model.specs.declared.block.Block.{Block}
use Rattle.pt_model.specs.declared.block.Prot.{Prot}
use Rattle.pt_model.specs.declared.position.Position.{Position}
use Rattle.pt_model.specs.Layout.{Layout, input_pages}
use Rattle.pt_model.specs.Words.{frame_address, frame_limit}
use Rattle.pt_format.specs.Laws.{IsLayout, WordsDiffer}
use Rattle.pt_format.specs.Words.{IsLeaf, IsPointer, IsTableLevel}
use Rattle.pt_view.specs.Calls.{entry_first}
use Rattle.pt_view.specs.Pieces.{words_of}
use Rattle.pt_image.specs.Bytes.{entry_at}
use Rattle.pt_image.specs.Order.{Visit, pointed, visits}
use Rattle.pt_image.specs.Faults.{AreGood, HasBlockAt, IsGoodEntry, IsInBlock, IsNamed, IsOfSpine, IsReached}
use Rattle.pt_image.specs.declared.fault.EntryFault.TheVariants.{Outside, Alien, Pointer, Shared, Group, Spine}
use Rattle.pt_image.proofs.Firsts.{good_append, named_parts, own_alone, visits_append, visits_none, visits_one}
use Rattle.pt_image.proofs.OneBlock.{part_inside, part_leaf}
use Rattle.pt_image.proofs.Pointing.{is_address, pointed_none}

pub none_some : {A : Type 0} {x : A} → None ≡ Some x → ⊥
none_some e = cc

module _ (f : Layout) (differ : WordsDiffer f) (n : ℕ) (few : n ≤ frame_limit f) where
  -- a zero word points nowhere, and neither does a leaf
  pub zero_points : (level word : ℕ) → level < f.levels → word ≡ 0 → pointed f level n word ≡ None
  zero_points level word below none = pointed_none f level n word
      (λ g lt high e. differ.pointer_some level (frame_address f g) (record { above = high; below = below }) (is_address f g (omega arith)) (sym e ∙ none))

  pub leaf_points : (level word log2 : ℕ) (prot : Prot) → IsLeaf f level word log2 prot → pointed f level n word ≡ None
  leaf_points level word log2 prot leaf = pointed_none f level n word
      (λ g lt high e. differ.apart level log2 leaf.out leaf.part (frame_address f g) prot leaf.may (record { above = high; below = leaf.may.below }) (is_address f g (omega arith))
      (sym leaf.word_is ∙ e))

  -- a word is no leaf and a pointer
  pub leaf_apart : (level word log2 address : ℕ) (prot : Prot) → IsLeaf f level word log2 prot → IsPointer f level word address → ⊥
  leaf_apart level word log2 address prot leaf pointer =
      differ.apart level log2 leaf.out leaf.part address prot leaf.may pointer.at_level pointer.a_frame (sym leaf.word_is ∙ pointer.word_is)

  pub leaf_some : (level word log2 : ℕ) (prot : Prot) → IsLeaf f level word log2 prot → word ≢ 0
  leaf_some level word log2 prot leaf e = differ.leaf_some level log2 leaf.out leaf.part prot leaf.may (sym leaf.word_is ∙ e)

  module _ (good : IsLayout f) (l : ℕ) (image : List ℕ) (before : List Visit) where
    block_leaf : (v : Visit) (x : IsInBlock f image v) → IsLeaf f v.position.level (entry_at f image v.frame v.number) x.block.log2 x.block.prot
    block_leaf v x = subst (λ (k : ℕ). IsLeaf f v.position.level (entry_at f image v.frame k) x.block.log2 x.block.prot) x.here
        (part_leaf f good image v.frame v.position x.number x.block x.has x.part x.a_part)

    block_inside : (v : Visit) → IsInBlock f image v → entry_first f v.position v.number < input_pages f
    block_inside v x = subst (λ (k : ℕ). entry_first f v.position k < input_pages f) x.here
        (part_inside f good image v.frame v.position x.number x.block x.has x.part x.a_part)

    pub good_zero : (v : Visit) → v.position.level < f.levels → entry_at f image v.frame v.number ≡ 0 → ¬ IsOfSpine f n l image v → IsGoodEntry f n l image before v
    good_zero v below none off Outside h = h.0 none
    good_zero v below none off Alien h = h.1.not_empty none
    good_zero v below none off Pointer h = differ.pointer_some v.position.level h.1 h.2.at_level h.2.a_frame (sym h.2.word_is ∙ none)
    good_zero v below none off Shared h = none_some (sym (zero_points v.position.level (entry_at f image v.frame v.number) below none) ∙ h.2)
    good_zero v below none off Group h = leaf_some v.position.level (entry_at f image v.frame v.number) h.1 h.2 h.3 none
    good_zero v below none off Spine h = off h.0

    pub good_part : (v : Visit) → f.start ≤ l → IsInBlock f image v → IsGoodEntry f n l image before v
    good_part v low x Outside h = let a = block_inside v x in let b = h.1 in omega arith
    good_part v low x Alien h = let leaf = block_leaf v x in h.1.no_leaf x.block.log2 leaf.out leaf.part x.block.prot leaf.may leaf.word_is
    good_part v low x Pointer h = leaf_apart v.position.level (entry_at f image v.frame v.number) x.block.log2 h.1 x.block.prot (block_leaf v x) h.2
    good_part v low x Shared h = none_some (sym (leaf_points v.position.level (entry_at f image v.frame v.number) x.block.log2 x.block.prot (block_leaf v x)) ∙ h.2)
    good_part v low x Group h = h.4 x
    good_part v low x Spine h =
        let a = good.sizes_low x.block.log2 x.has.legal.a_size in let b = x.has.level_is in let c = h.0.above in omega arith

    -- a pointer within the space to a frame that isn't reached
    pub good_pointer : (v : Visit) (child : ℕ) → entry_first f v.position v.number < input_pages f → IsTableLevel f v.position.level → child < n →
        entry_at f image v.frame v.number ≡ f.pointer v.position.level (frame_address f child) → pointed f v.position.level n (entry_at f image v.frame v.number) ≡ Some child →
        ¬ IsReached f n l image before child → IsGoodEntry f n l image before v
    good_pointer v child inside high lt is points free Outside h = let b = h.1 in omega arith
    good_pointer v child inside high lt is points free Alien h = h.1.no_pointer (frame_address f child) high (is_address f child (omega arith)) is
    good_pointer v child inside high lt is points free Pointer h = none_some (sym h.3 ∙ points)
    good_pointer v child inside high lt is points free Shared h =
        let same : h.1 ≡ child = (let e = sym h.2 ∙ points in cc) in free (subst (IsReached f n l image before) same h.3)
    good_pointer v child inside high lt is points free Group h =
        leaf_apart v.position.level (entry_at f image v.frame v.number) h.1 (frame_address f child) h.2 h.3 (record { at_level = high; a_frame = is_address f child (omega arith); word_is = is })
    good_pointer v child inside high lt is points free Spine h = ⊎_elim
        (λ none. differ.pointer_some v.position.level (frame_address f child) high (is_address f child (omega arith)) (sym is ∙ none))
        (λ x. leaf_apart v.position.level (entry_at f image v.frame v.number) x.block.log2 (frame_address f child) x.block.prot (block_leaf v x)
        (record { at_level = high; a_frame = is_address f child (omega arith); word_is = is }))
        h.1

-- The visits of a block's entries.
module _ (f : Layout) (differ : WordsDiffer f) (n : ℕ) (few : n ≤ frame_limit f) (good : IsLayout f) (l : ℕ) (image : List ℕ) (level frame base number : ℕ) (b : Block) (low : f.start ≤ l)
    (h : HasBlockAt f image frame (record { level = level; base = base }) number b) where
  abbrev p : Position
  p = record { level = level; base = base }

  abbrev visit_of : ℕ → Visit
  visit_of k = record { frame = frame; position = p; number = k }

  part_alone : (k : ℕ) → k < words_of f b → visits f n image level frame base (number + k) 1 ≡ visit_of (number + k) ∷ []
  part_alone k short = visits_one f n image level frame base (number + k) ∙ own_alone f n image level frame base (number + k)
      (leaf_points f differ n few level (entry_at f image frame (number + k)) b.log2 b.prot (part_leaf f good image frame p number b h k short))

  pub block_names : (k : ℕ) → k ≤ words_of f b → (g : ℕ) → ¬ IsNamed f n l image (visits f n image level frame base number k) g
  block_names zero short g a = absurd (subst (λ (vs : List Visit). IsNamed f n l image vs g) (visits_none f n image level frame base number) a)
  block_names (suc k) short g a =
      let is : visits f n image level frame base number (suc k) ≡ visits f n image level frame base number k ++ visit_of (number + k) ∷ [] =
      ap (visits f n image level frame base number) (let z : suc k ≡ k + 1 = omega arith in z) ∙ visits_append f n image level frame base number k 1
      ∙ ap (λ vs. visits f n image level frame base number k ++ vs) (part_alone k (omega arith)) in
      let points = leaf_points f differ n few level (entry_at f image frame (number + k)) b.log2 b.prot (part_leaf f good image frame p number b h k (omega arith)) in
      ⊎_elim (λ old. block_names k (omega arith) g old) (λ new. ⊎_elim (λ e. none_some (sym points ∙ e)) (λ x. x) new)
      (named_parts f n l image (visits f n image level frame base number k) (visit_of (number + k) ∷ []) g (subst (λ (vs : List Visit). IsNamed f n l image vs g) is a))

  pub block_good : (before : List Visit) (k : ℕ) → k ≤ words_of f b → AreGood f n l image before (visits f n image level frame base number k)
  block_good before zero short = subst (AreGood f n l image before) (sym (visits_none f n image level frame base number)) tt
  block_good before (suc k) short =
      let is : visits f n image level frame base number (suc k) ≡ visits f n image level frame base number k ++ visit_of (number + k) ∷ [] =
      ap (visits f n image level frame base number) (let z : suc k ≡ k + 1 = omega arith in z) ∙ visits_append f n image level frame base number k 1
      ∙ ap (λ vs. visits f n image level frame base number k ++ vs) (part_alone k (omega arith)) in
      subst (AreGood f n l image before) (sym is)
      (good_append f n l image before (visits f n image level frame base number k) (visit_of (number + k) ∷ []) (block_good before k (omega arith)) (
        good_part f differ n few good l image (before ++ visits f n image level frame base number k) (visit_of (number + k)) low
            (record { block = b; number = number; part = k; here = refl; a_part = omega arith; has = h }),
        tt,
      ))
