-- Words that meet the rule with one view of the whole space at rest: the root, the tables to which visited entries belong, and what
-- their entries are.
use Rattle.std.proofs.Common.{◌≡◌, ℕ, ◌-◌, ◌/◌, ◌%◌, ◌^◌, ◌<◌, ◌≤◌, List, [], ◌∷◌, refl, sym, ap, ◌∙◌, subst, arith}
use Rattle.std.specs.Prelude.{IsTrue, Option, None}
use Rattle.std.proofs.lemmas.Bool.{and_from, false≢true}
use Rattle.std.proofs.lemmas.Nat.{pow_pos}
use Rattle.pt_model.specs.declared.block.Block.{Block}
use Rattle.pt_model.specs.declared.position.Position.{Position}
use Rattle.pt_model.specs.Layout.{Layout}
use Rattle.pt_model.specs.Tables.{IsPosition, spine_position, starting_top}
use Rattle.pt_model.specs.Words.{entry_of, placed_at, tag}
use Rattle.pt_format.specs.Laws.{IsLayout}
use Rattle.pt_view.specs.declared.view.View.{View}
use Rattle.pt_rule.specs.Tags.{IsTag, free, held, placed, held_word, is_placed}
use Rattle.pt_rule.specs.Linked.{IsLinkedAt}
use Rattle.pt_rule.specs.WholeCounts.{StandsAt}
use Rattle.pt_rule.specs.WholeView.{is_linked_in, prepared_frame}
use Rattle.pt_rule.proofs.HolderFacts.{placed_back}
use Rattle.pt_rule.proofs.Laws.{entries_are_read}
use Rattle.pt_rule.proofs.TagFacts.{held_is, held_unplaced}
use Rattle.pt_image.specs.Books.{RestsAlone}
use Rattle.pt_image.specs.Bytes.{entry_at, root_in}
use Rattle.pt_image.specs.Faults.{HasRoot}
use Rattle.pt_image.specs.Visits.{HasImage}

module _ (f : Layout) (good : IsLayout f) (n l : ℕ) (image words : List ℕ) (v : View) (blocks : List Block)
    (r : RestsAlone f n l words v blocks) (has : HasImage f n image words) where
  abbrev pub IsAt : (frame : ℕ) → Position → Type 0
  IsAt frame p = IsLinkedAt n words (v ∷ []) frame p

  live : 0 < v.count
  live = let some_page = pow_pos (f.input - f.granule) in let whole = r.whole in omega arith

  pub root_at : IsAt (root_in image / 8) (spine_position (root_in image % 8))
  root_at = subst (λ (w : ℕ). IsAt (w / 8) (spine_position (w % 8))) has.root r.lawful.root.is_linked

  tag_position : (word : ℕ) → IsTag f word → IsTrue (is_placed word) → IsPosition f (placed_at word)
  tag_position word (free e) is = absurd (false≢true (sym (ap is_placed e) ∙ is))
  tag_position word (held next e) is = absurd (false≢true (sym (held_unplaced (held_word next) (held_is next)) ∙ sym (ap is_placed e) ∙ is))
  tag_position word (placed p a e) is =
      subst (IsPosition f) (sym (ap placed_at e ∙ placed_back p (let x = a.a_level in let y = good.levels_high in omega arith))) a

  -- a linked frame is at a position
  pub position : (frame : ℕ) (p : Position) → IsAt frame p → IsPosition f p
  position frame p a = subst (IsPosition f) a.at (tag_position (tag words frame) (r.lawful.frames.tags frame a.is_linked.within) a.is_linked.placed)

  -- each entry of a linked frame, as the image has it
  pub stands : (frame : ℕ) (p : Position) → IsAt frame p → (i : ℕ) → i < 2 ^ f.index → StandsAt f n words v p i (entry_at f image frame i)
  stands frame p a i small =
      let none : prepared_frame v.prepared ≡ None = ap prepared_frame r.rest.prepared in
      let linked : IsTrue (is_linked_in None words frame) = and_from (is_placed (tag words frame)) _ a.is_linked.placed refl in
      let read : StandsAt f n words v (placed_at (tag words frame)) i (entry_of f n words frame i) =
      entries_are_read f good n l words (v ∷ []) 0 v r.lawful refl r.whole frame i a.is_linked.within small
      (subst (λ (o : Option ℕ). IsTrue (is_linked_in o words frame)) (sym none) linked) in
      subst (StandsAt f n words v p i) (has.entries frame a.is_linked.within i small)
      (subst (λ (q : Position). StandsAt f n words v q i (entry_of f n words frame i)) a.at read)

  -- the root is one that a root can be
  pub has_root : HasRoot f n l image
  has_root =
      let same : (v.frames ≡ n) × (v.levels ≡ l) = r.lawful.sizes.live 0 v refl live in
      let low : v.top ≤ root_in image % 8 = subst (λ (w : ℕ). v.top ≤ w % 8) has.root (r.lawful.root.greatest 0 v refl) in
      let least : starting_top v.levels ≤ v.top = (r.lawful.books 0 v refl live).top_low in
      let levels : v.levels ≡ l = same.1 in
      record {
        a_frame = root_at.is_linked.within;
        low = omega arith;
        high = (position (root_in image / 8) (spine_position (root_in image % 8)) root_at).a_level;
      }
