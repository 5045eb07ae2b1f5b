-- The book of a view at rest is the book of an image of its words.
use Rattle.std.proofs.Common.{◌≡◌, ⊎_elim, ℕ, zero, suc, true, false, ◌+◌, ◌-◌, ◌*◌, ◌%◌, ◌<◌, ◌≤◌, List, [], ◌∷◌, refl, sym, ap, ◌∙◌, subst, arith, length}
use Rattle.std.specs.Prelude.{IsTrue, nat_le, nat_lt, ◌&&◌, Contains, slice_index_or}
use Rattle.std.proofs.lemmas.Bool.{and_from, and_parts, false≢true, le-leb, lt-ltb, ltb-true, or_cases, or_right}
use Rattle.std.proofs.lemmas.Nat.{pow_pos}
use Rattle.pt_model.specs.declared.block.Block.{Block}
use Rattle.pt_model.specs.declared.position.Position.{Position}
use Rattle.pt_model.specs.Book.{IsLawful}
use Rattle.pt_model.specs.Layout.{Layout, level_of_size}
use Rattle.pt_model.specs.Sets.{IsAmong}
use Rattle.pt_model.specs.Tables.{is_same, is_spine, parent_of, spine_position, starting_top}
use Rattle.pt_model.specs.Words.{frame_address, frame_limit, root_level}
use Rattle.pt_model.proofs.Positions.{among_all, among_cases, among_first, among_more, same_cases}
use Rattle.pt_format.specs.Laws.{IsLayout, WordsDiffer}
use Rattle.pt_format.specs.Manual.{StepsAgree}
use Rattle.pt_format.specs.Words.{IsLeaf}
use Rattle.pt_view.specs.declared.view.View.{View}
use Rattle.pt_view.specs.declared.view.Piece.{Piece}
use Rattle.pt_view.specs.Pieces.{IsLegalPiece, IsOneOf, all_pieces, pieces_of, table_of, words_of}
use Rattle.pt_view.specs.Views.{book_of}
use Rattle.pt_view.proofs.Members.{in_blocks, mapped_one, one_has, one_of_left, one_of_right}
use Rattle.pt_view.proofs.Pieces.{number_below}
use Rattle.pt_rule.specs.Lawful.{HasBook, IsOwnPiece, IsOwnTable, slot_of}
use Rattle.pt_rule.specs.Linked.{IsLinkedAt, is_in_tree}
use Rattle.pt_rule.specs.Totals.{has_table, total}
use Rattle.pt_rule.specs.WholeCounts.{nothing, a_part, a_table}
use Rattle.pt_rule.proofs.Laws.{books_are_lawful, whole_is_read}
use Rattle.pt_image.specs.Books.{BeginsBlock, HasTable, IsImageBook, RestsAlone}
use Rattle.pt_image.specs.Bytes.{entry_at, root_in}
use Rattle.pt_image.specs.Drafts.{part_of}
use Rattle.pt_image.specs.Visits.{HasImage}
use Rattle.pt_image.proofs.Goodness.{leaf_apart, leaf_some}
use Rattle.pt_image.proofs.OneBlock.{one_block, part_leaf}
use Rattle.pt_image.proofs.Pointing.{is_address}
use Rattle.pt_image.proofs.Reaching as reaching
use Rattle.pt_image.proofs.Resting.{stands}
use Rattle.pt_image.proofs.RestingBlocks.{block_at, piece_block, start}
use Rattle.pt_image.proofs.RestingStrays as strays

-- a block of a list has its first piece among theirs
first_piece : (f : Layout) (bs : List Block) (b : Block) (k : ℕ) → k < length bs → slice_index_or bs k b ≡ b → IsOneOf (all_pieces f bs) (part_of b 0)
first_piece f [] b k lt e = absurd (omega arith)
first_piece f (c ∷ cs) b zero lt e =
    let some : 0 < words_of f c = pow_pos (c.log2 - f.index * level_of_size f c.log2) in
    one_of_left (pieces_of f c) (all_pieces f cs) (part_of b 0)
    (subst (λ (d : Block). IsOneOf (pieces_of f c) (part_of d 0)) e (mapped_one (part_of c) (words_of f c) 0 0 (omega arith) (omega arith)))
first_piece f (c ∷ cs) b (suc k) lt e = one_of_right (pieces_of f c) (all_pieces f cs) (part_of b 0) (first_piece f cs b k (omega arith) e)

among : (ps : List Position) (p : Position) (k : ℕ) → k < length ps → slice_index_or ps k p ≡ p → IsAmong ps p
among [] p k lt e = absurd (omega arith)
among (q ∷ qs) p zero lt e = among_first p q qs (sym e)
among (q ∷ qs) p (suc k) lt e = among_more p q qs (among qs p k (omega arith) e)

contains : (ps : List Position) (p : Position) → IsAmong ps p → Contains ps p
contains [] p m = absurd (omega arith)
contains (q ∷ qs) p m = ⊎_elim (λ (e : p ≡ q). (0, omega arith, sym e))
    (λ (later : IsAmong qs p). let rest = contains qs p later in (suc rest.0, (let less = rest.1 in omega arith), rest.2)) (among_cases p q qs m)

module _ (f : Layout) (good : IsLayout f) (differ : WordsDiffer f) (n l : ℕ) (image words : List ℕ) (v : View) (blocks : List Block)
    (r : RestsAlone f n l words v blocks) (has : HasImage f n image words) where
  abbrev At : (frame : ℕ) → Position → Type 0
  At frame p = IsLinkedAt n words (v ∷ []) frame p

  live : 0 < v.count
  live = let some_page = pow_pos (f.input - f.granule) in let whole = r.whole in omega arith

  book : HasBook f v
  book = r.lawful.books 0 v refl live

  levels_are : v.levels ≡ l
  levels_are = (r.lawful.sizes.live 0 v refl live).1

  few : n ≤ frame_limit f
  few = r.lawful.sizes.limit

  -- a block of the view begins at a visited entry
  begins : (b : Block) → Contains blocks b → BeginsBlock f n l image b
  begins b c =
      let x : Piece = part_of b 0 in
      let own : IsOneOf v.pieces x = subst (λ (xs : List Piece). IsOneOf xs x) (sym r.rest.pieces) (first_piece f blocks b c.0 c.1 c.2) in
      let piece : IsOwnPiece f v x = one_has (IsOwnPiece f v) v.pieces x book.pieces own in
      let legal : IsLegalPiece f x = record { a_part = piece.a_part; legal = piece.legal; stated = piece.stated } in
      let home : IsTrue (is_in_tree l words (v ∷ []) (table_of f x)) =
      one_has (λ y. IsTrue (is_in_tree l words (v ∷ []) (table_of f y))) v.pieces x (r.lawful.entries.homes 0 v refl) own in
      let g : (frame : ℕ) × At frame (table_of f x) = r.lawful.positions.all (table_of f x) home in
      record {
        entry = record { frame = g.0; position = table_of f x; number = start f good x legal };
        visited = strays.reaches f good differ n l image words v blocks r has f.levels g.0 (table_of f x) g.1 (omega arith) (start f good x legal) (number_below f x);
        has = block_at f good n l image words v blocks r has g.0 x g.1 own legal;
      }

  -- and a block that begins at one is the view's
  begun : StepsAgree f → (b : Block) → BeginsBlock f n l image b → Contains blocks b
  begun agree b h =
      let w = h.entry in
      let s = (reaching.seen f good differ n l image words v blocks r has w h.visited).0 in
      let some : 0 < words_of f b = pow_pos (b.log2 - f.index * level_of_size f b.log2) in
      let first : w.number + 0 ≡ w.number = omega arith in
      let leaf : IsLeaf f w.position.level (entry_at f image w.frame w.number) b.log2 b.prot =
      subst (λ (k : ℕ). IsLeaf f w.position.level (entry_at f image w.frame k) b.log2 b.prot) first (part_leaf f good image w.frame w.position w.number b h.has 0 some) in
      elim (stands f good n l image words v blocks r has w.frame w.position s.linked w.number s.small) [
        | nothing none bare ↦ absurd (leaf_some f differ n few w.position.level (entry_at f image w.frame w.number) b.log2 b.prot leaf none)
        | a_part x one legal here single is ↦
            let y = piece_block f good n l image words v blocks r has w.frame w.position w.number x s.linked one legal here in
            let same : b ≡ x.block = one_block f good differ agree image w.frame w.position w.number (start f good x legal) b x.block h.has y.0 0 x.part some legal.a_part (first ∙ sym y.1) in
            subst (Contains blocks) (sym same) (in_blocks f blocks x (subst (λ (xs : List Piece). IsOneOf xs x) r.rest.pieces one)).0
        | a_table child linked high is bare ↦ absurd (leaf_apart f differ n few w.position.level (entry_at f image w.frame w.number) b.log2 (frame_address f child) b.prot leaf
            (record { at_level = high; a_frame = is_address f child (let lt = linked.is_linked.within in let all = few in omega arith); word_is = is }))
      ]

  -- a table of the view is one to which a visited entry points
  pointed_at : (p : Position) → Contains v.tables p → HasTable f n l image p
  pointed_at p c =
      let m : IsAmong v.tables p = among v.tables p c.0 c.1 c.2 in
      let own : IsOwnTable f v p = among_all (IsOwnTable f v) v.tables book.tables p m in
      let off : is_spine l p ≡ false = subst (λ (k : ℕ). is_spine k p ≡ false) levels_are own.off_spine in
      let there : IsTrue (is_in_tree l words (v ∷ []) p) =
      or_right (is_spine l p && nat_le p.level (root_level words)) _ (lt-ltb 0 (total (has_table p) (v ∷ [])) (omega arith)) in
      let h : (frame : ℕ) × At frame p = r.lawful.positions.all p there in
      let low : v.top ≤ root_in image % 8 = subst (λ (w : ℕ). v.top ≤ w % 8) has.root (r.lawful.root.greatest 0 v refl) in
      let least : starting_top v.levels ≤ v.top = book.top_low in
      let levels = levels_are in
      let spine : is_spine l (spine_position (root_in image % 8)) ≡ true = and_from (nat_le (starting_top l) (root_in image % 8)) _ (le-leb (starting_top l) (root_in image % 8) (omega arith)) refl in
      let apart : is_same p (spine_position (root_in image % 8)) ≡ false = ⊎_elim
      (λ (e : p ≡ spine_position (root_in image % 8)). absurd (false≢true (sym off ∙ ap (is_spine l) e ∙ spine))) (λ no. no) (same_cases p (spine_position (root_in image % 8))) in
      let up = strays.has_parent f good differ n l image words v blocks r has h.0 p h.1 apart in
      record {
        entry = record { frame = up.frame; position = parent_of f p; number = slot_of f p };
        visited = strays.reaches f good differ n l image words v blocks r has f.levels up.frame (parent_of f p) up.linked (omega arith) (slot_of f p) (reaching.slot_small f p);
        frame = h.0;
        points = up.points;
        at = strays.child_of_parent f p own.a_position.aligned;
        off_spine = off;
      }

  -- and a table to which one points is the view's, or of the spine
  tabled : (p : Position) → HasTable f n l image p → Contains v.tables p
  tabled p h =
      let s = (reaching.seen f good differ n l image words v blocks r has h.entry h.visited).0 in
      let a : At h.frame p = subst (At h.frame) h.at (reaching.target_linked f good differ n l image words v blocks r has h.entry h.frame s h.points).0 in
      let there : IsTrue (is_in_tree l words (v ∷ []) p) = subst (λ (q : Position). IsTrue (is_in_tree l words (v ∷ []) q)) a.at (r.lawful.positions.in_tree h.frame a.is_linked) in
      ⊎_elim
      (λ (on : (is_spine l p && nat_le p.level (root_level words)) ≡ true).
      let both : (is_spine l p ≡ true) × (nat_le p.level (root_level words) ≡ true) = and_parts (is_spine l p) _ on in absurd (false≢true (sym h.off_spine ∙ both.0)))
      (λ (of : nat_lt 0 (total (has_table p) (v ∷ [])) ≡ true). contains v.tables p (let some = ltb-true 0 (total (has_table p) (v ∷ [])) of in omega arith))
      (or_cases (is_spine l p && nat_le p.level (root_level words)) _ there)

  pub is_book : StepsAgree f → IsImageBook f n l image (book_of v blocks)
  is_book agree =
      let lawful : IsLawful f v.levels (book_of v blocks) = books_are_lawful f good n l words (v ∷ []) 0 v r.lawful refl live blocks r.rest in
      let read = whole_is_read f good differ agree n l words (v ∷ []) 0 v r.lawful refl r.whole in
      record {
        first_is = read.3;
        count_is = r.whole;
        blocks_are = λ b. (begins b, begun agree b);
        blocks_in_order = lawful.in_order;
        tables_are = λ p. (pointed_at p, tabled p);
        tables_in_order = lawful.tables_in_order;
        top_is = read.2 ∙ ap (λ (w : ℕ). w % 8) has.root;
      }
