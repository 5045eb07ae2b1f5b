-- The book of a part of a view.
use Rattle.std.proofs.Common.{◌≡◌, ◌⊎◌, inl, inr, ℕ, zero, suc, Bool, true, ◌+◌, ◌*◌, ◌/◌, ◌%◌, ◌<◌, ◌≤◌, List, [], ◌∷◌, refl, sym, ◌∙◌, arith, ⊎_elim}
use Rattle.std.specs.Prelude.{IsTrue, filter, map}
use Rattle.std.specs.List.{AllByRecursion, range_with_len}
use Rattle.std.proofs.lemmas.Bool.{and_from, false≢true, lt-ltb, le-leb}
use Rattle.std.proofs.lemmas.Nat.{mod_below, shr_split, pow_pos}
use Rattle.pt_model.specs.declared.position.Position.{Position}
use Rattle.pt_model.specs.declared.block.Block.{Block}
use Rattle.pt_model.specs.Layout.{Layout, end_of, level_of_size, pages_of_table}
use Rattle.pt_model.specs.Tables.{is_spine, least_top, levels_between, needed, position_over, spine_position, starting_top}
use Rattle.pt_view.specs.declared.view.View.{View}
use Rattle.pt_view.specs.declared.view.Piece.{Piece}
use Rattle.pt_model.specs.Sets.{IsAmong}
use Rattle.pt_view.specs.Pieces.{IsOneOf}
use Rattle.pt_rule.specs.Lawful.{HasBook, IsOwnPiece, IsOwnTable}
use Rattle.pt_model.proofs.Positions.{among_all, among_passes, sorted_filter}
use Rattle.pt_view.proofs.Members.{all_append, all_map}
use Rattle.pt_rule.proofs.RootKept.{spine_is}
use Rattle.pt_rule.specs.Cuts.{table_in}
use Rattle.pt_rule.proofs.CutLists.{all_filter, pieces_filter}

-- each element of a list is one of it
with_member : (P : Piece → Type 0) (xs : List Piece) → AllByRecursion P xs → AllByRecursion (λ x. P x × IsOneOf xs x) xs
with_member P [] h = tt
with_member P (x ∷ xs) h = ((h.0, inl refl), all_map (λ y. P y × IsOneOf xs y) (λ y. P y × IsOneOf (x ∷ xs) y) xs (λ y a. (a.0, inr a.1)) (with_member P xs h.1))

all_both : (P Q R : Position → Type 0) (ps : List Position) → ((p : Position) → P p → Q p → R p) → AllByRecursion P ps → AllByRecursion Q ps → AllByRecursion R ps
all_both P Q R [] h a b = tt
all_both P Q R (p ∷ ps) h a b = (h p a.0 b.0, all_both P Q R ps h a.1 b.1)

-- a page is under the position over it
over_page : (f : Layout) (page level : ℕ) → (page / pages_of_table f level * pages_of_table f level ≤ page) × (page < page / pages_of_table f level * pages_of_table f level + pages_of_table f level)
over_page f page level =
    let s = shr_split page (f.index * (level + 1)) in
    let m : page % pages_of_table f level < pages_of_table f level = mod_below page (pages_of_table f level) (pow_pos (f.index * (level + 1))) in
    (omega arith, omega arith)

module _ (f : Layout) (lo hi : ℕ) where
  abbrev Near : (l : ℕ) → Position → Type 0
  Near l p = (table_in f lo hi p ≡ true) ⊎ (is_spine l p ≡ true)

  overs_near : (l : ℕ) (b : Block) → lo ≤ b.first → end_of b ≤ hi → (low n : ℕ) → AllByRecursion (Near l) (map (position_over f b.first) (range_with_len low n))
  overs_near l b x y low zero = tt
  overs_near l b x y low (suc n) = (
    inl (let o = over_page f b.first low in let some_page = pow_pos b.log2 in and_from _ _ (lt-ltb (b.first / pages_of_table f low * pages_of_table f low) hi (omega arith)) (lt-ltb lo (b.first / pages_of_table f low * pages_of_table f low + pages_of_table f low) (omega arith))),
    overs_near l b x y (low + 1) n,
  )

  spines_near : (l low n : ℕ) → starting_top l ≤ low → AllByRecursion (Near l) (map spine_position (range_with_len low n))
  spines_near l low zero h = tt
  spines_near l low (suc n) h = (inr (spine_is l low h), spines_near l (low + 1) n (omega arith))

  -- the positions that a block of these pages needs
  needed_near : (l : ℕ) (b : Block) → lo ≤ b.first → end_of b ≤ hi → AllByRecursion (Near l) (needed f l b)
  needed_near l b x y = all_append (Near l) (map (position_over f b.first) (levels_between (level_of_size f b.log2) (least_top f l (end_of b)))) (map spine_position (levels_between (starting_top l) (least_top f l (end_of b))))
      (overs_near l b x y (level_of_size f b.log2) _) (spines_near l (starting_top l) _ (omega arith))

module _ (f : Layout) (v : View) (book : HasBook f v) (lo count : ℕ) (t : Piece → Bool)
    (inside : (x : Piece) → IsOneOf v.pieces x → IsOwnPiece f v x → t x ≡ true → (lo ≤ x.block.first) × (end_of x.block ≤ lo + count)) where
  abbrev pub half : View
  half = record v { first = lo; count = count; pieces = filter t v.pieces; tables = filter (table_in f lo (lo + count)) v.tables }

  own_half : (x : Piece) → IsOwnPiece f v x × IsOneOf v.pieces x → t x ≡ true → IsOwnPiece f half x
  own_half x (o, member) passes =
      let a = inside x member o passes in record {
        a_part = o.a_part;
        legal = o.legal;
        stated = o.stated;
        in_span = and_from _ _ (le-leb lo x.block.first a.0) (le-leb (end_of x.block) (lo + count) a.1);
        under_top = o.under_top;
        has_needed = all_both (λ p. IsAmong v.tables p ⊎ (IsTrue (is_spine v.levels p) × (p.level ≤ v.top))) (Near f lo (lo + count) v.levels)
            (λ p. IsAmong half.tables p ⊎ (IsTrue (is_spine v.levels p) × (p.level ≤ v.top))) (needed f v.levels x.block)
            (λ p old near. ⊎_elim
            (λ (m : IsAmong v.tables p). ⊎_elim (λ (meets : table_in f lo (lo + count) p ≡ true). inl (among_passes (table_in f lo (lo + count)) v.tables p m meets))
            (λ (spine : is_spine v.levels p ≡ true). absurd (false≢true (sym (among_all (IsOwnTable f v) v.tables book.tables p m).off_spine ∙ spine))) near)
            (λ (s : IsTrue (is_spine v.levels p) × (p.level ≤ v.top)). inr s) old)
            o.has_needed (needed_near f lo (lo + count) v.levels x.block a.0 a.1);
      }

  pub half_book : HasBook f half
  half_book = record {
    pieces = all_filter t (λ x. IsOwnPiece f v x × IsOneOf v.pieces x) (IsOwnPiece f half) v.pieces own_half (with_member (IsOwnPiece f v) v.pieces book.pieces);
    tables = all_filter (table_in f lo (lo + count)) (IsOwnTable f v) (IsOwnTable f half) v.tables (λ p o met. record { a_position = o.a_position; off_spine = o.off_spine; meets = met }) book.tables;
    in_order = sorted_filter (table_in f lo (lo + count)) v.tables book.in_order;
    pieces_in_order = pieces_filter f t v.pieces book.pieces_in_order;
    top_low = book.top_low;
    top_high = book.top_high;
  }
