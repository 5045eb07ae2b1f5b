-- The words of a block may be written.
use Rattle.std.proofs.lemmas.Bool.{not-true, and_from, and_parts, cases_Bool, le-leb, leb-true, ltb-true}
use Rattle.std.proofs.Common.{◌≡◌, ℕ, ◌+◌, ◌-◌, ◌*◌, ◌^◌, ◌<◌, ◌≤◌, List, [], ◌∷◌, true, false, inl, inr, refl, ap, sym, ◌∙◌, subst, arith}
use Rattle.std.specs.Prelude.{◌↔◌, ◌&&◌, nat_le, nat_lt, not}
use Rattle.std.proofs.lemmas.Nat.{pow_pos}
use Rattle.pt_model.specs.declared.position.Position.{Position}
use Rattle.pt_model.specs.declared.block.Block.{Block}
use Rattle.pt_model.specs.Layout.{Layout, IsLegalBlock, end_of, level_of_size, pages_of_entry}
use Rattle.pt_model.specs.Sets.{IsAmong}
use Rattle.pt_model.specs.Tables.{is_spine, position_over}
use Rattle.pt_model.specs.Tiling.{IsTiling}
use Rattle.pt_model.proofs.Positions.{among_filtered, among_passes}
use Rattle.pt_model.proofs.TilingFacts.{tiling_is}
use Rattle.pt_format.specs.Laws.{IsLayout}
use Rattle.pt_format.specs.Words.{MayBeLeaf}
use Rattle.pt_view.specs.declared.view.View.{View}
use Rattle.pt_view.specs.declared.view.Node.{Node}
use Rattle.pt_view.specs.Pieces.{entry_number}
use Rattle.pt_view.specs.Calls.{MayPut, entry_end, entry_first, is_under, off_spine, pieces_at}
use Rattle.pt_tile.specs.declared.extent.Extent.{Extent}
use Rattle.pt_map.specs.Filled.{MayStore}
use Rattle.pt_view.proofs.Members.{piece_at}
use Rattle.pt_map.proofs.PathTables.{positions}
use Rattle.pt_map.proofs.BlockWords.{number_at, number_low, stands_here, table_at, word_ends, word_first, words_are}
use Rattle.pt_tile.specs.Extents.{IsOneBlock, tiles}

-- the positions of a path that aren't of the spine
pub among_off : (levels : ℕ) (path : List Node) (p : Position) → IsAmong (off_spine levels path) p ↔ (IsAmong (positions path) p × (is_spine levels p ≡ false))
among_off levels path p = (
  (λ h. let r = among_filtered (λ q. not (is_spine levels q)) (positions path) p h in (r.0, not-true (is_spine levels p) r.1)),
  (λ h. among_passes (λ q. not (is_spine levels q)) (positions path) p h.0 (ap not h.1)),
)

-- the part that a block is
abbrev pub block_part : Block → Extent
block_part b = record { first = b.first; end = end_of b; out = b.out; prot = b.prot }

-- A block that may be written from the path's last table.
module _ {f : Layout} (good : IsLayout f) {v : View} (b : Block) {level : ℕ} (may : MayStore f v (block_part b) level) (one : tiles f (block_part b) ≡ b ∷ []) (here : level_of_size f b.log2 ≡ level) where
  pub legal : IsLegalBlock f b
  legal =
      let some = pow_pos b.log2 in
      let left : end_of b - b.first ≡ 2 ^ b.log2 = omega arith in
      let part = may.stands.at.extent in
      let input = part.in_input in
      let t : IsTiling f b.prot b.first b.out (end_of b - b.first) (b ∷ []) =
      subst (λ (bs : List Block). IsTiling f b.prot b.first b.out (end_of b - b.first) bs) one (tiling_is f b.prot b.first b.out (end_of b - b.first) good.has_pages (omega arith) part.in_output) in
      t.1.legal

  -- a word of it
  module _ (i : ℕ) (less : i < 2 ^ (b.log2 - f.index * level)) where
    abbrev place : Position
    place = position_over f b.first level

    abbrev at : ℕ
    at = entry_number f level b.first + i

    first_is : entry_first f place at ≡ b.first + i * pages_of_entry f level
    first_is = word_first good b legal level here i less

    ends : b.first + i * pages_of_entry f level + pages_of_entry f level ≤ end_of b
    ends = word_ends good b legal level here i less

    none_here : pieces_at f place at v.pieces ≡ 0
    none_here =
        let size : 0 < pages_of_entry f level = pow_pos (f.index * level) in
        let e = ends in
        (λ j. pieces_at f (sym (table_at good b legal level here i less) j) (sym (number_at good b legal level here i less) j) v.pieces)
        ∙ may.no_piece (b.first + i * pages_of_entry f level) level (omega arith) (omega arith)

    no_table_under : (q : Position) → IsAmong v.tables q → is_under f place at q ≡ false
    no_table_under q h = elim (cases_Bool (is_under f place at q)) [
      | inr free ↦ free
      | inl under ↦ absurd (
          let p : ((nat_lt q.level level && nat_le (entry_first f place at) q.base) ≡ true) × (nat_lt q.base (entry_end f place at) ≡ true) = and_parts (nat_lt q.level level && nat_le (entry_first f place at) q.base) _ under in
          let r : (nat_lt q.level level ≡ true) × (nat_le (entry_first f place at) q.base ≡ true) = and_parts (nat_lt q.level level) _ p.0 in
          let low : q.level < level = ltb-true q.level level r.0 in
          let from : entry_first f place at ≤ q.base = leb-true (entry_first f place at) q.base r.1 in
          let to : q.base < entry_end f place at = ltb-true q.base (entry_end f place at) p.1 in
          let e = first_is in
          let z = ends in
          may.no_table q h b (subst (λ (bs : List Block). IsOneBlock bs b) (sym one) (inl refl)) (omega arith, omega arith, omega arith))
    ]

    pub may_put : MayPut f v at (piece_at b i)
    may_put =
        let size : 0 < pages_of_entry f level = pow_pos (f.index * level) in
        let e = first_is in
        let z = ends in
        let from = may.stands.at.range.from in
        let to = may.stands.at.range.to in
        record {
          position = place;
          entry = record {
            node = record { frame = may.stands.at.range.over.frame; position = place };
            is_lowest = may.stands.at.range.over.is;
            at = refl;
            within = number_low good b legal level here i less;
          };
          inside = and_from (nat_le v.first (entry_first f place at)) _ (le-leb v.first (entry_first f place at) (omega arith)) (le-leb (entry_end f place at) (v.first + v.count) (omega arith));
          no_piece = none_here;
          no_table = no_table_under;
          here = stands_here good b legal level here i less;
          a_part = let n = words_are good b legal level here in omega arith;
          legal = legal;
          stated = may.stands.at.extent.stated;
          in_span = and_from (nat_le v.first b.first) _ (le-leb v.first b.first (omega arith)) (le-leb (end_of b) (v.first + v.count) (omega arith));
        }

  pub may_leaf : (i : ℕ) → i < 2 ^ (b.log2 - f.index * level) → MayBeLeaf f level b.log2 b.out b.prot i
  may_leaf i less = record {
    below = may.stands.at.range.below;
    a_size = legal.a_size;
    at_level = here;
    aligned = legal.out_aligned;
    within = legal.in_output;
    stated = may.stands.at.extent.stated;
    a_part = less;
  }
