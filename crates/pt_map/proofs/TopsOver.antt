-- The top that reaches over blocks: over their pieces, below a root that reaches as far, and over a tiling.
use Rattle.std.proofs.Common.{◌≡◌, ℕ, zero, suc, ◌+◌, ◌-◌, ◌<◌, ◌≤◌, List, [], ◌∷◌, refl, ap, ◌∙◌, arith, inl, inr}
use Rattle.std.specs.Prelude.{max, map}
use Rattle.std.specs.List.{range_with_len}
use Rattle.std.proofs.lemmas.Bool.{cases_lt}
use Rattle.std.proofs.lemmas.List.Sums.{fold-append}
use Rattle.std.proofs.lemmas.Nat.{pow_pos}
use Rattle.pt_model.specs.declared.block.Block.{Block}
use Rattle.pt_model.specs.declared.block.Prot.{Prot}
use Rattle.pt_model.specs.Layout.{Layout, end_of, pages}
use Rattle.pt_model.specs.Tables.{least_top}
use Rattle.pt_model.specs.Tiling.{IsTiling}
use Rattle.pt_model.proofs.Tops.{top_mono}
use Rattle.pt_tile.specs.Extents.{IsOneBlock}
use Rattle.pt_view.specs.declared.view.Piece.{Piece}
use Rattle.pt_view.specs.Calls.{top_over}
use Rattle.pt_view.specs.Pieces.{all_pieces, pieces_of, words_of}
use Rattle.pt_map.specs.Filled.{top_with}

-- it stays below a root that reaches over them
pub top_below_root : (f : Layout) (levels top root end : ℕ) (bs : List Block) → top < root → least_top f levels end < root → ((b : Block) → IsOneBlock bs b → end_of b ≤ end) → top_with f levels top bs < root
top_below_root f levels top root end [] low reach within = low
top_below_root f levels top root end (b ∷ bs) low reach within =
    let less = top_mono f levels (end_of b) end (within b (inl refl)) in
    top_below_root f levels (max top (least_top f levels (end_of b))) root end bs (omega arith) reach (λ c m. within c (inr m))

-- it is the one over their pieces
parts_over : (f : Layout) (levels top : ℕ) (b : Block) (count from : ℕ) → 0 < count →
    top_over f levels top (map (λ part. record { block = b; part = part }) (range_with_len from count)) ≡ max top (least_top f levels (end_of b))
parts_over f levels top b zero from some = absurd (omega arith)
parts_over f levels top b (suc zero) from some = refl
parts_over f levels top b (suc (suc more)) from some =
    let rest = parts_over f levels (max top (least_top f levels (end_of b))) b (suc more) (from + 1) (omega arith) in
    let same : max (max top (least_top f levels (end_of b))) (least_top f levels (end_of b)) ≡ max top (least_top f levels (end_of b)) = omega arith in
    rest ∙ same

pub top_of_pieces : (f : Layout) (levels top : ℕ) (bs : List Block) → top_over f levels top (all_pieces f bs) ≡ top_with f levels top bs
top_of_pieces f levels top [] = refl
top_of_pieces f levels top (b ∷ bs) =
    fold-append (λ (t : ℕ) (x : Piece). max t (least_top f levels (end_of x.block))) top (pieces_of f b) (all_pieces f bs)
    ∙ ap (λ (t : ℕ). top_over f levels t (all_pieces f bs)) (parts_over f levels top b (words_of f b) 0 (pow_pos _))
    ∙ top_of_pieces f levels (max top (least_top f levels (end_of b))) bs

-- over a tiling it is the least one that reaches over its end
pub top_of_tiling : (f : Layout) (levels : ℕ) (prot : Prot) (bs : List Block) (top first out left : ℕ) → IsTiling f prot first out left bs → 0 < left →
    top_with f levels top bs ≡ max top (least_top f levels (first + left))
top_of_tiling f levels prot [] top first out left t some = absurd (let none = t in omega arith)
top_of_tiling f levels prot (b ∷ bs) top first out left t some =
    let here : b.first ≡ first = ap (λ (c : Block). c.first) t.0 in
    elim (cases_lt (pages b) left) [
      | inl more ↦
          let ends : first + pages b + (left - pages b) ≡ first + left = omega arith in
          let less = top_mono f levels (end_of b) (first + left) (omega arith) in
          let rest = top_of_tiling f levels prot bs (max top (least_top f levels (end_of b))) (first + pages b) (out + pages b) (left - pages b) t.2 (omega arith) in
          let e = ap (least_top f levels) ends in omega arith
      | inr last ↦
          let fits : pages b ≤ left = t.1.fits in
          let none : left - pages b ≡ 0 = omega arith in
          let ends : end_of b ≡ first + left = omega arith in
          let empty : bs ≡ [] = no_blocks bs (first + pages b) (out + pages b) (left - pages b) none t.2 in
          ap (top_with f levels (max top (least_top f levels (end_of b)))) empty ∙ ap (λ (n : ℕ). max top (least_top f levels n)) ends
    ]
  where
    no_blocks : (bs : List Block) (first out left : ℕ) → left ≡ 0 → IsTiling f prot first out left bs → bs ≡ []
    no_blocks [] first out left none t = refl
    no_blocks (b ∷ bs) first out left none t = absurd (let fits : pages b ≤ left = t.1.fits in let some = pow_pos b.log2 in omega arith)
