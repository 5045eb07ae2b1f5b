-- A store of a piece is what a holder's call of write says: the word and the entry tell the piece.
use Rattle.std.proofs.Common.{◌≡◌, ℕ, ◌+◌, ◌-◌, ◌*◌, ◌/◌, ◌%◌, ◌^◌, ◌<◌, [], ◌∷◌, ◌++◌, refl, ap, sym, ◌∙◌, subst, arith}
use Rattle.std.specs.Prelude.{max, Some}
use Rattle.std.proofs.lemmas.Nat.{shr_split, shl-shr, pow_pos, mul-le}
use mathlib.Core.Logic.{dite}
use native.Mathlib.Decide.{ℕ_discrete, dec_le}
use Rattle.pt_model.specs.declared.position.Position.{Position}
use Rattle.pt_model.specs.Layout.{Layout, page, end_of, pages_of_entry, pages_of_table}
use Rattle.pt_model.specs.Tables.{least_top}
use Rattle.pt_format.specs.Words.{MayBeLeaf}
use Rattle.pt_format.specs.Laws.{IsLayout, WordsDiffer}
use Rattle.pt_format.specs.Manual.{StepsAgree}
use Rattle.pt_view.specs.declared.view.View.{View}
use Rattle.pt_view.specs.declared.view.Node.{Node}
use Rattle.pt_view.specs.declared.view.Piece.{Piece}
use Rattle.pt_view.specs.declared.view.Change.TheVariants.{Written}
use Rattle.pt_view.proofs.Pieces as pieces
use Rattle.pt_view.specs.Pieces.{IsLegalPiece, add_piece, first_of, table_of, number_of, level_of, word_of}
use Rattle.pt_view.specs.Calls.{IsEntryAt, IsWritten, MayPut}
use Rattle.pt_rule.specs.Kinds.{written}
use Rattle.pt_model.proofs.Quotients.{quotient, whole}
use Rattle.pt_view.proofs.Pieces.{one_here}
use Rattle.pt_rule.proofs.PathOverBlock.{piece_within}

-- an entry of a path's last table is at one position
pub one_entry_at : (f : Layout) (v : View) (p q : Position) (i j : ℕ) → IsEntryAt f v p i → IsEntryAt f v q j → p ≡ q
one_entry_at f v p q i j a b =
    let e : Some a.node ≡ Some b.node = sym a.is_lowest ∙ b.is_lowest in
    let same : a.node ≡ b.node = cc in
    sym a.at ∙ ap (λ (x : Node). x.position) same ∙ b.at

-- over plain numbers: a multiple of m and less than m more tells both
one_split : (a b s c d : ℕ) → c < s → d < s → a * s + c ≡ b * s + d → (a ≡ b) × (c ≡ d)
one_split a b s c d x y e =
    let same : a ≡ b = dite (ℕ_discrete a b) (λ h. h) (λ ne. absurd (dite (dec_le a b)
    (λ le. let h = mul-le (a + 1) s b s (omega arith) (omega arith) in omega arith)
    (λ gt. let h = mul-le (b + 1) s a s (omega arith) (omega arith) in omega arith))) in
    (same, let h : a * s ≡ b * s = ap (λ k. k * s) same in omega arith)

module _ (f : Layout) (good : IsLayout f) (d : WordsDiffer f) (a : StepsAgree f) (v : View) (number : ℕ) where
  module _ (x : Piece) (may : MayPut f v number x) where
    here_is : (may.position ≡ table_of f x) × (number_of f x ≡ number)
    here_is = one_here f may.position number x may.here

    legal_piece : IsLegalPiece f x
    legal_piece = record { a_part = may.a_part; legal = may.legal; stated = may.stated }

    -- the piece begins at a multiple of its entry's pages
    begins_whole : first_of f x ≡ first_of f x / pages_of_entry f (level_of f x) * pages_of_entry f (level_of f x)
    begins_whole = pieces.first_whole good legal_piece

    -- its entry's number among all of its level
    entry_number : first_of f x / pages_of_entry f (level_of f x) ≡ may.position.base / pages_of_table f (level_of f x) * 2 ^ f.index + number
    entry_number =
        let here : ℕ = first_of f x in let level : ℕ = level_of f x in
        let base : may.position.base / pages_of_table f level ≡ here / pages_of_table f level =
        ap (λ (p : Position). p.base / pages_of_table f level) here_is.0 ∙ shl-shr (here / pages_of_table f level) (f.index * (level + 1)) in
        let split = shr_split (here / pages_of_entry f level) f.index in
        sym split ∙ ap (λ z. z * 2 ^ f.index + here / pages_of_entry f level % 2 ^ f.index) (quotient f here level ∙ sym base)
        ∙ ap (λ z. may.position.base / pages_of_table f level * 2 ^ f.index + z) here_is.1

    leaf_may : MayBeLeaf f (level_of f x) x.block.log2 x.block.out x.block.prot x.part
    leaf_may = pieces.may_be_leaf good legal_piece

    -- the manual's step at its word finds its page
    finds_page : f.step (level_of f x) (word_of f x) (first_of f x) ≡ page (x.block.out + x.part * pages_of_entry f (level_of f x)) x.block.prot
    finds_page =
        let e : ℕ = pages_of_entry f (level_of f x) in
        let some_page : 0 < e = pow_pos (f.index * level_of f x) in
        let far : first_of f x - x.block.first ≡ x.part * e = omega arith in
        a.leaf (level_of f x) x.block.log2 x.block.out x.part x.block.first (first_of f x) x.block.prot leaf_may (record { aligned = may.legal.first_aligned; from = omega arith; to = omega arith })
        ∙ ap (λ k. page (x.block.out + k) x.block.prot) far

  module _ (x y : Piece) (may_x : MayPut f v number x) (may_y : MayPut f v number y) (word : word_of f x ≡ word_of f y) where
    at_one : may_x.position ≡ may_y.position
    at_one = one_entry_at f v may_x.position may_y.position number number may_x.entry may_y.entry

    one_level : level_of f x ≡ level_of f y
    one_level = ap (λ (p : Position). p.level) (sym (here_is x may_x).0 ∙ at_one ∙ (here_is y may_y).0)

    one_first : first_of f x ≡ first_of f y
    one_first =
        let same : first_of f x / pages_of_entry f (level_of f x) ≡ first_of f y / pages_of_entry f (level_of f y) =
        entry_number x may_x ∙ (λ k. (at_one k).base / pages_of_table f (one_level k) * 2 ^ f.index + number) ∙ sym (entry_number y may_y) in
        begins_whole x may_x ∙ (λ k. same k * pages_of_entry f (one_level k)) ∙ sym (begins_whole y may_y)

    one_size : (x.block.log2 ≡ y.block.log2) × (x.block.prot ≡ y.block.prot)
    one_size = d.one_size (level_of f y) x.block.log2 y.block.log2 x.block.out y.block.out x.part y.part x.block.prot y.block.prot
        (subst (λ (k : ℕ). MayBeLeaf f k x.block.log2 x.block.out x.block.prot x.part) one_level (leaf_may x may_x)) (leaf_may y may_y)
        (ap (λ (k : ℕ). f.leaf k x.block.log2 x.block.out x.block.prot x.part) (sym one_level) ∙ word)

    one_place : (x.block.first ≡ y.block.first) × (x.part * pages_of_entry f (level_of f x) ≡ y.part * pages_of_entry f (level_of f y))
    one_place =
        let s : ℕ = 2 ^ y.block.log2 in
        let e : ℕ = pages_of_entry f (level_of f x) in let e' : ℕ = pages_of_entry f (level_of f y) in
        let some_page : 0 < e = pow_pos (f.index * level_of f x) in let some_page' : 0 < e' = pow_pos (f.index * level_of f y) in
        let log : 2 ^ x.block.log2 ≡ s = ap (λ k. 2 ^ k) one_size.0 in
        let within_x = piece_within f good x may_x.a_part may_x.legal in let within_y = piece_within f good y may_y.a_part may_y.legal in
        let first_x : x.block.first ≡ x.block.first / 2 ^ x.block.log2 * s = whole x.block.first x.block.log2 may_x.legal.first_aligned ∙ ap (λ k. x.block.first / 2 ^ x.block.log2 * k) log in
        let first_y : y.block.first ≡ y.block.first / 2 ^ y.block.log2 * s = whole y.block.first y.block.log2 may_y.legal.first_aligned in
        let one = one_first in
        let split : (x.block.first / 2 ^ x.block.log2 ≡ y.block.first / 2 ^ y.block.log2) × (x.part * e ≡ y.part * e') =
        one_split (x.block.first / 2 ^ x.block.log2) (y.block.first / 2 ^ y.block.log2) s (x.part * e) (y.part * e') (omega arith) (omega arith) (omega arith) in
        (first_x ∙ ap (λ k. k * s) split.0 ∙ sym first_y, split.1)

    one_part : x.part ≡ y.part
    one_part =
        let e : ℕ = pages_of_entry f (level_of f y) in
        let some_page : 0 < e = pow_pos (f.index * level_of f y) in
        let h : x.part * e ≡ y.part * e = ap (λ k. x.part * pages_of_entry f k) (sym one_level) ∙ one_place.1 in
        (one_split x.part y.part e 0 0 some_page some_page (omega arith)).0

    one_out : x.block.out ≡ y.block.out
    one_out =
        let pages_are : page (x.block.out + x.part * pages_of_entry f (level_of f x)) x.block.prot ≡ page (y.block.out + y.part * pages_of_entry f (level_of f y)) y.block.prot =
        sym (finds_page x may_x) ∙ (λ k. f.step (one_level k) (word k) (one_first k)) ∙ finds_page y may_y in
        let sums : x.block.out + x.part * pages_of_entry f (level_of f x) ≡ y.block.out + y.part * pages_of_entry f (level_of f y) = cc in
        let parts = one_place.1 in omega arith

    -- the word and the entry tell the piece
    pub one_put : x ≡ y
    one_put =
        let block : x.block ≡ y.block = (λ k. record { first = one_place.0 k; log2 = one_size.0 k; out = one_out k; prot = one_size.1 k }) in
        λ k. record { block = block k; part = one_part k }

  pub written_is : (tells : Type 0) (x : Piece) → MayPut f v number x → IsWritten f tells number (word_of f x) v (written f x v)
  written_is tells x may = record {
    range = record { frames = refl; levels = refl; first = refl; count = refl };
    purse = record { purse = refl; end = refl };
    path = refl;
    prepared = refl;
    busy = λ g. (λ h. h, λ h. h);
    known = λ p. (λ h. h, λ h. h);
    tables = refl;
    pieces = λ y word put. ap (add_piece f v.pieces) (one_put x y may put word);
    top = λ y word put. ap (λ (z : Piece). max v.top (least_top f v.levels (end_of z.block))) (one_put x y may put word);
    stores = λ told y word put. ap (λ (z : Piece). v.stores ++ Written z ∷ []) (one_put x y may put word);
    told = λ told. (refl, refl);
  }
