-- The piece that is read at an entry: its own, where a view's piece stands there, and none at zero or a pointer.
use Rattle.std.proofs.Common.{◌≡◌, ℕ, Bool, true, false, ◌+◌, ◌-◌, ◌*◌, ◌/◌, ◌%◌, ◌^◌, ◌<◌, List, [], ◌∷◌, refl, ap, sym, ◌∙◌, subst, arith, ⊎_elim}
use Rattle.std.specs.Prelude.{◌==◌, ◌&&◌, nat_lt, nat_le, None, Some, option_map, find, if◌then◌else◌}
use Rattle.std.specs.List.{list_any}
use Rattle.std.proofs.lemmas.Bool.{and_parts, and_from, or_left, or_right, or_cases, cases_Bool, false≢true, eqb-true, eq-eqb, leb-true, le-leb, ltb-true, lt-ltb}
use Rattle.std.proofs.lemmas.Nat.{div-mul-add, mod-mul-add, pow_pos, shl-shr}
use Rattle.pt_model.specs.declared.position.Position.{Position}
use Rattle.pt_model.specs.Layout.{Layout, page, is_size, output_pages, pages_of_entry}
use Rattle.pt_format.specs.Words.{MayBeLeaf, IsTableLevel, IsTableAddress}
use Rattle.pt_format.specs.Laws.{IsLayout, WordsDiffer}
use Rattle.pt_format.specs.Manual.{StepsAgree}
use Rattle.pt_view.specs.declared.view.View.{View}
use Rattle.pt_view.specs.declared.view.Piece.{Piece}
use Rattle.pt_view.specs.Pieces.{first_of, level_of, word_of, words_of}
use Rattle.pt_view.specs.Calls.{entry_first, pieces_at}
use Rattle.pt_rule.specs.Lawful.{IsOwnPiece}
use Rattle.pt_rule.specs.WholeView.{has_this_word, piece_found, piece_in, piece_of_size}
use Rattle.pt_model.proofs.Quotients.{whole}
use Rattle.pt_rule.proofs.PieceFacts.{ends_in_block, may_be_leaf}
use Rattle.pt_rule.proofs.TreeFacts.{entry_of_piece, level_of_piece, step_of_piece}

-- the one number of a list that passes a test is found
find_only : (test : ℕ → Bool) (k : ℕ) (xs : List ℕ) → list_any (λ j. j == k) xs ≡ true → test k ≡ true →
    ((j : ℕ) → list_any (λ i. i == j) xs ≡ true → test j ≡ true → j ≡ k) → find test xs ≡ Some k
find_only test k [] member passes only = absurd (false≢true member)
find_only test k (x ∷ xs) member passes only = ⊎_elim
    (λ (e : test x ≡ true).
    let is : x ≡ k = only x (or_left (x == x) _ (eq-eqb x x refl)) e in
    ap (λ (b : Bool). if b then Some x else find test xs) e ∙ ap (λ (z : ℕ). Some z) is)
    (λ (e : test x ≡ false).
    ap (λ (b : Bool). if b then Some x else find test xs) e
    ∙ find_only test k xs
    (⊎_elim (λ (same : (x == k) ≡ true). absurd (false≢true (sym e ∙ ap test (eqb-true x k same) ∙ passes))) (λ (later : list_any (λ j. j == k) xs ≡ true). later) (or_cases (x == k) _ member))
    passes (λ j m t. only j (or_right (x == j) _ m) t))
    (cases_Bool (test x))

-- nothing is read at zero
pub zero_read : (f : Layout) → StepsAgree f → (p : Position) (i word : ℕ) → p.level < f.levels → word ≡ 0 → piece_in f p i word ≡ None
zero_read f a p i word low e =
    ap (λ (w : ℕ). piece_in f p i w) e ∙ ap (piece_found f p.level 0 (entry_first f p i)) (a.empty p.level (entry_first f p i) low)

-- nothing is read at a pointer
pub pointer_read : (f : Layout) → StepsAgree f → (p : Position) (i word address : ℕ) → IsTableLevel f p.level → IsTableAddress f address → word ≡ f.pointer p.level address →
    piece_in f p i word ≡ None
pointer_read f a p i word address high frame e =
    ap (λ (w : ℕ). piece_in f p i w) e
    ∙ ap (piece_found f p.level (f.pointer p.level address) (entry_first f p i)) (a.pointer p.level address (entry_first f p i) high frame)

-- The piece of a view is read from its word.
module _ (f : Layout) (good : IsLayout f) (d : WordsDiffer f) (a : StepsAgree f) (v : View) (x : Piece) (own : IsOwnPiece f v x) where
  -- the pages from the block's first one to the piece's, and the output page there
  abbrev before : ℕ
  before = x.part * pages_of_entry f (level_of f x)

  abbrev out : ℕ
  out = x.block.out + (first_of f x - x.block.first)

  abbrev read : ℕ → Piece
  read = piece_of_size f (level_of f x) (first_of f x) out x.block.prot

  inside : before < 2 ^ x.block.log2
  inside = let ends = ends_in_block f good v x own in let some_page = pow_pos (f.index * level_of f x) in omega (arith, ends, some_page)

  over : first_of f x ≡ x.block.first / 2 ^ x.block.log2 * 2 ^ x.block.log2 + before
  over = ap (λ k. k + before) (whole x.block.first x.block.log2 own.legal.first_aligned)

  rest_is : first_of f x % 2 ^ x.block.log2 ≡ before
  rest_is = ap (λ k. k % 2 ^ x.block.log2) over ∙ mod-mul-add (x.block.first / 2 ^ x.block.log2) (2 ^ x.block.log2) before inside

  -- of its own size, it is read as it is
  is_read : read x.block.log2 ≡ x
  is_read =
      let first : first_of f x / 2 ^ x.block.log2 * 2 ^ x.block.log2 ≡ x.block.first =
      ap (λ k. k / 2 ^ x.block.log2 * 2 ^ x.block.log2) over
      ∙ ap (λ k. k * 2 ^ x.block.log2) (div-mul-add (x.block.first / 2 ^ x.block.log2) (2 ^ x.block.log2) before inside)
      ∙ sym (whole x.block.first x.block.log2 own.legal.first_aligned) in
      let out_is : out - first_of f x % 2 ^ x.block.log2 ≡ x.block.out = omega (arith, rest_is) in
      let part : first_of f x % 2 ^ x.block.log2 / pages_of_entry f (level_of f x) ≡ x.part =
      ap (λ k. k / pages_of_entry f (level_of f x)) rest_is ∙ shl-shr x.part (f.index * level_of f x) in
      λ j. record { block = record { first = first j; log2 = x.block.log2; out = out_is j; prot = x.block.prot }; part = part j }

  -- it has its word
  has_word : has_this_word f (level_of f x) (word_of f x) x ≡ true
  has_word =
      let may = may_be_leaf f good v x own in
      and_from (level_of f x == level_of f x) _ (eq-eqb (level_of f x) (level_of f x) refl)
      (and_from (x.block.out % 2 ^ x.block.log2 == 0) _ (eq-eqb (x.block.out % 2 ^ x.block.log2) 0 may.aligned)
      (and_from (nat_le (x.block.out + 2 ^ x.block.log2) (output_pages f)) _ (le-leb (x.block.out + 2 ^ x.block.log2) (output_pages f) may.within)
      (and_from (f.states x.block.prot) _ may.stated
      (and_from (nat_lt x.part (words_of f x.block)) _ (lt-ltb x.part (words_of f x.block) own.a_part) (eq-eqb (word_of f x) (word_of f x) refl)))))

  -- a piece of a size of the format that has this word is of this size
  one_size : (y : Piece) → is_size f y.block.log2 ≡ true → has_this_word f (level_of f x) (word_of f x) y ≡ true → y.block.log2 ≡ x.block.log2
  one_size y size passes =
      let p : ((level_of f y == level_of f x) ≡ true)
      × (((y.block.out % 2 ^ y.block.log2 == 0) && (nat_le (y.block.out + 2 ^ y.block.log2) (output_pages f) && (f.states y.block.prot && (nat_lt y.part (words_of f y.block) && (word_of f y == word_of f x))))) ≡ true) =
      and_parts (level_of f y == level_of f x) _ passes in
      let q : ((y.block.out % 2 ^ y.block.log2 == 0) ≡ true)
      × ((nat_le (y.block.out + 2 ^ y.block.log2) (output_pages f) && (f.states y.block.prot && (nat_lt y.part (words_of f y.block) && (word_of f y == word_of f x)))) ≡ true) =
      and_parts (y.block.out % 2 ^ y.block.log2 == 0) _ p.1 in
      let s : (nat_le (y.block.out + 2 ^ y.block.log2) (output_pages f) ≡ true) × ((f.states y.block.prot && (nat_lt y.part (words_of f y.block) && (word_of f y == word_of f x))) ≡ true) =
      and_parts (nat_le (y.block.out + 2 ^ y.block.log2) (output_pages f)) _ q.1 in
      let t : (f.states y.block.prot ≡ true) × ((nat_lt y.part (words_of f y.block) && (word_of f y == word_of f x)) ≡ true) = and_parts (f.states y.block.prot) _ s.1 in
      let u : (nat_lt y.part (words_of f y.block) ≡ true) × ((word_of f y == word_of f x) ≡ true) = and_parts (nat_lt y.part (words_of f y.block)) _ t.1 in
      let level : level_of f y ≡ level_of f x = eqb-true (level_of f y) (level_of f x) p.0 in
      let may = may_be_leaf f good v x own in
      let theirs : MayBeLeaf f (level_of f x) y.block.log2 y.block.out y.block.prot y.part = record {
        below = may.below;
        a_size = size;
        at_level = level;
        aligned = eqb-true (y.block.out % 2 ^ y.block.log2) 0 q.0;
        within = leb-true (y.block.out + 2 ^ y.block.log2) (output_pages f) s.0;
        stated = t.0;
        a_part = subst (λ (k : ℕ). y.part < 2 ^ (y.block.log2 - f.index * k)) level (ltb-true y.part (words_of f y.block) u.0);
      } in
      let same : f.leaf (level_of f x) y.block.log2 y.block.out y.block.prot y.part ≡ word_of f x =
      ap (λ (k : ℕ). f.leaf k y.block.log2 y.block.out y.block.prot y.part) (sym level) ∙ eqb-true (word_of f y) (word_of f x) u.1 in
      (d.one_size (level_of f x) y.block.log2 x.block.log2 y.block.out x.block.out y.part x.part y.block.prot x.block.prot theirs may same).0

  pub piece_read : (p : Position) (i word : ℕ) → pieces_at f p i (x ∷ []) ≡ 1 → word ≡ word_of f x → piece_in f p i word ≡ Some x
  piece_read p i word here e =
      let level : p.level ≡ level_of f x = level_of_piece f p i x here in
      let first : entry_first f p i ≡ first_of f x = entry_of_piece f good v x own p i here in
      let step : f.step p.level (word_of f x) (entry_first f p i) ≡ page out x.block.prot = step_of_piece f good a v x own p i here in
      let found : find (λ k. has_this_word f (level_of f x) (word_of f x) (read k)) f.sizes ≡ Some x.block.log2 =
      find_only (λ k. has_this_word f (level_of f x) (word_of f x) (read k)) x.block.log2 f.sizes own.legal.a_size
      (ap (has_this_word f (level_of f x) (word_of f x)) is_read ∙ has_word) (λ j size passes. one_size (read j) size passes) in
      ap (λ (w : ℕ). piece_in f p i w) e ∙ ap (piece_found f p.level (word_of f x) (entry_first f p i)) step
      ∙ (λ j. piece_found f (level j) (word_of f x) (first j) (page out x.block.prot))
      ∙ ap (option_map read) found ∙ ap (λ (y : Piece). Some y) is_read
