-- Pieces: where a piece stands, the pages under it, and the pieces and words at an entry.
use Rattle.std.proofs.Common.{◌≡◌, ◌≢◌, ℕ, ◌+◌, ◌*◌, ◌/◌, ◌<◌, ◌≤◌, List, [], ◌∷◌, refl, ap, ◌∙◌, arith, true, false, ⊎_elim}
use Rattle.std.specs.Prelude.{nat_le, ◌&&◌, ◌==◌}
use Rattle.std.specs.List.{AllByRecursion}
use Rattle.std.proofs.lemmas.Nat.{pow_pos}
use Rattle.std.proofs.lemmas.Bool.{cases_Bool}
use mathlib.Core.Logic.{dite}
use native.Mathlib.Decide.{dec_le}
use Rattle.pt_model.proofs.Positions.{bit_le}
use Rattle.pt_model.specs.declared.position.Position.{Position}
use Rattle.pt_model.specs.Layout.{Layout, end_of, pages_of_entry}
use Rattle.pt_model.specs.Tables.{is_same}
use Rattle.pt_format.specs.Words.{MayBeLeaf, IsUnder}
use Rattle.pt_format.specs.Laws.{IsLayout, WordsDiffer}
use Rattle.pt_view.specs.declared.view.View.{View}
use Rattle.pt_view.specs.declared.view.Piece.{Piece}
use Rattle.pt_view.specs.Pieces.{IsLegalPiece, add_piece, first_of, table_of, number_of, level_of, word_of}
use Rattle.pt_view.specs.Calls.{entry_first, pieces_at}
use Rattle.pt_view.proofs.Pieces as pieces
use Rattle.pt_rule.specs.Totals.{words_at}
use Rattle.pt_rule.specs.Lawful.{IsOwnPiece}

-- The pages under a piece of a view, and its word: it is a piece of a legal block.
module _ (f : Layout) (good : IsLayout f) (v : View) (x : Piece) (own : IsOwnPiece f v x) where
  is : IsLegalPiece f x
  is = record { a_part = own.a_part; legal = own.legal; stated = own.stated }

  pub ends_in_block : first_of f x + pages_of_entry f (level_of f x) ≤ end_of x.block
  ends_in_block = pieces.ends_in_block good is

  pub first_whole : first_of f x ≡ first_of f x / pages_of_entry f (level_of f x) * pages_of_entry f (level_of f x)
  first_whole = pieces.first_whole good is

  -- its entry's first page is its own
  pub first_is_entry's : entry_first f (table_of f x) (number_of f x) ≡ first_of f x
  first_is_entry's = pieces.first_is_entry's good is

  pub may_be_leaf : MayBeLeaf f (level_of f x) x.block.log2 x.block.out x.block.prot x.part
  may_be_leaf = pieces.may_be_leaf good is

  pub is_under_piece : IsUnder f (level_of f x) x.block.log2 x.block.first x.part (first_of f x)
  is_under_piece =
      let some : 0 < pages_of_entry f (level_of f x) = pow_pos (f.index * level_of f x) in
      pieces.is_under_piece good is (let here : first_of f x ≤ first_of f x = omega arith in here, omega arith)

  pub word_some : WordsDiffer f → word_of f x ≢ 0
  word_some d = pieces.word_some good is d

-- The pieces and words at an entry.

-- the one piece at an entry
pub record IsOneAt (f : Layout) (P : Piece → Type 0) (p : Position) (i : ℕ) (xs : List Piece) : Type 0 where
  pub piece : Piece
  pub has : P piece
  pub here : pieces_at f p i (piece ∷ []) ≡ 1
  pub word : words_at f p i xs ≡ word_of f piece

module _ (f : Layout) (p : Position) (i : ℕ) where
  pub no_words : (xs : List Piece) → pieces_at f p i xs ≡ 0 → words_at f p i xs ≡ 0
  no_words [] e = refl
  no_words (x ∷ xs) e =
      let none : pieces_at f p i (x ∷ []) ≡ 0 = omega arith in
      let rest = no_words xs (omega arith) in
      ap (λ k. k * word_of f x + words_at f p i xs) none ∙ (let z : 0 * word_of f x + words_at f p i xs ≡ words_at f p i xs = omega arith in z) ∙ rest

  -- where at least one piece stands, one of the list's does
  pub some_at : (P : Piece → Type 0) (xs : List Piece) → AllByRecursion P xs → 0 < pieces_at f p i xs → (x : Piece) × P x × (pieces_at f p i (x ∷ []) ≡ 1)
  some_at P [] all h = absurd (omega arith)
  some_at P (x ∷ xs) all h =
      let most = bit_le (is_same p (table_of f x) && (number_of f x == i)) in
      dite (dec_le (pieces_at f p i (x ∷ [])) 0) (λ none. some_at P xs all.1 (omega arith)) (λ one. (x, all.0, omega arith))

  pub one_at : (P : Piece → Type 0) (xs : List Piece) → AllByRecursion P xs → pieces_at f p i xs ≡ 1 → IsOneAt f P p i xs
  one_at P [] all e = absurd (omega arith)
  one_at P (x ∷ xs) all e =
      let most = bit_le (is_same p (table_of f x) && (number_of f x == i)) in
      dite (dec_le (pieces_at f p i (x ∷ [])) 0)
      (λ none.
      let none' : pieces_at f p i (x ∷ []) ≡ 0 = omega arith in
      let rest : IsOneAt f P p i xs = one_at P xs all.1 (omega arith) in
      record {
        piece = rest.piece;
        has = rest.has;
        here = rest.here;
        word = ap (λ k. k * word_of f x + words_at f p i xs) none' ∙ (let z : 0 * word_of f x + words_at f p i xs ≡ words_at f p i xs = omega arith in z) ∙ rest.word;
      })
      (λ some_one.
      let one : pieces_at f p i (x ∷ []) ≡ 1 = omega arith in
      let rest = no_words xs (omega arith) in
      record {
        piece = x;
        has = all.0;
        here = one;
        word = ap (λ k. k * word_of f x + words_at f p i xs) one ∙ omega (arith, rest);
      })

-- one piece more in a list
pub pieces_with : (f : Layout) (p : Position) (i : ℕ) (ys : List Piece) (x : Piece) → pieces_at f p i (add_piece f ys x) ≡ pieces_at f p i (x ∷ []) + pieces_at f p i ys
pieces_with f p i [] x = omega arith
pieces_with f p i (y ∷ ys) x = ⊎_elim
    (λ (e : nat_le (first_of f y) (first_of f x) ≡ true). rw e (let rest = pieces_with f p i ys x in omega arith))
    (λ (e : nat_le (first_of f y) (first_of f x) ≡ false). rw e (omega arith)) (cases_Bool (nat_le (first_of f y) (first_of f x)))
