-- The book of a part is the book machine's: a view at rest may be split by its book, and its parts have the parts of that book.
use Rattle.std.proofs.Common.{◌≡◌, ◌⊎◌, inl, inr, ℕ, Bool, true, false, ◌+◌, ◌*◌, ◌<◌, ◌≤◌, List, [], ◌∷◌, ◌++◌, refl, ap, sym, ◌∙◌, subst, arith}
use Rattle.std.specs.Prelude.{◌&&◌, filter, nat_le, nat_lt, not, Contains, IsTrue, None}
use Rattle.std.proofs.lemmas.Bool.{and_from, and_parts, cases_Bool, cases_lt, false≢true, le-leb, le-ltb, leb-true, lt-leb, lt-ltb}
use Rattle.std.proofs.lemmas.List.Elements.{filter-append}
use Rattle.std.proofs.lemmas.Nat.{pow_pos}
use Rattle.std.proofs.Math.Bool.{and-false}
use Rattle.pt_model.specs.declared.block.Block.{Block}
use Rattle.pt_model.specs.Layout.{Layout, end_of, pages_of_entry}
use Rattle.pt_model.specs.Book.{Book, lies_in, span_end}
use Rattle.pt_model.specs.Cuts.{crosses, part_of}
use Rattle.pt_model.specs.Cuts as books
use Rattle.pt_model.proofs.Positions.{filter_in, filter_out}
use Rattle.pt_format.specs.Laws.{IsLayout}
use Rattle.pt_view.specs.declared.view.View.{View}
use Rattle.pt_view.specs.declared.view.Node.{Node}
use Rattle.pt_view.specs.declared.view.Piece.{Piece}
use Rattle.pt_view.specs.Pieces.{IsLegalPiece, IsOneOf, all_pieces, first_of, level_of, pieces_of}
use Rattle.pt_view.specs.Views.{Rests, book_of}
use Rattle.pt_view.proofs.Members.{all_pieces_append, in_block, in_blocks, one_has, one_of_left, one_of_right}
use Rattle.pt_view.proofs.Pieces.{ends_in_block}
use Rattle.pt_view.specs.Calls.{is_in_span}
use Rattle.pt_rule.specs.Holds.{Holds}
use Rattle.pt_rule.specs.Kinds.{retrace}
use Rattle.pt_rule.specs.Lawful.{IsOwnPiece}
use Rattle.pt_rule.specs.Cuts.{MaySplit, joined, left_part, marked, right_part}
use Rattle.pt_space.specs.Books.{JoinsBooks, MaySplitBook, RestsWith, SplitsBook}

-- a block that crosses no page lies before it or from it on
uncrossed_tells : (at : ℕ) (b : Block) → crosses at b ≡ false → (end_of b ≤ at) ⊎ (at ≤ b.first)
uncrossed_tells at b none = elim (cases_lt b.first at) [
  | inr behind ↦ inr behind
  | inl before ↦ elim (cases_lt at (end_of b)) [
    | inr done ↦ inl done
    | inl across ↦ absurd (false≢true (sym none ∙ and_from (nat_lt b.first at) _ (lt-ltb b.first at before) (lt-ltb at (end_of b) across)))
  ]
]

-- a view may be split by its book
pub may_split : {f : Layout} {at kept : ℕ} {v : View} (book : Book) → RestsWith f v book → MaySplitBook at kept v book → MaySplit f at kept v
may_split {f} {at} {kept} {v} book rests may =
    let first : v.first ≡ book.first = ap (λ (b : Book). b.first) rests.is in
    let count : v.count ≡ book.count = ap (λ (b : Book). b.count) rests.is in
    let low = may.low in let high = may.high in record {
      blocks = book.blocks;
      rest = rests.at_rest;
      cuts_none = λ x member.
          let here : Contains book.blocks x.block = (in_blocks f book.blocks x (subst (λ (xs : List Piece). IsOneOf xs x) rests.at_rest.pieces member)).0 in
          uncrossed_tells at x.block (subst (λ (b : Block). crosses at b ≡ false) here.2 (may.uncrossed here.0 x.block here.1));
      low = omega arith;
      high = omega arith;
      frames = may.frames;
    }

-- The pieces that pass a test of their blocks are those of the blocks that do.

filter_all : (p : Piece → Bool) (xs : List Piece) → ((x : Piece) → IsOneOf xs x → p x ≡ true) → filter p xs ≡ xs
filter_all p [] h = refl
filter_all p (x ∷ xs) h = filter_in p x xs (h x (inl refl)) ∙ ap (λ (ys : List Piece). x ∷ ys) (filter_all p xs (λ y m. h y (inr m)))

filter_none : (p : Piece → Bool) (xs : List Piece) → ((x : Piece) → IsOneOf xs x → p x ≡ false) → filter p xs ≡ []
filter_none p [] h = refl
filter_none p (x ∷ xs) h = filter_out p x xs (h x (inl refl)) ∙ filter_none p xs (λ y m. h y (inr m))

by_blocks : (f : Layout) (p : Piece → Bool) (t : Block → Bool) (bs : List Block) → ((x : Piece) → IsOneOf (all_pieces f bs) x → p x ≡ t x.block) →
    filter p (all_pieces f bs) ≡ all_pieces f (filter t bs)
by_blocks f p t [] same = refl
by_blocks f p t (b ∷ bs) same =
    let rest : filter p (all_pieces f bs) ≡ all_pieces f (filter t bs) = by_blocks f p t bs (λ x m. same x (one_of_right (pieces_of f b) (all_pieces f bs) x m)) in
    let here : (x : Piece) → IsOneOf (pieces_of f b) x → p x ≡ t b =
    (λ x m. same x (one_of_left (pieces_of f b) (all_pieces f bs) x m) ∙ ap t (sym (in_block f b x m).0)) in
    filter-append p (pieces_of f b) (all_pieces f bs) ∙ elim (cases_Bool (t b)) [
      | inl e ↦ (λ i. filter_all p (pieces_of f b) (λ x m. here x m ∙ e) i ++ rest i) ∙ sym (ap (all_pieces f) (filter_in t b bs e))
      | inr e ↦ (λ i. filter_none p (pieces_of f b) (λ x m. here x m ∙ e) i ++ rest i) ∙ sym (ap (all_pieces f) (filter_out t b bs e))
    ]

-- the pieces of a view are words of legal blocks in its span
abbrev pub OwnsPieces : Layout → View → Type 0
OwnsPieces f v = (x : Piece) → IsOneOf v.pieces x → IsLegalPiece f x × IsTrue (is_in_span v x.block.first (end_of x.block))

pub owns_pieces : {f : Layout} {n l : ℕ} {v : View} → Holds f n l v → (path : List Node) → OwnsPieces f (retrace path v)
owns_pieces {f} {n} {l} {v} holds path x member =
    let is = one_has (IsOwnPiece f v) v.pieces x holds.book.pieces member in
    (record { a_part = is.a_part; legal = is.legal; stated = is.stated }, is.in_span)

-- A view at rest is split.
module _ {f : Layout} (good : IsLayout f) {v : View} (owns : OwnsPieces f v) {at kept : ℕ} (may : MaySplit f at kept v) where
  -- a piece begins before the page exactly where its block ends there at the latest
  module _ (x : Piece) (member : IsOneOf v.pieces x) where
    span : (v.first ≤ x.block.first) × (end_of x.block ≤ v.first + v.count)
    span =
        let h = and_parts (nat_le v.first x.block.first) _ (owns x member).1 in
        (leb-true v.first x.block.first h.0, leb-true (end_of x.block) (v.first + v.count) h.1)

    begins : first_of f x < end_of x.block
    begins =
        let ends = ends_in_block good (owns x member).0 in
        let some_page : 0 < pages_of_entry f (level_of f x) = pow_pos (f.index * level_of f x) in omega arith

    before : nat_lt (first_of f x) at ≡ lies_in v.first at x.block
    before = elim (may.cuts_none x member) [
      | inl ends ↦ (let low = span.0 in let b = begins in
          lt-ltb (first_of f x) at (omega arith) ∙ sym (and_from (nat_le v.first x.block.first) _ (le-leb v.first x.block.first low) (le-leb (end_of x.block) at ends)))
      | inr from ↦ (let b = begins in
          let late : nat_le (end_of x.block) at ≡ false = lt-leb (end_of x.block) at (let some_page = pow_pos x.block.log2 in omega arith) in
          le-ltb (first_of f x) at (omega arith) ∙ sym (ap (λ (b : Bool). nat_le v.first x.block.first && b) late ∙ and-false (nat_le v.first x.block.first)))
    ]

    after : not (nat_lt (first_of f x) at) ≡ lies_in at (v.first + v.count) x.block
    after = elim (may.cuts_none x member) [
      | inl ends ↦ (let b = begins in
          let early : nat_le at x.block.first ≡ false = lt-leb at x.block.first (let some_page = pow_pos x.block.log2 in omega arith) in
          ap not (lt-ltb (first_of f x) at (omega arith)) ∙ sym (ap (λ (b : Bool). b && nat_le (end_of x.block) (v.first + v.count)) early))
      | inr from ↦ (let high = span.1 in
          ap not (le-ltb (first_of f x) at (omega arith)) ∙ sym (and_from (nat_le at x.block.first) _ (le-leb at x.block.first from) (le-leb (end_of x.block) (v.first + v.count) high)))
    ]

  -- The parts of its book.
  module _ (book : Book) (rests : RestsWith f v book) where
    members : (x : Piece) → IsOneOf (all_pieces f book.blocks) x → IsOneOf v.pieces x
    members x m = subst (λ (xs : List Piece). IsOneOf xs x) (sym rests.at_rest.pieces) m

    left_pieces : filter (λ x. nat_lt (first_of f x) at) v.pieces ≡ all_pieces f (filter (lies_in v.first at) book.blocks)
    left_pieces = ap (filter (λ x. nat_lt (first_of f x) at)) rests.at_rest.pieces
        ∙ by_blocks f (λ x. nat_lt (first_of f x) at) (lies_in v.first at) book.blocks (λ x m. before x (members x m))

    right_pieces : filter (λ x. not (nat_lt (first_of f x) at)) v.pieces ≡ all_pieces f (filter (lies_in at (v.first + v.count)) book.blocks)
    right_pieces = ap (filter (λ x. not (nat_lt (first_of f x) at))) rests.at_rest.pieces
        ∙ by_blocks f (λ x. not (nat_lt (first_of f x) at)) (lies_in at (v.first + v.count)) book.blocks (λ x m. after x (members x m))

    left_is : RestsWith f (marked None (left_part f at kept v)) (part_of f (book_of v book.blocks) v.first at)
    left_is = record { at_rest = record { path = refl; prepared = rests.at_rest.prepared; end = refl; pieces = left_pieces }; is = refl }

    right_is : RestsWith f (right_part f at kept v) (part_of f (book_of v book.blocks) at (v.first + v.count))
    right_is = record { at_rest = record { path = refl; prepared = rests.at_rest.prepared; end = rests.at_rest.end; pieces = right_pieces }; is = refl }

  pub splits_book : SplitsBook f at v (marked None (left_part f at kept v)) (right_part f at kept v)
  splits_book = record {
    left_book = λ book rests. subst (λ (b : Book). RestsWith f (marked None (left_part f at kept v)) (part_of f b b.first at)) rests.is (left_is book rests);
    right_book = λ book rests. subst (λ (b : Book). RestsWith f (right_part f at kept v) (part_of f b at (span_end b))) rests.is (right_is book rests);
  }

-- Two views are joined at rest.
pub joins_books : {f : Layout} (v w : View) → JoinsBooks f v w (joined v w)
joins_books {f} v w low high left right = record {
  at_rest = record {
    path = refl;
    prepared = left.at_rest.prepared;
    end = right.at_rest.end;
    pieces = (λ i. left.at_rest.pieces i ++ right.at_rest.pieces i) ∙ sym (all_pieces_append f low.blocks high.blocks);
  };
  is = λ i. books.joined (left.is i) (right.is i);
}

pub joined_rests : {f : Layout} {v w : View} → Rests f v → Rests f w → Rests f (joined v w)
joined_rests {f} {v} {w} left right =
    let both = joins_books v w (book_of v left.0) (book_of w right.0) (record { at_rest = left.1; is = refl }) (record { at_rest = right.1; is = refl }) in
    (left.0 ++ right.0, both.at_rest)
