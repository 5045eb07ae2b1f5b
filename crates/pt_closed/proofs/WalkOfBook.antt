-- The manual's walk of the words of a closed space, by its book.
use Rattle.std.proofs.Common.{◌≡◌, ℕ, zero, suc, ◌-◌, ◌<◌, ◌≤◌, List, [], ◌∷◌, inl, inr, refl, ap, sym, ◌∙◌, subst, arith}
use Rattle.std.specs.Prelude.{Option, None, Some}
use Rattle.std.proofs.lemmas.Nat.{pow_pos}
use mathlib.Core.Option.{some, some-injective, some-ne-none}
use lib.ListN.{get_elem?}
use Rattle.pt_model.specs.Layout.{Layout}
use Rattle.pt_model.specs.Pages.{page_at}
use Rattle.pt_model.specs.Book.{Book, IsLawful, translation}
use Rattle.pt_format.specs.Laws.{IsLayout}
use Rattle.pt_view.specs.declared.view.View.{View}
use Rattle.pt_view.specs.Pieces.{IsOneOf, level_of, word_of}
use Rattle.pt_view.specs.Views.{book_of}
use Rattle.pt_rule.specs.Union.{IsCovered, byte_of_piece}
use Rattle.pt_rule.proofs.Laws.{books_are_lawful, walk_is_union}
use Rattle.pt_walk.specs.Walks.{HasNowhere, IsFound}
use Rattle.pt_walk.proofs.Books.{value_found, value_nowhere}
use Rattle.pt_walk.proofs.Bytes.{translation_is}
use Rattle.pt_closed.specs.Closed.{IsClosed, WalkIsBook, reached}

-- the one view of a list
only_view : (v : View) (j : ℕ) (u : View) → get_elem? (v ∷ []) j ≡ some u → u ≡ v
only_view v zero u e = sym (some-injective v u e)
only_view v (suc j) u e = absurd (some-ne-none u (sym e))

module _ (f : Layout) (good : IsLayout f) (n : ℕ) (words : List ℕ) (closed : IsClosed f n words) (address page : ℕ) (at : page_at f address ≡ Some page) where
  abbrev v : View
  v = closed.view

  abbrev book : Book
  book = book_of closed.view closed.blocks

  live : 0 < v.count
  live = let some_page = pow_pos (f.input - f.granule) in let all = closed.whole in omega arith

  levels : f.start ≤ v.levels
  levels = let same = (closed.lawful.sizes.live 0 v refl live).1 in let low = closed.lawful.sizes.levels_low in omega arith

  lawful : IsLawful f v.levels book
  lawful = books_are_lawful f good n closed.levels words (v ∷ []) 0 v closed.lawful refl live closed.blocks closed.rest

  -- a piece that has the page is what the book maps there
  translated : (x : IsCovered f (v ∷ []) page) → reached (translation f book address) ≡ byte_of_piece f x.piece address page
  translated x =
      let own : IsOneOf v.pieces x.piece = subst (λ (u : View). IsOneOf u.pieces x.piece) (only_view v x.index x.view x.at) x.own in
      let found : IsFound f v page (level_of f x.piece) (word_of f x.piece) =
      record { piece = x.piece; own = own; has_page = (x.from, x.to); level_is = refl; word_is = refl } in
      ap reached (translation_is f book address page _ at
      (value_found f good v closed.blocks closed.rest page levels lawful (level_of f x.piece) (word_of f x.piece) found))

  -- where none has it, the book maps nothing
  untranslated : ¬ IsCovered f (v ∷ []) page → translation f book address ≡ None
  untranslated none =
      let nowhere_there : HasNowhere f v page =
      (λ x own has. none (record { index = 0; view = v; at = refl; piece = x; own = own; from = has.0; to = has.1 })) in
      translation_is f book address page None at (value_nowhere f good v closed.blocks closed.rest page nowhere_there)

pub walk_is_book : WalkIsBook
walk_is_book f good a walk n words closed address fits = by_page (page_at f address) refl
  where
    by_page : (o : Option ℕ) → page_at f address ≡ o → f.walk words address ≡ reached (elim o [ None ↦ None | Some page ↦ translation f (book_of closed.view closed.blocks) address ])
    by_page None e = (walk_is_union f good a walk n closed.levels words (closed.view ∷ []) closed.lawful address fits).0 e
    by_page (Some page) e =
        let union = (walk_is_union f good a walk n closed.levels words (closed.view ∷ []) closed.lawful address fits).1 page e in
        elim union.either [
          | inl covered ↦ union.found covered ∙ sym (translated f good n words closed address page e covered)
          | inr none ↦ union.none none ∙ sym (ap reached (untranslated f good n words closed address page e none))
        ]
