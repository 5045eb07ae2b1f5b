-- A new space: its words and fields are an owner, whose view is of the whole space.
use Rattle.std.proofs.Common.{◌≡◌, ℕ, ◌+◌, ◌*◌, ◌%◌, ◌<◌, ◌≤◌, List, [], ◌∷◌, length, refl, ap, sym, subst, arith}
use Rattle.std.specs.Prelude.{Option, None}
use Rattle.pt_model.specs.Layout.{Layout, input_pages}
use Rattle.pt_model.specs.Tables.{starting_top}
use Rattle.pt_model.specs.Words.{frame_limit, root_level}
use Rattle.pt_view.specs.declared.view.View.{View}
use Rattle.pt_rule.specs.Tags.{first_or}
use Rattle.pt_rule.specs.Lawful.{Lawful}
use Rattle.pt_rule.specs.Opening.{IsNew, counting, opening_view}
use Rattle.pt_rule.proofs.Laws.{new_is_lawful}
use Rattle.pt_words.proofs.NewWords.{counting_length}
use Rattle.pt_plain.specs.Owner.{Fields, HasWholeSpan, IsOpened, IsOwner, aside_of, none_aside, span_view, whole_fields, whole_view}
use Rattle.pt_plain.proofs.Laws.{Laws}
use Rattle.pt_plain.proofs.Matches.{Matches}
use Rattle.pt_plain.proofs.Owners.{aside_none, span_whole}
use Rattle.pt_plain.proofs.ReadBack.{owner, shows}

-- what a new space's words and fields are
pub record Made (f : Layout) (n l hold : ℕ) (words : List ℕ) (head : Option ℕ) (path : List ℕ) : Type 0 where
  pub owner : IsOwner f (whole_fields f words n l head hold path l None 0)
  pub opened : IsOpened f n l hold (span_view f (whole_fields f words n l head hold path l None 0))
  pub aside : aside_of f (whole_fields f words n l head hold path l None 0) ≡ none_aside

module _ {f : Layout} (laws : Laws f) {n l hold : ℕ} {words : List ℕ} (new : IsNew f n l hold words) (limit : n ≤ frame_limit f) (room : hold < n) (low : f.start ≤ l) (high : l ≤ f.levels)
    (path : List ℕ) (eight : length path ≡ 8) where
  abbrev u : View
  u = opening_view f n l hold

  abbrev o : Fields
  o = whole_fields f words n l (first_or None (counting 1 hold)) hold path l None 0

  lawful_u : Lawful f n l words (u ∷ [])
  lawful_u = new_is_lawful f n l hold words laws.layout limit room low high new

  root_level_is : root_level words + 1 ≡ l
  root_level_is =
      let e : root_level words ≡ (0 * 8 + starting_top l) % 8 = ap (λ (z : ℕ). z % 8) new.root in
      let a = laws.layout.levels_high in let b = laws.layout.start_low in omega arith

  matches_u : Matches o u
  matches_u = record {
    purse = record { first_is = refl; held_is = counting_length 1 hold; end = refl };
    path = record { follows = tt; depth = (let e = root_level_is in omega arith); eight = eight };
    prepared = record { is = refl; plain = tt };
  }

  span : HasWholeSpan f 0 (input_pages f)
  span = record { first_is = refl; count_is = refl }

  new_owner : IsOwner f o
  new_owner = owner laws lawful_u refl span matches_u (λ g less. absurd (omega arith))

  opened : IsOpened f n l hold (whole_view f o)
  opened = let a = shows laws lawful_u refl span matches_u in record {
    frames = a.range.frames;
    levels = a.range.levels;
    first = a.range.first;
    count = a.range.count;
    rest = record { path = a.path; prepared = a.prepared; end = a.purse.end; pieces = a.book.pieces };
    tables = a.book.tables;
    top = a.book.top;
    purse = a.purse.purse;
  }

  pub makes : Made f n l hold words (first_or None (counting 1 hold)) path
  makes = record { owner = new_owner; opened = subst (IsOpened f n l hold) (sym (span_whole new_owner)) opened; aside = aside_none new_owner }
