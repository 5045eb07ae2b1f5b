-- Words that meet the rule with a view of the whole space meet it with the view that they say, and the fields of a pass show
-- that view.
use Rattle.std.proofs.Common.{◌≡◌, ℕ, ◌-◌, ◌<◌, ◌≤◌, List, [], ◌∷◌, refl, ap, sym, ◌∙◌, arith}
use Rattle.std.specs.Prelude.{Option, None}
use Rattle.std.proofs.lemmas.Nat.{pow_pos}
use Rattle.pt_model.specs.Layout.{Layout, input_pages}
use Rattle.pt_model.specs.Words.{frame_limit, root_level}
use Rattle.pt_format.specs.Laws.{IsLayout, WordsDiffer}
use Rattle.pt_format.specs.Manual.{StepsAgree}
use Rattle.pt_view.specs.declared.view.View.{View}
use Rattle.pt_view.specs.Views.{Rests}
use Rattle.pt_rule.specs.Kinds.{retrace}
use Rattle.pt_rule.specs.Laws.{MayNote}
use Rattle.pt_rule.specs.Lawful.{Lawful}
use Rattle.pt_rule.specs.Opening.{IsNew, counting, opening_view}
use Rattle.pt_rule.specs.Tags.{first_or}
use Rattle.pt_rule.specs.WholeView.{pieces_in, prepared_frame, tables_in}
use Rattle.pt_rule.proofs.Laws.{new_is_lawful, views_hold, views_note, whole_is_read}
use Rattle.pt_words.proofs.NewWords.{counting_length}
use Rattle.pt_space.specs.Saved.{IsSound, saved_view}
use Rattle.pt_space.specs.Standing.{Shows}

pub saved_shows : {f : Layout} (good : IsLayout f) {n l hold : ℕ} {words : List ℕ} → Lawful f n l words (saved_view f n l hold words ∷ []) →
    (count : ℕ) (head : Option ℕ) → count ≡ input_pages f → head ≡ first_or None (counting 1 hold) →
    Shows f n l (saved_view f n l hold words) (record { first = 0; count = count; head = head; held = hold; path = []; depth = 0; level = 0; prepared = None })
unfolding saved_view
saved_shows {f} good {n} {l} {hold} {words} r count head count_is head_is = record {
  holds = views_hold f good n l words (saved_view f n l hold words ∷ []) 0 (saved_view f n l hold words) r refl (pow_pos (f.input - f.granule));
  first = refl;
  count = sym count_is;
  end = refl;
  head = sym head_is;
  held = counting_length 1 hold;
  prepared = refl;
  unbridged = λ x e. absurd (let z : ⊥ = cc in z);
  deep = omega arith;
  nodes = λ i x lt at. absurd (omega arith);
}

-- the view has no path
pub saved_retraced : (f : Layout) (n l hold : ℕ) (words : List ℕ) → retrace [] (saved_view f n l hold words) ≡ saved_view f n l hold words
unfolding saved_view
saved_retraced f n l hold words = refl

module _ {f : Layout} (good : IsLayout f) (differ : WordsDiffer f) (agree : StepsAgree f) {n l : ℕ} {words : List ℕ} where
  -- a view of the whole space at rest, with these frames in its purse
  module _ {u : View} (r : Lawful f n l words (u ∷ [])) (whole : u.count ≡ input_pages f) (hold : ℕ) (purse : u.purse ≡ counting 1 hold)
      (end : u.end ≡ None) (path : u.path ≡ []) (prepared : u.prepared ≡ None) where
    abbrev w : View
    w = saved_view f n l hold words

    live : 0 < u.count
    live = let some_page = pow_pos (f.input - f.granule) in omega arith

    read : (u.pieces ≡ pieces_in f n None words n) × (u.tables ≡ tables_in l None words n) × (u.top ≡ root_level words) × (u.first ≡ 0)
    read =
        let a = whole_is_read f good differ agree n l words (u ∷ []) 0 u r refl whole in (
          a.0 ∙ ap (λ o. pieces_in f n (prepared_frame o) words n) prepared,
          a.1 ∙ ap (λ o. tables_in l (prepared_frame o) words n) prepared,
          a.2,
          a.3,
        )

    noted : MayNote f n l words (u ∷ []) u w
    unfolding saved_view
    noted =
        let sizes = r.sizes.live 0 u refl live in record {
          range = record { frames = sym sizes.0; levels = sym sizes.1; first = sym read.3; count = sym whole };
          book = record { pieces = sym read.0; tables = sym read.1; top = sym read.2 };
          purse = record { purse = sym purse; end = sym end };
          prepared = sym prepared;
          rest = [];
          path = path;
          busy = λ all h lt is. absurd (omega (arith, is));
          known = λ p a. absurd (omega (arith, a));
        }

    pub saved : Lawful f n l words (w ∷ [])
    saved = views_note f n l words (u ∷ []) 0 u w r refl live noted

    pub saved_pieces : w.pieces ≡ u.pieces
    unfolding saved_view
    saved_pieces = sym read.0

  -- the words of a new space say the view of a new space
  module _ (hold : ℕ) (few : n ≤ frame_limit f) (room : hold < n) (low : f.start ≤ l) (high : l ≤ f.levels) (new : IsNew f n l hold words) where
    opened : Lawful f n l words (opening_view f n l hold ∷ [])
    opened = new_is_lawful f n l hold words good few room low high new

    pub saved_new : Lawful f n l words (saved_view f n l hold words ∷ [])
    saved_new = saved opened refl hold refl refl refl refl

    pub saved_is_new : saved_view f n l hold words ≡ opening_view f n l hold
    unfolding saved_view
    saved_is_new =
        let a = read opened refl hold refl refl refl refl in
        λ i. record (opening_view f n l hold) { pieces = sym a.0 i; tables = sym a.1 i; top = sym a.2 i }

  -- sound words meet the rule with the view that they say, which is at rest
  module _ (s : IsSound f n l words) where
    pub saved_sound : Lawful f n l words (saved_view f n l 0 words ∷ [])
    saved_sound = saved s.lawful s.whole 0 s.none_held s.rest.end s.rest.path s.rest.prepared

    pub saved_rests : Rests f (saved_view f n l 0 words)
    unfolding saved_view
    saved_rests = (
      s.blocks,
      record {
        path = refl;
        prepared = refl;
        end = refl;
        pieces = saved_pieces s.lawful s.whole 0 s.none_held s.rest.end s.rest.path s.rest.prepared ∙ s.rest.pieces;
      },
    )
