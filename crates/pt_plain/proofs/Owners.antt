-- The view that an owner's words and fields say, and its entries.
use Rattle.std.proofs.Common.{◌≡◌, ℕ, inl, inr, Bool, true, false, suc, ◌+◌, ◌-◌, ◌<◌, ◌≤◌, List, [], ◌∷◌, refl, ap, sym, ◌∙◌, subst, arith}
use Rattle.std.specs.Prelude.{Option, None, Some, filter, map, not, ◌==◌, ◌&&◌, slice_index, if◌then◌else◌}
use Rattle.std.specs.List.{AllByRecursion}
use Rattle.std.proofs.lemmas.Bool.{or_left, or_right}
use Rattle.std.proofs.Math.Bool.{and-false}
use Rattle.std.proofs.lemmas.Nat.{pow_pos}
use mathlib.Core.Logic.{dite}
use native.Mathlib.Decide.{dec_le}
use Rattle.pt_model.specs.declared.position.Position.{Position}
use Rattle.pt_model.specs.Book.{lies_in}
use Rattle.pt_model.specs.Layout.{Layout, input_pages}
use Rattle.pt_model.specs.Sets.{IsAmong}
use Rattle.pt_model.specs.Tables.{is_spine}
use Rattle.pt_model.specs.Words.{root_level}
use Rattle.pt_model.proofs.Positions.{filter_members}
use Rattle.pt_view.specs.declared.view.View.{View}
use Rattle.pt_view.specs.declared.view.Node.{Node}
use Rattle.pt_view.specs.declared.view.Piece.{Piece}
use Rattle.pt_view.specs.Calls.{IsEntryAt, lowest}
use Rattle.pt_rule.specs.Cuts.{is_near, table_in}
use Rattle.pt_rule.specs.Lawful.{HasBook, IsOnPath, IsOwnPiece, IsOwnTable, Lawful}
use Rattle.pt_rule.specs.Kinds.{IsLowestIn}
use Rattle.pt_rule.specs.WholeView.{prepared_frame}
use Rattle.pt_view.proofs.Members.{all_map}
use Rattle.pt_view.proofs.Paths.{lowest_has}
use Rattle.pt_plain.specs.Owner.{Fields, IsOwner, Owned, aside_of, busy_in, chain_of, known_in, node_at, nodes_down, none_aside, outside, owned, part_in, prepared_at, span_view, whole_view}
use Rattle.pt_plain.proofs.Matches.{IsPlain, Matches}
use Rattle.pt_plain.proofs.Paths.{follows_down, nodes_length, nodes_lowest}

-- the fields of the view
pub record Shown (f : Layout) (o : Fields) (v : View) : Type 0 where
  pub frames_are : v.frames ≡ o.frames
  pub levels_are : v.levels ≡ o.levels
  pub first_is : v.first ≡ 0
  pub count_is : v.count ≡ input_pages f
  pub top_is : v.top ≡ root_level o.words
  pub purse_is : v.purse ≡ chain_of o.words o.head o.held
  pub end_is : v.end ≡ None
  pub path_is : v.path ≡ nodes_down o.words o.path o.level (root_level o.words + 1 - o.level)
  pub prepared_is : v.prepared ≡ prepared_at o.words o.prepared
  pub busy_is : v.busy ≡ busy_in o.words o.frames
  pub known_is : v.known ≡ known_in v.levels v.tables v.top

pub shown : (f : Layout) (o : Fields) → Shown f o (whole_view f o)
unfolding whole_view
shown f o = record {
  frames_are = refl;
  levels_are = refl;
  first_is = refl;
  count_is = refl;
  top_is = refl;
  purse_is = refl;
  end_is = refl;
  path_is = refl;
  prepared_is = refl;
  busy_is = refl;
  known_is = refl;
}

pub live : (f : Layout) (o : Fields) → 0 < (whole_view f o).count
live f o = let e = (shown f o).count_is in let some_page = pow_pos (f.input - f.granule) in omega arith

module _ (words : List ℕ) where
  frame_again : (o : Option ℕ) → prepared_frame (prepared_at words o) ≡ o
  frame_again None = refl
  frame_again (Some g) = refl

  prepared_plain : (o : Option ℕ) → IsPlain (prepared_at words o)
  prepared_plain None = tt
  prepared_plain (Some g) = (refl, omega arith)

-- items that all pass a test
all_pass : {X : Type 0} (t : X → Bool) (xs : List X) → AllByRecursion (λ x. t x ≡ true) xs → filter t xs ≡ xs
all_pass t [] h = refl
all_pass t (x ∷ xs) h = (λ i. if h.0 i then x ∷ filter t xs else filter t xs) ∙ ap (λ (ys : List _). x ∷ ys) (all_pass t xs h.1)

none_pass : {X : Type 0} (t : X → Bool) (xs : List X) → AllByRecursion (λ x. t x ≡ false) xs → filter t xs ≡ []
none_pass t [] h = refl
none_pass t (x ∷ xs) h = (λ i. if h.0 i then x ∷ filter t xs else filter t xs) ∙ none_pass t xs h.1

module _ {f : Layout} {o : Fields} (own : IsOwner f o) where
  abbrev v : View
  v = whole_view f o

  pub whole : v.count ≡ input_pages f
  whole = (shown f o).count_is

  pub book : HasBook f v
  book = own.lawful.books 0 v refl (live f o)

  pub matches : Matches o v
  unfolding whole_view
  matches =
      let low = own.low in
      let count : ℕ = root_level o.words + 1 - o.level in record {
        purse = record { first_is = own.first_is; held_is = own.held_is; end = refl };
        path = record {
          follows = follows_down o.words o.path o.level count (root_level o.words + 1) (omega arith) (λ at a b. own.levels_are at a (omega arith));
          depth = let e = nodes_length o.words o.path o.level count in omega arith;
          eight = own.eight;
        };
        prepared = record { is = frame_again o.words o.prepared; plain = prepared_plain o.words o.prepared };
      }

  -- The span is the whole space: the holder's view is the rule's, and nothing is set aside.

  inside : AllByRecursion (λ (x : Piece). lies_in v.first (v.first + v.count) x.block ≡ true) v.pieces
  inside = all_map (IsOwnPiece f v) _ v.pieces (λ x h. h.in_span) book.pieces

  meet : AllByRecursion (λ (p : Position). table_in f v.first (v.first + v.count) p ≡ true) v.tables
  meet = all_map (IsOwnTable f v) _ v.tables (λ p h. h.meets) book.tables

  near : (p : Position) → IsAmong v.known p → is_near f v.levels v.first (v.first + v.count) p ≡ true
  near p a = elim ((own.lawful.known 0 v refl p a).1) [
    | inl spine ↦ or_left (is_spine v.levels p) _ spine
    | inr meets ↦ or_right (is_spine v.levels p) _ meets
  ]

  part_whole : part_in f v.first v.count v ≡ v
  part_whole = λ i. record v {
    pieces = all_pass (λ (x : Piece). lies_in v.first (v.first + v.count) x.block) v.pieces inside i;
    tables = all_pass (table_in f v.first (v.first + v.count)) v.tables meet i;
    known = filter_members (is_near f v.levels v.first (v.first + v.count)) v.known near i;
  }

  first_at : o.first ≡ v.first
  first_at = own.span.first_is ∙ sym (shown f o).first_is

  count_at : o.count ≡ v.count
  count_at = own.span.count_is ∙ sym whole

  pub span_whole : span_view f o ≡ whole_view f o
  span_whole = (λ i. part_in f (first_at i) (count_at i) v) ∙ part_whole

  no_block : AllByRecursion (λ (x : Piece). ((x.part == 0) && not (lies_in v.first (v.first + v.count) x.block)) ≡ false) v.pieces
  no_block = all_map (λ (x : Piece). lies_in v.first (v.first + v.count) x.block ≡ true) _ v.pieces (λ x h. ap (λ (b : Bool). (x.part == 0) && not b) h ∙ and-false (x.part == 0)) inside

  no_position : AllByRecursion (λ (p : Position). not (table_in f v.first (v.first + v.count) p) ≡ false) v.tables
  no_position = all_map (λ (p : Position). table_in f v.first (v.first + v.count) p ≡ true) _ v.tables (λ p h. ap not h) meet

  pub aside_none : aside_of f o ≡ none_aside
  aside_none = (λ i. outside f (first_at i) (count_at i) v) ∙ (λ i. record {
    blocks = map (λ (x : Piece). x.block) (none_pass _ v.pieces no_block i);
    positions = none_pass _ v.tables no_position i;
  })

  -- the words meet the rule with the holder's view
  pub lawful_span : Lawful f (span_view f o).frames (span_view f o).levels o.words (span_view f o ∷ [])
  lawful_span = subst (λ (w : View). Lawful f w.frames w.levels o.words (w ∷ [])) (sym span_whole)
      (subst (λ (t : ℕ × ℕ). Lawful f t.0 t.1 o.words (v ∷ [])) (λ i. (sym (shown f o).frames_are i, sym (shown f o).levels_are i)) own.lawful)

  -- what is given of the holder's view is given of the rule's
  pub given : (P : View → Type 0) → P (span_view f o) → P v
  given P = subst P span_whole

  -- The entry at which the path stands.

  -- the lowest table of the path is the one of its level
  lowest_here : (x : Node) → o.level ≤ root_level o.words → lowest v.path ≡ Some x → x ≡ node_at o.words o.path o.level
  lowest_here x low e = at_least (root_level o.words - o.level) (let k : root_level o.words + 1 - o.level ≡ suc (root_level o.words - o.level) = omega arith in k)
    where
      at_least : (count : ℕ) → root_level o.words + 1 - o.level ≡ suc count → x ≡ node_at o.words o.path o.level
      at_least count is =
          let there : lowest v.path ≡ Some (node_at o.words o.path o.level) =
          ap lowest (shown f o).path_is ∙ ap (λ (k : ℕ). lowest (nodes_down o.words o.path o.level k)) is ∙ nodes_lowest o.words o.path o.level count in
          let both : Some x ≡ Some (node_at o.words o.path o.level) = sym e ∙ there in
          cc

  module _ {p : Position} {number : ℕ} (entry : IsEntryAt f v p number) where
    -- the path isn't empty
    pub low_here : o.level ≤ root_level o.words
    low_here = dite (dec_le o.level (root_level o.words)) (λ le. le) (λ no.
        let low = own.low in
        let none : root_level o.words + 1 - o.level ≡ 0 = omega arith in
        let empty : lowest v.path ≡ None = ap lowest ((shown f o).path_is ∙ ap (nodes_down o.words o.path o.level) none) in
        let both : Some entry.node ≡ None = sym entry.is_lowest ∙ empty in
        absurd (let w : ⊥ = cc in w))

    node_is : entry.node ≡ node_at o.words o.path o.level
    node_is = lowest_here entry.node low_here entry.is_lowest

    pub place_is : p ≡ (node_at o.words o.path o.level).position
    place_is = sym entry.at ∙ ap (λ (x : Node). x.position) node_is

    pub level_is : p.level ≡ o.level
    level_is = ap (λ (q : Position). q.level) place_is ∙ own.levels_are o.level (let e : o.level ≤ o.level = omega arith in e) low_here

    pub level_below : o.level < f.levels
    level_below = let top = book.top_high in let e = (shown f o).top_is in let up = low_here in omega arith

    lowest_is : lowest v.path ≡ Some (node_at o.words o.path o.level)
    lowest_is = entry.is_lowest ∙ ap (λ (x : Node). Some x) node_is

    pub frame_within : slice_index o.path o.level < o.frames
    frame_within = (lowest_has (IsOnPath f o.frames o.words (v ∷ []) v) v.path (node_at o.words o.path o.level) lowest_is (own.lawful.paths 0 v refl).nodes).at.is_linked.within

    pub lowest_in : IsLowestIn v (slice_index o.path o.level)
    lowest_in = ((node_at o.words o.path o.level).position, lowest_is)

-- What a call does: the fields after it are an owner's, and the holder's view before and after are as the call says.
pub record Does (f : Layout) (o o' : Fields) (Says : View → View → Type 0) : Type 0 where
  pub owner : IsOwner f o'
  pub says : Says (span_view f o) (span_view f o')
  pub aside : aside_of f o' ≡ aside_of f o

pub does : {f : Layout} {o o' : Fields} (Says : View → View → Type 0) → IsOwner f o → IsOwner f o' → Says (whole_view f o) (whole_view f o') → Does f o o' Says
does Says own own' says = record {
  owner = own';
  says = subst (λ (t : View × View). Says t.0 t.1) (λ i. (sym (span_whole own) i, sym (span_whole own') i)) says;
  aside = aside_none own' ∙ sym (aside_none own);
}

-- the same, of what callers saw before it
pub seen : {f : Layout} {o o' : Fields} {Says : View → View → Type 0} → Does f o o' Says → {old : Owned} → owned f o ≡ old → Says old.view (span_view f o')
seen {f} {o} {o'} {Says} d is = subst (λ (x : Owned). Says x.view (span_view f o')) is d.says

pub kept_aside : {f : Layout} {o o' : Fields} {Says : View → View → Type 0} → Does f o o' Says → {old : Owned} → owned f o ≡ old → aside_of f o' ≡ old.aside
kept_aside d is = d.aside ∙ ap (λ (x : Owned). x.aside) is
