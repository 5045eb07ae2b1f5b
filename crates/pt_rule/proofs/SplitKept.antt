-- A split keeps the rule.
use Rattle.std.proofs.Common.{◌≡◌, ◌≢◌, ◌⊎◌, inl, inr, ℕ, Bool, true, ◌+◌, ◌-◌, ◌*◌, ◌<◌, ◌≤◌, List, [], ◌∷◌, ◌++◌, take, drop, set, refl, sym, ap, ◌∙◌, subst, arith, ⊎_elim}
use Rattle.std.specs.Prelude.{IsTrue, None, Option, filter, nat_le, nat_lt, ◌&&◌, not, slice_set}
use Rattle.std.specs.List.{AllByRecursion}
use Rattle.std.proofs.lemmas.Bool.{and_parts, and_from, false≢true, or_cases, lt-ltb, ltb-true, leb-true}
use Rattle.std.proofs.lemmas.List.{take-append-drop}
use Rattle.std.proofs.lemmas.Nat.{pow_pos}
use mathlib.Core.Option.{some, some-injective}
use mathlib.Core.Logic.{dite}
use native.Mathlib.Decide.{ℕ_discrete, dec_le}
use lib.ListN.{get_elem?}
use Rattle.atomic_table.proofs.Lists.{at_longer, set_else, set_here}
use Rattle.pt_model.specs.declared.position.Position.{Position}
use Rattle.pt_model.specs.Layout.{Layout, end_of, input_pages, pages_of_entry}
use Rattle.pt_model.specs.Tables.{end_of_table, is_spine}
use Rattle.pt_model.specs.Words.{root_level, tag}
use Rattle.pt_format.specs.Laws.{IsLayout}
use Rattle.pt_view.specs.declared.view.View.{View}
use Rattle.pt_view.specs.declared.view.Piece.{Piece}
use Rattle.pt_view.specs.declared.view.Prepared.{Prepared}
use Rattle.pt_model.specs.Sets.{IsAmong, one_if, places}
use Rattle.pt_view.specs.Lists.{IsIn, times}
use Rattle.pt_view.specs.Pieces.{IsOneOf, first_of, level_of, table_of}
use Rattle.pt_view.specs.Views.{spent}
use Rattle.pt_view.specs.Calls.{meets_span}
use Rattle.pt_rule.specs.Totals.{Each, total, covers, holds, prepares, has_bridge, has_piece, has_table, has_word, bridge_in, is_prepared}
use Rattle.pt_rule.specs.Tags.{Chained, IsEnd, first_or}
use Rattle.pt_rule.specs.Linked.{is_in_tree}
use Rattle.pt_rule.specs.Lawful.{HasBook, HasPath, IsBridged, IsOwnPiece, IsOwnTable, IsPreparedAt, Lawful}
use Rattle.pt_rule.specs.Kinds.{retrace}
use Rattle.pt_rule.proofs.TotalsKept.{at_inside, each_set, total_at, total_set}
use Rattle.pt_model.proofs.Positions.{among_all, among_filtered, among_passes}
use Rattle.pt_view.proofs.Members.{in_here, times_append}
use Rattle.pt_rule.proofs.PartsKept.{book_same, purse_within}
use Rattle.pt_rule.proofs.PieceFacts.{ends_in_block}
use Rattle.pt_rule.specs.Cuts.{MaySplit, is_near, left_part, right_part, table_in}
use Rattle.pt_rule.proofs.RegroupedViews.{Regrouped, regrouped}
use Rattle.pt_rule.proofs.HalfBook.{half, half_book}
use Rattle.pt_rule.proofs.CutLists.{all_sub, chained_back, chained_front, covers_by, each_snoc, parts_cover, pieces_sum, seam_end, some_alike, total_snoc, two_totals, words_sum}

module _ (f : Layout) (good : IsLayout f) (n l : ℕ) (words : List ℕ) (views : List View) (id : ℕ) (v : View) (at kept : ℕ) (r : Lawful f n l words views) (here : get_elem? views id ≡ some v) (live : 0 < v.count)
    (may : MaySplit f at kept (retrace [] v)) where
  abbrev a : View
  a = left_part f at kept (retrace [] v)

  abbrev b : View
  b = right_part f at kept (retrace [] v)

  abbrev views' : List View
  views' = set views id a ++ b ∷ []

  low : v.first < at
  low = may.low

  high : at < v.first + v.count
  high = may.high

  none : v.prepared ≡ None
  none = may.rest.prepared

  book : HasBook f v
  book = r.books id v here live

  to_at : v.first + (at - v.first) ≡ at
  to_at = let x = low in omega arith

  to_end : at + (v.first + v.count - at) ≡ v.first + v.count
  to_end = let x = high in omega arith

  together : (at - v.first) + (v.first + v.count - at) ≡ v.count
  together = let x = high in let y = low in omega arith

  each : (P : View → Type 0) → Each views P → P a → P b → Each views' P
  each P old x y = each_snoc P (set views id a) b (each_set P P views id v a here x (λ j u ne e h. h) old) y

  pages : (page : ℕ) → covers page a + covers page b ≡ covers page v
  pages page =
      let whole = parts_cover page v.first (at - v.first) (v.first + v.count - at) in
      let left : covers_by page v.first (at - v.first) ≡ covers page a = refl in
      let right : covers_by page (v.first + (at - v.first)) (v.first + v.count - at) ≡ covers page b = ap (λ (z : ℕ). covers_by page z (v.first + v.count - at)) to_at in
      let all : covers_by page v.first ((at - v.first) + (v.first + v.count - at)) ≡ covers page v = ap (covers_by page v.first) together in
      omega arith

  held : (g : ℕ) → holds g a + holds g b ≡ holds g v
  held g = sym (times_append g (take kept v.purse) (drop kept v.purse)) ∙ ap (times g) (take-append-drop kept v.purse)

  prepared : (g : ℕ) → prepares g a + prepares g b ≡ prepares g v
  prepared g = let z : prepares g v ≡ 0 = ap (λ (o : Option Prepared). one_if (is_prepared g o)) none in omega arith

  bridge : (h i : ℕ) → has_bridge f h i a + has_bridge f h i b ≡ has_bridge f h i v
  bridge h i = let z : has_bridge f h i v ≡ 0 = ap (bridge_in f h i) none in omega arith

  -- a table of the view meets the pages of one of its parts
  table_meets : (p : Position) → IsAmong v.tables p → IsAmong a.tables p ⊎ IsAmong b.tables p
  table_meets p m =
      let own : IsOwnTable f v p = among_all (IsOwnTable f v) v.tables book.tables p m in
      let met = and_parts (nat_lt p.base (v.first + v.count)) (nat_lt v.first (end_of_table f p)) own.meets in
      let under : p.base < v.first + v.count = ltb-true p.base (v.first + v.count) met.0 in
      let over : v.first < end_of_table f p = ltb-true v.first (end_of_table f p) met.1 in
      dite (dec_le at p.base)
      (λ le. inr (among_passes (table_in f at (v.first + v.count)) v.tables p m (and_from _ _ met.0 (lt-ltb at (end_of_table f p) (let w = own.a_position.aligned in beyond p le)))))
      (λ gt. inl (among_passes (table_in f v.first at) v.tables p m (and_from _ _ (lt-ltb p.base at (omega arith)) met.1)))
    where
      beyond : (p : Position) → at ≤ p.base → at < end_of_table f p
      beyond p le = let some_page = pow_pos (f.index * (p.level + 1)) in omega arith

  tables : (p : Position) → nat_lt 0 (total (has_table p) views') ≡ nat_lt 0 (total (has_table p) views)
  tables p =
      let s = total_set (has_table p) views id v a here in
      let t = total_snoc (has_table p) (set views id a) b in
      let most : places p v.tables ≤ total (has_table p) views = total_at (has_table p) views id v here in
      some_alike (total (has_table p) views') (total (has_table p) views)
      (λ some_one. dite (dec_le 1 (places p v.tables)) (λ le. omega arith)
      (λ gt. let x : places p a.tables ≡ 0 = nothing (table_in f v.first at) (omega arith) in let y : places p b.tables ≡ 0 = nothing (table_in f at (v.first + v.count)) (omega arith) in omega arith))
      (λ some_one. dite (dec_le 1 (places p v.tables))
      (λ le. ⊎_elim (λ (m : IsAmong a.tables p). let q : 0 < places p a.tables = m in omega arith) (λ (m : IsAmong b.tables p). let q : 0 < places p b.tables = m in omega arith) (table_meets p le))
      (λ gt. omega arith))
    where
      nothing : (t : Position → Bool) → places p v.tables ≡ 0 → places p (filter t v.tables) ≡ 0
      nothing t z = dite (dec_le 1 (places p (filter t v.tables))) (λ le. absurd (let m : 0 < places p v.tables = (among_filtered t v.tables p le).0 in omega arith)) (λ gt. omega arith)

  -- the pieces of each part lie in its pages
  left_inside : (x : Piece) → IsOneOf v.pieces x → IsOwnPiece f v x → nat_lt (first_of f x) at ≡ true → (v.first ≤ x.block.first) × (end_of x.block ≤ v.first + (at - v.first))
  left_inside x member o passes =
      let before : first_of f x < at = ltb-true (first_of f x) at passes in
      let span = and_parts (nat_le v.first x.block.first) (nat_le (end_of x.block) (v.first + v.count)) o.in_span in
      let e = to_at in
      (leb-true v.first x.block.first span.0, ⊎_elim (λ (le : end_of x.block ≤ at). (let q : end_of x.block ≤ v.first + (at - v.first) = omega arith in q)) (λ (ge : at ≤ x.block.first). absurd (omega arith)) (may.cuts_none x member))

  right_inside : (x : Piece) → IsOneOf v.pieces x → IsOwnPiece f v x → not (nat_lt (first_of f x) at) ≡ true → (at ≤ x.block.first) × (end_of x.block ≤ at + (v.first + v.count - at))
  right_inside x member o passes =
      let after : at ≤ first_of f x = dite (dec_le at (first_of f x)) (λ le. le) (λ gt. absurd (false≢true (sym (ap not (lt-ltb (first_of f x) at (omega arith))) ∙ passes))) in
      let span = and_parts (nat_le v.first x.block.first) (nat_le (end_of x.block) (v.first + v.count)) o.in_span in
      let top : end_of x.block ≤ v.first + v.count = leb-true (end_of x.block) (v.first + v.count) span.1 in
      let e = to_end in
      let last = ends_in_block f good v x o in
      let some_page : 0 < pages_of_entry f (level_of f x) = pow_pos (f.index * level_of f x) in
      (⊎_elim (λ (le : end_of x.block ≤ at). absurd (omega arith)) (λ (ge : at ≤ x.block.first). ge) (may.cuts_none x member), omega arith)

  left_book : HasBook f a
  left_book = book_same f (half f v book v.first (at - v.first) (λ x. nat_lt (first_of f x) at) left_inside) a (record { frames = refl; levels = refl; first = refl; count = refl })
      (record { pieces = refl; tables = ap (λ (z : ℕ). filter (table_in f v.first z) v.tables) (sym to_at); top = refl })
      (half_book f v book v.first (at - v.first) (λ x. nat_lt (first_of f x) at) left_inside)

  right_book : HasBook f b
  right_book = book_same f (half f v book at (v.first + v.count - at) (λ x. not (nat_lt (first_of f x) at)) right_inside) b (record { frames = refl; levels = refl; first = refl; count = refl })
      (record { pieces = refl; tables = ap (λ (z : ℕ). filter (table_in f at z) v.tables) (sym to_end); top = refl })
      (half_book f v book at (v.first + v.count - at) (λ x. not (nat_lt (first_of f x) at)) right_inside)

  chain : Chained words v.end (take kept v.purse ++ drop kept v.purse)
  chain = subst (Chained words v.end) (sym (take-append-drop kept v.purse)) (r.purses.chained id v here)

  next_end : (xs : List ℕ) → ((x : ℕ) → IsIn xs x → IsIn v.purse x) → IsEnd n (first_or v.end xs)
  next_end [] h = r.purses.ends id v here
  next_end (x ∷ xs) h = purse_within f n words views id v x r.frames here (h x (in_here x xs))

  known_part : (lo hi : ℕ) (w : View) → w.levels ≡ v.levels → w.first ≡ lo → w.first + w.count ≡ hi → w.known ≡ filter (is_near f v.levels lo hi) v.known → (p : Position) → IsAmong w.known p →
      IsTrue (is_in_tree l words views p) × (IsTrue (is_spine w.levels p) ⊎ IsTrue (meets_span w p.base (end_of_table f p)))
  known_part lo hi w levels first last known p m =
      let k = among_filtered (is_near f v.levels lo hi) v.known p (subst (λ (ps : List Position). IsAmong ps p) known m) in (
        (r.known id v here p k.0).0,
        ⊎_elim (λ (s : is_spine v.levels p ≡ true). inl (subst (λ (z : ℕ). IsTrue (is_spine z p)) (sym levels) s))
            (λ (t : table_in f lo hi p ≡ true). inr (subst (λ (z : ℕ × ℕ). IsTrue (nat_lt p.base z.0 && nat_lt z.1 (end_of_table f p))) (λ i. (sym last i, sym first i)) t))
            (or_cases (is_spine v.levels p) (table_in f lo hi p) k.1),
      )

  part_small : (w : View) → w.busy ≡ [] → (h : ℕ) → IsIn w.busy h → ⊥
  part_small w e h m = let q : 0 < times h [] = subst (λ (xs : List ℕ). IsIn xs h) e m in omega arith

  regroups : Regrouped f n l words views views'
  regroups = record {
    pages = λ page. two_totals (covers page) views id v a b here (pages page);
    held = λ g. two_totals (holds g) views id v a b here (held g);
    prepared = λ g. two_totals (prepares g) views id v a b here (prepared g);
    bridge = λ h i. two_totals (has_bridge f h i) views id v a b here (bridge h i);
    pieces = λ i p. two_totals (has_piece f p i) views id v a b here (pieces_sum f p i (λ x. nat_lt (first_of f x) at) v.pieces);
    entries = λ i p. two_totals (has_word f p i) views id v a b here (words_sum f p i (λ x. nat_lt (first_of f x) at) v.pieces);
    tables = tables;
    at = each (λ u. IsPreparedAt words u.prepared) r.frames.at (r.frames.at id v here) (r.frames.at id v here);
    bridged = each (λ u. IsBridged f n words views u.levels u.prepared) r.frames.bridges (r.frames.bridges id v here) (r.frames.bridges id v here);
    greatest = each (λ u. u.top ≤ root_level words) r.root.greatest (r.root.greatest id v here) (r.root.greatest id v here);
    reached = reached_now r.root.reached;
    homes = each (λ u. AllByRecursion (λ x. IsTrue (is_in_tree l words views (table_of f x))) u.pieces) r.entries.homes
        (all_sub (λ x. nat_lt (first_of f x) at) (λ x. IsTrue (is_in_tree l words views (table_of f x))) v.pieces (r.entries.homes id v here))
        (all_sub (λ x. not (nat_lt (first_of f x) at)) (λ x. IsTrue (is_in_tree l words views (table_of f x))) v.pieces (r.entries.homes id v here));
    books = each (λ u. 0 < u.count → HasBook f u) r.books (λ _. left_book) (λ _. right_book);
    paths = each (HasPath f n words views) r.paths (record { nodes = tt; begins = tt; descends = tt }) (record { nodes = tt; begins = tt; descends = tt });
    purses = record {
      chained = each (λ u. Chained words u.end u.purse) r.purses.chained (chained_front words v.end (take kept v.purse) (drop kept v.purse) chain) (chained_back words v.end (take kept v.purse) (drop kept v.purse) chain);
      ends = each (λ u. IsEnd n u.end) r.purses.ends (seam_end n (take kept v.purse) (first_or v.end (drop kept v.purse)) (next_end (drop kept v.purse) (λ x m. let e = held x in let q : 0 < times x (drop kept v.purse) = m in omega arith))) (r.purses.ends id v here);
    };
    live = each (λ u. 0 < u.count → (u.frames ≡ n) × (u.levels ≡ l)) r.sizes.live (λ _. r.sizes.live id v here live) (λ _. r.sizes.live id v here live);
    dead = each (λ u. u.count ≡ 0 → u ≡ spent) r.sizes.dead (λ z. absurd (let x = low in omega arith)) (λ z. absurd (let x = high in omega arith));
    busy = each (λ u. u.count ≡ input_pages f → (h : ℕ) → h < n → IsIn u.busy h → tag words h ≢ 0) r.busy (λ whole h lt m. absurd (part_small a refl h m)) (λ whole h lt m. absurd (part_small b refl h m));
    known = each (λ u. (p : Position) → IsAmong u.known p → IsTrue (is_in_tree l words views p) × (IsTrue (is_spine u.levels p) ⊎ IsTrue (meets_span u p.base (end_of_table f p)))) r.known
        (known_part v.first at a refl refl to_at refl) (known_part at (v.first + v.count) b refl refl to_end refl);
  }
    where
      reached_now : ((j : ℕ) × (u : View) × (get_elem? views j ≡ some u) × (0 < u.count) × (u.top ≡ root_level words)) → (j : ℕ) × (u : View) × (get_elem? views' j ≡ some u) × (0 < u.count) × (u.top ≡ root_level words)
      reached_now (j, u, there, some_page, is) = dite (ℕ_discrete j id)
          (λ e. let same : u ≡ v = some-injective u v (sym there ∙ ap (get_elem? views) e ∙ here) in
          (id, a, at_longer (set views id a) (b ∷ []) id a (set_here views id a (at_inside views id v here)), (let x = low in omega arith), ap (λ (z : View). z.top) (sym same) ∙ is))
          (λ ne. (j, u, at_longer (set views id a) (b ∷ []) j u (set_else views id j a ne ∙ there), some_page, is))

  pub splits : Lawful f n l words (slice_set views id a ++ b ∷ [])
  splits = regrouped f n l words views views' r regroups
