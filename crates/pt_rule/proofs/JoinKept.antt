-- A join keeps the rule.
use Rattle.std.proofs.Common.{◌≡◌, ◌≢◌, ◌⊎◌, inl, inr, ℕ, ◌+◌, ◌-◌, ◌*◌, ◌<◌, ◌≤◌, List, [], ◌∷◌, ◌++◌, set, refl, sym, ap, ◌∙◌, subst, arith, ⊎_elim, pow_mono}
use Rattle.std.proofs.Math.Nat.{le-max_left, le-max_right, max-le, max-eq_left, max-eq_right}
use Rattle.std.specs.Prelude.{IsTrue, None, Option, max, nat_le, nat_lt, slice_set}
use Rattle.std.specs.List.{AllByRecursion}
use Rattle.std.proofs.lemmas.Bool.{and_parts, and_from, lt-ltb, le-leb, ltb-true, leb-true}
use Rattle.std.proofs.lemmas.Nat.{mul-le}
use mathlib.Core.Option.{some, some-injective}
use mathlib.Core.Logic.{dite}
use native.Mathlib.Decide.{ℕ_discrete, dec_le}
use lib.ListN.{get_elem?}
use Rattle.atomic_table.proofs.Lists.{set_else, set_here}
use Rattle.pt_model.proofs.Positions.{adds_cases, adds_kept, adds_new, all_adds, among_append, sorted_adds}
use Rattle.pt_view.proofs.Members.{all_append, all_map, times_append}
use Rattle.pt_view.proofs.Pieces.{pieces_append}
use Rattle.pt_model.specs.declared.position.Position.{Position}
use Rattle.pt_model.specs.Layout.{Layout, end_of, input_pages, pages_of_table}
use Rattle.pt_model.specs.Tables.{end_of_table, is_spine, needed}
use Rattle.pt_model.specs.Words.{root_level, tag}
use Rattle.pt_format.specs.Laws.{IsLayout}
use Rattle.pt_view.specs.declared.view.View.{View}
use Rattle.pt_view.specs.declared.view.Piece.{Piece}
use Rattle.pt_view.specs.declared.view.Prepared.{Prepared}
use Rattle.pt_model.specs.Sets.{IsAmong, one_if, places}
use Rattle.pt_view.specs.Lists.{IsIn, times}
use Rattle.pt_view.specs.Pieces.{first_of, table_of, word_of}
use Rattle.pt_view.specs.Views.{spent}
use Rattle.pt_view.specs.Calls.{meets_span, pieces_at}
use Rattle.pt_rule.specs.Totals.{Each, total, covers, holds, prepares, has_bridge, has_piece, has_table, has_word, bridge_in, is_prepared, words_at}
use Rattle.pt_rule.specs.Tags.{Chained, IsEnd, first_or}
use Rattle.pt_rule.specs.Linked.{is_in_tree}
use Rattle.pt_rule.specs.Lawful.{HasBook, HasPath, IsBridged, IsOwnPiece, IsOwnTable, IsPreparedAt, Lawful, PiecesInOrder}
use Rattle.pt_rule.specs.Kinds.{retrace}
use Rattle.pt_rule.proofs.TotalsKept.{at_inside, each_set, total_at, total_set, total_two}
use Rattle.pt_rule.proofs.PieceFacts.{ends_in_block}
use Rattle.pt_rule.proofs.SpansFacts.{covers_none}
use Rattle.pt_rule.specs.Cuts.{MayJoin, joined, seam_of}
use Rattle.pt_rule.proofs.RegroupedViews.{Regrouped, regrouped}
use Rattle.pt_rule.proofs.CutLists.{covers_by, parts_cover, some_alike}

words_append : (f : Layout) (p : Position) (i : ℕ) (xs ys : List Piece) → words_at f p i (xs ++ ys) ≡ words_at f p i xs + words_at f p i ys
words_append f p i [] ys = omega arith
words_append f p i (x ∷ xs) ys = let r = words_append f p i xs ys in let c : ℕ = pieces_at f p i (x ∷ []) * word_of f x in
    let a : words_at f p i ((x ∷ xs) ++ ys) ≡ c + words_at f p i (xs ++ ys) = refl in let b : words_at f p i (x ∷ xs) ≡ c + words_at f p i xs = refl in omega arith

order_append : (f : Layout) (m : ℕ) (xs ys : List Piece) → PiecesInOrder f xs → PiecesInOrder f ys → AllByRecursion (λ x. first_of f x ≤ m) xs → AllByRecursion (λ y. m ≤ first_of f y) ys → PiecesInOrder f (xs ++ ys)
order_append f m [] ys a b c d = b
order_append f m (x ∷ xs) ys a b c d = (
  all_append (λ y. first_of f x ≤ first_of f y) xs ys a.0 (all_map (λ y. m ≤ first_of f y) (λ y. first_of f x ≤ first_of f y) ys (λ y h. let e = c.0 in omega arith) d),
  order_append f m xs ys a.1 b c.1 d,
)

chained_both : (words : List ℕ) (end : Option ℕ) (xs ys : List ℕ) → Chained words (seam_of xs (first_or end ys)) xs → Chained words end ys → Chained words end (xs ++ ys)
chained_both words end [] ys a b = b
chained_both words end (x ∷ []) ys a b = (a.0, b)
chained_both words end (x ∷ y ∷ xs) ys a b = (a.0, chained_both words end (y ∷ xs) ys a.1 b)

-- the greater of two is one of them
max_is : (a b k : ℕ) → a ≤ k → b ≤ k → (a ≡ k) ⊎ (b ≡ k) → max a b ≡ k
max_is a b k x y (inl e) = max-eq_left (omega arith) ∙ e
max_is a b k x y (inr e) = max-eq_right (omega arith) ∙ e

module _ (f : Layout) (good : IsLayout f) (n l : ℕ) (words : List ℕ) (views : List View) (id other : ℕ) (v w : View) (r : Lawful f n l words views) (here : get_elem? views id ≡ some v) (apart : ¬ (other ≡ id))
    (there' : get_elem? (slice_set views id (joined (retrace [] v) (retrace [] w))) other ≡ some w) (live : 0 < v.count) (live' : 0 < w.count) (may : MayJoin f (retrace [] v) (retrace [] w)) where
  abbrev j : View
  j = joined (retrace [] v) (retrace [] w)

  abbrev views' : List View
  views' = set (set views id j) other spent

  there : get_elem? views other ≡ some w
  there = sym (set_else views id other j apart) ∙ there'

  none : v.prepared ≡ None
  none = may.left_rest.prepared

  none' : w.prepared ≡ None
  none' = may.right_rest.prepared

  next_to : w.first ≡ v.first + v.count
  next_to = may.adjacent

  book : HasBook f v
  book = r.books id v here live

  book' : HasBook f w
  book' = r.books other w there live'

  levels_are : w.levels ≡ v.levels
  levels_are = (r.sizes.live other w there live').1 ∙ sym (r.sizes.live id v here live).1

  both_totals : (c : View → ℕ) → c spent ≡ 0 → c j ≡ c v + c w → total c views' ≡ total c views
  both_totals c z both = let s = total_set c views id v j here in let t = total_set c (set views id j) other w spent there' in omega arith

  each : (P : View → Type 0) → Each views P → P j → P spent → Each views' P
  each P old x y = each_set P P (set views id j) other w spent there' y (λ k u ne e h. h) (each_set P P views id v j here x (λ k u ne e h. h) old)

  pages : (page : ℕ) → covers page j ≡ covers page v + covers page w
  pages page =
      let whole = parts_cover page v.first v.count w.count in
      let right : covers_by page (v.first + v.count) w.count ≡ covers page w = ap (λ (z : ℕ). covers_by page z w.count) (sym next_to) in
      let all : covers_by page v.first (v.count + w.count) ≡ covers page j = refl in
      let left : covers_by page v.first v.count ≡ covers page v = refl in omega arith

  prepared : (g : ℕ) → prepares g j ≡ prepares g v + prepares g w
  prepared g = let z : prepares g v ≡ 0 = ap (λ (o : Option Prepared). one_if (is_prepared g o)) none in let y : prepares g w ≡ 0 = ap (λ (o : Option Prepared). one_if (is_prepared g o)) none' in omega arith

  bridge : (h i : ℕ) → has_bridge f h i j ≡ has_bridge f h i v + has_bridge f h i w
  bridge h i = let z : has_bridge f h i v ≡ 0 = ap (bridge_in f h i) none in let y : has_bridge f h i w ≡ 0 = ap (bridge_in f h i) none' in omega arith

  tables : (p : Position) → nat_lt 0 (total (has_table p) views') ≡ nat_lt 0 (total (has_table p) views)
  tables p =
      let two = total_two (has_table p) (set views id j) id other j w (λ e. apart (sym e)) (set_here views id j (at_inside views id v here)) there' in
      let s = total_set (has_table p) views id v j here in
      let t = total_set (has_table p) (set views id j) other w spent there' in
      let x : places p v.tables ≤ total (has_table p) views = total_at (has_table p) views id v here in
      let y : places p w.tables ≤ total (has_table p) views = total_at (has_table p) views other w there in
      some_alike (total (has_table p) views') (total (has_table p) views)
      (λ some_one. dite (dec_le 1 (total (has_table p) views)) (λ le. omega arith)
      (λ gt. let nothing : places p j.tables ≡ 0 = dite (dec_le 1 (places p j.tables)) (λ le. absurd (⊎_elim (λ (m : IsAmong v.tables p). let q : 0 < places p v.tables = m in omega arith) (λ (m : IsAmong w.tables p). let q : 0 < places p w.tables = m in omega arith) (adds_cases w.tables v.tables p le))) (λ ge. omega arith) in omega arith))
      (λ some_one. dite (dec_le 1 (places p j.tables)) (λ le. let q : places p j.tables + places p w.tables ≤ total (has_table p) (set views id j) = two in omega arith)
      (λ gt. let a : places p v.tables ≡ 0 = dite (dec_le 1 (places p v.tables)) (λ le. absurd (let q : 0 < places p j.tables = adds_kept w.tables v.tables p le in omega arith)) (λ ge. omega arith) in
      let b : places p w.tables ≡ 0 = dite (dec_le 1 (places p w.tables)) (λ le. absurd (let q : 0 < places p j.tables = adds_new w.tables v.tables p le in omega arith)) (λ ge. omega arith) in omega arith))

  -- a piece or a table of one part is one of the whole
  wide : (top : ℕ) → top ≤ max v.top w.top → pages_of_table f top ≤ pages_of_table f (max v.top w.top)
  wide top le = pow_mono (let m = mul-le f.index (top + 1) f.index (max v.top w.top + 1) (omega arith) (omega arith) in m)

  own_piece : (u : View) (x : Piece) → u.levels ≡ v.levels → u.top ≤ max v.top w.top → v.first ≤ u.first → u.first + u.count ≤ v.first + (v.count + w.count) → ((p : Position) → IsAmong u.tables p → IsAmong j.tables p) → IsOwnPiece f u x → IsOwnPiece f j x
  own_piece u x same le low high more o =
      let span = and_parts (nat_le u.first x.block.first) (nat_le (end_of x.block) (u.first + u.count)) o.in_span in
      let a : u.first ≤ x.block.first = leb-true u.first x.block.first span.0 in
      let b : end_of x.block ≤ u.first + u.count = leb-true (end_of x.block) (u.first + u.count) span.1 in
      let m = wide u.top le in
      let under = o.under_top in record {
        a_part = o.a_part;
        legal = o.legal;
        stated = o.stated;
        in_span = and_from _ _ (le-leb v.first x.block.first (omega arith)) (le-leb (end_of x.block) (v.first + (v.count + w.count)) (omega arith));
        under_top = omega arith;
        has_needed = subst (λ (z : ℕ). AllByRecursion (λ p. IsAmong j.tables p ⊎ (IsTrue (is_spine z p) × (p.level ≤ max v.top w.top))) (needed f z x.block)) same
            (all_map (λ p. IsAmong u.tables p ⊎ (IsTrue (is_spine u.levels p) × (p.level ≤ u.top))) (λ p. IsAmong j.tables p ⊎ (IsTrue (is_spine u.levels p) × (p.level ≤ max v.top w.top))) (needed f u.levels x.block)
            (λ p c. ⊎_elim (λ (t : IsAmong u.tables p). inl (more p t)) (λ (t : IsTrue (is_spine u.levels p) × (p.level ≤ u.top)). inr (t.0, let q = t.1 in omega arith)) c) o.has_needed);
      }

  meets_more : (u : View) (p : Position) → v.first ≤ u.first → u.first + u.count ≤ v.first + (v.count + w.count) → IsTrue (meets_span u p.base (end_of_table f p)) → IsTrue (meets_span j p.base (end_of_table f p))
  meets_more u p low high m =
      let met = and_parts (nat_lt p.base (u.first + u.count)) (nat_lt u.first (end_of_table f p)) m in
      let a : p.base < u.first + u.count = ltb-true p.base (u.first + u.count) met.0 in
      let b : u.first < end_of_table f p = ltb-true u.first (end_of_table f p) met.1 in
      and_from _ _ (lt-ltb p.base (v.first + (v.count + w.count)) (omega arith)) (lt-ltb v.first (end_of_table f p) (omega arith))

  own_table : (u : View) (p : Position) → u.levels ≡ v.levels → v.first ≤ u.first → u.first + u.count ≤ v.first + (v.count + w.count) → IsOwnTable f u p → IsOwnTable f j p
  own_table u p same low high o = record { a_position = o.a_position; off_spine = ap (λ (z : ℕ). is_spine z p) (sym same) ∙ o.off_spine; meets = meets_more u p low high o.meets }

  v_low : v.first ≤ v.first
  v_low = omega arith

  v_high : v.first + v.count ≤ v.first + (v.count + w.count)
  v_high = omega arith

  w_low : v.first ≤ w.first
  w_low = let e = next_to in omega arith

  w_high : w.first + w.count ≤ v.first + (v.count + w.count)
  w_high = let e = next_to in omega arith

  joined_book : HasBook f j
  joined_book = record {
    pieces = all_append (IsOwnPiece f j) v.pieces w.pieces
        (all_map (IsOwnPiece f v) (IsOwnPiece f j) v.pieces (λ x o. own_piece v x refl (le-max_left v.top w.top) v_low v_high (λ p m. adds_kept w.tables v.tables p m) o) book.pieces)
        (all_map (IsOwnPiece f w) (IsOwnPiece f j) w.pieces (λ x o. own_piece w x levels_are (le-max_right v.top w.top) w_low w_high (λ p m. adds_new w.tables v.tables p m) o) book'.pieces);
    tables = all_adds (IsOwnTable f j) w.tables v.tables
        (all_map (IsOwnTable f v) (IsOwnTable f j) v.tables (λ p o. own_table v p refl v_low v_high o) book.tables)
        (all_map (IsOwnTable f w) (IsOwnTable f j) w.tables (λ p o. own_table w p levels_are w_low w_high o) book'.tables);
    in_order = sorted_adds w.tables v.tables book.in_order;
    pieces_in_order = order_append f (v.first + v.count) v.pieces w.pieces book.pieces_in_order book'.pieces_in_order
        (all_map (IsOwnPiece f v) (λ x. first_of f x ≤ v.first + v.count) v.pieces
        (λ x o. let span = and_parts (nat_le v.first x.block.first) (nat_le (end_of x.block) (v.first + v.count)) o.in_span in
        let b : end_of x.block ≤ v.first + v.count = leb-true (end_of x.block) (v.first + v.count) span.1 in let q = ends_in_block f good v x o in omega arith) book.pieces)
        (all_map (IsOwnPiece f w) (λ x. v.first + v.count ≤ first_of f x) w.pieces
        (λ x o. let span = and_parts (nat_le w.first x.block.first) (nat_le (end_of x.block) (w.first + w.count)) o.in_span in
        let a : w.first ≤ x.block.first = leb-true w.first x.block.first span.0 in let e = next_to in omega arith) book'.pieces);
    top_low = let a = book.top_low in let b = le-max_left v.top w.top in omega arith;
    top_high = let a = book.top_high in let b = book'.top_high in
        let m : max v.top w.top ≤ f.levels - 1 = max-le (omega arith) (omega arith) in let k = good.start_low in let k' = good.start_high in omega arith;
  }

  greatest : max v.top w.top ≤ root_level words
  greatest = max-le (r.root.greatest id v here) (r.root.greatest other w there)

  no_frames : (xs : List ℕ) → xs ≡ [] → (h : ℕ) → IsIn xs h → ⊥
  no_frames xs e h m = let q : 0 < times h [] = subst (λ (ys : List ℕ). IsIn ys h) e m in omega arith

  regroups : Regrouped f n l words views views'
  regroups = record {
    pages = λ page. both_totals (covers page) (covers_none page spent refl) (pages page);
    held = λ g. both_totals (holds g) refl (times_append g v.purse w.purse);
    prepared = λ g. both_totals (prepares g) refl (prepared g);
    bridge = λ h i. both_totals (has_bridge f h i) refl (bridge h i);
    pieces = λ i p. both_totals (has_piece f p i) refl (pieces_append f p i v.pieces w.pieces);
    entries = λ i p. both_totals (has_word f p i) refl (words_append f p i v.pieces w.pieces);
    tables = tables;
    at = each (λ u. IsPreparedAt words u.prepared) r.frames.at (r.frames.at id v here) tt;
    bridged = each (λ u. IsBridged f n words views u.levels u.prepared) r.frames.bridges (r.frames.bridges id v here) tt;
    greatest = each (λ u. u.top ≤ root_level words) r.root.greatest greatest (let q : 0 ≤ root_level words = omega arith in q);
    reached = reached_now r.root.reached;
    homes = each (λ u. AllByRecursion (λ x. IsTrue (is_in_tree l words views (table_of f x))) u.pieces) r.entries.homes
        (all_append (λ x. IsTrue (is_in_tree l words views (table_of f x))) v.pieces w.pieces (r.entries.homes id v here) (r.entries.homes other w there)) tt;
    books = each (λ u. 0 < u.count → HasBook f u) r.books (λ _. joined_book) (λ q. absurd (omega arith));
    paths = each (HasPath f n words views) r.paths (record { nodes = tt; begins = tt; descends = tt }) (record { nodes = tt; begins = tt; descends = tt });
    purses = record {
      chained = each (λ u. Chained words u.end u.purse) r.purses.chained
          (chained_both words w.end v.purse w.purse (subst (λ (o : Option ℕ). Chained words o v.purse) (may.seam ∙ ap (λ (o : Option ℕ). seam_of v.purse (first_or o w.purse)) (sym may.right_rest.end)) (r.purses.chained id v here)) (r.purses.chained other w there)) tt;
      ends = each (λ u. IsEnd n u.end) r.purses.ends (r.purses.ends other w there) tt;
    };
    live = each (λ u. 0 < u.count → (u.frames ≡ n) × (u.levels ≡ l)) r.sizes.live (λ _. r.sizes.live id v here live) (λ q. absurd (omega arith));
    dead = each (λ u. u.count ≡ 0 → u ≡ spent) r.sizes.dead (λ z. absurd (omega arith)) (λ z. refl);
    busy = each (λ u. u.count ≡ input_pages f → (h : ℕ) → h < n → IsIn u.busy h → tag words h ≢ 0) r.busy (λ whole h lt m. absurd (no_frames [] refl h m)) (λ whole h lt m. absurd (no_frames [] refl h m));
    known = each (λ u. (p : Position) → IsAmong u.known p → IsTrue (is_in_tree l words views p) × (IsTrue (is_spine u.levels p) ⊎ IsTrue (meets_span u p.base (end_of_table f p)))) r.known
        (λ p m. ⊎_elim
        (λ (a : IsAmong v.known p). let k = r.known id v here p a in (k.0, ⊎_elim (λ (s : IsTrue (is_spine v.levels p)). inl s) (λ (t : IsTrue (meets_span v p.base (end_of_table f p))). inr (meets_more v p v_low v_high t)) k.1))
        (λ (a : IsAmong w.known p). let k = r.known other w there p a in (k.0, ⊎_elim (λ (s : IsTrue (is_spine w.levels p)). inl (subst (λ (z : ℕ). IsTrue (is_spine z p)) levels_are s)) (λ (t : IsTrue (meets_span w p.base (end_of_table f p))). inr (meets_more w p w_low w_high t)) k.1))
        (among_append p v.known w.known m))
        (λ p m. absurd (let q : 0 < places p [] = m in omega arith));
  }
    where
      mine : max v.top w.top ≡ root_level words → (k : ℕ) × (u : View) × (get_elem? views' k ≡ some u) × (0 < u.count) × (u.top ≡ root_level words)
      mine is = (id, j, set_else (set views id j) other id spent (λ e. apart (sym e)) ∙ set_here views id j (at_inside views id v here), omega arith, is)

      reached_now : ((k : ℕ) × (u : View) × (get_elem? views k ≡ some u) × (0 < u.count) × (u.top ≡ root_level words)) → (k : ℕ) × (u : View) × (get_elem? views' k ≡ some u) × (0 < u.count) × (u.top ≡ root_level words)
      reached_now (k, u, at, some_page, is) = dite (ℕ_discrete k id)
          (λ e. let same : u ≡ v = some-injective u v (sym at ∙ ap (get_elem? views) e ∙ here) in mine (max_is v.top w.top (root_level words) (r.root.greatest id v here) (r.root.greatest other w there) (inl (ap (λ (z : View). z.top) (sym same) ∙ is))))
          (λ ne. dite (ℕ_discrete k other)
          (λ e. let same : u ≡ w = some-injective u w (sym at ∙ ap (get_elem? views) e ∙ there) in mine (max_is v.top w.top (root_level words) (r.root.greatest id v here) (r.root.greatest other w there) (inr (ap (λ (z : View). z.top) (sym same) ∙ is))))
          (λ ne'. (k, u, set_else (set views id j) other k spent ne' ∙ set_else views id k j ne ∙ at, some_page, is)))

  pub joins : Lawful f n l words (slice_set (slice_set views id j) other spent)
  joins = regrouped f n l words views views' r regroups
