-- The pieces that go: the one of a leaf, and those of a run of pages.
use Rattle.std.proofs.Common.{◌≡◌, ℕ, zero, suc, ◌+◌, ◌-◌, ◌*◌, ◌/◌, ◌^◌, ◌<◌, ◌≤◌, Bool, true, false, List, [], ◌∷◌, ◌++◌, length, inl, inr, refl, ap, sym, subst, ◌∙◌, arith}
use Rattle.std.specs.Prelude.{◌&&◌, ◌||◌, ◌==◌, not, filter, map, nat_le}
use Rattle.std.proofs.lemmas.Bool.{and_from, cases_Bool, false_from_ne_true, false≢true, le-leb}
use Rattle.std.proofs.lemmas.Nat.{shr_split, pow_pos, mod_below}
use Rattle.std.proofs.Math.Pow.{pow_mono}
use mathlib.Core.Logic.{dite}
use native.Mathlib.Decide.{ℕ_discrete}
use Rattle.pt_model.specs.declared.position.Position.{Position}
use Rattle.pt_model.specs.Layout.{Layout, pages_of_entry, pages_of_table}
use Rattle.pt_model.specs.Tables.{is_same, position_over}
use Rattle.pt_model.proofs.Positions.{bit_le, filter_members}
use Rattle.pt_model.proofs.Quotients.{over_from}
use Rattle.pt_format.specs.Laws.{IsLayout}
use Rattle.pt_view.specs.declared.view.View.{View}
use Rattle.pt_view.specs.declared.view.Piece.{Piece}
use Rattle.pt_view.specs.declared.view.Change.{Change}
use Rattle.pt_view.specs.declared.view.Change.TheVariants.{Cleared}
use Rattle.pt_view.specs.declared.holder.Seen.{Seen}
use Rattle.pt_view.specs.declared.holder.Seen.TheVariants.{Leaf}
use Rattle.pt_view.specs.Pieces.{IsOneOf, IsUnderPiece, entry_number, first_of, level_of, number_of, table_of}
use Rattle.pt_view.specs.Loads.{IsOver}
use Rattle.pt_view.specs.Calls.{IsCleared, MayClear, MayDrop, drop_at, entry_end, entry_first, lowest, pieces_at}
use Rattle.pt_view.specs.Runs.{IsClearedRun, MayClearRun, keep_run, stands_outside}
use Rattle.pt_view.proofs.Entries.{at_entry, from_first, number_within, to_end}
use Rattle.pt_view.proofs.Loads.{IsLoad, absences_here, absences_on, leaf_loads, load_leaf}
use Rattle.pt_view.proofs.Pieces.{first_whole, has_page_here, stands_here}
use Rattle.pt_view.proofs.Stays.{range_on}
use Rattle.pt_walk.specs.Walks.{IsOverRange}
use Rattle.pt_walk.proofs.Descent.{leaf_none, own_piece}
use Rattle.pt_walk.proofs.Ranges.{load_at}
use Rattle.pt_sweep.specs.Empties.{lies_below}
use Rattle.pt_sweep.specs.Sweeps.{MaySweepBelow, SweepsBelow, begins_in, end_of_piece, pages_under}
use Rattle.pt_sweep.proofs.Apart.{begins_either, begins_is, begins_not, begins_tells, filter_same, filtered_one, only_one, piece_long, split}
use Rattle.pt_sweep.proofs.GoneTables.{below_none, frees_none}
use Rattle.pt_sweep.proofs.SweptTables.{under}

-- at an entry one piece stands, or none
at_most_one : (f : Layout) (p : Position) (i : ℕ) (x : Piece) → pieces_at f p i (x ∷ []) ≤ 1
at_most_one f p i x = let h = bit_le (is_same p (table_of f x) && (number_of f x == i)) in omega arith

-- a test of what stands at an entry, by what begins in its pages
stands_test : (f : Layout) (p : Position) (i a b : ℕ) (x : Piece) → (pieces_at f p i (x ∷ []) ≡ 1 → begins_in f a b x ≡ true) → (begins_in f a b x ≡ true → pieces_at f p i (x ∷ []) ≡ 1) →
    ((pieces_at f p i (x ∷ []) == 0) ≡ not (begins_in f a b x)) × ((pieces_at f p i (x ∷ []) == 1) ≡ begins_in f a b x)
stands_test f p i a b x to from = elim (cases_Bool (begins_in f a b x)) [
  | inl e ↦ (let one = from e in (ap (λ k. k == 0) one ∙ sym (ap not e), ap (λ k. k == 1) one ∙ sym e))
  | inr e ↦ (
      let few = at_most_one f p i x in
      let none : pieces_at f p i (x ∷ []) ≡ 0 = dite (ℕ_discrete (pieces_at f p i (x ∷ [])) 1) (λ one. absurd (false≢true (sym e ∙ to one))) (λ ne. omega arith) in
      (ap (λ k. k == 0) none ∙ sym (ap not e), ap (λ k. k == 1) none ∙ sym e))
]

-- The entry over a range is the word of a block.
module _ {f : Layout} (good : IsLayout f) {tells alone : Type 0} {v : View} {first end level levels : ℕ} (r : IsOverRange f v first end level)
    (one : end ≤ (first / pages_of_entry f level + 1) * pages_of_entry f level) (may : MaySweepBelow f v first end levels level) {seen : Seen} {w : View} (l : IsLoad f tells alone v first level seen w)
    {word : ℕ} (e : seen ≡ Leaf word) where
  abbrev place : Position
  place = position_over f first level

  abbrev number : ℕ
  number = entry_number f level first

  -- a piece that has the first page lies in the range
  begins_here : (y : Piece) → IsOneOf v.pieces y → IsUnderPiece f y first → (first_of f y ≡ first) × (end_of_piece f y ≤ end)
  begins_here y m has =
      let low = has.0 in let high = has.1 in let some = r.some in
      elim (may.may.uncut y m) [
        | inl before ↦ absurd (omega arith)
        | inr other ↦ elim other [
          | inl behind ↦ absurd (omega arith)
          | inr inside ↦ (let a = inside.0 in omega arith, inside.1)
        ]
      ]

  abbrev leaf_piece : Piece
  leaf_piece = (load_leaf l e).piece

  member : IsOneOf v.pieces leaf_piece
  member = (load_leaf l e).member

  leaf_here : (level ≡ level_of f leaf_piece) × IsUnderPiece f leaf_piece first
  leaf_here = has_page_here good (own_piece (may.may.owns leaf_piece member)) first level (load_leaf l e).here

  size : pages_of_entry f level ≡ pages_of_entry f (level_of f leaf_piece)
  size = ap (pages_of_entry f) leaf_here.0

  whole : end ≡ first + pages_of_entry f level
  whole =
      let h = begins_here leaf_piece member leaf_here.1 in
      let at = h.0 in let to = h.1 in
      let s = shr_split first (f.index * level) in
      let w : first_of f leaf_piece ≡ first_of f leaf_piece / pages_of_entry f (level_of f leaf_piece) * pages_of_entry f (level_of f leaf_piece) =
      first_whole good (own_piece (may.may.owns leaf_piece member)) in
      let g : first_of f leaf_piece / pages_of_entry f (level_of f leaf_piece) * pages_of_entry f (level_of f leaf_piece) ≡ first / pages_of_entry f level * pages_of_entry f level =
      (let back = sym size in λ i. at i / back i * back i) in
      let k = size in omega arith

  stands_to : (y : Piece) → IsOneOf v.pieces y → pieces_at f place number (y ∷ []) ≡ 1 → begins_in f first end y ≡ true
  stands_to y m at =
      let h = has_page_here good (own_piece (may.may.owns y m)) first level at in
      let b = (begins_here y m h.1).0 in let some = r.some in begins_is f first end y (omega arith) (omega arith)

  stands_from : (y : Piece) → IsOneOf v.pieces y → begins_in f first end y ≡ true → (pieces_at f place number (y ∷ []) ≡ 1) × (first_of f y ≡ first)
  stands_from y m begins =
      let t = begins_tells f first end y begins in
      let low = t.0 in let high = t.1 in
      let long = piece_long f y in
      let has : IsUnderPiece f y (first_of f y) = (omega arith, omega arith) in
      let below = may.clear (first_of f y) low high y m has in
      dite (ℕ_discrete (level_of f y) level)
      (λ same.
      let wide : pages_of_entry f (level_of f y) ≡ pages_of_entry f level = ap (pages_of_entry f) same in
      let at : first_of f y ≡ first = (let w = whole in elim (may.may.uncut y m) [
        | inl before ↦ absurd (omega arith)
        | inr other ↦ elim other [ inl behind ↦ absurd (omega arith) | inr inside ↦ (let to = inside.1 in omega arith) ]
      ]) in
      (stands_here good (own_piece (may.may.owns y m)) {page = first} (omega arith, omega arith) level same, at))
      (λ other. absurd (leaf_none good may.may.owns (load_at good r one l (first_of f y) low high) e y m has (omega arith)))

  test : (y : Piece) → IsOneOf v.pieces y → (pieces_at f place number (y ∷ []) == 0) ≡ not (begins_in f first end y)
  test y m = (stands_test f place number first end y (stands_to y m) (λ b. (stands_from y m b).0)).0

  only : filter (begins_in f first end) v.pieces ≡ leaf_piece ∷ []
  only =
      let at = (begins_here leaf_piece member leaf_here.1).0 in let some = r.some in
      only_one f first end 0 v.pieces leaf_piece may.may.apart member (begins_is f first end leaf_piece (omega arith) (omega arith)) (λ y m b. (stands_from y m b).1 ∙ sym at)

  over_w : IsOver f w first level
  over_w = record { frame = r.over.frame; is = ap lowest (load_leaf l e).path ∙ r.over.is }

  may_drop : MayDrop f w number leaf_piece
  may_drop = record {
    position = place;
    entry = at_entry over_w;
    member = subst (λ (xs : List Piece). IsOneOf xs leaf_piece) (sym (leaf_loads l e).book.pieces) member;
    here = (load_leaf l e).here;
  }

  pub may_clear : (n : ℕ) → n ≡ number → MayClear f w n
  may_clear n is = subst (MayClear f w) (sym is) (leaf_piece, may_drop)

  pub leaf_clears : {n : ℕ} {y : View} → n ≡ number → IsCleared f tells n w y → SweepsBelow f tells alone first end level v y (end - first)
  leaf_clears {n} {y} is cleared =
      let c : IsCleared f tells number w y = subst (λ (k : ℕ). IsCleared f tells k w y) is cleared in
      let k = leaf_loads l e in
      let h = load_leaf l e in
      record {
        range = range_on k.range c.range;
        pieces = c.pieces place (at_entry over_w) ∙ ap (drop_at f place number) k.book.pieces
            ∙ filter_same (λ x. pieces_at f place number (x ∷ []) == 0) (λ x. not (begins_in f first end x)) v.pieces test;
        top = c.top ∙ k.book.top;
        tables = c.tables ∙ k.book.tables ∙ sym (filter_members (λ q. not (lies_below f first end level q)) v.tables (λ q m. ap not
            (false_from_ne_true (lies_below f first end level q) (λ lies. false≢true (sym (h.none_under.no_table q m) ∙ under good r one may l q lies)))));
        path = c.path ∙ h.path;
        prepared = c.prepared ∙ k.prepared;
        end = c.purse.end ∙ k.purse.end;
        busy = λ x. ((λ i. (k.busy x).0 ((c.busy x).0 i)), (λ i. (c.busy x).1 ((k.busy x).1 i)));
        known = λ q i none. (c.known q).1 (k.known q i);
        purse = ([], c.purse.purse ∙ k.purse.purse);
        frees = frees_none (ap length (c.purse.purse ∙ k.purse.purse)) (ap length (c.tables ∙ k.book.tables));
        taken = λ t. (c.told t).0 ∙ k.taken t;
        stores = λ t. c.stores t leaf_piece may_drop ∙ ap (λ (xs : List Change). xs ++ Cleared leaf_piece ∷ []) (k.stores t)
            ∙ ap (λ (xs : List Piece). v.stores ++ map Cleared xs) (sym only);
        absent = λ t. absences_on (k.absent t) (absences_here (c.told t).1);
        pages = let w = whole in let s = size in let p = ap (pages_under f) only in omega arith;
      }

-- A run of pages in a table of level 0.
module _ {f : Layout} (good : IsLayout f) {v : View} {first end levels : ℕ} (r : IsOverRange f v first end 0) (may : MaySweepBelow f v first end levels 0) where
  abbrev run_place : Position
  run_place = position_over f first 0

  abbrev run_number : ℕ
  run_number = entry_number f 0 first

  one_page : pages_of_entry f 0 ≡ 1
  one_page = let z : f.index * 0 ≡ 0 = omega arith in ap (λ k. 2 ^ k) z

  entry_begins : (page : ℕ) → entry_first f (position_over f page 0) (entry_number f 0 page) ≡ page
  entry_begins page = let a = from_first f page 0 in let b = to_end f page 0 in let o = one_page in omega arith

  first_number : (p : Position) (n : ℕ) → p.level ≡ 0 → entry_first f p n ≡ p.base + n
  first_number p n low =
      let o : pages_of_entry f p.level ≡ 1 = ap (pages_of_entry f) low ∙ one_page in
      let g : n * pages_of_entry f p.level ≡ n * 1 = ap (λ k. n * k) o in omega arith

  module _ (i : ℕ) (within : first + i < end) where
    same_place : position_over f (first + i) 0 ≡ run_place
    same_place = over_from f first (first + i) 0 (omega arith) (let u = r.under in omega arith)

    next_number : entry_number f 0 (first + i) ≡ run_number + i
    next_number =
        let a = entry_begins (first + i) in
        let b = entry_begins first in
        let c = first_number (position_over f (first + i) 0) (entry_number f 0 (first + i)) refl in
        let d = first_number run_place run_number refl in
        let s = ap (λ (p : Position). p.base) same_place in omega arith

    run_first : entry_first f run_place (run_number + i) ≡ first + i
    run_first = let a = first_number run_place (run_number + i) refl in let b = entry_begins first in let d = first_number run_place run_number refl in omega arith

    run_stands : (x : Piece) → IsOneOf v.pieces x →
        ((pieces_at f run_place (run_number + i) (x ∷ []) == 0) ≡ not (begins_in f (first + i) (first + suc i) x)) × ((pieces_at f run_place (run_number + i) (x ∷ []) == 1) ≡ begins_in f (first + i) (first + suc i) x)
    run_stands x m = stands_test f run_place (run_number + i) (first + i) (first + suc i) x to from
      where
        to : pieces_at f run_place (run_number + i) (x ∷ []) ≡ 1 → begins_in f (first + i) (first + suc i) x ≡ true
        to at =
            let h = has_page_here good (own_piece (may.may.owns x m)) (first + i) 0 ((λ k. pieces_at f (same_place k) (next_number k) (x ∷ [])) ∙ at) in
            let o : pages_of_entry f (level_of f x) ≡ 1 = ap (pages_of_entry f) (sym h.0) ∙ one_page in
            let low = h.1.0 in let high = h.1.1 in
            begins_is f (first + i) (first + suc i) x (omega arith) (omega arith)

        from : begins_in f (first + i) (first + suc i) x ≡ true → pieces_at f run_place (run_number + i) (x ∷ []) ≡ 1
        from b =
            let t = begins_tells f (first + i) (first + suc i) x b in
            let low = t.0 in let high = t.1 in
            let long = piece_long f x in
            let is : first_of f x ≡ first + i = omega arith in
            let has : IsUnderPiece f x (first + i) = (omega arith, omega arith) in
            let below = may.clear (first + i) (omega arith) within x m has in
            sym (λ k. pieces_at f (same_place k) (next_number k) (x ∷ [])) ∙ stands_here good (own_piece (may.may.owns x m)) has 0 (omega arith)

  run_outside : (k : ℕ) → first + k ≤ end → (x : Piece) → IsOneOf v.pieces x → stands_outside f run_place run_number k x ≡ not (begins_in f first (first + k) x)
  run_outside zero few x m = sym (ap not (begins_not f first (first + zero) x (λ l h. omega arith)))
  run_outside (suc k) few x m =
      (λ i. run_outside k (omega arith) x m i && (run_stands k (omega arith) x m).0 i)
      ∙ both (begins_in f first (first + k) x) (begins_in f (first + k) (first + suc k) x)
      ∙ ap not (sym (begins_either f first (first + k) (first + suc k) x (omega arith) (omega arith)))
    where
      both : (a b : Bool) → (not a && not b) ≡ not (a || b)
      both true b = refl
      both false b = refl

  run_keeps : (k : ℕ) → first + k ≤ end → keep_run f run_place run_number k v.pieces ≡ filter (begins_in f first (first + k)) v.pieces
  run_keeps zero few = sym (filter_nothing v.pieces)
    where
      filter_nothing : (xs : List Piece) → filter (begins_in f first (first + zero)) xs ≡ []
      filter_nothing [] = refl
      filter_nothing (x ∷ xs) = (λ i. filter_out_head x xs i) ∙ filter_nothing xs
        where
          filter_out_head : (x : Piece) (xs : List Piece) → filter (begins_in f first (first + zero)) (x ∷ xs) ≡ filter (begins_in f first (first + zero)) xs
          filter_out_head x xs = rw (begins_not f first (first + zero) x (λ l h. omega arith)) refl
  run_keeps (suc k) few =
      (λ i. run_keeps k (omega arith) i ++ filter_same (λ x. pieces_at f run_place (run_number + k) (x ∷ []) == 1) (begins_in f (first + k) (first + suc k)) v.pieces (λ x m. (run_stands k (omega arith) x m).1) i)
      ∙ sym (split f first (first + k) (first + suc k) 0 v.pieces (omega arith) (omega arith) may.may.apart)

  abbrev pub many : ℕ
  many = end - first

  to_last : first + many ≡ end
  to_last = let s = r.some in let z : first + (end - first) ≡ end = omega arith in z

  pub run_few : many < 2 ^ 32
  run_few =
      let u = r.under in
      let t = shr_split first (f.index * (0 + 1)) in
      let m = mod_below first (pages_of_table f 0) (pow_pos (f.index * (0 + 1))) in
      let bits : f.index * (0 + 1) ≤ 13 = omega (arith, good.index_is, good.granule_high) in
      let small : pages_of_table f 0 ≤ 2 ^ 13 = pow_mono bits in omega arith

  may_run : MayClearRun f v run_number many
  may_run = record {
    some = let s = r.some in let z : 0 < end - first = omega arith in z;
    position = run_place;
    low = refl;
    entry = λ i few. record {
      node = record { frame = r.over.frame; position = run_place };
      is_lowest = r.over.is;
      at = refl;
      within = let n = next_number i (let t = to_last in omega arith) in let w = number_within f (first + i) 0 in omega arith;
    };
    inside = λ i few.
        let t = to_last in
        let is = run_first i (omega arith) in let o = one_page in let from = r.from in let to = r.to in
        and_from (nat_le v.first (entry_first f run_place (run_number + i))) _ (le-leb v.first (entry_first f run_place (run_number + i)) (omega arith))
        (le-leb (entry_end f run_place (run_number + i)) (v.first + v.count) (omega arith));
  }

  pub may_run_at : (n c : ℕ) → n ≡ run_number → c ≡ end - first → MayClearRun f v n c
  may_run_at n c is few = subst (λ (k : ℕ). MayClearRun f v k c) (sym is) (subst (MayClearRun f v run_number) (sym few) may_run)

  -- the pages under pieces of level 0 are as many as they
  all_low : (xs : List Piece) → ((x : Piece) → IsOneOf xs x → level_of f x ≡ 0) → pages_under f xs ≡ length xs
  all_low [] low = refl
  all_low (x ∷ xs) low =
      let rest = all_low xs (λ y m. low y (inr m)) in
      let o : pages_of_entry f (level_of f x) ≡ 1 = ap (pages_of_entry f) (low x (inl refl)) ∙ one_page in omega arith

  pub run_clears : {tells alone : Type 0} {n c cleared : ℕ} {y : View} → n ≡ run_number → c ≡ end - first → IsClearedRun f tells n c v cleared y → SweepsBelow f tells alone first end 0 v y cleared
  run_clears {tells} {alone} {n} {c} {cleared} {y} is few ran =
      let c' : IsClearedRun f tells run_number many v cleared y =
      subst (λ (k : ℕ). IsClearedRun f tells run_number k v cleared y) few (subst (λ (k : ℕ). IsClearedRun f tells k c v cleared y) is ran) in
      let here = at_entry r.over in
      let keeps : keep_run f run_place run_number many v.pieces ≡ filter (begins_in f first end) v.pieces =
      run_keeps many (let t = to_last in omega arith) ∙ ap (λ k. filter (begins_in f first k) v.pieces) to_last in
      record {
        range = c'.range;
        pieces = c'.pieces run_place here
            ∙ filter_same (stands_outside f run_place run_number many) (λ x. not (begins_in f first end x)) v.pieces
            (λ x m. run_outside many (let t = to_last in omega arith) x m ∙ ap (λ k. not (begins_in f first k x)) to_last);
        top = c'.top;
        tables = c'.tables ∙ sym (filter_members (λ q. not (lies_below f first end 0 q)) v.tables (λ q m. ap not (below_none f first end 0 q (λ a b d. omega arith))));
        path = c'.path;
        prepared = c'.prepared;
        end = c'.purse.end;
        busy = c'.busy;
        known = λ q i none. (c'.known q).1 i;
        purse = ([], c'.purse.purse);
        frees = frees_none (ap length c'.purse.purse) (ap length c'.tables);
        taken = λ t. (c'.told t).0;
        stores = λ t. c'.stores t run_place here ∙ ap (λ (xs : List Piece). v.stores ++ map Cleared xs) keeps;
        absent = λ t. absences_here (c'.told t).1;
        pages = c'.number run_place here ∙ ap length keeps ∙ sym (all_low (filter (begins_in f first end) v.pieces) (λ x m.
            let i = filtered_one (begins_in f first end) v.pieces x m in
            let t = begins_tells f first end x i.1 in
            let long = piece_long f x in
            let below = may.clear (first_of f x) t.0 t.1 x i.0 (omega arith, omega arith) in omega arith));
      }
