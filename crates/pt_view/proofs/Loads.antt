-- What each load of an entry tells, and what it leaves.
use Rattle.std.proofs.Common.{◌≡◌, ◌⊎◌, ℕ, ◌-◌, ◌<◌, List, [], ◌∷◌, ◌++◌, inr, refl, ap, sym, ◌∙◌, subst, arith, append_assoc, length-append}
use Rattle.std.specs.Prelude.{IsTrue, length}
use Rattle.std.proofs.lemmas.List.{append-nil}
use Rattle.pt_model.specs.declared.position.Position.{Position}
use Rattle.pt_model.specs.Layout.{Layout}
use Rattle.pt_model.specs.Sets.{AddsPositions, IsAmong, SamePositions}
use Rattle.pt_model.specs.Tables.{child_at, is_spine, position_over}
use Rattle.pt_view.specs.declared.view.View.{View}
use Rattle.pt_view.specs.declared.view.Node.{Node}
use Rattle.pt_view.specs.declared.view.Piece.{Piece}
use Rattle.pt_view.specs.declared.view.Absence.{Absence}
use Rattle.pt_view.specs.declared.holder.Seen.{Seen}
use Rattle.pt_view.specs.declared.holder.Seen.TheVariants.{Empty, Leaf, Entered}
use Rattle.pt_view.specs.Pieces.{IsOneOf, entry_number, word_of}
use Rattle.pt_view.specs.Views.{SameHistory}
use Rattle.pt_view.specs.Loads.{AddsAbsences, ByLoads, IsInSpan, IsOver}
use Rattle.pt_view.specs.Calls.{HasNoTableUnder, IsVacant, Looked, Rooted, Went, zero as looked_zero, leaf as looked_leaf, table as looked_table, all_but_last, left, lowest, pieces_at}
use Rattle.pt_view.proofs.Stays.{book_on, purse_on, range_on}
use Rattle.pt_view.proofs.Paths.{front_snoc, lowest_snoc}
use Rattle.pt_view.proofs.Entries.{at_entry, child_is}

-- Loads, one after another.

pub absences_here : {v w : View} → w.absent ≡ v.absent → AddsAbsences v w
absences_here {v} e = record { facts = []; are = e ∙ sym (append-nil v.absent) }

pub absences_on : {u v w : View} → AddsAbsences u v → AddsAbsences v w → AddsAbsences u w
absences_on {u} a b = record {
  facts = a.facts ++ b.facts;
  are = b.are ∙ ap (λ (xs : List Absence). xs ++ b.facts) a.are ∙ append_assoc u.absent a.facts b.facts;
}

module _ {tells : Type 0} where
  pub loads_on : {u v w : View} → ByLoads tells u v → ByLoads tells v w → ByLoads tells u w
  loads_on a b = record {
    range = range_on a.range b.range;
    book = book_on a.book b.book;
    purse = purse_on a.purse b.purse;
    prepared = b.prepared ∙ a.prepared;
    busy = λ x. ((λ h. (a.busy x).0 ((b.busy x).0 h)), (λ h. (b.busy x).1 ((a.busy x).1 h)));
    known = λ p h. b.known p (a.known p h);
    taken = λ t. b.taken t ∙ a.taken t;
    stores = λ t. b.stores t ∙ a.stores t;
    absent = λ t. absences_on (a.absent t) (b.absent t);
  }

  -- another path is all that changed
  pub loads_path : {v w : View} (path : List Node) → w ≡ record v { path = path } → ByLoads tells v w
  loads_path {v} path e = subst (ByLoads tells v) (sym e) (record {
    range = record { frames = refl; levels = refl; first = refl; count = refl };
    book = record { pieces = refl; tables = refl; top = refl };
    purse = record { purse = refl; end = refl };
    prepared = refl;
    busy = λ x. ((λ h. h), (λ h. h));
    known = λ p h. h;
    taken = λ t. refl;
    stores = λ t. refl;
    absent = λ t. absences_here refl;
  })

  pub loads_here : {v : View} → ByLoads tells v v
  loads_here {v} = loads_path v.path refl

  pub loads_left : {v w : View} → w ≡ left v → ByLoads tells v w
  loads_left {v} e = loads_path (all_but_last v.path) e

-- The root is loaded.
pub root_loads : {f : Layout} {tells alone : Type 0} {v w : View} {level : ℕ} → Rooted f tells alone v level w → ByLoads tells v w
root_loads rooted = record {
  range = rooted.range;
  book = rooted.book;
  purse = rooted.purse;
  prepared = rooted.prepared;
  busy = rooted.busy;
  known = λ p h. (rooted.known p).1 (inr h);
  taken = λ t. (rooted.told t).0;
  stores = λ t. (rooted.told t).2;
  absent = λ t. record { facts = _; are = (rooted.told t).1 };
}

-- What a load tells: frames and stores stay, and it may show positions to be absent.
pub record Told (v w : View) : Type 0 where
  pub taken : w.taken ≡ v.taken
  pub stores : w.stores ≡ v.stores
  pub absent : AddsAbsences v w

same_told : {v w : View} → SameHistory v w → Told v w
same_told h = record { taken = h.taken; stores = h.stores; absent = absences_here h.absent }

-- What a load found, by its answer.

pub record FoundNone (f : Layout) (tells : Type 0) (v : View) (p : Position) (number : ℕ) (w : View) : Type 0 where
  pub path : w.path ≡ v.path
  pub known : SamePositions v.known w.known
  pub vacant : IsVacant f v p number
  pub told : tells → Told v w

pub record FoundLeaf (f : Layout) (tells : Type 0) (v : View) (p : Position) (number : ℕ) (w : View) (word : ℕ) : Type 0 where
  pub path : w.path ≡ v.path
  pub known : SamePositions v.known w.known
  pub told : tells → Told v w
  pub piece : Piece
  pub member : IsOneOf v.pieces piece
  pub here : pieces_at f p number (piece ∷ []) ≡ 1
  pub word_is : word ≡ word_of f piece
  pub none_under : HasNoTableUnder f v p number

pub record FoundTable (f : Layout) (tells alone : Type 0) (v : View) (p : Position) (number : ℕ) (w : View) : Type 0 where
  pub frame : ℕ
  pub path : w.path ≡ v.path ++ record { frame = frame; position = child_at f p number } ∷ []
  pub known : AddsPositions v.known w.known (λ q. q ≡ child_at f p number)
  pub told : tells → Told v w
  pub high : 0 < p.level
  pub none : pieces_at f p number v.pieces ≡ 0
  pub owned : alone → IsAmong v.tables (child_at f p number) ⊎ IsTrue (is_spine v.levels (child_at f p number))

abbrev pub Found : Layout → (tells alone : Type 0) → (v : View) → Position → (number : ℕ) → (w : View) → Seen → Type 0
Found f tells alone v p number w Empty = FoundNone f tells v p number w
Found f tells alone v p number w (Leaf word) = FoundLeaf f tells v p number w word
Found f tells alone v p number w Entered = FoundTable f tells alone v p number w

pub found : (f : Layout) (tells alone : Type 0) (v : View) (p : Position) (number : ℕ) (seen : Seen) (w : View) → Looked f tells alone v p number seen w → Found f tells alone v p number w seen
found f tells alone v p number _ _ (looked_zero w path known vacant told) = record {
  path = path;
  known = known;
  vacant = vacant;
  told = λ t. record { taken = (told t).0; stores = (told t).2; absent = record { facts = _; are = (told t).1 } };
}
found f tells alone v p number _ _ (looked_leaf w word piece path known told member here once is under) = record {
  path = path;
  known = known;
  told = λ t. same_told (told t);
  piece = piece;
  member = member;
  here = here;
  word_is = is;
  none_under = under;
}
found f tells alone v p number _ _ (looked_table w frame path known told high none owned) = record {
  frame = frame;
  path = path;
  known = known;
  told = λ t. same_told (told t);
  high = high;
  none = none;
  owned = owned;
}

-- a load of the entry over a page, in the path's last table, of this level
pub record IsLoad (f : Layout) (tells alone : Type 0) (v : View) (page level : ℕ) (seen : Seen) (w : View) : Type 0 where
  pub over : IsOver f v page level
  pub inside : IsInSpan v page
  pub number : ℕ
  pub is : number ≡ entry_number f level page
  pub went : Went f tells alone number v seen w

module _ {f : Layout} {tells alone : Type 0} {v : View} {page level : ℕ} {seen : Seen} {w : View} (l : IsLoad f tells alone v page level seen w) where
  looked : (s : Seen) → seen ≡ s → Found f tells alone v (position_over f page level) (entry_number f level page) w s
  looked s e =
      let went : Went f tells alone (entry_number f level page) v seen w = subst (λ (k : ℕ). Went f tells alone k v seen w) l.is l.went in
      subst (Found f tells alone v (position_over f page level) (entry_number f level page) w) e
      (found f tells alone v (position_over f page level) (entry_number f level page) seen w (went.looked (position_over f page level) (at_entry l.over)))

  by_loads : ((p : Position) → IsAmong v.known p → IsAmong w.known p) → (tells → Told v w) → ByLoads tells v w
  by_loads known told = record {
    range = l.went.range;
    book = l.went.book;
    purse = l.went.purse;
    prepared = l.went.prepared;
    busy = l.went.busy;
    known = known;
    taken = λ t. (told t).taken;
    stores = λ t. (told t).stores;
    absent = λ t. (told t).absent;
  }

  -- it is zero
  pub load_none : seen ≡ Empty → FoundNone f tells v (position_over f page level) (entry_number f level page) w
  load_none e = looked Empty e

  pub none_loads : seen ≡ Empty → ByLoads tells v w
  none_loads e = let h = load_none e in by_loads (λ p m. (h.known p).1 m) h.told

  -- it is the word of a block
  pub load_leaf : {word : ℕ} → seen ≡ Leaf word → FoundLeaf f tells v (position_over f page level) (entry_number f level page) w word
  load_leaf {word} e = looked (Leaf word) e

  pub leaf_loads : {word : ℕ} → seen ≡ Leaf word → ByLoads tells v w
  leaf_loads e = let h = load_leaf e in by_loads (λ p m. (h.known p).1 m) h.told

  -- it is a pointer
  pub load_table : seen ≡ Entered → FoundTable f tells alone v (position_over f page level) (entry_number f level page) w
  load_table e = looked Entered e

  pub table_high : seen ≡ Entered → 0 < level
  table_high e = (load_table e).high

  pub table_loads : seen ≡ Entered → ByLoads tells v w
  table_loads e = let h = load_table e in by_loads (λ p m. (h.known p).1 (inr m)) h.told

  pub table_path : seen ≡ Entered → (frame : ℕ) × (w.path ≡ v.path ++ record { frame = frame; position = position_over f page (level - 1) } ∷ [])
  table_path e =
      let h = load_table e in
      (h.frame, h.path ∙ ap (λ (q : Position). v.path ++ record { frame = h.frame; position = q } ∷ []) (child_is f page level h.high))

  pub table_over : seen ≡ Entered → IsOver f w page (level - 1)
  table_over e = let p = table_path e in record { frame = p.0; is = ap lowest p.1 ∙ lowest_snoc v.path _ }

  -- a lone holder has it in its book or on the spine
  pub table_owned : seen ≡ Entered → alone → IsAmong v.tables (position_over f page (level - 1)) ⊎ IsTrue (is_spine v.levels (position_over f page (level - 1)))
  table_owned e a =
      let h = load_table e in
      subst (λ (q : Position). IsAmong v.tables q ⊎ IsTrue (is_spine v.levels q)) (child_is f page level h.high) (h.owned a)

  -- it names no table
  pub no_table : (¬ (seen ≡ Entered)) → ByLoads tells v w × (w.path ≡ v.path)
  no_table not = by_kind seen refl
    where
      by_kind : (s : Seen) → seen ≡ s → ByLoads tells v w × (w.path ≡ v.path)
      by_kind Empty e = (none_loads e, (load_none e).path)
      by_kind (Leaf word) e = (leaf_loads e, (load_leaf e).path)
      by_kind Entered e = absurd (not e)

  -- It is a pointer, and by loads the way came back to the table that it names.
  module _ (entered : seen ≡ Entered) {u : View} (deeper : ByLoads tells w u) (path : u.path ≡ w.path) where
    pub some_path : 0 < length u.path
    some_path =
        let p = table_path entered in
        let e : length u.path ≡ length (v.path ++ record { frame = p.0; position = position_over f page (level - 1) } ∷ []) = ap length (path ∙ p.1) in
        let a = length-append v.path (record { frame = p.0; position = position_over f page (level - 1) } ∷ []) in omega (arith, e, a)

    pub back_loads : {z : View} → z ≡ left u → ByLoads tells v z
    back_loads e = loads_on (table_loads entered) (loads_on deeper (loads_left e))

    pub back_path : {z : View} → z ≡ left u → z.path ≡ v.path
    back_path e = ap (λ (y : View). y.path) e ∙ ap all_but_last (path ∙ (table_path entered).1) ∙ front_snoc v.path _
