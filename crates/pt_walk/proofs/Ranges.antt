-- Ranges of pages under the path's last table: the pages of one entry, and the pieces that have one of them.
use Rattle.std.proofs.Common.{◌≡◌, ◌⊎◌, ⊎_elim, ℕ, ◌+◌, ◌-◌, ◌*◌, ◌/◌, ◌%◌, ◌^◌, ◌<◌, ◌≤◌, List, [], ◌∷◌, ◌++◌, inl, inr, length, length-append, refl, ap, sym, ◌∙◌, subst, arith, append_assoc}
use Rattle.std.specs.Prelude.{IsTrue, true, ◌&&◌, nat_le, nat_lt}
use Rattle.std.proofs.lemmas.List.{append-nil}
use Rattle.std.proofs.lemmas.Bool.{and_from, cases_lt, false≢true, le-leb, lt-ltb}
use Rattle.std.proofs.lemmas.Nat.{shr_split}
use mathlib.Core.Logic.{dite}
use native.Mathlib.Decide.{ℕ_discrete}
use Rattle.pt_model.specs.declared.position.Position.{Position}
use Rattle.pt_model.specs.Layout.{Layout, pages_of_entry, pages_of_table}
use Rattle.pt_model.specs.Sets.{IsAmong}
use Rattle.pt_model.specs.Tables.{end_of_table, is_spine, position_over, starting_top}
use Rattle.pt_model.proofs.Quotients.{entry_is_table, over_from, same_quotient}
use Rattle.pt_format.specs.Laws.{IsLayout}
use Rattle.pt_view.specs.declared.view.View.{View}
use Rattle.pt_view.specs.declared.view.Node.{Node}
use Rattle.pt_view.specs.declared.view.Piece.{Piece}
use Rattle.pt_view.specs.declared.holder.Seen.{Seen}
use Rattle.pt_view.specs.declared.holder.Seen.TheVariants.{Empty, Leaf, Entered}
use Rattle.pt_view.specs.Pieces.{IsOneOf, entry_number, level_of}
use Rattle.pt_view.specs.Views.{SameBook, SameRange}
use Rattle.pt_view.specs.Loads.{IsInSpan, IsOver}
use Rattle.pt_view.specs.Calls.{MeetsEntry, Went, entry_end, entry_first, is_under, lowest, pieces_at}
use Rattle.pt_view.proofs.Entries.{entry_first_is, may_enter, over_page}
use Rattle.pt_view.proofs.Loads.{IsLoad, load_leaf, load_none, table_high, table_over, table_path}
use Rattle.pt_walk.specs.Walks.{FindsUnder, HasNoTable, IsClear, IsFree, IsGoing, IsLowest, IsOverRange, IsWayDown, OwnsAll, OwnsOver, StopsAt, WentDown}
use Rattle.pt_walk.specs.declared.range.Met.TheVariants as met
use Rattle.pt_walk.specs.declared.range.Under.{Under}
use Rattle.pt_walk.specs.declared.range.Under.TheVariants.{Nothing, Tables, Mapped}
use Rattle.pt_walk.proofs.Descent.{empty_none, entered_none, leaf_found, owns_on}
use Rattle.pt_view.proofs.Stays.{book_back}

-- Ranges.

pub range_inside : {f : Layout} {v : View} {first end level : ℕ} → IsOverRange f v first end level → IsInSpan v first
range_inside r = (r.from, let a = r.some in let b = r.to in omega arith)

pub range_enters : {f : Layout} {v : View} {first end level : ℕ} → IsOverRange f v first end level → (n : ℕ) → n ≡ entry_number f level first → MeetsEntry f v n
range_enters r n is = may_enter r.over (range_inside r) n is

pub range_load : {f : Layout} {tells alone : Type 0} {v : View} {first end level n : ℕ} {seen : Seen} {w : View} → IsOverRange f v first end level → n ≡ entry_number f level first →
    Went f tells alone n v seen w → IsLoad f tells alone v first level seen w
range_load {n = n} r is went = record { over = r.over; inside = range_inside r; number = n; is = is; went = went }

pub range_going : {f : Layout} {v : View} {first end level : ℕ} → IsOverRange f v first end level → OwnsAll f v → IsGoing f v first level
range_going r owns = record {
  below = r.below;
  over = r.over;
  asked = record {
    a_page = let a = r.some in let b = r.in_space in omega arith;
    in_span = range_inside r;
    owns = owns;
  };
}

-- the range from a later page on
pub range_from : {f : Layout} {v w : View} {first end level : ℕ} → SameRange v w → w.path ≡ v.path → IsOverRange f v first end level → (at to : ℕ) → first ≤ at → at < to → to ≤ end → IsOverRange f w at to level
range_from {f} {first = first} {level = level} same path r at to low some high =
    let under = r.under in
    let over = over_page r.over at low (omega arith) in
    let e : end_of_table f (position_over f at level) ≡ end_of_table f (position_over f first level) = ap (end_of_table f) (over_from f first at level low (omega arith)) in
    let sf = same.first in let sc = same.count in
    let rs = r.in_space in let rf = r.from in let rt = r.to in
    record {
      below = r.below;
      over = record { frame = over.frame; is = ap lowest path ∙ over.is };
      some = some;
      under = omega arith;
      in_space = omega arith;
      from = omega arith;
      to = omega arith;
    }

-- The range lies under one entry of the table, which is loaded.
module _ {f : Layout} (good : IsLayout f) {tells alone : Type 0} {v : View} {first end level : ℕ} (r : IsOverRange f v first end level)
    (one : end ≤ (first / pages_of_entry f level + 1) * pages_of_entry f level) {seen : Seen} {w : View} (l : IsLoad f tells alone v first level seen w) where
  pub load_at : (page : ℕ) → first ≤ page → page < end → IsLoad f tells alone v page level seen w
  load_at page low high = record {
    over = over_page r.over page low (let u = r.under in omega arith);
    inside = (let a = r.from in omega arith, let b = r.to in omega arith);
    number = l.number;
    is = l.is ∙ ap (λ q. q % 2 ^ f.index) (sym (same_quotient first page (f.index * level) low (omega arith)));
    went = l.went;
  }

  -- the way went into the table under it
  pub range_below : seen ≡ Entered → IsOverRange f w first end (level - 1)
  range_below e =
      let high : 0 < level = table_high l e in
      let size : pages_of_entry f level ≡ pages_of_table f (level - 1) = entry_is_table f level high in
      let table : (first / pages_of_entry f level + 1) * pages_of_entry f level ≡ (first / pages_of_table f (level - 1) + 1) * pages_of_table f (level - 1) = ap (λ x. (first / x + 1) * x) size in
      let below = r.below in let rf = r.from in let rt = r.to in let sf = l.went.range.first in let sc = l.went.range.count in
      record {
        below = omega arith;
        over = table_over l e;
        some = r.some;
        under = omega arith;
        in_space = r.in_space;
        from = omega arith;
        to = omega arith;
      }

  pub clear_below : seen ≡ Entered → OwnsAll f v → IsClear f v first end level → IsClear f w first end (level - 1)
  clear_below e owns clear = λ page low high x member has.
      let own : IsOneOf v.pieces x = subst (λ (xs : List Piece). IsOneOf xs x) l.went.book.pieces member in
      let a : level_of f x ≤ level = clear page low high x own has in
      dite (ℕ_discrete (level_of f x) level) (λ same. absurd (entered_none good owns (load_at page low high) e x own has same)) (λ other. omega arith)

  pub free_here : seen ≡ Empty → OwnsAll f v → IsClear f v first end level → IsFree f v first end
  free_here e owns clear = λ page low high x member has. empty_none good owns (load_at page low high) e x member has (clear page low high x member has)

  -- no table begins under an entry that names none
  pub no_table_here : (¬ (seen ≡ Entered)) → HasNoTable v first end level
  no_table_here not = λ q m low from to.
      let place : Position = position_over f first level in
      let number : ℕ = entry_number f level first in
      let is = entry_first_is f first level in
      let split = shr_split first (f.index * level) in
      let under : is_under f place number q ≡ true =
      and_from (nat_lt q.level level && nat_le (entry_first f place number) q.base) _
      (and_from (nat_lt q.level level) _ (lt-ltb q.level level low) (le-leb (entry_first f place number) q.base (omega arith)))
      (lt-ltb q.base (entry_end f place number) (omega arith)) in
      by_kind seen refl q m under
    where
      by_kind : (s : Seen) → seen ≡ s → (q : Position) → IsAmong v.tables q → is_under f (position_over f first level) (entry_number f level first) q ≡ true → ⊥
      by_kind Empty e q m under = false≢true (sym ((load_none l e).vacant.no_table q m) ∙ under)
      by_kind (Leaf word) e q m under = false≢true (sym ((load_leaf l e).none_under.no_table q m) ∙ under)
      by_kind Entered e q m under = not e

  pub lowest_here : {word : ℕ} → seen ≡ Leaf word → OwnsAll f v → IsLowest f v first end first
  lowest_here e owns =
      let h = leaf_found good owns l e in
      record {
        from = omega arith;
        to = r.some;
        piece = h.piece;
        own = h.own;
        has_page = h.has_page;
        free = λ page low high. absurd (omega arith);
      }

-- What views of one book have in common.

pub free_on : (f : Layout) {v w : View} (first end : ℕ) → SameBook v w → IsFree f w first end → IsFree f v first end
free_on f first end b free = λ page low high x member has. free page low high x (subst (λ (xs : List Piece). IsOneOf xs x) (sym b.pieces) member) has

pub lowest_on : {f : Layout} {v w : View} {first end page : ℕ} → SameBook v w → IsLowest f w first end page → IsLowest f v first end page
lowest_on {f} {first = first} {page = page} b h = record {
  from = h.from;
  to = h.to;
  piece = h.piece;
  own = subst (λ (xs : List Piece). IsOneOf xs h.piece) b.pieces h.own;
  has_page = h.has_page;
  free = free_on f first page b h.free;
}

-- where the word of a block was loaded, its first page is the lowest by the view after the load too
pub lowest_after : {f : Layout} → IsLayout f → {tells alone : Type 0} {v : View} {first end level : ℕ} → IsOverRange f v first end level →
    end ≤ (first / pages_of_entry f level + 1) * pages_of_entry f level → {seen : Seen} {w : View} → IsLoad f tells alone v first level seen w →
    {word : ℕ} → seen ≡ Leaf word → OwnsAll f w → IsLowest f w first end first
lowest_after {f} good {v = v} r one {w = w} l e owns =
    let s = l.went.range in
    let back : SameBook w v = book_back l.went.book in
    let range : SameRange w v = record { frames = sym s.frames; levels = sym s.levels; first = sym s.first; count = sym s.count } in
    lowest_on back (lowest_here good r one l e (owns_on f range back owns))

pub clear_on : (f : Layout) {v w : View} (first end level : ℕ) → SameBook v w → IsClear f v first end level → IsClear f w first end level
clear_on f first end level b clear = λ page low high x member has. clear page low high x (subst (λ (xs : List Piece). IsOneOf xs x) b.pieces member) has

pub clear_from : (f : Layout) (v : View) (first end at to level : ℕ) → IsClear f v first end level → first ≤ at → to ≤ end → IsClear f v at to level
clear_from f v first end at to level clear low high = λ page a b. clear page (omega arith) (omega arith)

-- what was found in the table under an entry is there for the entry, but that the table itself stands there
pub under_mapped : (f : Layout) {v w : View} (first end level : ℕ) {page : ℕ} (u : Under) → u ≡ Mapped page → SameBook v w → FindsUnder f w first end level u → IsLowest f v first end page
under_mapped f {w = w} first end level u e b h = lowest_on b (subst (FindsUnder f w first end level) e h)

pub under_free : (f : Layout) {v w : View} (first end level : ℕ) (u : Under) → ((page : ℕ) → ¬ (u ≡ Mapped page)) → SameBook v w → FindsUnder f w first end level u → IsFree f v first end
under_free f first end level Nothing none b h = free_on f first end b h.0
under_free f first end level Tables none b h = free_on f first end b h
under_free f first end level (Mapped page) none b h = absurd (none page refl)

pub under_nothing : (f : Layout) (v : View) (first end level : ℕ) (u : Under) → ((page : ℕ) → ¬ (u ≡ Mapped page)) → (¬ (u ≡ Tables)) → FindsUnder f v first end level u → HasNoTable v first end level
under_nothing f v first end level Nothing none other h = h.1
under_nothing f v first end level Tables none other h = absurd (other refl)
under_nothing f v first end level (Mapped page) none other h = absurd (none page refl)

-- no table begins in a range, for views of one book, and one range after the other
pub no_table_on : {v w : View} (first end level : ℕ) → SameBook v w → HasNoTable w first end level → HasNoTable v first end level
no_table_on first end level b none = λ q m low from to. none q (subst (λ (ps : List Position). IsAmong ps q) (sym b.tables) m) low from to

-- what was found is so for each view of that book
pub finds_on : (f : Layout) {v w : View} (first end level : ℕ) (u : Under) → SameBook v w → FindsUnder f w first end level u → FindsUnder f v first end level u
finds_on f first end level Nothing b h = (free_on f first end b h.0, no_table_on first end level b h.1)
finds_on f first end level Tables b h = free_on f first end b h
finds_on f first end level (Mapped page) b h = lowest_on b h

pub no_table_more : (v : View) (first at to level : ℕ) → HasNoTable v first at level → HasNoTable v at to level → HasNoTable v first to level
no_table_more v first at to level a b = λ q m low from to. elim (cases_lt q.base at) [ inl before ↦ a q m low from before | inr after ↦ b q m low after to ]

-- the pages from one to another, and from there on
pub free_more : (f : Layout) (v : View) (first at to : ℕ) → IsFree f v first at → IsFree f v at to → IsFree f v first to
free_more f v first at to a b = λ page low high. elim (cases_lt page at) [ inl before ↦ a page low before | inr after ↦ b page after high ]

-- the lowest one of the pages from `at` to before `to`, where those before have none
pub lowest_more : {f : Layout} {v : View} {at to page : ℕ} (first end : ℕ) → first ≤ at → to ≤ end → IsFree f v first at → IsLowest f v at to page → IsLowest f v first end page
lowest_more {f} {v} {at} {page = page} first end low high before h = record {
  from = let a = h.from in omega arith;
  to = let a = h.to in omega arith;
  piece = h.piece;
  own = h.own;
  has_page = h.has_page;
  free = free_more f v first at page before h.free;
}

-- no piece of a higher level is found at the root's table
pub clear_root : (f : Layout) (v : View) (first end level : ℕ) → OwnsAll f v → v.top ≤ level → IsClear f v first end level
clear_root f v first end level owns top = λ page low high x member has. let o = (owns x member).low in omega arith

-- Ways down.

pub down_here : {f : Layout} {v w : View} {page level : ℕ} → IsOver f v page level → w.path ≡ v.path → WentDown f v w page level level
down_here {v = v} {level = level} over path = record {
  nodes = [];
  path = path ∙ sym (append-nil v.path);
  way = tt;
  so_many = let z : 0 + level ≡ level = omega arith in z;
  over = record { frame = over.frame; is = ap lowest path ∙ over.is };
}

pub down_more : {f : Layout} {tells alone : Type 0} {v : View} {page level : ℕ} {seen : Seen} {w u : View} {lower : ℕ} → IsLoad f tells alone v page level seen w → seen ≡ Entered →
    WentDown f w u page (level - 1) lower → WentDown f v u page level lower
down_more {f} {v = v} {page = page} {level = level} l e d =
    let p = table_path l e in
    let x : Node = record { frame = p.0; position = position_over f page (level - 1) } in
    record {
      nodes = x ∷ d.nodes;
      path = d.path ∙ ap (λ (xs : List Node). xs ++ d.nodes) p.1 ∙ append_assoc v.path (x ∷ []) d.nodes;
      way = (refl, d.way);
      so_many = let many = d.so_many in let high = table_high l e in omega arith;
      over = d.over;
    }

-- The way goes on from where it is: it stays in its last table, or goes into the one under that table's entry.

pub down_still : {f : Layout} {v u w : View} {page level lower : ℕ} → WentDown f v u page level lower → w.path ≡ u.path → WentDown f v w page level lower
down_still d same = record {
  nodes = d.nodes;
  path = same ∙ d.path;
  way = d.way;
  so_many = d.so_many;
  over = record { frame = d.over.frame; is = ap lowest same ∙ d.over.is };
}

way_longer : (f : Layout) (page level lower : ℕ) (nodes : List Node) (x : Node) → IsWayDown f page level nodes → length nodes + lower ≡ level →
    x.position ≡ position_over f page (lower - 1) → IsWayDown f page level (nodes ++ x ∷ [])
way_longer f page level lower [] x way many at = (at ∙ ap (λ (k : ℕ). position_over f page (k - 1)) (let same : lower ≡ level = omega arith in same), tt)
way_longer f page level lower (y ∷ ys) x way many at = (way.0, way_longer f page (level - 1) lower ys x way.1 (omega arith) at)

pub down_longer : {f : Layout} {tells alone : Type 0} {v u : View} {page level lower : ℕ} {seen : Seen} {w : View} → WentDown f v u page level lower → IsLoad f tells alone u page lower seen w →
    seen ≡ Entered → WentDown f v w page level (lower - 1)
down_longer {f} {v = v} {page = page} {level = level} {lower = lower} d l e =
    let p = table_path l e in
    let x : Node = record { frame = p.0; position = position_over f page (lower - 1) } in
    record {
      nodes = d.nodes ++ x ∷ [];
      path = p.1 ∙ ap (λ (xs : List Node). xs ++ x ∷ []) d.path ∙ append_assoc v.path d.nodes (x ∷ []);
      way = way_longer f page level lower d.nodes x d.way d.so_many refl;
      so_many = let many = d.so_many in let high = table_high l e in let a = length-append d.nodes (x ∷ []) in omega arith;
      over = table_over l e;
    }

-- the tables over a page, with one more below them

pub owns_none : (f : Layout) (v : View) (page level : ℕ) → OwnsOver f v page level level
owns_none f v page level = λ j low high. absurd (omega arith)

pub owns_lower : (f : Layout) {v w : View} (page low high : ℕ) → SameRange v w → SameBook v w → OwnsOver f v page low high →
    IsAmong w.tables (position_over f page (low - 1)) ⊎ IsTrue (is_spine w.levels (position_over f page (low - 1))) → OwnsOver f v page (low - 1) high
owns_lower f {v} page low high range book above here = λ j from to. dite (ℕ_discrete j (low - 1))
    (λ e. subst (λ (k : ℕ). IsAmong v.tables (position_over f page k) ⊎ IsTrue (is_spine v.levels (position_over f page k))) (sym e)
    (⊎_elim (λ a. inl (subst (λ (ps : List Position). IsAmong ps (position_over f page (low - 1))) book.tables a))
    (λ b. inr (subst (λ (n : ℕ). IsTrue (is_spine n (position_over f page (low - 1)))) range.levels b)) here))
    (λ ne. above j (omega arith) to)

-- Where a way down stops, by what the load of the entry found there.
module _ {f : Layout} {tells alone : Type 0} {v : View} {first level : ℕ} {seen : Seen} {w : View} (l : IsLoad f tells alone v first level seen w) (end lowest : ℕ) where
  pub stops_empty : seen ≡ Empty → StopsAt f w first end lowest level met.Empty
  stops_empty e =
      let h = load_none l e in
      let x = h.vacant in
      let b = l.went.book in
      let r = l.went.range in
      record {
        no_piece = ap (λ xs. pieces_at f (position_over f first level) (entry_number f level first) xs) b.pieces ∙ x.no_piece;
        no_table = λ q a. x.no_table q (subst (λ (ps : List Position). IsAmong ps q) b.tables a);
        none_known = λ q a. x.none_known q ((h.known q).0 a);
        no_spine = λ k low high. x.no_spine k (let s = r.levels in subst (λ (n : ℕ). starting_top n ≤ k) s low) (let t = b.top in omega arith);
      }
