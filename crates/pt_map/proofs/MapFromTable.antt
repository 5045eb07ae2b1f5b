-- The steps of a map from a table on down, taken together: the look, the draw, the making of way and the writing.
use Rattle.std.proofs.Common.{◌≡◌, ◌↔◌, ℕ, ◌+◌, ◌<◌, ◌≤◌, List, [], ◌∷◌, ◌++◌, Bool, false, length-append, inl, inr, refl, ap, sym, subst, ◌∙◌, arith, append_assoc}
use Rattle.std.specs.Prelude.{IsTrue, ◌&&◌, ◌==◌, filter, length, map, not}
use Rattle.std.proofs.lemmas.Bool.{cases_Bool, not-true}
use Rattle.std.proofs.lemmas.List.{append-nil}
use Rattle.pt_model.specs.declared.position.Position.{Position}
use Rattle.pt_model.specs.Layout.{Layout}
use Rattle.pt_model.specs.Pages.{byte_at}
use Rattle.pt_model.specs.Sets.{IsSorted, IsAmong, one_if, places}
use Rattle.pt_model.specs.Tables.{is_same, is_spine, position_over, levels_between, spine_position, starting_top}
use Rattle.pt_format.specs.Laws.{IsLayout}
use Rattle.pt_view.specs.declared.view.View.{View}
use Rattle.pt_view.specs.declared.view.Piece.{Piece}
use Rattle.pt_view.specs.declared.view.Absence.{Absence}
use Rattle.pt_view.specs.declared.view.Change.{Change}
use Rattle.pt_view.specs.declared.view.Change.TheVariants.{Written}
use Rattle.pt_view.specs.Lists.{IsIn}
use Rattle.pt_view.specs.Pieces.{IsOneOf, add_pieces, all_pieces, number_of, table_of, entry_number}
use Rattle.pt_view.specs.Loads.{AddsAbsences, ByLoads}
use Rattle.pt_view.proofs.Stays.{book_on, range_on}
use Rattle.pt_view.proofs.Pieces.{has_page_here}
use Rattle.pt_walk.proofs.Descent.{own_piece, owns_on}
use Rattle.pt_view.specs.Calls.{lowest, pieces_at}
use Rattle.pt_view.specs.Views.{Aside, SameBook, SameRange, linked_count}
use Rattle.pt_walk.specs.Walks.{IsFree, IsLowest, OwnsAll}
use Rattle.pt_tile.specs.declared.extent.Extent.{Extent}
use Rattle.pt_map.specs.declared.refused.MapRefused.{MapRefused}
use Rattle.pt_map.specs.Absent.{Counted, is_shown}
use Rattle.pt_map.specs.Answers.{FindsEach, IsRefused}
use Rattle.pt_map.specs.Filled.{HasNoPiece, MayStore, Fills, MayFill, HasRoom, top_with}
use Rattle.pt_map.specs.Requests.{Gathered, IsLackOf, LacksFrames, MappedBelow, MayMapBelow, HasFrames, RefusedBelow}
use Rattle.pt_map.specs.Replaced.{HasNoneReplaced, MayMakeWay, UnlinksReplaced, is_replaced, replaced}
use Rattle.pt_map.specs.Stands.{StandsAt}
use Rattle.pt_map.proofs.NeededTables.{has_below}
use Rattle.pt_map.proofs.ReplacedTables.{needed_stays, replaced_none, two_parts}
use Rattle.pt_map.proofs.WayMade.{unlinks_keep}
use Rattle.pt_model.proofs.Positions.{among_filtered, among_passes, sorted_filter}
use Rattle.pt_view.proofs.Loads.{absences_on}
use Rattle.pt_tile.specs.Extents.{tables_below, tiles}
use Rattle.pt_map.proofs.StandAfter.{stands_moves}
use Rattle.pt_map.proofs.AbsentCounted.{shown_left}
use Rattle.pt_map.specs.declared.refused.MapRefused.TheVariants as refused

-- Pieces and tables of a free range.

no_pieces : (f : Layout) (p : Position) (n : ℕ) (xs : List Piece) → ((y : Piece) → IsOneOf xs y → pieces_at f p n (y ∷ []) ≡ 1 → ⊥) → pieces_at f p n xs ≡ 0
no_pieces f p n [] none = refl
no_pieces f p n (y ∷ ys) none =
    let test : Bool = is_same p (table_of f y) && (number_of f y == n) in
    let rest : pieces_at f p n ys ≡ 0 = no_pieces f p n ys (λ z m. none z (inr m)) in
    elim (cases_Bool test) [
      | inl e ↦ absurd (none y (inl refl) (let one : one_if test ≡ 1 = ap one_if e in omega arith))
      | inr e ↦ (let zero : one_if test ≡ 0 = ap one_if e in omega arith)
    ]

pub no_piece_over : (f : Layout) → IsLayout f → (v : View) (first end : ℕ) → OwnsAll f v → IsFree f v first end → HasNoPiece f v first end
no_piece_over f good v first end owns free = λ page level from to.
    no_pieces f (position_over f page level) (entry_number f level page) v.pieces (λ y m one.
    let here = has_page_here good (own_piece (owns y m)) page level one in
    free page from to y m here.1)

-- no piece stands over a free range, for a view of the same pieces either
pub no_piece_kept : (f : Layout) → IsLayout f → (v w : View) (first end : ℕ) → OwnsAll f v → w.pieces ≡ v.pieces → IsFree f v first end → HasNoPiece f w first end
no_piece_kept f good v w first end owns pieces free =
    subst (λ (ps : List Piece). (page level : ℕ) → first ≤ page → page < end → pieces_at f (position_over f page level) (entry_number f level page) ps ≡ 0) (sym pieces)
    (no_piece_over f good v first end owns free)

-- what leaves the book leaves the count of linked positions
pub linked_same : (v w : View) (aside : Aside) → SameRange v w → SameBook v w → linked_count w aside ≡ linked_count v aside
linked_same v w aside range book = λ i. length (book.tables i) + length (levels_between (starting_top (range.levels i)) (book.top i)) + length aside.positions

-- so does a walk
pub linked_walked : {tells : Type 0} (v w : View) (a b : Aside) → ByLoads tells v w → b ≡ a → linked_count w b ≡ linked_count v a
linked_walked v w a b walked same = linked_same v w b walked.range walked.book ∙ ap (linked_count v) same

-- A refusal before the count leaves the book.
pub refused_walked : (f : Layout) (tells : Type 0) (v w : View) → ByLoads tells v w → w.path ≡ v.path → IsRefused f tells v w
refused_walked f tells v w walked path = record {
  range = walked.range;
  book = walked.book;
  path = path;
  prepared = walked.prepared;
  end = walked.purse.end;
  purse = ([], walked.purse.purse);
  known = walked.known;
  busy = λ frame h. (walked.busy frame).1 h;
  grew = λ t. (walked.absent t, [], walked.taken t ∙ sym (append-nil v.taken));
  stores = walked.stores;
}

-- an extent of which a page is mapped
pub occupied_below : {f : Layout} {tells alone : Type 0} {linked : ℕ} {v w : View} {x : Extent} {level page address : ℕ} → ByLoads tells v w → w.path ≡ v.path → address ≡ byte_at f page →
    IsLowest f v x.first x.end page → RefusedBelow f tells alone linked v w x level (refused.Occupied address)
occupied_below {f = f} {tells = tells} {v = v} {w = w} {page = page} walked path at lowest =
    record { stays = refused_walked f tells v w walked path; purse = walked.purse.purse; cause = (page, at, lowest) }

-- What the look through the extent, from view v to view c, and the draw, from there to view g, keep.
module _ {f : Layout} (good : IsLayout f) {tells : Type 0} {v c g : View} {x : Extent} {level absent : ℕ} (may : MayMapBelow f v x level)
    (walked : ByLoads tells v c) (path : c.path ≡ v.path) (gathered : Gathered tells c g absent) where
  range_kept : SameRange v g
  range_kept = range_on walked.range gathered.keeps.range

  book_kept : SameBook v g
  book_kept = book_on walked.book gathered.keeps.book

  path_kept : g.path ≡ v.path
  path_kept = gathered.place.path ∙ path

  prepared_kept : g.prepared ≡ v.prepared
  prepared_kept = gathered.place.prepared ∙ walked.prepared

  known_kept : (p : Position) → IsAmong v.known p → IsAmong g.known p
  known_kept p h = (gathered.keeps.known p).1 (walked.known p h)

  busy_kept : (frame : ℕ) → IsIn v.busy frame → IsIn g.busy frame
  busy_kept frame h = gathered.busy frame ((walked.busy frame).1 h)

  taken_kept : tells → (lost : List ℕ) × (g.taken ≡ v.taken ++ lost)
  taken_kept t = let r = gathered.taken t in (r.0, r.1 ∙ ap (λ (xs : List ℕ). xs ++ r.0) (walked.taken t))

  stands_kept : StandsAt f g x level
  stands_kept =
      stands_moves good may.stands may.stands.at.extent (let e : x.first ≤ x.first = omega arith in e) (let e : x.end ≤ x.end = omega arith in e) may.stands.at.low
      (record { range = range_kept; prepared = prepared_kept; known = λ l low h. known_kept (spine_position l) h }) path_kept
      (let t = book_kept.top in let h = may.stands.high in omega arith)

  -- way may be made for the extent
  pub may_make : IsFree f v x.first x.end → MayMakeWay f g x level
  may_make free = record {
    at = stands_kept.at;
    levels = (let l = may.levels in let e = range_kept.levels in omega arith);
    empty = record {
      owns = owns_on f range_kept book_kept may.owns;
      free = λ page low high y m. free page low high y (subst (λ (ps : List Piece). IsOneOf ps y) book_kept.pieces m);
      tables = λ p m.
          let t = may.tables p (subst (λ (ps : List Position). IsAmong ps p) book_kept.tables m) in
          record { off_spine = subst (λ (l : ℕ). is_spine l p ≡ false) (sym range_kept.levels) t.off_spine; aligned = t.aligned };
      once = λ p. subst (λ (ps : List Position). places p ps < 2) (sym book_kept.tables) (may.once p);
      levels_are = refl;
      none = prepared_kept ∙ may.stands.none;
    };
  }

  pub none_kept : HasNoneReplaced f v (tiles f x) → HasNoneReplaced f g (tiles f x)
  none_kept none p m = none p (subst (λ (ps : List Position). IsAmong ps p) book_kept.tables m)

  -- Way was made, from view g to view z.
  module _ {alone_g : Type 0} {z : View} (free : IsFree f v x.first x.end) (made : UnlinksReplaced f tells alone_g (tiles f x) g z) where
    left_tables : (p : Position) → IsAmong z.tables p ↔ (IsAmong v.tables p × (is_replaced f (tiles f x) p ≡ false))
    left_tables p = (
      (λ m.
          let r = among_filtered (λ q. not (is_replaced f (tiles f x) q)) g.tables p (subst (λ (ps : List Position). IsAmong ps p) made.tables m) in
          (subst (λ (ps : List Position). IsAmong ps p) book_kept.tables r.0, not-true (is_replaced f (tiles f x) p) r.1)),
      (λ h.
          subst (λ (ps : List Position). IsAmong ps p) (sym made.tables)
          (among_passes (λ q. not (is_replaced f (tiles f x) q)) g.tables p (subst (λ (ps : List Position). IsAmong ps p) (sym book_kept.tables) h.0) (ap not h.1))),
    )

    -- the words of the extent may be stored
    pub may_store : MayStore f z x level
    may_store =
        let few : f.start ≤ g.levels = (let l = may.levels in let e = range_kept.levels in omega arith) in
        record {
          stands = stands_moves good stands_kept may.stands.at.extent (let e : x.first ≤ x.first = omega arith in e) (let e : x.end ≤ x.end = omega arith in e) may.stands.at.low
              (unlinks_keep good may.stands.at.extent few made) made.path (let t = made.top in let h = stands_kept.high in omega arith);
          no_piece = no_piece_kept f good v z x.first x.end may.owns (made.pieces ∙ book_kept.pieces) free;
          no_table = λ p m b here. replaced_none f p (tiles f x) ((left_tables p).0 m).1 b here;
        }

  module _ {alone : Type 0} {cap : ℕ} (n : Counted f tells alone v c (tables_below f x level) cap absent) (free : IsFree f v x.first x.end) (is : cap ≡ v.frames + 1)
      {alone_c : Type 0} {old new : Aside} (to_c : alone → alone_c) (aside : new ≡ old) where
    same : linked_count c new ≡ linked_count v old
    same = linked_walked v c old new walked aside

    -- each table counted was shown absent
    told_on : tells → (facts : List Absence) × (g.absent ≡ v.absent ++ facts) × ((p : Position) → IsAmong n.absent p → IsTrue (is_shown f facts p))
    told_on t = let d = n.told t in (d.0, gathered.absences t ∙ d.1, d.2)

    -- the count from the view before to that after the draw
    counted_drawn : Counted f tells alone v g (tables_below f x level) (v.frames + 1) absent
    counted_drawn = subst (λ (m : ℕ). Counted f tells alone v g (tables_below f x level) m absent) is (record {
      absent = n.absent;
      count_is = n.count_is;
      once = n.once;
      missing = n.missing;
      others = λ less p h. elim (n.others less p h) [ inl a ↦ inl a | inr k ↦ inr ((gathered.keeps.known p).1 k) ];
      all = n.all;
      told = told_on;
    })

    finds_before : tells → FindsEach c g → FindsEach v g
    finds_before t each = record {
      drawn = each.drawn;
      lost = each.lost;
      purse = each.purse ∙ ap (λ (xs : List ℕ). each.drawn ++ xs) walked.purse.purse;
      taken = each.taken ∙ ap (λ (xs : List ℕ). xs ++ each.lost) (walked.taken t);
      each = λ frame less. elim (each.each frame (subst (λ (n : ℕ). frame < n) (sym walked.range.frames) less)) [
        | inl held ↦ inl (subst (λ (xs : List ℕ). IsIn xs frame) walked.purse.purse held)
        | inr other ↦ inr other
      ];
    }

    -- frames lack
    pub lack_below : (e : MapRefused) → IsLackOf tells alone_c (linked_count c new) c g absent e → RefusedBelow f tells alone (linked_count v old) v g x level e
    lack_below refused.Misaligned h = absurd h
    lack_below refused.OutsideLease h = absurd h
    lack_below refused.OutputRange h = absurd h
    lack_below (refused.Occupied address) h = absurd h
    lack_below (refused.NoFrames count held) h =
        let frames : c.frames ≡ v.frames = walked.range.frames in
        let l = h.1 in
        record {
          stays = record {
            range = range_kept;
            book = book_kept;
            path = path_kept;
            prepared = prepared_kept;
            end = gathered.place.end ∙ walked.purse.end;
            purse = (gathered.drawn, gathered.purse ∙ ap (λ (xs : List ℕ). gathered.drawn ++ xs) walked.purse.purse);
            known = known_kept;
            busy = busy_kept;
            grew = λ t. let lost = taken_kept t in let d = told_on t in (record { facts = d.0; are = d.1 }, lost.0, lost.1);
            stores = λ t. gathered.stores t ∙ walked.stores t;
          };
          purse = tt;
          cause = (
            free,
            subst (λ (m : ℕ). Counted f tells alone v g (tables_below f x level) (v.frames + 1) m) (sym h.0) counted_drawn,
            subst (λ (m : ℕ). LacksFrames tells alone (linked_count v old) v g m held) (sym h.0) (record {
              more = l.more;
              held_is = l.held_is;
              idle = λ over. l.idle (omega arith) ∙ walked.purse.purse;
              tried = λ t. elim (l.tried t) [ inl over ↦ inl (omega arith) | inr each ↦ inr (finds_before t each) ];
              all = λ a. elim (l.all (to_c a)) [ inl over ↦ inl (omega arith) | inr sum ↦ inr (let s = same in omega arith) ];
            }),
          );
        }

    -- there are frames for all absent tables
    module _ (has : HasFrames alone_c (linked_count c new) c g absent) {alone_g : Type 0} (to_g : alone → alone_g) {z : View} (made : UnlinksReplaced f tells alone_g (tiles f x) g z) where
      so_many : length n.absent ≡ absent
      so_many = let e = n.count_is in let h = has.frames in let s = walked.range.frames in omega arith

      longer : length z.purse ≡ length made.purse.0 + length g.purse
      longer = ap length made.purse.1 ∙ length-append made.purse.0 g.purse

      room : HasRoom z (tables_below f x level) n.absent
      room = record {
        each = λ p h. elim (n.others (let h = has.frames in let s = walked.range.frames in omega arith) p h) [
          | inl a ↦ inr a
          | inr k ↦ inl (made.known p ((gathered.keeps.known p).1 k) (needed_stays good may.stands.at.extent p (has_below f level x p h).0))
        ];
        frames = (let e = so_many in let h = has.held in let l = longer in omega arith);
      }

      pub may_fill : MayFill f z x level
      may_fill = record {
        store = may_store free made;
        lacking = n.absent;
        room = room;
      }

      -- the frames of the tables that blocks take the place of came, and over a lone holder no other
      many_left : length z.tables + length (replaced f v (tiles f x)) ≡ length g.tables
      many_left =
          let left : length z.tables ≡ length (filter (λ p. not (is_replaced f (tiles f x) p)) v.tables) =
          ap length made.tables ∙ ap (λ (ps : List Position). length (filter (λ p. not (is_replaced f (tiles f x) p)) ps)) book_kept.tables in
          let all : length g.tables ≡ length v.tables = ap length book_kept.tables in
          let parts = two_parts (is_replaced f (tiles f x)) v.tables in omega arith

      each_freed : length (replaced f v (tiles f x)) ≤ length made.purse.0
      each_freed = let each = made.frees.each in let l = longer in let t = many_left in omega arith

      only_freed : alone → length made.purse.0 ≡ length (replaced f v (tiles f x))
      only_freed a = let only = made.frees.only (to_g a) in let l = longer in let t = many_left in omega arith

      pub mapped_below : {w : View} → Fills f tells z w x level → MappedBelow f tells alone (linked_count v old) v w x level
      mapped_below {w = w} fills =
          let filled = fills.filled in
          let spends = (fills.spends n.absent room).1 in
          let less : absent < cap = (let h = has.frames in let s = walked.range.frames in omega arith) in
          let purse : length c.purse ≡ length v.purse = ap length walked.purse.purse in
          let many = so_many in let frames = walked.range.frames in
          let range : SameRange v z = range_on range_kept made.range in
          let drawn : g.purse ≡ gathered.drawn ++ v.purse = gathered.purse ∙ ap (λ (xs : List ℕ). gathered.drawn ++ xs) walked.purse.purse in
          record {
            free = free;
            absent = n.absent;
            are_absent = record { once = n.once; missing = n.missing; all = λ a p h. n.all a less p h };
            freed = made.purse.0;
            drawn = gathered.drawn;
            used = spends.used;
            purse = ap (λ (xs : List ℕ). made.purse.0 ++ xs) (sym drawn) ∙ sym made.purse.1 ∙ spends.purse;
            back = each_freed;
            only = only_freed;
            spared = (let s = gathered.spared in omega arith);
            few = (let s = spends.few in omega arith);
            capped = (let h = has.frames in omega arith);
            room = λ a. (let h = has.few (to_c a) in let enough = has.held in let s = same in omega arith);
            range = range_on range filled.range;
            path = filled.path ∙ made.path ∙ path_kept;
            prepared = filled.prepared ∙ made.prepared ∙ prepared_kept;
            end = filled.end ∙ made.end ∙ gathered.place.end ∙ walked.purse.end;
            top = filled.top ∙ (λ i. top_with f (range.levels i) ((made.top ∙ book_kept.top) i) (tiles f x));
            pieces = filled.pieces ∙ ap (λ (ps : List Piece). add_pieces f ps (all_pieces f (tiles f x))) (made.pieces ∙ book_kept.pieces);
            tables = λ p. (
              (λ m. elim ((filled.tables p).0 m) [
                | inl old ↦ inl ((left_tables free made p).0 old)
                | inr new ↦ inr (new.0, subst (λ (l : ℕ). is_spine l p ≡ false) range.levels new.1)
              ]),
              (λ h. (filled.tables p).1 (elim h [
                | inl old ↦ inl ((left_tables free made p).1 old)
                | inr new ↦ inr (new.0, subst (λ (l : ℕ). is_spine l p ≡ false) (sym range.levels) new.1)
              ])),
            );
            in_order = λ s. filled.in_order (subst (λ (ps : List Position). IsSorted ps) (sym made.tables)
                (sorted_filter (λ q. not (is_replaced f (tiles f x) q)) g.tables (subst (λ (ps : List Position). IsSorted ps) (sym book_kept.tables) s)));
            busy = λ frame h. (filled.busy frame).1 ((made.busy frame).1 (busy_kept frame h));
            known = λ p h stays. filled.known p (made.known p (known_kept p h) stays);
            shown = λ t.
                let d = told_on t in
                let more : AddsAbsences g w = absences_on (made.absent t) (filled.absent t) in
                (d.0 ++ more.facts, more.are ∙ ap (λ (xs : List Absence). xs ++ more.facts) d.1 ∙ append_assoc v.absent d.0 more.facts, λ p h. shown_left f d.0 more.facts p (d.2 p h));
            taken = λ t. let r = taken_kept t in (r.0, (filled.told t).0 ∙ made.taken t ∙ r.1);
            stores = λ t. (filled.told t).1 ∙ ap (λ (xs : List Change). xs ++ map Written (all_pieces f (tiles f x))) (made.stores t ∙ gathered.stores t ∙ walked.stores t);
          }
