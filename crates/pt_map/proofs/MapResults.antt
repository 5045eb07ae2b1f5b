-- What a map answers, from what it did below the table that is over all of its part.
use Rattle.std.proofs.Common.{◌≡◌, ◌⊎◌, ◌↔◌, ℕ, ◌+◌, ◌-◌, ◌<◌, ◌≤◌, List, [], ◌++◌, false, inl, inr, refl, ap, sym, subst, ◌∙◌, arith, append_assoc, length-append, ◌%◌}
use Rattle.std.specs.Prelude.{IsTrue, Some, None, filter, length, map, min, option_map}
use Rattle.std.proofs.lemmas.Bool.{cases_lt}
use Rattle.pt_model.specs.declared.block.Block.{Block}
use Rattle.pt_model.specs.declared.position.Position.{Position}
use Rattle.pt_model.specs.Layout.{Layout, pages_of_table}
use Rattle.pt_model.specs.Book.{IsLawful, Occupied, lowest_mapped}
use Rattle.pt_model.specs.Pages.{byte_at}
use Rattle.pt_model.specs.Sets.{IsSorted, IsAmong, places}
use Rattle.pt_model.specs.Tables.{end_of_table, is_spine, least_top, position_over, starting_top, levels_between}
use Rattle.pt_format.specs.Laws.{IsLayout}
use Rattle.pt_view.specs.declared.view.View.{View}
use Rattle.pt_view.specs.declared.view.Absence.{Absence}
use Rattle.pt_view.specs.declared.view.Change.{Change}
use Rattle.pt_view.specs.declared.view.Change.TheVariants.{Written}
use Rattle.pt_view.specs.declared.view.Piece.{Piece}
use Rattle.pt_view.specs.Lists.{IsIn}
use Rattle.pt_view.specs.Pieces.{add_pieces, all_pieces}
use Rattle.pt_view.specs.Views.{IsAtRest, SameBook, SameRange, book_of, Aside, linked_count}
use Rattle.pt_walk.specs.Walks.{IsFree, OwnsAll, OwnsOver}
use Rattle.pt_view.specs.Loads.{AddsAbsences, ByLoads}
use Rattle.pt_view.proofs.Stays.{book_on, range_on}
use Rattle.pt_view.proofs.Loads.{absences_on}
use Rattle.pt_walk.proofs.Ranges.{free_on, lowest_on}
use Rattle.pt_tile.specs.declared.extent.Extent.{Extent}
use Rattle.pt_map.specs.declared.refused.MapRefused.{MapRefused}
use Rattle.pt_map.specs.Absent.{Counted, IsMissing, is_shown}
use Rattle.pt_map.specs.Answers.{AddsToHistory, FindsAbsent, FindsEach, IsMapped, IsRefused, IsShortOf, IsWanting, KeepsPurse, WantsFrames, book_with, lacking, refusal_of, unknown, LinksAll}
use Rattle.pt_map.specs.Requests.{LacksFrames, MappedBelow, HasCause, occupied}
use Rattle.pt_map.proofs.AbsentCounted.{own_on, shown_right}
use Rattle.pt_map.proofs.BlocksAdded.{Apart, adds_pieces, in_order_from}
use Rattle.pt_map.proofs.FirstMapped.{first_mapped, free_apart, none_mapped}
use Rattle.pt_map.proofs.LackingTables.{absent_all, absent_few, absent_most, absent_shown, all_off, tables_more}
use Rattle.pt_map.specs.Replaced.{is_replaced, replaced}
use Rattle.pt_map.specs.Filled.{top_with}
use Rattle.pt_map.proofs.TopsOver.{top_of_tiling}
use Rattle.pt_map.proofs.TablesAfter.{covered_many, tables_after}
use Rattle.pt_tile.specs.Extents.{IsExtent, tables_below, tables_of, tiles}
use Rattle.pt_map.specs.Stands.{IsOwnTable}
use Rattle.pt_tile.proofs.FirstSizes.{extent_tiling}
use Rattle.pt_map.specs.declared.refused.MapRefused.TheVariants as refused

-- the view with its path left
abbrev pub rested : View → View
rested w = record w { path = [] }

range_rested : (v w : View) → SameRange v w → SameRange v (rested w)
range_rested v w r = record { frames = r.frames; levels = r.levels; first = r.first; count = r.count }

book_rested : (v w : View) → SameBook v w → SameBook v (rested w)
book_rested v w b = record { pieces = b.pieces; tables = b.tables; top = b.top }

-- View v is at rest, d is that at the table over all of the part, of this level.
pub record Standing (f : Layout) (tells : Type 0) (v d : View) (blocks : List Block) (x : Extent) (level : ℕ) : Type 0 where
  pub rest : IsAtRest f v blocks
  pub lawful : IsLawful f v.levels (book_of v blocks)
  pub owns : OwnsAll f v
  pub sorted : IsSorted v.tables
  pub aligned : (p : Position) → IsAmong v.tables p → p.base % pages_of_table f p.level ≡ 0
  pub extent : IsExtent f x
  pub start : f.start ≤ v.levels
  pub few : v.levels ≤ f.levels
  pub below : level < f.levels
  pub walked : ByLoads tells v d

module _ {f : Layout} (good : IsLayout f) {tells : Type 0} {v d : View} {blocks : List Block} {x : Extent} {level : ℕ} (stand : Standing f tells v d blocks x level) where
  frames_same : d.frames ≡ v.frames
  frames_same = stand.walked.range.frames

  purse_same : d.purse ≡ v.purse
  purse_same = stand.walked.purse.purse

  free_here : IsFree f d x.first x.end → IsFree f v x.first x.end
  free_here free = free_on f x.first x.end stand.walked.book free

  missing_here : (p : Position) → IsMissing d (tables_below f x level) p → IsMissing v (tables_below f x level) p
  missing_here p m = record {
    is_needed = m.is_needed;
    off_spine = subst (λ (l : ℕ). is_spine l p ≡ false) stand.walked.range.levels m.off_spine;
    no_table = λ h. m.no_table (subst (λ (ps : List Position). IsAmong ps p) (sym stand.walked.book.tables) h);
    unknown = λ h. m.unknown (stand.walked.known p h);
  }

  own_here : (p : Position) → IsOwnTable d p → IsOwnTable v p
  own_here p = own_on v d stand.walked.book.tables stand.walked.range.levels p

  none_there : IsFree f d x.first x.end → lowest_mapped (book_of v blocks) x.first x.end ≡ None
  none_there free = none_mapped good stand.rest x.first x.end stand.extent.some (free_here free)

  -- over a lone holder the positions found absent are the lacking ones
  all_here : (alone : Type 0) → alone → least_top f v.levels x.end ≤ v.top → x.end ≤ end_of_table f (position_over f x.first level) → OwnsOver f d x.first level f.levels → (absent : List Position) →
      ((p : Position) → places p absent ≤ 1) → ((p : Position) → IsAmong absent p → IsMissing d (tables_below f x level) p) →
      ((p : Position) → IsAmong (tables_below f x level) p → IsAmong absent p ⊎ IsOwnTable d p) → length absent ≡ length (lacking f v blocks x)
  all_here alone a top under over absent once missing all =
      absent_all good v blocks stand.extent stand.start stand.few level stand.below absent once (λ p h. missing_here p (missing p h)) top under
      (λ j from to. own_here (position_over f x.first j) (over j from to))
      (λ p h. elim (all p h) [ inl m ↦ inl m | inr own ↦ inr (own_here p own) ])

  -- so many of the positions that were found absent below the table are so from view v on
  found : (w : View) (absent : List Position) (count : ℕ) → count ≤ length absent → count ≤ v.frames + 1 → ((p : Position) → places p absent ≤ 1) →
      ((p : Position) → IsAmong absent p → IsMissing d (tables_below f x level) p) →
      (tells → (facts : List Absence) × (w.absent ≡ d.absent ++ facts) × ((p : Position) → IsAmong absent p → IsTrue (is_shown f facts p))) →
      FindsAbsent f tells v (rested w) blocks x count
  found w absent count most capped once missing told = record {
    capped = capped;
    few = (let s = absent_few good v blocks stand.extent stand.start stand.few level stand.below absent once (λ p h. missing_here p (missing p h)) in omega arith);
    shown = λ t.
        let first : AddsAbsences v d = stand.walked.absent t in
        let here = told t in
        let facts : List Absence = first.facts ++ here.0 in
        let s = absent_shown good v blocks stand.extent stand.start stand.few level stand.below absent once (λ p h. missing_here p (missing p h)) facts
        (λ p h. shown_right f first.facts here.0 p (here.2 p h)) in
        (facts, here.1 ∙ ap (λ (xs : List Absence). xs ++ here.0) first.are ∙ append_assoc v.absent first.facts here.0, omega arith);
  }

  -- what was met on the way down, and then below the table
  grew_on : (w : View) → tells → AddsAbsences d w → ((lost : List ℕ) × (w.taken ≡ d.taken ++ lost)) → AddsToHistory v (rested w)
  grew_on w t facts lost = (
    (let a = absences_on (stand.walked.absent t) facts in record { facts = a.facts; are = a.are }),
    lost.0,
    lost.1 ∙ ap (λ (xs : List ℕ). xs ++ lost.0) (stand.walked.taken t),
  )

  -- The part was mapped.
  module _ {alone : Type 0} {linked : ℕ} {w : View} (m : MappedBelow f tells alone linked d w x level) where
    pieces_after : w.pieces ≡ add_pieces f v.pieces (all_pieces f (tiles f x))
    pieces_after = m.pieces ∙ ap (λ (ps : List Piece). add_pieces f ps (all_pieces f (tiles f x))) stand.walked.book.pieces

    tables_same : (p : Position) → IsAmong w.tables p ↔ ((IsAmong v.tables p × (is_replaced f (tiles f x) p ≡ false)) ⊎ (IsAmong (tables_of f x) p × (is_spine v.levels p ≡ false)))
    tables_same p =
        subst (λ (l : ℕ). IsAmong w.tables p ↔ ((IsAmong v.tables p × (is_replaced f (tiles f x) p ≡ false)) ⊎ (IsAmong (tables_of f x) p × (is_spine l p ≡ false)))) stand.walked.range.levels
        (subst (λ (ps : List Position). IsAmong w.tables p ↔ ((IsAmong ps p × (is_replaced f (tiles f x) p ≡ false)) ⊎ (IsAmong (tables_of f x) p × (is_spine d.levels p ≡ false)))) stand.walked.book.tables (m.tables p))

    sorted_after : IsSorted w.tables
    sorted_after = m.in_order (subst (λ (ps : List Position). IsSorted ps) (sym stand.walked.book.tables) stand.sorted)

    pub accepts : occupied f x (book_of v blocks) ≡ None
    accepts = ap (λ o. option_map (λ page. Occupied (byte_at f page)) o) (none_there m.free)

    few : length m.absent ≤ length (unknown f v blocks x)
    few = absent_few good v blocks stand.extent stand.start stand.few level stand.below m.absent m.are_absent.once (λ p h. missing_here p (m.are_absent.missing p h))

    top_after : w.top ≡ (book_with f v blocks x).top
    top_after =
        let some = stand.extent.some in
        m.top ∙ (λ i. top_with f (stand.walked.range.levels i) (stand.walked.book.top i) (tiles f x))
        ∙ top_of_tiling f v.levels x.prot (tiles f x) v.top x.first x.out (x.end - x.first) (extent_tiling good stand.extent) (omega arith)

    blocks_after : w.pieces ≡ all_pieces f (book_with f v blocks x).blocks
    blocks_after =
        let some = stand.extent.some in
        let ends : x.end ≡ x.first + (x.end - x.first) = omega arith in
        let apart : Apart x.first (x.first + (x.end - x.first)) blocks =
        subst (λ (n : ℕ). Apart x.first n blocks) ends (free_apart good stand.rest x.first x.end stand.extent.some (free_here m.free)) in
        pieces_after ∙ ap (λ (ps : List Piece). add_pieces f ps (all_pieces f (tiles f x))) stand.rest.pieces
        ∙ adds_pieces good x.prot x.first x.out (x.end - x.first) (tiles f x) blocks (extent_tiling good stand.extent)
        (in_order_from 0 blocks (λ k b less e. omega arith) stand.lawful.in_order) apart

    replaced_same : length (replaced f d (tiles f x)) ≡ length (replaced f v (tiles f x))
    replaced_same = ap (λ (ps : List Position). length (filter (is_replaced f (tiles f x)) ps)) stand.walked.book.tables

    pub is_mapped : IsMapped f tells v (rested w) blocks x
    is_mapped = record {
      range = range_rested v w (range_on stand.walked.range m.range);
      rest = record {
        path = refl;
        prepared = m.prepared ∙ stand.walked.prepared ∙ stand.rest.prepared;
        end = m.end ∙ stand.walked.purse.end ∙ stand.rest.end;
        pieces = blocks_after;
      };
      tables = tables_after good v stand.extent blocks w.tables stand.start stand.few stand.aligned stand.sorted sorted_after tables_same;
      top = top_after;
      frames = record {
        absent = length m.absent;
        found = found w m.absent (length m.absent) (omega arith) (let c = m.capped in let n = frames_same in omega arith) m.are_absent.once m.are_absent.missing m.shown;
        freed = m.freed;
        drawn = m.drawn;
        linked = m.used;
        purse = ap (λ (xs : List ℕ). m.freed ++ (m.drawn ++ xs)) (sym purse_same) ∙ m.purse;
        back = let b = m.back in let gone = replaced_same in let same = covered_many good v stand.extent stand.aligned in omega arith;
        few = (let a = m.few in let b = few in omega arith);
        within = m.few;
        spared = (let a = m.spared in let p : length d.purse ≡ length v.purse = ap length purse_same in omega arith);
      };
      known = λ p h. m.known p (stand.walked.known p h);
      busy = λ frame h. m.busy frame ((stand.walked.busy frame).1 h);
      grew = λ t. grew_on w t (let s = m.shown t in record { facts = s.0; are = s.1 }) (m.taken t);
      stores = λ t. m.stores t ∙ ap (λ (xs : List Change). xs ++ map Written (all_pieces f (tiles f x))) (stand.walked.stores t);
    }

    -- over a lone holder, where so many positions were linked before
    module _ (aside : Aside) (is : linked ≡ linked_count v aside) (a : alone) (reach : least_top f v.levels x.end ≤ v.top) (under : x.end ≤ end_of_table f (position_over f x.first level)) (over : OwnsOver f d x.first level f.levels) where
      pub links_all : LinksAll f v (rested w) aside blocks x
      links_all =
          let all = all_here alone a reach under over m.absent m.are_absent.once m.are_absent.missing (m.are_absent.all a) in
          let room = m.room a in let frames = frames_same in
          let more = tables_more good v blocks stand.extent stand.start stand.few w.tables stand.sorted sorted_after tables_same in
          let every = ap length (all_off good v blocks stand.extent stand.start stand.few reach) in
          let top : w.top ≡ v.top = (let after = top_after in let some = stand.extent.some in
          let ends : x.first + (x.end - x.first) ≡ x.end = omega arith in
          let least : least_top f v.levels (x.first + (x.end - x.first)) ≡ least_top f v.levels x.end = ap (least_top f v.levels) ends in omega arith) in
          let levels : w.levels ≡ v.levels = m.range.levels ∙ stand.walked.range.levels in
          let spine : length (levels_between (starting_top w.levels) w.top) ≡ length (levels_between (starting_top v.levels) v.top) = (λ i. length (levels_between (starting_top (levels i)) (top i))) in
          let gone = replaced_same in
          let back = m.only a in let used = m.few in
          let purse : length d.purse ≡ length v.purse = ap length purse_same in
          let sum : length (m.freed ++ (m.drawn ++ d.purse)) ≡ length (m.used ++ w.purse) = ap length m.purse in
          let left : length (m.freed ++ (m.drawn ++ d.purse)) ≡ length m.freed + (length m.drawn + length d.purse) =
          length-append m.freed (m.drawn ++ d.purse) ∙ ap (λ (n : ℕ). length m.freed + n) (length-append m.drawn d.purse) in
          let right = length-append m.used w.purse in
          record { enough = omega arith; linked = omega arith; none_lost = omega arith }

  -- A refusal from view d on is one from view v on.
  pub stays_by : {w : View} → IsRefused f tells d w → v.path ≡ [] → IsRefused f tells v (rested w)
  stays_by {w = w} s path = record {
    range = range_rested v w (range_on stand.walked.range s.range);
    book = book_rested v w (book_on stand.walked.book s.book);
    path = sym path;
    prepared = s.prepared ∙ stand.walked.prepared;
    end = s.end ∙ stand.walked.purse.end;
    purse = (s.purse.0, s.purse.1 ∙ ap (λ (xs : List ℕ). s.purse.0 ++ xs) purse_same);
    known = λ p k. s.known p (stand.walked.known p k);
    busy = λ frame k. s.busy frame ((stand.walked.busy frame).1 k);
    grew = λ t. let g = s.grew t in grew_on w t g.0 (g.1, g.2);
    stores = λ t. s.stores t ∙ stand.walked.stores t;
  }

  pub each_by : {w : View} → tells → FindsEach d w → FindsEach v (rested w)
  each_by t each = record {
    drawn = each.drawn;
    lost = each.lost;
    purse = each.purse ∙ ap (λ (xs : List ℕ). each.drawn ++ xs) purse_same;
    taken = each.taken ∙ ap (λ (xs : List ℕ). xs ++ each.lost) (stand.walked.taken t);
    each = λ frame less. elim (each.each frame (subst (λ (k : ℕ). frame < k) (sym frames_same) less)) [
      | inl held ↦ inl (subst (λ (xs : List ℕ). IsIn xs frame) purse_same held)
      | inr other ↦ inr other
    ];
  }

  pub keeps_purse : (w : View) (e : MapRefused) → KeepsPurse d w e → KeepsPurse v (rested w) e
  keeps_purse w (refused.NoFrames absent held) k = tt
  keeps_purse w refused.Misaligned k = k ∙ purse_same
  keeps_purse w refused.OutsideLease k = k ∙ purse_same
  keeps_purse w refused.OutputRange k = k ∙ purse_same
  keeps_purse w (refused.Occupied address) k = k ∙ purse_same

  -- why it was refused
  module _ (alone : Type 0) (linked : ℕ) (w : View) where
    pub is_refused : (e : MapRefused) → HasCause f tells alone linked d w x level e → occupied f x (book_of v blocks) ≡ refusal_of e
    is_refused (refused.NoFrames absent held) h = ap (λ o. option_map (λ page. Occupied (byte_at f page)) o) (none_there h.0)
    is_refused (refused.Occupied address) h =
        ap (λ o. option_map (λ page. Occupied (byte_at f page)) o) (first_mapped good stand.rest stand.lawful stand.owns x.first x.end h.0 (lowest_on stand.walked.book h.2))
        ∙ ap (λ (n : ℕ). Some (Occupied n)) (sym h.1)
    is_refused refused.Misaligned h = absurd h
    is_refused refused.OutsideLease h = absurd h
    is_refused refused.OutputRange h = absurd h

    -- want of frames
    module _ {absent held : ℕ} (n : Counted f tells alone d w (tables_below f x level) (d.frames + 1) absent) (l : LacksFrames tells alone linked d w absent held) where
      wants : WantsFrames f tells v (rested w) blocks x absent held
      wants = record {
        more = l.more;
        held_is = l.held_is;
        found = found w n.absent absent (let c = n.count_is in omega arith) (let c = n.count_is in let s = frames_same in omega arith) n.once n.missing n.told;
        idle = λ over. l.idle (let s = frames_same in omega arith) ∙ purse_same;
        tried = λ t. elim (l.tried t) [
          | inl over ↦ inl (let s = frames_same in omega arith)
          | inr each ↦ inr (each_by t each)
        ];
      }

      is_short : alone → least_top f v.levels x.end ≤ v.top → x.end ≤ end_of_table f (position_over f x.first level) → OwnsOver f d x.first level f.levels →
          (v.frames < linked + length (lacking f v blocks x)) × (absent ≡ min (v.frames + 1) (length (lacking f v blocks x)))
      is_short a reach under over =
          let c = n.count_is in let s = frames_same in let more = l.more in let is = l.held_is in
          let most = absent_most good v blocks stand.extent stand.start stand.few level stand.below n.absent n.once (λ p h. missing_here p (n.missing p h)) in
          elim (cases_lt absent (d.frames + 1)) [
            | inl fits ↦
                let all = all_here alone a reach under over n.absent n.once n.missing (n.all a fits) in
                elim (l.all a) [
                  | inl none ↦ absurd (omega arith)
                  | inr sum ↦ (omega arith, omega arith)
                ]
            | inr many ↦ (omega arith, omega arith)
          ]

    pub is_wanting : (e : MapRefused) → HasCause f tells alone linked d w x level e → IsWanting f tells v (rested w) blocks x e
    is_wanting (refused.NoFrames absent held) h = wants h.1 h.2
    is_wanting refused.Misaligned h = tt
    is_wanting refused.OutsideLease h = tt
    is_wanting refused.OutputRange h = tt
    is_wanting (refused.Occupied address) h = tt

    pub is_short_of : alone → least_top f v.levels x.end ≤ v.top → x.end ≤ end_of_table f (position_over f x.first level) → OwnsOver f d x.first level f.levels →
        (e : MapRefused) → HasCause f tells alone linked d w x level e → IsShortOf f v linked blocks x e
    is_short_of a reach under over (refused.NoFrames absent held) h = is_short h.1 h.2 a reach under over
    is_short_of a reach under over refused.Misaligned h = tt
    is_short_of a reach under over refused.OutsideLease h = tt
    is_short_of a reach under over refused.OutputRange h = tt
    is_short_of a reach under over (refused.Occupied address) h = tt
