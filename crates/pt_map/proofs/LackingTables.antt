-- The positions that a request needs and that a book lacks, against those that were found absent.
use Rattle.std.proofs.lemmas.Bool.{not-true, not_from_false, and_from, and_parts, cases_lt, false_from_ne_true, false≢true, le-leb, lt-ltb, ltb-true, or_cases, or_left, or_right}
use Rattle.std.proofs.Common.{◌≡◌, ◌⊎◌, ◌↔◌, ℕ, ◌+◌, ◌<◌, ◌≤◌, List, ◌++◌, true, false, inl, inr, ap, sym, subst, ◌∙◌, arith, length-append, ◌-◌}
use Rattle.std.specs.Prelude.{IsTrue, Bool, ◌&&◌, not, nat_le, nat_lt, filter, length}
use Rattle.pt_model.specs.declared.block.Block.{Block}
use Rattle.pt_model.specs.declared.position.Position.{Position}
use Rattle.pt_model.specs.Layout.{Layout}
use Rattle.pt_model.specs.Book.{is_linked}
use Rattle.pt_model.specs.Sets.{IsSorted, IsAmong, places}
use Rattle.pt_model.specs.Tables.{end_of_table, is_spine, position_over, all_needed, least_top}
use Rattle.pt_model.proofs.Positions.{sorted_filter, among_filtered, among_passes, places_append, sorted_once, filter_members, among_append, among_left, among_right, any_among, among_any, Once, length_within, same_length}
use Rattle.pt_format.specs.Laws.{IsLayout}
use Rattle.pt_view.specs.declared.view.View.{View}
use Rattle.pt_view.specs.declared.view.Absence.{Absence}
use Rattle.pt_view.specs.Views.{book_of}
use Rattle.pt_walk.specs.Walks.{OwnsOver}
use Rattle.pt_tile.specs.declared.extent.Extent.{Extent}
use Rattle.pt_map.specs.Absent.{IsMissing, is_shown}
use Rattle.pt_map.specs.Answers.{lacking, unknown}
use Rattle.pt_map.proofs.NeededTables.{needs_over, needs_page, needs_sorted, needed_same}
use Rattle.pt_tile.specs.Extents.{IsExtent, tables_below, tables_of, tiles}
use Rattle.pt_map.specs.Replaced.{is_replaced, replaced}
use Rattle.pt_map.proofs.ReplacedTables.{needed_stays, two_parts}
use Rattle.pt_map.specs.Stands.{IsOwnTable}
use Rattle.pt_tile.proofs.Needed.{needed_below}

-- The lacking positions of an extent.
module _ {f : Layout} (good : IsLayout f) (v : View) (blocks : List Block) {x : Extent} (part : IsExtent f x) (start : f.start ≤ v.levels) (few : v.levels ≤ f.levels) where
  -- a needed position of the spine is up to the top, where this reaches over the extent
  spine_linked : least_top f v.levels x.end ≤ v.top → (p : Position) → IsAmong (all_needed f v.levels (tiles f x)) p → is_spine v.levels p ≡ true → is_linked v.levels (book_of v blocks) p ≡ true
  spine_linked top p needed spine =
      let some = part.some in let input = part.in_input in
      let ends : x.first + (x.end - x.first) ≡ x.end = omega arith in
      let e : least_top f v.levels (x.first + (x.end - x.first)) ≡ least_top f v.levels x.end = ap (least_top f v.levels) ends in
      let low = needed_below f v.levels x.first x.out (x.end - x.first) x.prot good.has_pages (λ k a. omega (arith, good.sizes_low k a, good.start_low)) (omega arith) part.in_output p needed in
      or_left (is_spine v.levels p && nat_le p.level v.top) _ (and_from (is_spine v.levels p) _ spine (le-leb p.level v.top (omega arith)))

  pub table_linked : (p : Position) → IsAmong v.tables p → is_linked v.levels (book_of v blocks) p ≡ true
  table_linked p h = or_right (is_spine v.levels p && nat_le p.level v.top) _ (among_any v.tables p (h))

  not_linked : (p : Position) → (¬ IsAmong v.tables p) → is_spine v.levels p ≡ false → is_linked v.levels (book_of v blocks) p ≡ false
  not_linked p no_table no_spine = false_from_ne_true (is_linked v.levels (book_of v blocks) p) (λ e.
      elim (or_cases (is_spine v.levels p && nat_le p.level v.top) _ e) [
        | inl spine ↦ false≢true (sym no_spine ∙ (and_parts (is_spine v.levels p) _ spine).0)
        | inr table ↦ no_table ((any_among v.tables p table))
      ])

  same_off : (p : Position) → is_spine v.levels p ≡ false → IsAmong (all_needed f v.levels (tiles f x)) p ↔ IsAmong (tables_of f x) p
  same_off p off = needed_same good part v.levels start few p off

  pub low_needed : (p : Position) → IsAmong (tables_of f x) p → p.level < f.levels
  low_needed p h = (needs_page good part p h).3

  -- a lacking position is needed, no table of the book, and, where the top reaches over the extent, not of the spine
  pub lacks : least_top f v.levels x.end ≤ v.top → (p : Position) → IsAmong (lacking f v blocks x) p → IsAmong (tables_of f x) p × (¬ IsAmong v.tables p) × (is_spine v.levels p ≡ false)
  lacks top p h =
      let r = among_filtered (λ q. not (is_linked v.levels (book_of v blocks) q)) (all_needed f v.levels (tiles f x)) p h in
      let no : is_linked v.levels (book_of v blocks) p ≡ false = not-true (is_linked v.levels (book_of v blocks) p) r.1 in
      let off : is_spine v.levels p ≡ false = false_from_ne_true (is_spine v.levels p) (λ spine. false≢true (sym no ∙ spine_linked top p r.0 spine)) in
      ((same_off p off).0 r.0, (λ there. false≢true (sym no ∙ table_linked p there)), off)

  pub is_lacking : (p : Position) → IsAmong (tables_of f x) p → (¬ IsAmong v.tables p) → is_spine v.levels p ≡ false → IsAmong (lacking f v blocks x) p
  is_lacking p needed no_table no_spine =
      among_passes (λ q. not (is_linked v.levels (book_of v blocks) q)) (all_needed f v.levels (tiles f x)) p ((same_off p no_spine).1 needed) (not_from_false (is_linked v.levels (book_of v blocks) p) (not_linked p no_table no_spine))

  pub lacking_once : Once (lacking f v blocks x)
  lacking_once = sorted_once (lacking f v blocks x) (sorted_filter _ (all_needed f v.levels (tiles f x)) (needs_sorted f v.levels (tiles f x)))

  pub is_unknown : (p : Position) → IsAmong (lacking f v blocks x) p → (¬ IsAmong v.known p) → IsAmong (unknown f v blocks x) p
  is_unknown p lacks unknown =
      among_passes (λ q. not (nat_lt 0 (places q v.known))) (lacking f v blocks x) p lacks
      (not_from_false (nat_lt 0 (places p v.known)) (false_from_ne_true (nat_lt 0 (places p v.known)) (λ e. unknown (ltb-true 0 (places p v.known) e))))

  -- The positions that were found absent below a level.
  module _ (level : ℕ) (below : level < f.levels) (absent : List Position) (once : Once absent)
      (missing : (p : Position) → IsAmong absent p → IsMissing v (tables_below f x level) p) where
    absent_lacks : (p : Position) → IsAmong absent p → IsAmong (lacking f v blocks x) p
    absent_lacks p h =
        let m = missing p h in
        let n = among_filtered (λ q. nat_lt q.level level) (tables_of f x) p m.is_needed in
        is_lacking p n.0 m.no_table m.off_spine

    absent_unknown : (p : Position) → IsAmong absent p → IsAmong (unknown f v blocks x) p
    absent_unknown p h = is_unknown p (absent_lacks p h) (missing p h).unknown

    -- they are no more than the unknown ones, and than those of these that are shown
    pub absent_few : length absent ≤ length (unknown f v blocks x)
    absent_few = length_within absent (unknown f v blocks x) once absent_unknown

    pub absent_shown : (facts : List Absence) → ((p : Position) → IsAmong absent p → IsTrue (is_shown f facts p)) → length absent ≤ length (filter (is_shown f facts) (unknown f v blocks x))
    absent_shown facts shown =
        length_within absent (filter (is_shown f facts) (unknown f v blocks x)) once
        (λ p h. among_passes (is_shown f facts) (unknown f v blocks x) p (absent_unknown p h) (shown p h))

    pub absent_most : length absent ≤ length (lacking f v blocks x)
    absent_most = length_within absent (lacking f v blocks x) once absent_lacks

    -- over a lone holder they are the lacking ones: the tables over the part from the level on are linked
    module _ (top : least_top f v.levels x.end ≤ v.top) (under : x.end ≤ end_of_table f (position_over f x.first level)) (owns : OwnsOver f v x.first level f.levels)
        (all : (p : Position) → IsAmong (tables_below f x level) p → IsAmong absent p ⊎ IsOwnTable v p) where
      lacks_absent : (p : Position) → IsAmong (lacking f v blocks x) p → IsAmong absent p
      lacks_absent p h =
          let l = lacks top p h in
          elim (cases_lt p.level level) [
            | inl low ↦ elim (all p (among_passes (λ q. nat_lt q.level level) (tables_of f x) p l.0 (lt-ltb p.level level low))) [
              | inl here ↦ here
              | inr own ↦ absurd (elim own [ inl there ↦ l.1 there | inr spine ↦ false≢true (sym l.2 ∙ spine) ])
            ]
            | inr high ↦
                let over : position_over f x.first p.level ≡ p = needs_over good part level under p l.0 high in
                absurd (elim (owns p.level high (low_needed p l.0)) [
                  | inl there ↦ l.1 (subst (IsAmong v.tables) over there)
                  | inr spine ↦ false≢true (sym l.2 ∙ subst (λ (q : Position). is_spine v.levels q ≡ true) over spine)
                ])
          ]

      pub absent_all : length absent ≡ length (lacking f v blocks x)
      absent_all = same_length absent (lacking f v blocks x) once lacking_once absent_lacks lacks_absent

  -- those off the spine
  abbrev pub lacking_off : List Position
  lacking_off = filter (λ p. not (is_spine v.levels p)) (lacking f v blocks x)

  pub lacks_off : (p : Position) → IsAmong lacking_off p → IsAmong (tables_of f x) p × (¬ IsAmong v.tables p) × (is_spine v.levels p ≡ false)
  lacks_off p h =
      let o = among_filtered (λ q. not (is_spine v.levels q)) (lacking f v blocks x) p h in
      let off : is_spine v.levels p ≡ false = not-true (is_spine v.levels p) o.1 in
      let r = among_filtered (λ q. not (is_linked v.levels (book_of v blocks) q)) (all_needed f v.levels (tiles f x)) p o.0 in
      let no : is_linked v.levels (book_of v blocks) p ≡ false = not-true (is_linked v.levels (book_of v blocks) p) r.1 in
      ((same_off p off).0 r.0, (λ there. false≢true (sym no ∙ table_linked p there)), off)

  -- the tables after a map are those before, but for those that blocks take the place of, and the lacking ones off the spine
  pub tables_more : (tables : List Position) → IsSorted v.tables → IsSorted tables →
      ((p : Position) → IsAmong tables p ↔ ((IsAmong v.tables p × (is_replaced f (tiles f x) p ≡ false)) ⊎ (IsAmong (tables_of f x) p × (is_spine v.levels p ≡ false)))) →
      length tables + length (replaced f v (tiles f x)) ≡ length v.tables + length lacking_off
  tables_more tables sorted sorted_after same =
      let more : List Position = lacking_off in
      let stays : Position → Bool = λ p. not (is_replaced f (tiles f x) p) in
      let left : List Position = filter stays v.tables in
      let once : Once (left ++ more) = (λ p.
      let sum = places_append p left more in
      let a = sorted_once left (sorted_filter stays v.tables sorted) p in let b = off_once p in
      elim (cases_lt 0 (places p more)) [
        | inr none ↦ omega arith
        | inl some ↦ elim (cases_lt 0 (places p left)) [
          | inl both ↦ absurd ((lacks_off p some).1 (among_filtered stays v.tables p both).0)
          | inr none ↦ omega arith
        ]
      ]) in
      let e : length tables ≡ length (left ++ more) =
      same_length tables (left ++ more) (sorted_once tables sorted_after) once
      (λ p h. elim ((same p).0 h) [
        | inl old ↦ among_left p left more (among_passes stays v.tables p old.0 (ap not old.1))
        | inr new ↦ elim (cases_lt 0 (places p v.tables)) [
          | inl old ↦ among_left p left more (among_passes stays v.tables p old (ap not (needed_stays good part p new.0)))
          | inr none ↦ among_right p left more
              (among_passes (λ q. not (is_spine v.levels q)) (lacking f v blocks x) p (is_lacking p new.0 (λ there. omega arith) new.1) (ap not new.1))
        ]
      ])
      (λ p h. (same p).1 (elim (among_append p left more h) [
        | inl old ↦ (let r = among_filtered stays v.tables p old in inl (r.0, not-true (is_replaced f (tiles f x) p) r.1))
        | inr new ↦ (let l = lacks_off p new in inr (l.0, l.2))
      ])) in
      let sum = length-append left more in
      let parts = two_parts (is_replaced f (tiles f x)) v.tables in omega arith
    where
      off_once : Once lacking_off
      off_once = sorted_once lacking_off (sorted_filter (λ p. not (is_spine v.levels p)) (lacking f v blocks x)
          (sorted_filter _ (all_needed f v.levels (tiles f x)) (needs_sorted f v.levels (tiles f x))))

  -- where the top reaches over the extent, all are off the spine
  pub all_off : least_top f v.levels x.end ≤ v.top → lacking_off ≡ lacking f v blocks x
  all_off top = filter_members (λ p. not (is_spine v.levels p)) (lacking f v blocks x) (λ p h. ap not (lacks top p h).2)
