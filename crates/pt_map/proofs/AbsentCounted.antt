-- An extent is gone through from its first page on, and what is absent of what it needs is counted.
use Rattle.std.proofs.Common.{◌≡◌, ℕ, ◌+◌, ◌-◌, ◌*◌, ◌/◌, ◌^◌, ◌<◌, ◌≤◌, ◌⊎◌, ◌↔◌, List, [], ◌++◌, refl, ap, sym, subst, ◌∙◌, arith, inl, inr, ⊎_elim, length-append, false}
use Rattle.std.specs.Prelude.{IsTrue, filter, min, nat_lt}
use Rattle.std.proofs.lemmas.Bool.{cases_eq, cases_lt, ltb-true, or_left, or_right}
use Rattle.std.proofs.lemmas.List.{append_assoc, append-nil}
use Rattle.std.proofs.lemmas.List.Folds.{list_any-append}
use Rattle.std.proofs.lemmas.Nat.{le-div, mul-le, pow_pos, shl-shr, shr_split}
use Rattle.pt_model.specs.declared.block.Block.{Block}
use Rattle.pt_model.specs.declared.position.Position.{Position}
use Rattle.pt_model.specs.Layout.{Layout, pages_of_entry}
use Rattle.pt_model.specs.Tables.{all_needed, is_spine}
use Rattle.pt_model.specs.Tiling.{tiling}
use Rattle.pt_format.specs.Laws.{IsLayout}
use Rattle.pt_tile.specs.Runs.{run_blocks}
use Rattle.pt_view.specs.declared.view.View.{View}
use Rattle.pt_view.specs.declared.view.Absence.{Absence}
use Rattle.pt_model.specs.Sets.{IsAmong, places}
use Rattle.pt_walk.specs.Walks.{IsClear}
use Rattle.pt_view.specs.Loads.{ByLoads}
use Rattle.pt_view.proofs.Loads.{loads_on, loads_here}
use Rattle.pt_walk.proofs.Ranges.{clear_from, clear_on}
use Rattle.pt_tile.specs.declared.extent.Extent.{Extent}
use Rattle.pt_map.specs.Absent.{Counted, is_shown, shows}
use Rattle.pt_tile.proofs.FirstParts.{cut_part, first_from, first_split, first_to, tile_of, low_after}
use Rattle.pt_tile.proofs.RunTilings.{run_from, run_tiles}
use Rattle.pt_map.proofs.NeededTables.{LiesUnder, below_under, needs_any, needs_append, run_needs}
use Rattle.pt_tile.proofs.UnderEntries.{split_tiles, under_part}
use Rattle.pt_map.specs.Stands.{IsEntryExtent, IsExtentAt, IsOwnTable}
use Rattle.pt_tile.specs.Extents.{IsExtent, IsFirstTo, IsOneBlock, IsRun, first_size, tables_below, tables_of, tiles, under_entry, up_to, from}
use Rattle.pt_model.proofs.Positions.{among_filtered, among_passes, places_append, among_append, among_left, among_right}
use Rattle.pt_map.proofs.StandAfter.{at_moves, keeps_here, loads_keep}

-- the positions below a level that blocks need
abbrev pub below : Layout → (level : ℕ) → List Block → List Position
below f level bs = filter (λ p. nat_lt p.level level) (all_needed f f.levels bs)

pub below_append : (f : Layout) (level : ℕ) (xs ys : List Block) (p : Position) → IsAmong (below f level (xs ++ ys)) p ↔ (IsAmong (below f level xs) p ⊎ IsAmong (below f level ys) p)
below_append f level xs ys p = (
  (λ h.
      let r = among_filtered (λ q. nat_lt q.level level) (all_needed f f.levels (xs ++ ys)) p h in
      ⊎_elim (λ a. inl (among_passes (λ q. nat_lt q.level level) (all_needed f f.levels xs) p a r.1)) (λ b. inr (among_passes (λ q. nat_lt q.level level) (all_needed f f.levels ys) p b r.1))
      ((needs_append f f.levels xs ys p).0 r.0)),
  (λ h. ⊎_elim
      (λ a. let r = among_filtered (λ q. nat_lt q.level level) (all_needed f f.levels xs) p a in
      among_passes (λ q. nat_lt q.level level) (all_needed f f.levels (xs ++ ys)) p ((needs_append f f.levels xs ys p).1 (inl r.0)) r.1)
      (λ b. let r = among_filtered (λ q. nat_lt q.level level) (all_needed f f.levels ys) p b in
      among_passes (λ q. nat_lt q.level level) (all_needed f f.levels (xs ++ ys)) p ((needs_append f f.levels xs ys p).1 (inr r.0)) r.1)
      h),
)

-- a walk counts nothing where nothing is needed
pub nothing_counted : (f : Layout) (tells alone : Type 0) (v w : View) (needed : List Position) (cap : ℕ) → ByLoads tells v w → ((p : Position) → IsAmong needed p → ⊥) → Counted f tells alone v w needed cap 0
nothing_counted f tells alone v w needed cap walked none = record {
  absent = [];
  count_is = omega arith;
  once = λ p. omega arith;
  missing = λ p h. absurd (omega arith);
  others = λ few p h. absurd (none p h);
  all = λ a few p h. absurd (none p h);
  told = λ t. let a = walked.absent t in (a.facts, a.are, λ p h. absurd (omega arith));
}

-- the facts of two walks show what each shows
pub shown_left : (f : Layout) (xs ys : List Absence) (p : Position) → IsTrue (is_shown f xs p) → IsTrue (is_shown f (xs ++ ys) p)
shown_left f xs ys p h = list_any-append (λ x. shows f x p) xs ys ∙ or_left (is_shown f xs p) (is_shown f ys p) h

pub shown_right : (f : Layout) (xs ys : List Absence) (p : Position) → IsTrue (is_shown f ys p) → IsTrue (is_shown f (xs ++ ys) p)
shown_right f xs ys p h = list_any-append (λ x. shows f x p) xs ys ∙ or_right (is_shown f xs p) (is_shown f ys p) h

-- an own table is one of a view of the same tables and levels
pub own_on : (v w : View) → w.tables ≡ v.tables → w.levels ≡ v.levels → (p : Position) → IsOwnTable w p → IsOwnTable v p
own_on v w tables levels p (inl there) = inl (subst (λ (ts : List Position). IsAmong ts p) tables there)
own_on v w tables levels p (inr spine) = inr (subst (λ (l : ℕ). IsTrue (is_spine l p)) levels spine)

-- Two counts, one after the other.
module _ {f : Layout} {tells alone alone' : Type 0} (still : alone → alone') {u v w : View} {first second : List Position} (all : List Position) {cap m n : ℕ} (x : ByLoads tells u v) (y : ByLoads tells v w) (a : Counted f tells alone u v first cap m) (b : Counted f tells alone' v w second cap n) (apart : (p : Position) → IsAmong a.absent p → IsAmong b.absent p → ⊥) (parts : (p : Position) → IsAmong all p ↔ (IsAmong first p ⊎ IsAmong second p)) where
  pub counted_on : (c : Counted f tells alone u w all cap (min cap (m + n))) × ((p : Position) → IsAmong c.absent p → IsAmong a.absent p ⊎ IsAmong b.absent p)
  counted_on = (
    record {
      absent = a.absent ++ b.absent;
      count_is = (let i = a.count_is in let j = b.count_is in let e = length-append a.absent b.absent in omega arith);
      once = λ p.
          let e = places_append p a.absent b.absent in
          let i = a.once p in let j = b.once p in
          elim (cases_lt 0 (places p a.absent)) [
            | inr none ↦ omega arith
            | inl here ↦ elim (cases_lt 0 (places p b.absent)) [ inr none ↦ omega arith | inl there ↦ absurd (apart p here there) ]
          ];
      missing = λ p h. elim (among_append p a.absent b.absent h) [
        | inl i ↦ (let k = a.missing p i in record { is_needed = (parts p).1 (inl k.is_needed); off_spine = k.off_spine; no_table = k.no_table; unknown = k.unknown })
        | inr j ↦ (let k = b.missing p j in record {
          is_needed = (parts p).1 (inr k.is_needed);
          off_spine = subst (λ (l : ℕ). is_spine l p ≡ false) x.range.levels k.off_spine;
          no_table = λ t. k.no_table (subst (λ (ts : List Position). IsAmong ts p) (sym x.book.tables) t);
          unknown = λ t. k.unknown (x.known p t);
        })
      ];
      others = λ less p h. elim ((parts p).0 h) [
        | inl i ↦ ⊎_elim (λ q. inl (among_left p a.absent b.absent q)) (λ k. inr (y.known p k)) (a.others (omega arith) p i)
        | inr j ↦ ⊎_elim (λ q. inl (among_right p a.absent b.absent q)) (λ k. inr k) (b.others (omega arith) p j)
      ];
      all = λ lone less p h. elim ((parts p).0 h) [
        | inl i ↦ ⊎_elim (λ q. inl (among_left p a.absent b.absent q)) (λ k. inr k) (a.all lone (omega arith) p i)
        | inr j ↦ ⊎_elim (λ q. inl (among_right p a.absent b.absent q)) (λ t. inr (own_on u v x.book.tables x.range.levels p t)) (b.all (still lone) (omega arith) p j)
      ];
      told = λ t. let i = a.told t in let j = b.told t in (
        i.0 ++ j.0,
        j.1 ∙ ap (λ (ys : List Absence). ys ++ j.0) i.1 ∙ append_assoc u.absent i.0 j.0,
        λ p h. ⊎_elim (λ q. shown_left f i.0 j.0 p (i.2 p q)) (λ q. shown_right f i.0 j.0 p (j.2 p q)) (among_append p a.absent b.absent h),
      );
    },
    λ p h. among_append p a.absent b.absent h,
  )

-- a multiple at or below a number is at or below the greatest one there
pub floor_mono : (m n k : ℕ) → m ≤ n → m / 2 ^ k * 2 ^ k ≤ n / 2 ^ k * 2 ^ k
floor_mono m n k h =
    let split = shr_split m k in
    let q : m / 2 ^ k ≤ n / 2 ^ k = le-div (m / 2 ^ k) n (2 ^ k) (pow_pos k) (omega arith) in
    mul-le (m / 2 ^ k) (2 ^ k) (n / 2 ^ k) (2 ^ k) q (omega arith)

pub floor_whole : (q k : ℕ) → q * 2 ^ k / 2 ^ k * 2 ^ k ≡ q * 2 ^ k
floor_whole q k = ap (λ m. m * 2 ^ k) (shl-shr q k)

-- What comes first of a part.
module _ {f : Layout} (good : IsLayout f) {x : Extent} (part : IsExtent f x) (level : ℕ) where
  -- a run of blocks that stand in the table of the level or above needs nothing below the level
  pub run_none : f.index * level ≤ first_size f x → (count : ℕ) (is : IsRun f x count) (p : Position) → IsAmong (tables_below f (up_to x (x.first + count * 2 ^ first_size f x)) level) p → ⊥
  run_none large count is p h =
      let r = among_filtered (λ q. nat_lt q.level level) (tables_of f (up_to x (x.first + count * 2 ^ first_size f x))) p h in
      let low = ltb-true p.level level r.1 in
      let index : 0 < f.index = omega (arith, good.index_is, good.granule_low) in
      let size : level ≤ first_size f x / f.index = le-div level (first_size f x) f.index index (omega arith) in
      let end : Extent = up_to x (x.first + count * 2 ^ first_size f x) in
      let tiles_are = run_tiles good part is in
      let from = run_from good part is in
      let cut = cut_part good part (x.first + count * 2 ^ first_size f x) from is.within in
      let high = run_needs f good x.prot (first_size f x) count x.first x.out p
      (λ b m. (tile_of good cut b (subst (λ (bs : List Block). IsOneBlock bs b) (sym tiles_are) m)).legal)
      (needs_any f f.levels (run_blocks count (first_size f x) x.prot x.first x.out) p (subst (λ (bs : List Block). IsAmong (all_needed f f.levels bs) p) tiles_are r.0)) in
      omega arith

  -- what is needed of it below the level lies under the entry over the first page
  module _ (below_all : level < f.levels) (page : ℕ) where
    pub first_under : IsFirstTo f level x page → (p : Position) → IsAmong (tables_below f (up_to x page) level) p →
        (LiesUnder f level x.first p) × (page ≡ min ((x.first / pages_of_entry f level + 1) * pages_of_entry f level) x.end)
    first_under (inl h) p m = absurd (run_none h.0 h.1 h.2 p (subst (λ (q : ℕ). IsAmong (tables_below f (up_to x q) level) p) h.3 m))
    first_under (inr h) p m = (
      below_under good (under_part good part level) level below_all (omega arith) p
          (subst (λ (q : ℕ). IsAmong (tables_below f (up_to x q) level) p) h.1 m),
      h.1,
    )

-- A part x was gone through, from view v to view w, up to the first page of what is left of it, and of what was needed up
-- to there so much was absent, all of it before the entry at which it goes on.
pub record HasGone (f : Layout) (tells alone : Type 0) (v w : View) (x rest : Extent) (level cap count : ℕ) : Type 0 where
  pub walked : ByLoads tells v w
  pub path : w.path ≡ v.path
  pub first : x.first ≤ rest.first
  pub within : rest.first ≤ x.end
  pub end : rest.end ≡ x.end
  pub out : rest.out ≡ x.out + (rest.first - x.first)
  pub prot : rest.prot ≡ x.prot
  pub gone : List Block
  pub tiles_are : tiles f x ≡ gone ++ tiles f rest
  pub counted : Counted f tells alone v w (below f level gone) cap count
  pub before : rest.first < x.end → (p : Position) → IsAmong counted.absent p → p.base < rest.first / pages_of_entry f level * pages_of_entry f level

-- at the start
pub gone_none : (f : Layout) (tells alone : Type 0) (v : View) (x : Extent) (level cap : ℕ) → x.first < x.end → HasGone f tells alone v v x x level cap 0
gone_none f tells alone v x level cap some =
    let c : Counted f tells alone v v (below f level []) cap 0 = nothing_counted f tells alone v v (below f level []) cap loads_here (λ p h. absurd (omega arith)) in
    record {
      walked = loads_here;
      path = refl;
      first = omega arith;
      within = omega arith;
      end = refl;
      out = omega arith;
      prot = refl;
      gone = [];
      tiles_are = refl;
      counted = c;
      before = λ less p h. absurd (let n = (c.missing p h).is_needed in omega arith);
    }

module _ {f : Layout} (good : IsLayout f) {tells alone : Type 0} {v w : View} {x rest : Extent} {level cap count : ℕ} (at : IsExtentAt f v x level) (gone : HasGone f tells alone v w x rest level cap count) where
  -- What is left is a part under the path's last table.
  module _ (more : rest.first < rest.end) where
    rest_part : IsExtent f rest
    rest_part =
        let e = gone.end in let o = gone.out in let a = gone.first in let input = at.extent.in_input in let output = at.extent.in_output in
        record { some = more; in_input = omega arith; in_output = omega arith; stated = subst (λ p. IsTrue (f.states p)) (sym gone.prot) at.extent.stated }

    rest_is : rest ≡ from x rest.first
    rest_is = (λ i. record { first = rest.first; end = gone.end i; out = gone.out i; prot = gone.prot i })

    rest_low : first_size f rest < f.index * (level + 1)
    rest_low = elim (cases_eq rest.first x.first) [
      | inl same ↦
          let out : rest.out ≡ x.out = (let o = gone.out in omega arith) in
          subst (λ (y : Extent). first_size f y < f.index * (level + 1)) (sym (λ i. record { first = same i; end = gone.end i; out = out i; prot = gone.prot i })) at.low
      | inr other ↦
          let e = gone.end in let a = gone.first in
          subst (λ (y : Extent). first_size f y < f.index * (level + 1)) (sym rest_is)
          (low_after good at.extent level rest.first at.range.under (omega arith) (omega arith))
    ]

    pub rest_at : IsExtentAt f w rest level
    rest_at = let e = gone.end in at_moves good at rest_part gone.first (let z : rest.end ≤ x.end = omega arith in z) rest_low (loads_keep gone.walked) gone.path

    pub rest_clear : IsClear f v x.first x.end level → IsClear f w rest.first rest.end level
    rest_clear clear =
        let a = gone.first in let e = gone.end in
        clear_on f rest.first rest.end level gone.walked.book (clear_from f v x.first x.end rest.first rest.end level clear a (omega arith))

    -- The first of what is left is gone through.
    module _ {alone' : Type 0} (still : alone → alone') {z : View} (walked : ByLoads tells w z) (path : z.path ≡ w.path) (page : ℕ) {number : ℕ} (to : IsFirstTo f level rest page) (counted : Counted f tells alone' w z (tables_below f (up_to rest page) level) cap number) where
      -- each position that was found absent before lies before those found now
      apart : (p : Position) → IsAmong gone.counted.absent p → IsAmong counted.absent p → ⊥
      apart p old new =
          let e = gone.end in
          let a = gone.before (omega arith) p old in
          let b = (first_under good rest_part level at.range.below page to p (counted.missing p new).is_needed).0 in
          let from = b.from in omega arith

      both : (c : Counted f tells alone v z (below f level (gone.gone ++ tiles f (up_to rest page))) cap (min cap (count + number)))
          × ((p : Position) → IsAmong c.absent p → IsAmong gone.counted.absent p ⊎ IsAmong counted.absent p)
      both = counted_on still (below f level (gone.gone ++ tiles f (up_to rest page))) gone.walked walked gone.counted counted apart (below_append f level gone.gone (tiles f (up_to rest page)))

      before_page : page < x.end → (p : Position) → IsAmong both.0.absent p → p.base < page / pages_of_entry f level * pages_of_entry f level
      before_page less p h =
          let e = gone.end in
          let past = first_from good rest_part level page to in
          elim (both.1 p h) [
            | inl old ↦ (let a = gone.before (omega arith) p old in let m = floor_mono rest.first page (f.index * level) (omega arith) in omega arith)
            | inr new ↦
                let u = first_under good rest_part level at.range.below page to p (counted.missing p new).is_needed in
                let here : page ≡ (rest.first / pages_of_entry f level + 1) * pages_of_entry f level = (let is = u.1 in omega arith) in
                let whole : page / pages_of_entry f level * pages_of_entry f level ≡ page = ap (λ q. q / pages_of_entry f level * pages_of_entry f level) here ∙ floor_whole (rest.first / pages_of_entry f level + 1) (f.index * level) ∙ sym here in
                let ends = u.0.to in let some = pow_pos (f.index * (p.level + 1)) in omega arith
          ]

      pub gone_more : (next : Extent) → next ≡ from rest page → (n : ℕ) → n ≡ min cap (count + number) → HasGone f tells alone v z x next level cap n
      gone_more next is n sum =
          subst (λ (y : Extent). HasGone f tells alone v z x y level cap n) (sym is) (subst (λ (m : ℕ). HasGone f tells alone v z x (from rest page) level cap m) (sym sum) (
          let a = gone.first in let e = gone.end in let o = gone.out in
          let past = first_from good rest_part level page to in
          let within = first_to good rest_part level page to in
          record {
            walked = loads_on gone.walked walked;
            path = path ∙ gone.path;
            first = omega arith;
            within = omega arith;
            end = gone.end;
            out = omega arith;
            prot = gone.prot;
            gone = gone.gone ++ tiles f (up_to rest page);
            tiles_are = gone.tiles_are ∙ ap (λ (bs : List Block). gone.gone ++ bs) (first_split good rest_part level page to)
                ∙ sym (append_assoc gone.gone (tiles f (up_to rest page)) (tiles f (from rest page)));
            counted = both.0;
            before = before_page;
          }
          ))

  -- In the end all was gone through.
  pub gone_all : ¬ (rest.first < rest.end) → Counted f tells alone v w (tables_below f x level) cap count
  gone_all stopped =
      let c = gone.counted in
      let wider : (p : Position) → IsAmong (below f level gone.gone) p → IsAmong (tables_below f x level) p =
      λ p h. subst (λ (bs : List Block). IsAmong (below f level bs) p) (sym gone.tiles_are) ((below_append f level gone.gone (tiles f rest) p).1 (inl h)) in
      let all : count < cap → (p : Position) → IsAmong (tables_below f x level) p → IsAmong (below f level gone.gone) p =
      λ few p h. whole few p h in
      record {
        absent = c.absent;
        count_is = c.count_is;
        once = c.once;
        missing = λ p h. let m = c.missing p h in record { is_needed = wider p m.is_needed; off_spine = m.off_spine; no_table = m.no_table; unknown = m.unknown };
        others = λ few p h. c.others few p (all few p h);
        all = λ lone few p h. c.all lone few p (all few p h);
        told = c.told;
      }
    where
      nothing_left : count < cap → tiles f rest ≡ []
      nothing_left few = elim (cases_lt rest.first rest.end) [
        | inl more ↦ absurd (stopped more)
        | inr none ↦ (let z : rest.end - rest.first ≡ 0 = omega arith in ap (λ n. tiling f rest.prot rest.first rest.out n) z)
      ]

      whole : count < cap → (p : Position) → IsAmong (tables_below f x level) p → IsAmong (below f level gone.gone) p
      whole few p h =
          subst (λ (bs : List Block). IsAmong (below f level bs) p) (gone.tiles_are ∙ ap (λ (bs : List Block). gone.gone ++ bs) (nothing_left few) ∙ append-nil gone.gone) h

-- The part under the entry over the first page, where its blocks are those of tables below.
module _ {f : Layout} (good : IsLayout f) {v : View} {x : Extent} {level : ℕ} (at : IsExtentAt f v x level) (low : first_size f x < f.index * level) where
  under_at : IsExtentAt f v (under_entry f level x) level
  under_at =
      let lower = (split_tiles good at.extent level low).1 in
      let more : f.index * level ≤ f.index * (level + 1) = mul-le f.index level f.index (level + 1) (omega arith) (omega arith) in
      at_moves good at (under_part good at.extent level) (let z : x.first ≤ x.first = omega arith in z) (omega arith) (omega arith) (keeps_here v) refl

  module _ (inner : Extent) (is : inner ≡ under_entry f level x) where
    pub inner_at : IsExtentAt f v inner level
    inner_at = subst (λ (y : Extent). IsExtentAt f v y level) (sym is) under_at

    pub inner_entry : IsEntryExtent f inner level
    inner_entry = subst (λ (y : Extent). IsEntryExtent f y level) (sym is) (record { one = omega arith; lower = (split_tiles good at.extent level low).1 })

    pub inner_clear : IsClear f v x.first x.end level → IsClear f v inner.first inner.end level
    inner_clear clear = subst (λ (y : Extent). IsClear f v y.first y.end level) (sym is) (λ page from to. clear page from (omega arith))

    pub inner_to : IsFirstTo f level x inner.end
    inner_to = inr (low, ap (λ (y : Extent). y.end) is)
