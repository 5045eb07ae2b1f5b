-- What a look through an extent found, of a run of its blocks, of what lies under an entry, and of one part after another.
use Rattle.std.proofs.Common.{◌≡◌, ℕ, ◌+◌, ◌-◌, ◌*◌, ◌%◌, ◌^◌, ◌<◌, ◌≤◌, Bool, true, false, List, [], length, min, inl, inr, refl, ap, sym, ◌∙◌, subst, arith}
use Rattle.std.specs.Prelude.{nat_lt}
use Rattle.std.proofs.lemmas.Bool.{false_from_ne_true, false≢true, ltb-true, or_cases}
use Rattle.pt_model.specs.declared.block.Block.{Block}
use Rattle.pt_model.specs.Tiling.{tiling}
use Rattle.pt_model.specs.declared.position.Position.{Position}
use Rattle.pt_model.specs.Layout.{Layout}
use Rattle.pt_format.specs.Laws.{IsLayout}
use Rattle.pt_view.specs.Calls.{left}
use Rattle.pt_view.specs.declared.holder.Seen.{Seen}
use Rattle.pt_view.specs.declared.holder.Seen.TheVariants.{Empty, Leaf, Entered}
use Rattle.pt_view.specs.declared.view.View.{View}
use Rattle.pt_model.specs.Sets.{IsAmong}
use Rattle.pt_view.specs.Views.{SameBook}
use Rattle.pt_walk.specs.Walks.{IsFree, IsLowest}
use Rattle.pt_view.proofs.Loads.{loads_on, IsLoad, back_loads, back_path, leaf_loads, load_leaf, load_none, none_loads}
use Rattle.pt_walk.proofs.Descent.{owns_on}
use Rattle.pt_walk.proofs.Ranges.{clear_below, clear_from, free_here, free_more, free_on, lowest_here, lowest_more, lowest_on, no_table_here}
use Rattle.pt_map.specs.Replaced.{HasNoneReplaced, is_replaced}
use Rattle.pt_map.proofs.ReplacedTables.{no_table_replaced, replaced_append}
use Rattle.pt_tile.specs.declared.extent.Extent.{Extent}
use Rattle.pt_map.specs.declared.survey.Found.{Found}
use Rattle.pt_map.specs.declared.survey.Found.TheVariants.{Mapped, Absent}
use Rattle.pt_map.specs.Absent.{Counted, Finds, MaySurvey, Surveyed}
use Rattle.pt_model.proofs.Positions.{among_filtered}
use Rattle.pt_tile.specs.Extents.{tables_below, tables_of, tiles, IsFirstTo, IsRun, first_size, under_entry, up_to, from}
use Rattle.pt_map.proofs.AbsentCounted.{HasGone, gone_more, inner_at, inner_clear, rest_clear, run_none, rest_at}
use Rattle.pt_map.specs.Stands.{IsEntryExtent}
use Rattle.pt_map.proofs.StandAfter.{at_moves, keeps_here}
use Rattle.pt_map.proofs.AbsentShown.{open_counted, open_part, shut_counted}
use Rattle.pt_tile.proofs.FirstParts.{cut_part, cut_step, first_split, first_to}
use Rattle.pt_map.proofs.LinkedTables.{next_is}
use Rattle.pt_tile.proofs.RunTilings.{run_from, run_shifted}

-- the lowest table needs none below it
pub none_lowest : (f : Layout) (x : Extent) (level : ℕ) → level ≡ 0 → (p : Position) → IsAmong (tables_below f x level) p → ⊥
none_lowest f x level e p h = let low = ltb-true p.level level (among_filtered (λ q. nat_lt q.level level) (tables_of f x) p h).1 in omega arith

-- no block takes the place of a table, for views of one book
pub replaced_on : (f : Layout) {v w : View} (bs : List Block) → SameBook v w → HasNoneReplaced f w bs → HasNoneReplaced f v bs
replaced_on f bs book none = λ p m. none p (subst (λ (ps : List Position). IsAmong ps p) (sym book.tables) m)

-- from the table below to the one above
pub found_above : (f : Layout) (tells alone alone' : Type 0) (v w u z : View) (x : Extent) (level lower cap : ℕ) (found : Found) → SameBook v w →
    ((count : ℕ) → Counted f tells alone' w u (tables_below f x lower) cap count → Counted f tells alone v z (tables_below f x level) cap count) →
    Finds f tells alone' w u x lower cap found → Finds f tells alone v z x level cap found
found_above f tells alone alone' v w u z x level lower cap (Mapped page) book counted h = lowest_on book h
found_above f tells alone alone' v w u z x level lower cap (Absent count tables) book counted h =
    (free_on f x.first x.end book h.0, counted count h.1, λ none. replaced_on f (tiles f x) book (h.2 none))

-- a table that a block of an extent takes the place of is one that a block of what is left of it does
abbrev pub OnlyLeft : Layout → View → (x rest : Extent) → Type 0
OnlyLeft f v x rest = (p : Position) → IsAmong v.tables p → is_replaced f (tiles f x) p ≡ true → is_replaced f (tiles f rest) p ≡ true

pub only_none : (f : Layout) (v : View) (x rest : Extent) → ¬ (rest.first < rest.end) → OnlyLeft f v x rest → HasNoneReplaced f v (tiles f x)
only_none f v x rest stopped only p m =
    let nothing : rest.end - rest.first ≡ 0 = omega arith in
    let empty : tiles f rest ≡ [] = ap (λ (n : ℕ). tiling f rest.prot rest.first rest.out n) nothing in
    false_from_ne_true (is_replaced f (tiles f x) p) (λ h. false≢true (ap (λ (bs : List Block). is_replaced f bs p) (sym empty) ∙ only p m h))

-- What is left of an extent may be looked through.
module _ {f : Layout} (good : IsLayout f) {tells alone : Type 0} {v w : View} {x rest : Extent} {level cap count : ℕ} (may : MaySurvey f v x level cap) (gone : HasGone f tells alone v w x rest level cap count) where
  pub may_survey_rest : rest.first < rest.end → MaySurvey f w rest level cap
  may_survey_rest more = record {
    at = rest_at good may.at gone more;
    clear = rest_clear good may.at gone more may.clear;
    owns = owns_on f gone.walked.range gone.walked.book may.owns;
    fits = may.fits;
  }

-- A run of blocks of the first one's size, which stand in the table of the level or above, may be looked through.
module _ {f : Layout} (good : IsLayout f) {v : View} {x : Extent} {level cap : ℕ} (may : MaySurvey f v x level cap) (k : ℕ) (e : k ≡ first_size f x) {count : ℕ} (is : IsRun f x count) (large : f.index * level ≤ first_size f x)
    (to : ℕ) (shifted : to ≡ x.first + count * 2 ^ k % 2 ^ 64) where
  to_is : to ≡ x.first + count * 2 ^ first_size f x
  to_is = shifted ∙ run_shifted good may.at.extent is k e

  pub run_first : IsFirstTo f level x to
  run_first = inl (large, count, is, to_is)

  module _ (y : Extent) (cut : y ≡ up_to x (min to x.end)) where
    cut_is : y ≡ up_to x to
    cut_is = cut ∙ ap (up_to x) (let within = is.within in let t = to_is in let e : min to x.end ≡ to = omega arith in e)

    pub may_survey_run : MaySurvey f v y level cap
    may_survey_run =
        let from = run_from good may.at.extent is in let within = is.within in let t = to_is in let low = may.at.low in
        let after : x.first < to = omega arith in
        let before : to ≤ x.end = omega arith in
        let less = cut_step good may.at.extent to after before in
        subst (λ (z : Extent). MaySurvey f v z level cap) (sym cut_is) (record {
          at = at_moves good may.at (cut_part good may.at.extent to after before) (let z : x.first ≤ x.first = omega arith in z) before (omega arith) (keeps_here v) refl;
          clear = clear_from f v x.first x.end x.first to level may.clear (let z : x.first ≤ x.first = omega arith in z) before;
          owns = may.owns;
          fits = may.fits;
        })

    pub none_in_run : (p : Position) → IsAmong (tables_below f y level) p → ⊥
    none_in_run p h = run_none good may.at.extent level large count is p (subst (λ (z : Extent). IsAmong (tables_below f z level) p) (cut_is ∙ ap (up_to x) to_is) h)

    pub surveyed_run : {tells alone : Type 0} {w : View} {found : Found} → Surveyed f tells alone v w y level cap found → Surveyed f tells alone v w (up_to x to) level cap found
    surveyed_run {tells = tells} {alone = alone} {w = w} {found = found} s = subst (λ (z : Extent). Surveyed f tells alone v w z level cap found) cut_is s

-- What lies under the entry over the first page may be looked through.
module _ {f : Layout} (good : IsLayout f) {v : View} {x : Extent} {level cap : ℕ} (may : MaySurvey f v x level cap) (low : first_size f x < f.index * level) (inner : Extent) (is : inner ≡ under_entry f level x) where
  pub may_survey_inner : MaySurvey f v inner level cap
  may_survey_inner = record { at = inner_at good may.at low inner is; clear = inner_clear good may.at low inner is may.clear; owns = may.owns; fits = may.fits }

  pub surveyed_inner : {tells alone : Type 0} {w : View} {found : Found} → Surveyed f tells alone v w inner level cap found → Surveyed f tells alone v w (up_to x inner.end) level cap found
  surveyed_inner {tells = tells} {alone = alone} {w = w} {found = found} s =
      subst (λ (y : Extent). Surveyed f tells alone v w (up_to x y.end) level cap found) (sym is) (subst (λ (y : Extent). Surveyed f tells alone v w y level cap found) is s)

-- The load of the entry under which an extent lies.
module _ {f : Layout} (good : IsLayout f) {v : View} {x : Extent} {level cap : ℕ} (may : MaySurvey f v x level cap) (entry : IsEntryExtent f x level)
    {tells alone : Type 0} {seen : Seen} {w : View} (load : IsLoad f tells alone v x.first level seen w) where
  pub surveyed_empty : seen ≡ Empty → (count : ℕ) → count ≡ min cap (length (tables_below f x level)) → Surveyed f tells alone v w x level cap (Absent count false)
  surveyed_empty empty count is = record {
    walked = none_loads load empty;
    path = (load_none load empty).path;
    finds = (
      free_here good may.at.range entry.one load empty may.owns may.clear,
      shut_counted good may.at entry load empty cap count is,
      λ e. no_table_replaced good may.at (no_table_here good may.at.range entry.one load (λ other. not_both empty other)),
    );
  }
    where
      not_both : {s : Seen} → s ≡ Empty → s ≡ Entered → ⊥
      not_both a b = cc

  pub surveyed_leaf : (word : ℕ) → seen ≡ Leaf word → Surveyed f tells alone v w x level cap (Mapped x.first)
  surveyed_leaf word leaf = record {
    walked = leaf_loads load leaf;
    path = (load_leaf load leaf).path;
    finds = lowest_here good may.at.range entry.one load leaf may.owns;
  }

  module _ (entered : seen ≡ Entered) where
    pub may_survey_inside : MaySurvey f w x (level - 1) cap
    may_survey_inside = record {
      at = open_part good may.at entry load entered;
      clear = clear_below good may.at.range entry.one load entered may.owns may.clear;
      owns = owns_on f load.went.range load.went.book may.owns;
      fits = may.fits;
    }

    pub surveyed_entered : {alone' : Type 0} → (alone → alone') → {u z : View} {found : Found} → Surveyed f tells alone' w u x (level - 1) cap found → z ≡ left u → Surveyed f tells alone v z x level cap found
    surveyed_entered {alone' = alone'} still {u = u} {z = z} {found = found} s e = record {
      walked = back_loads load entered s.walked s.path e;
      path = back_path load entered s.walked s.path e;
      finds = found_above f tells alone alone' v w u z x level (level - 1) cap found load.went.book
          (open_counted good may.at entry load entered s.walked s.path alone' still z e cap) s.finds;
    }

-- One more part of an extent was looked through.
module _ {f : Layout} (good : IsLayout f) {tells alone alone' : Type 0} {v w z : View} {x rest : Extent} {level cap count to : ℕ} {found : Found} (may : MaySurvey f v x level cap) (gone : HasGone f tells alone v w x rest level cap count)
    (more : rest.first < rest.end) (still : alone → alone') (is : IsFirstTo f level rest to) (free : IsFree f v x.first rest.first) (s : Surveyed f tells alone' w z (up_to rest to) level cap found) where
  pub gone_on : (number : ℕ) (tables : Bool) → found ≡ Absent number tables → (next : Extent) → next ≡ from rest to → (sum : ℕ) → sum ≡ min cap (count + number) → HasGone f tells alone v z x next level cap sum
  gone_on number tables e next next_is sum sum_is =
      let f' = subst (Finds f tells alone' w z (up_to rest to) level cap) e s.finds in
      gone_more good may.at gone more still s.walked s.path to is f'.1 next next_is sum sum_is

  -- no block up to there takes the place of a table
  pub only_on : (number : ℕ) (tables : Bool) → found ≡ Absent number tables → (next : Extent) → next ≡ from rest to → OnlyLeft f v x rest → tables ≡ false → OnlyLeft f v x next
  only_on number tables e next same before none p m h =
      let f' = subst (Finds f tells alone' w z (up_to rest to) level cap) e s.finds in
      let here : is_replaced f (tiles f (up_to rest to)) p ≡ false = f'.2 none p (subst (λ (ps : List Position). IsAmong ps p) (sym gone.walked.book.tables) m) in
      let split = first_split good (rest_at good may.at gone more).extent level to is in
      let either = or_cases (is_replaced f (tiles f (up_to rest to)) p) (is_replaced f (tiles f (from rest to)) p)
      (sym (replaced_append f p (tiles f (up_to rest to)) (tiles f (from rest to))) ∙ ap (λ (bs : List Block). is_replaced f bs p) (sym split) ∙ before p m h) in
      subst (λ (y : Extent). is_replaced f (tiles f y) p ≡ true) (sym same) (elim either [ inl first ↦ absurd (false≢true (sym here ∙ first)) | inr later ↦ later ])

  pub free_on_to : (number : ℕ) (tables : Bool) → found ≡ Absent number tables → IsFree f v x.first to
  free_on_to number tables e =
      let f' = subst (Finds f tells alone' w z (up_to rest to) level cap) e s.finds in
      free_more f v x.first rest.first to free (free_on f rest.first to gone.walked.book f'.0)

  pub surveyed_mapped : (page : ℕ) → found ≡ Mapped page → Surveyed f tells alone v z x level cap (Mapped page)
  surveyed_mapped page e =
      let lowest : IsLowest f w rest.first to page = subst (Finds f tells alone' w z (up_to rest to) level cap) e s.finds in
      let within = first_to good (rest_at good may.at gone more).extent level to is in
      let end = gone.end in
      record {
        walked = loads_on gone.walked s.walked;
        path = s.path ∙ gone.path;
        finds = lowest_more x.first x.end gone.first (omega arith) free (lowest_on gone.walked.book lowest);
      }
