-- What the load of an entry shows to be absent, of the positions that a part under it needs.
use Rattle.std.proofs.Common.{append_assoc, ◌≡◌, ℕ, ◌+◌, ◌-◌, ◌*◌, ◌/◌, ◌<◌, ◌≤◌, ◌⊎◌, List, [], ◌∷◌, ◌++◌, length, Bool, true, false, refl, ap, sym, subst, ◌∙◌, arith, inl, inr, ⊎_elim}
use Rattle.std.specs.Prelude.{◌==◌, min, nat_le, nat_lt, ◌&&◌, if◌then◌else◌}
use Rattle.std.proofs.lemmas.Bool.{eqb-true, false_from_ne_true, and_from, and_parts, cases_eq, cases_lt, false≢true, le-leb, leb-true, lt-ltb, or_left}
use Rattle.std.proofs.lemmas.Nat.{pow_pos}
use Rattle.pt_model.specs.declared.position.Position.{Position}
use Rattle.pt_model.specs.Layout.{Layout, pages_of_entry}
use Rattle.pt_model.specs.Tables.{child_at, end_of_table, is_spine, position_over, spine_position}
use Rattle.pt_model.proofs.Positions.{same_position, sorted_filter, sorted_once}
use Rattle.pt_format.specs.Laws.{IsLayout}
use Rattle.pt_view.specs.declared.view.View.{View}
use Rattle.pt_view.specs.declared.view.Absence.{Absence}
use Rattle.pt_view.specs.declared.view.Absence.TheVariants.{Zero}
use Rattle.pt_view.specs.declared.holder.Seen.{Seen}
use Rattle.pt_view.specs.declared.holder.Seen.TheVariants.{Empty, Entered}
use Rattle.pt_model.specs.Sets.{IsAmong}
use Rattle.pt_view.specs.Calls.{Looked, Went, zero as looked_zero, leaf as looked_leaf, table as looked_table, entry_first, is_under, left}
use Rattle.pt_view.specs.Loads.{ByLoads}
use Rattle.pt_view.specs.Pieces.{entry_number}
use Rattle.pt_view.proofs.Loads.{IsLoad, load_none, load_table, table_loads, table_owned, table_path}
use Rattle.pt_view.proofs.Entries.{child_is, entry_first_is, at_entry}
use Rattle.pt_model.proofs.Quotients.{entry_is_table}
use Rattle.pt_tile.specs.declared.extent.Extent.{Extent}
use Rattle.pt_map.specs.Absent.{Counted, shows}
use Rattle.pt_map.proofs.NeededTables.{LiesUnder, below_has, below_under, has_below, needs_over, needs_sorted}
use Rattle.pt_map.specs.Stands.{IsEntryExtent, IsExtentAt, IsOwnTable}
use Rattle.pt_tile.specs.Extents.{tables_below, tables_of, tiles}
use Rattle.pt_map.proofs.StandAfter.{at_inside, loads_keep}
use Rattle.pt_map.proofs.AbsentCounted.{own_on, shown_right}

-- what is told of a load of an entry that was zero
abbrev ZeroTold : Layout → View → Position → (number : ℕ) → View → Seen → Type 0
ZeroTold f v p number w Empty = w.absent ≡ v.absent ++ (if nat_lt 0 p.level then Zero (child_at f p number) ∷ [] else [])
ZeroTold f v p number w _ = Unit {0}

zero_told : (f : Layout) (tells alone : Type 0) (v : View) (p : Position) (number : ℕ) (seen : Seen) (w : View) → Looked f tells alone v p number seen w → tells → ZeroTold f v p number w seen
zero_told f tells alone v p number _ _ (looked_zero w path known vacant told) t = (told t).1
zero_told f tells alone v p number _ _ (looked_leaf w word piece path known told member here once is under) t = tt
zero_told f tells alone v p number _ _ (looked_table w frame path known told high none owned) t = tt

module _ {f : Layout} (good : IsLayout f) {v : View} {x : Extent} {level : ℕ} (at : IsExtentAt f v x level) (entry : IsEntryExtent f x level) where
  abbrev place : Position
  place = position_over f x.first level

  abbrev here : ℕ
  here = entry_number f level x.first

  pub level_high : 0 < level
  level_high = let low = entry.lower in elim (cases_eq level 0) [
    | inl e ↦ (let none : f.index * level ≡ f.index * 0 = ap (λ k. f.index * k) e in absurd (omega arith))
    | inr some ↦ omega arith
  ]

  child_over : child_at f place here ≡ position_over f x.first (level - 1)
  child_over = child_is f x.first level level_high

  -- the child's pages are those under the entry
  child_pages : (child_at f place here).base ≡ x.first / pages_of_entry f level * pages_of_entry f level
  child_pages = entry_first_is f x.first level

  child_ends : end_of_table f (child_at f place here) ≡ (x.first / pages_of_entry f level + 1) * pages_of_entry f level
  child_ends =
      let e = entry_is_table f level level_high in
      let b = child_pages in
      let g : x.first / pages_of_entry f level * pages_of_entry f level + pages_of_entry f level ≡ (x.first / pages_of_entry f level + 1) * pages_of_entry f level = omega arith in
      omega arith

  -- a needed position below the level lies under the entry
  lies : (p : Position) → IsAmong (tables_below f x level) p → LiesUnder f level x.first p
  lies p h = below_under good at.extent level at.range.below entry.one p h

  under_entry_is : (p : Position) → LiesUnder f level x.first p → is_under f place here p ≡ true
  under_entry_is p l =
      let first = entry_first_is f x.first level in
      let low = l.low in let from = l.from in let to = l.to in
      let some = pow_pos (f.index * (p.level + 1)) in
      let g : x.first / pages_of_entry f level * pages_of_entry f level + pages_of_entry f level ≡ (x.first / pages_of_entry f level + 1) * pages_of_entry f level = omega arith in
      and_from (nat_lt p.level level && nat_le (entry_first f place here) p.base) _
      (and_from (nat_lt p.level level) _ (lt-ltb p.level level low) (le-leb _ _ (omega arith)))
      (lt-ltb p.base _ (omega arith))

  module _ {tells alone : Type 0} {seen : Seen} {w : View} (load : IsLoad f tells alone v x.first level seen w) where
    -- The entry was zero.
    module _ (empty : seen ≡ Empty) where
      was_told : tells → w.absent ≡ v.absent ++ (if nat_lt 0 level then Zero (child_at f place here) ∷ [] else [])
      was_told t = subst (ZeroTold f v place here w) empty
          (zero_told f tells alone v place here seen w ((subst (λ (k : ℕ). Went f tells alone k v seen w) load.is load.went).looked place (at_entry load.over)) t)

      -- no position under it is one of the spine, which is known below the level
      off_below : (p : Position) → LiesUnder f level x.first p → is_spine v.levels p ≡ false
      off_below p l = false_from_ne_true (is_spine v.levels p) (λ spine.
          let parts : (nat_le (v.levels - 1) p.level ≡ true) × ((p.base == 0) ≡ true) = and_parts (nat_le (v.levels - 1) p.level) _ spine in
          let high = leb-true (v.levels - 1) p.level parts.0 in
          let is : spine_position p.level ≡ p = same_position (spine_position p.level) p refl (sym (eqb-true p.base 0 parts.1)) in
          let known : IsAmong v.known p = subst (IsAmong v.known) is (at.spine p.level high l.low) in
          false≢true (sym ((load_none load empty).vacant.none_known p known) ∙ under_entry_is p l))

      -- all that the extent needs below the level is absent
      pub shut_counted : (cap count : ℕ) → count ≡ min cap (length (tables_below f x level)) →
          Counted f tells alone v w (tables_below f x level) cap count
      shut_counted cap count is =
          let s = load_none load empty in
          record {
            absent = tables_below f x level;
            count_is = is;
            once = sorted_once _ (sorted_filter (λ q. nat_lt q.level level) (tables_of f x) (needs_sorted f f.levels (tiles f x)));
            missing = λ p h. record {
              is_needed = h;
              off_spine = off_below p (lies p h);
              no_table = λ a. false≢true (sym (s.vacant.no_table p a) ∙ under_entry_is p (lies p h));
              unknown = λ a. false≢true (sym (s.vacant.none_known p a) ∙ under_entry_is p (lies p h));
            };
            others = λ few p h. inl h;
            all = λ a few p h. inl h;
            told = λ t. (
              Zero (child_at f place here) ∷ [],
              was_told t ∙ ap (λ (b : Bool). v.absent ++ (if b then Zero (child_at f place here) ∷ [] else [])) (lt-ltb 0 level level_high),
              λ p h. let l = lies p h in
                  let base = child_pages in let end = child_ends in let from = l.from in let to = l.to in
                  or_left (shows f (Zero (child_at f place here)) p) _ (and_from (nat_le (child_at f place here).base p.base) _ (le-leb _ _ (omega arith)) (le-leb _ _ (omega arith))),
            );
          }

    -- It names the child's table.
    module _ (entered : seen ≡ Entered) where
      pub open_part : IsExtentAt f w x (level - 1)
      open_part = let t = table_path load entered in
          at_inside good at entry (loads_keep (table_loads load entered)) (record { frame = t.0; position = position_over f x.first (level - 1) }) refl t.1

      module _ {u : View} (deeper : ByLoads tells w u) (path : u.path ≡ w.path) where
        -- a needed position of the child's level is the child
        is_child : (p : Position) → IsAmong (tables_below f x level) p → ¬ (p.level < level - 1) → p ≡ position_over f x.first (level - 1)
        is_child p h high =
            let among = has_below f level x p h in let low = among.1 in
            let same : p.level ≡ level - 1 = omega arith in
            let some = level_high in
            let deep : x.end ≤ end_of_table f (position_over f x.first (level - 1)) = open_part.range.under in
            let over : position_over f x.first p.level ≡ p = needs_over good at.extent (level - 1) deep p among.0 (omega arith) in
            sym over ∙ ap (position_over f x.first) same

        pub open_counted : (alone' : Type 0) → (alone → alone') → (z : View) → z ≡ left u → (cap count : ℕ) →
            Counted f tells alone' w u (tables_below f x (level - 1)) cap count → Counted f tells alone v z (tables_below f x level) cap count
        open_counted alone' still z e cap count c =
            let range = load.went.range in
            let book = load.went.book in
            let table = load_table load entered in
            let known_more : (p : Position) → (p ≡ position_over f x.first (level - 1)) ⊎ IsAmong v.known p → IsAmong w.known p =
            λ p k. (table.known p).1 (elim k [ inl child ↦ inl (child ∙ sym child_over) | inr old ↦ inr old ]) in
            let known_is : z.known ≡ u.known = ap (λ (y : View). y.known) e in
            let absent_is : z.absent ≡ u.absent = ap (λ (y : View). y.absent) e in
            record {
              absent = c.absent;
              count_is = c.count_is;
              once = c.once;
              missing = λ p h. let m = c.missing p h in record {
                off_spine = subst (λ (l : ℕ). is_spine l p ≡ false) range.levels m.off_spine;
                is_needed = (let among = has_below f (level - 1) x p m.is_needed in let low = among.1 in below_has f level x p among.0 (omega arith));
                no_table = λ a. m.no_table (subst (λ (ts : List Position). IsAmong ts p) (sym book.tables) a);
                unknown = λ a. m.unknown (known_more p (inr a));
              };
              others = λ few p h. elim (cases_lt p.level (level - 1)) [
                | inl low ↦ ⊎_elim (λ a. inl a) (λ k. inr (subst (λ (ps : List Position). IsAmong ps p) (sym known_is) k))
                    (c.others few p (below_less p h low))
                | inr high ↦ inr (subst (λ (ps : List Position). IsAmong ps p) (sym known_is) (deeper.known p (known_more p (inl (is_child p h (λ low. omega arith))))))
              ];
              all = λ a few p h. elim (cases_lt p.level (level - 1)) [
                | inl low ↦ ⊎_elim (λ b. inl b) (λ t. inr (own_on v w load.went.book.tables load.went.range.levels p t)) (c.all (still a) few p (below_less p h low))
                | inr high ↦
                    let child : p ≡ position_over f x.first (level - 1) = is_child p h (λ low. omega arith) in
                    inr (subst (IsOwnTable v) (sym child) (table_owned load entered a))
              ];
              told = λ t. let r = c.told t in let more = (table.told t).absent in (
                more.facts ++ r.0,
                absent_is ∙ r.1 ∙ ap (λ (ys : List Absence). ys ++ r.0) more.are ∙ append_assoc v.absent more.facts r.0,
                λ p h. shown_right f more.facts r.0 p (r.2 p h),
              );
            }
          where
            below_less : (p : Position) → IsAmong (tables_below f x level) p → p.level < level - 1 → IsAmong (tables_below f x (level - 1)) p
            below_less p h low = below_has f (level - 1) x p (has_below f level x p h).0 low
