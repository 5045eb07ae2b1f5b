-- The way to a page goes on into the table under an entry, which is linked where it is absent.
use Rattle.std.proofs.Common.{◌≡◌, ℕ, ◌+◌, ◌-◌, ◌*◌, ◌/◌, ◌%◌, ◌^◌, ◌<◌, ◌≤◌, List, [], ◌∷◌, ◌++◌, length, min, true, inl, inr, refl, ap, sym, ◌∙◌, subst, arith}
use Rattle.std.specs.Prelude.{Some, None, ◌⊎◌, ◌&&◌, nat_le, nat_lt}
use Rattle.std.proofs.lemmas.Bool.{and_from, cases_lt, false≢true, le-leb, lt-ltb}
use Rattle.std.proofs.lemmas.Nat.{mod_low, pow_pos}
use Rattle.std.proofs.Math.Nat.{div-mul-le_self, div-eq_of_lt}
use Rattle.std.proofs.Math.Pow.{pow_mono}
use Rattle.pt_model.specs.declared.position.Position.{Position}
use Rattle.pt_model.specs.Layout.{Layout, pages_of_entry}
use Rattle.pt_model.specs.Tables.{IsPosition, child_at, position_over}
use Rattle.pt_model.proofs.Positions.{same_position, among_some, among_here}
use Rattle.pt_model.proofs.Quotients.{entry_is_table, multiple_under, whole}
use Rattle.pt_format.specs.Laws.{IsLayout}
use Rattle.pt_view.specs.declared.view.View.{View}
use Rattle.pt_view.specs.declared.view.Node.{Node}
use Rattle.pt_view.specs.declared.holder.Seen.{Seen}
use Rattle.pt_view.specs.declared.holder.Seen.TheVariants.{Empty, Leaf, Entered}
use Rattle.pt_view.specs.declared.holder.Won.{Won}
use Rattle.pt_view.specs.declared.holder.Won.TheVariants.{Yes, Met}
use Rattle.pt_model.specs.Sets.{AddsPositions, IsAmong, SamePositions}
use Rattle.pt_view.specs.Lists.{SameFrames}
use Rattle.pt_view.specs.Views.{SameBook, SameHistory, SameRange}
use Rattle.pt_view.specs.Calls.{IsEntryAt, IsInstalled, IsPlaced, IsUnplaced, MayInstall, Prepares, Went, is_under, lowest, pieces_at, with_table}
use Rattle.pt_view.specs.Loads.{IsInSpan}
use Rattle.pt_view.specs.Pieces.{entry_number}
use Rattle.pt_view.proofs.Stays.{range_on}
use Rattle.pt_view.proofs.Loads.{IsLoad, absences_here, absences_on, load_leaf, load_none, load_table, table_path}
use Rattle.pt_view.proofs.Entries.{child_is, entry_meets, number_within}
use Rattle.pt_view.proofs.Pieces.{counted}
use Rattle.pt_walk.proofs.Cuts.{quotient_cut}
use Rattle.pt_map.specs.Filled.{HasRoom, IsDeeper, MayGoInto, Spends, next_table}
use Rattle.pt_map.proofs.FramesSpent.{spends_none, spends_one, without}

-- a page aligned down to the pages of an entry
pub down_is : (page k base : ℕ) → page < 2 ^ 52 → base % 2 ^ min k 63 ≡ 0 → base ≤ page → page < base + 2 ^ min k 63 → base ≡ page / 2 ^ k * 2 ^ k
down_is page k base few aligned low high =
    let q : base / 2 ^ min k 63 ≡ page / 2 ^ k = multiple_under page (min k 63) base aligned low high ∙ quotient_cut page k few in
    let e : base ≡ page / 2 ^ k * 2 ^ min k 63 = whole base (min k 63) aligned ∙ ap (λ y. y * 2 ^ min k 63) q in
    elim (cases_lt k 63) [
      | inl less ↦ (let same : min k 63 ≡ k = omega arith in e ∙ ap (λ y. page / 2 ^ k * 2 ^ y) same)
      | inr more ↦
          let wide : 2 ^ 52 ≤ 2 ^ k = pow_mono (let h : 52 ≤ k = omega arith in h) in
          let zero : page / 2 ^ k ≡ 0 = div-eq_of_lt (omega (arith, wide)) in
          e ∙ ap (λ y. y * 2 ^ min k 63) zero ∙ (let z : 0 * 2 ^ min k 63 ≡ 0 * 2 ^ k = omega arith in z) ∙ ap (λ y. y * 2 ^ k) (sym zero)
    ]

module _ {f : Layout} (good : IsLayout f) {v : View} {page level : ℕ} (may : MayGoInto f v page level) where
  abbrev place : Position
  place = position_over f page level

  abbrev number : ℕ
  number = entry_number f level page

  -- the table of the next level is a position
  pub next_legal : IsPosition f (next_table f page level)
  next_legal =
      let j : ℕ = f.index * (level - 1 + 1) in
      let base : ℕ = page / 2 ^ j * 2 ^ j in
      let low : base ≤ page = div-mul-le_self page (2 ^ j) in
      let below = may.below in let a_page = may.a_page in
      record {
        a_level = omega arith;
        a_page = omega arith;
        aligned = (let e : base ≡ base + 0 = omega arith in ap (λ y. y % 2 ^ j) e) ∙ mod_low (page / 2 ^ j) j 0 (pow_pos j);
      }

  pub next_is : (base : ℕ) → base ≡ page / pages_of_entry f level * pages_of_entry f level → record { level = level - 1; base = base } ≡ next_table f page level
  next_is base e = same_position (record { level = level - 1; base = base }) (next_table f page level) refl (e ∙ ap (λ y. page / y * y) (entry_is_table f level may.high))

  next_child : child_at f place number ≡ next_table f page level
  next_child = child_is f page level may.high

  entry_on : (w : View) → w.path ≡ v.path → IsEntryAt f w place number
  entry_on w e = record {
    node = record { frame = may.over.frame; position = place };
    is_lowest = ap lowest e ∙ may.over.is;
    at = refl;
    within = number_within f page level;
  }

  span_on : (w : View) → SameRange v w → IsInSpan w page
  span_on w r = let a = may.in_span.0 in let b = may.in_span.1 in let e = r.first in let k = r.count in (omega arith, omega arith)

  -- the first frame is prepared for it, and then linked there
  module _ {tells : Type 0} {w : View} (base : ℕ) (is : base ≡ page / pages_of_entry f level * pages_of_entry f level) (placed : IsPlaced tells v (record { level = level - 1; base = base }) w) where
    pub may_install : (n : ℕ) → n ≡ number → MayInstall f w n
    may_install n e = subst (MayInstall f w) (sym e) (record {
      position = place;
      entry = entry_on w placed.path;
      meets = entry_meets f w page level (span_on w placed.range);
      high = may.high;
      frame = placed.purse.0;
      prepared = placed.purse.2 ∙ ap (λ (p : Position). Some (record { frame = placed.purse.0; position = p; bridge = None })) (next_is base is ∙ sym next_child);
      no_piece = ap (pieces_at f place number) placed.book.pieces ∙ may.no_piece;
    })

    module _ {n : ℕ} (e : n ≡ number) {won : Won} {u : View} (installed' : IsInstalled f tells n w won u) where
      installed : IsInstalled f tells number w won u
      installed = subst (λ (k : ℕ). IsInstalled f tells k w won u) e installed'

      here : IsEntryAt f w place number
      here = entry_on w placed.path

      known : AddsPositions v.known u.known (λ p. p ≡ next_table f page level)
      known = λ p.
          let k = subst (λ (c : Position). AddsPositions w.known u.known (λ q. q ≡ c)) next_child (installed.known place here) p in (
            (λ h. elim (k.0 h) [ inl same ↦ inl same | inr old ↦ inr ((placed.known p).0 old) ]),
            (λ h. elim h [ inl same ↦ k.1 (inl same) | inr old ↦ k.1 (inr ((placed.known p).1 old)) ]),
          )

      next_known : IsAmong u.known (next_table f page level)
      next_known = (known (next_table f page level)).1 (inl refl)

      -- linked or not, with the prepared frame left aside
      deeper_but : (z : View) → SameRange u z → SameBook u z → z.path ≡ u.path → z.prepared ≡ None → z.end ≡ u.end → SameFrames u.busy z.busy → SamePositions u.known z.known →
          (tells → SameHistory u z) → IsDeeper f tells v z page level
      deeper_but z r b path none end busy k told =
          let p = installed.path place here in
          record {
            range = range_on (range_on placed.range installed.range) r;
            pieces = b.pieces ∙ installed.pieces ∙ placed.book.pieces;
            top = b.top ∙ installed.top ∙ placed.book.top;
            prepared = none ∙ sym may.none;
            end = end ∙ installed.purse.end ∙ placed.end;
            path = (p.0, path ∙ p.1 ∙ (λ i. placed.path i ++ record { frame = p.0; position = next_child i } ∷ []));
            tables = inr (b.tables ∙ installed.tables place here ∙ (λ i. with_table (placed.range.levels i) (placed.book.tables i) (next_child i)));
            busy = λ x.
                let c = busy x in
                let d = installed.busy x in
                let a = placed.busy x in ((λ h. a.0 (d.0 (c.0 h))), (λ h. c.1 (d.1 (a.1 h))));
            known = λ q. ((λ h. (known q).0 ((k q).0 h)), (λ h. (k q).1 ((known q).1 h)));
            told = λ t. (
              (told t).taken ∙ (installed.told t).taken ∙ (placed.told t).taken,
              (told t).stores ∙ (installed.told t).stores ∙ (placed.told t).stores,
            );
            absent = λ t. absences_here ((told t).absent ∙ (installed.told t).absent ∙ (placed.told t).absent);
          }

      prepares : (s : Won) → won ≡ s → Prepares s w u
      prepares s is = subst (λ (t : Won). Prepares t w u) is installed.prepares

      pub deeper_won : won ≡ Yes → IsDeeper f tells v u page level
      deeper_won is = deeper_but u (record { frames = refl; levels = refl; first = refl; count = refl }) (record { pieces = refl; tables = refl; top = refl }) refl (prepares Yes is) refl
          (λ x. ((λ h. h), (λ h. h))) (λ p. ((λ h. h), (λ h. h))) (λ t. record { taken = refl; absent = refl; stores = refl })

      pub spends_won : (lacking : List Position) → IsAmong lacking (next_table f page level) → (still : List Position) × Spends v u lacking still
      spends_won lacking lacks = (
        without (next_table f page level) lacking,
        spends_one v u lacking (next_table f page level) (placed.purse.0 ∷ []) (omega arith)
            (placed.purse.1 ∙ ap (λ (xs : List ℕ). placed.purse.0 ∷ xs) (sym installed.purse.purse)) lacks next_known,
      )

      -- another table was linked there before, and the frame is put back
      module _ (met : won ≡ Met) {z : View} (unplaced : IsUnplaced tells u z) where
        pub deeper_met : IsDeeper f tells v z page level
        deeper_met = deeper_but z unplaced.range unplaced.book unplaced.path unplaced.none unplaced.end unplaced.busy unplaced.known unplaced.told

        pub purse_met : z.purse ≡ v.purse
        purse_met =
            unplaced.purse (record { frame = placed.purse.0; position = record { level = level - 1; base = base }; bridge = None }) (prepares Met met ∙ placed.purse.2)
            ∙ ap (λ (xs : List ℕ). placed.purse.0 ∷ xs) installed.purse.purse ∙ sym placed.purse.1

        pub spends_met : (lacking : List Position) → IsAmong lacking (next_table f page level) → (still : List Position) × Spends v z lacking still
        spends_met lacking lacks = (
          without (next_table f page level) lacking,
          spends_one v z lacking (next_table f page level) [] (omega arith) (sym purse_met) lacks ((unplaced.known (next_table f page level)).1 next_known),
        )

  -- a load of the entry
  module _ {tells alone : Type 0} {n : ℕ} (e : n ≡ number) {seen : Seen} {w : View} (went : Went f tells alone n v seen w) where
    load : IsLoad f tells alone v page level seen w
    load = record { over = may.over; inside = may.in_span; number = n; is = e; went = went }

    -- the child lies under its entry
    child_under : is_under f place number (child_at f place number) ≡ true
    child_under =
        let high = may.high in
        let child : Position = child_at f place number in
        let size : 0 < pages_of_entry f level = pow_pos (f.index * level) in
        and_from (nat_lt (level - 1) level && nat_le child.base child.base) _
        (and_from (nat_lt (level - 1) level) _ (lt-ltb (level - 1) level (omega arith)) (le-leb child.base child.base (omega arith)))
        (lt-ltb child.base (child.base + pages_of_entry f level) (omega arith))

    pub may_link : seen ≡ Empty → MayGoInto f w page level
    may_link is = record {
      high = may.high;
      below = may.below;
      a_page = may.a_page;
      in_span = span_on w went.range;
      over = record { frame = may.over.frame; is = ap lowest (load_none load is).path ∙ may.over.is };
      no_piece = ap (pieces_at f place number) went.book.pieces ∙ may.no_piece;
      none = went.prepared ∙ may.none;
    }

    -- no position is known under an empty entry, so the next table is a lacking one
    pub next_lacks : seen ≡ Empty → (lacking : List Position) → HasRoom v (next_table f page level ∷ []) lacking → IsAmong lacking (next_table f page level)
    next_lacks is lacking room = elim (room.each (next_table f page level) (among_here (next_table f page level) [])) [
      | inr lacks ↦ lacks
      | inl known ↦ absurd (
          let vacant = (load_none load is).vacant in
          let child : Position = child_at f place number in
          false≢true (sym (vacant.none_known child (subst (IsAmong v.known) (sym next_child) known)) ∙ child_under))
    ]

    pub purse_some : seen ≡ Empty → (lacking : List Position) → HasRoom v (next_table f page level ∷ []) lacking → 0 < length w.purse
    purse_some is lacking room =
        let some = among_some (next_table f page level) lacking (next_lacks is lacking room) in
        let frames = room.frames in let same = ap length went.purse.purse in omega arith

    pub deeper_linked : seen ≡ Empty → (u : View) → IsDeeper f tells w u page level → IsDeeper f tells v u page level
    deeper_linked is u d =
        let l = load_none load is in
        record {
          range = range_on went.range d.range;
          pieces = d.pieces ∙ went.book.pieces;
          top = d.top ∙ went.book.top;
          prepared = d.prepared ∙ went.prepared;
          end = d.end ∙ went.purse.end;
          path = (d.path.0, d.path.1 ∙ ap (λ (xs : List Node). xs ++ record { frame = d.path.0; position = next_table f page level } ∷ []) l.path);
          tables = elim d.tables [
            | inl same ↦ inl (same ∙ went.book.tables)
            | inr more ↦ inr (more ∙ (λ i. with_table (went.range.levels i) (went.book.tables i) (next_table f page level)))
          ];
          busy = λ x. ((λ h. (went.busy x).0 ((d.busy x).0 h)), (λ h. (d.busy x).1 ((went.busy x).1 h)));
          known = λ p. (
            (λ h. elim ((d.known p).0 h) [ inl same ↦ inl same | inr old ↦ inr ((l.known p).0 old) ]),
            (λ h. elim h [ inl same ↦ (d.known p).1 (inl same) | inr old ↦ (d.known p).1 (inr ((l.known p).1 old)) ]),
          );
          told = λ t. ((d.told t).0 ∙ (l.told t).taken, (d.told t).1 ∙ (l.told t).stores);
          absent = λ t. absences_on (l.told t).absent (d.absent t);
        }

    pub spends_linked : seen ≡ Empty → (u : View) → ((lacking : List Position) → IsAmong lacking (next_table f page level) → (still : List Position) × Spends w u lacking still) →
        (lacking : List Position) → HasRoom v (next_table f page level ∷ []) lacking → (still : List Position) × Spends v u lacking still
    spends_linked is u spends lacking room =
        let s = spends lacking (next_lacks is lacking room) in
        (s.0, record { used = s.1.used; purse = sym went.purse.purse ∙ s.1.purse; few = s.1.few; only = s.1.only; each = s.1.each })

    -- the entry has no word of a block
    pub no_leaf : (word : ℕ) → seen ≡ Leaf word → ⊥
    no_leaf word is =
        let l = load_leaf load is in
        let some = counted f place number v.pieces l.piece l.member l.here in let none = may.no_piece in omega arith

    pub entered : ((word : ℕ) × (seen ≡ Leaf word)) ⊎ (seen ≡ Entered) → seen ≡ Entered
    entered h = elim h [ inl leaf ↦ absurd (no_leaf leaf.0 leaf.1) | inr is ↦ is ]

    pub deeper_entered : seen ≡ Entered → IsDeeper f tells v w page level
    deeper_entered is =
        let l = load_table load is in
        record {
          range = went.range;
          pieces = went.book.pieces;
          top = went.book.top;
          prepared = went.prepared;
          end = went.purse.end;
          path = table_path load is;
          tables = inl went.book.tables;
          busy = went.busy;
          known = subst (λ (c : Position). AddsPositions v.known w.known (λ q. q ≡ c)) next_child l.known;
          told = λ t. ((l.told t).taken, (l.told t).stores);
          absent = λ t. (l.told t).absent;
        }

    pub spends_entered : seen ≡ Entered → (lacking : List Position) → HasRoom v (next_table f page level ∷ []) lacking → (still : List Position) × Spends v w lacking still
    spends_entered is lacking room = (lacking, spends_none v w lacking went.purse.purse)
