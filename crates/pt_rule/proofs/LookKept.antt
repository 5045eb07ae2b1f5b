-- A load of an entry keeps the rule: at zero the child is absent, at an own piece's word nothing changes, and
-- at a pointer the path goes into the child.
use Rattle.std.proofs.Common.{◌≡◌, ◌≢◌, inr, ℕ, Bool, true, false, ◌^◌, ◌<◌, ◌≤◌, List, [], ◌∷◌, ◌++◌, set, sym, refl, ap, ◌∙◌, subst, arith, ⊎_elim, ne_eqb, eq-eqb}
use Rattle.std.specs.Prelude.{IsTrue, nat_le, nat_lt, ◌&&◌, ◌==◌, if◌then◌else◌, slice_set, Option, None, Some}
use Rattle.std.specs.List.{AllByRecursion}
use Rattle.std.proofs.lemmas.Bool.{and_parts, and_from, lt-ltb, ltb-true, false≢true, false_from_ne_true}
use mathlib.Core.Option.{some}
use lib.ListN.{get_elem?}
use Rattle.pt_model.proofs.Positions.{among_cases}
use Rattle.pt_view.proofs.Members.{all_append, all_map}
use Rattle.pt_view.proofs.Paths.{lowest_has}
use Rattle.pt_model.specs.declared.position.Position.{Position}
use Rattle.pt_model.specs.Layout.{Layout, Found, table}
use Rattle.pt_model.specs.Tables.{child_at, end_of_table, spine_position, starting_top}
use Rattle.pt_model.specs.Words.{entry_of, entry_place, frame_address, frame_named}
use Rattle.pt_format.specs.Words.{IsTableLevel, IsTableAddress}
use Rattle.pt_format.specs.Laws.{IsLayout, WordsDiffer}
use Rattle.pt_format.specs.Manual.{StepsAgree}
use Rattle.pt_view.specs.declared.view.View.{View}
use Rattle.pt_view.specs.declared.view.Node.{Node}
use Rattle.pt_view.specs.declared.view.Absence.{Absence}
use Rattle.pt_view.specs.declared.view.Absence.TheVariants.{Zero}
use Rattle.pt_model.specs.Sets.{IsAmong, IsSorted}
use Rattle.pt_view.specs.Pieces.{IsOneOf}
use Rattle.pt_view.specs.Calls.{entry_first, entry_end, is_under, lowest, meets_span, pieces_at, HasNoTableUnder, IsEntryAt, IsVacant}
use Rattle.pt_rule.specs.Totals.{total, has_piece}
use Rattle.pt_rule.specs.Linked.{IsLinkedAt, is_in_tree}
use Rattle.pt_rule.specs.Lawful.{Lawful, HasPath, IsOnPath, IsChild, IsOwnPiece, IsOwnTable, BeginsOnSpine, Descends, has_child}
use Rattle.pt_rule.specs.Kinds.{Keeps, EntryTells, zero as tells_zero, own, pointer, look, deeper, first_page, level_at, met, met_word, met_zero}
use Rattle.pt_rule.proofs.TotalsKept.{own_in_tree, total_at}
use Rattle.pt_rule.proofs.PositionFacts.{end_of_child}
use Rattle.pt_rule.proofs.PieceFacts.{word_some}
use Rattle.pt_rule.proofs.TreeFacts.{IsThere, IsEntry, an_empty, a_piece, a_child, entry_is, own_view, is_position, frame_back, is_address, linked_there, child_there, spine_there, table_there, step_of_piece, whole_tree}
use Rattle.pt_rule.proofs.FindsKept.{Finds, finds_at, finds_of}
use Rattle.pt_rule.proofs.NotesKept.{path_noted}

-- Paths.

some_is : (x y : Node) → Some x ≡ Some y → x ≡ y
some_is x y e = ap (λ (o : Option Node). from o) e
  where
    from : Option Node → Node
    from None = x
    from (Some z) = z

descends_more : (f : Layout) (xs : List Node) (x y : Node) → lowest xs ≡ Some x → Descends f xs → IsChild f x.position y.position → Descends f (xs ++ y ∷ [])
descends_more f [] x y e h c = tt
descends_more f (z ∷ []) x y e h c = (subst (λ (w : Node). IsChild f w.position y.position) (sym (some_is z x e)) c, tt)
descends_more f (z ∷ w ∷ ws) x y e h c = (h.0, descends_more f (w ∷ ws) x y e h.1 c)

begins_more : (levels : ℕ) (xs ys : List Node) (x : Node) → lowest xs ≡ Some x → BeginsOnSpine levels xs → BeginsOnSpine levels (xs ++ ys)
begins_more levels [] ys x e h = absurd (let w : ⊥ = cc in w)
begins_more levels (z ∷ zs) ys x e h = h

-- a path with one node more
pub path_more : (f : Layout) (n : ℕ) (words : List ℕ) (views : List View) (w : View) (xs : List Node) (x y : Node) → lowest xs ≡ Some x → w.path ≡ xs ++ y ∷ [] →
    AllByRecursion (IsOnPath f n words views w) xs → BeginsOnSpine w.levels xs → Descends f xs →
    IsOnPath f n words views w y → IsChild f x.position y.position → HasPath f n words views w
path_more f n words views w xs x y e is nodes begins descends last child = record {
  nodes = subst (AllByRecursion (IsOnPath f n words views w)) (sym is) (all_append (IsOnPath f n words views w) xs (y ∷ []) nodes (last, tt));
  begins = subst (BeginsOnSpine w.levels) (sym is) (begins_more w.levels xs (y ∷ []) x e begins);
  descends = subst (Descends f) (sym is) (descends_more f xs x y e descends child);
}

-- the entry at which a view's path stands is one of its last node's table
pub entry_position : (f : Layout) (v : View) (x : Node) (number : ℕ) → lowest v.path ≡ Some x → (q : Position) → IsEntryAt f v q number → q ≡ x.position
entry_position f v x number e q entry = sym entry.at ∙ ap (λ (y : Node). y.position) (some_is entry.node x (sym entry.is_lowest ∙ e))

-- A view's path ends at a table, and an entry of it meets the view's span.
pub record StandsAt (f : Layout) (n : ℕ) (words : List ℕ) (views : List View) (v : View) (frame number : ℕ) (p : Position) : Type 0 where
  pub last : lowest v.path ≡ Some (record { frame = frame; position = p })
  pub linked : IsLinkedAt n words views frame p
  pub within : number < 2 ^ f.index
  pub meets : IsTrue (meets_span v (entry_first f p number) (entry_end f p number))

pub stands_at : (f : Layout) (n l : ℕ) (words : List ℕ) (views : List View) (id : ℕ) (v : View) → Lawful f n l words views → get_elem? views id ≡ some v → (frame number : ℕ) (p : Position) →
    lowest v.path ≡ Some (record { frame = frame; position = p }) → (q : Position) → IsEntryAt f v q number → IsTrue (meets_span v (entry_first f q number) (entry_end f q number)) →
    StandsAt f n words views v frame number p
stands_at f n l words views id v r at frame number p e q entry meets = record {
  last = e;
  linked = (lowest_has (IsOnPath f n words views v) v.path (record { frame = frame; position = p }) e (r.paths id v at).nodes).at;
  within = entry.within;
  meets = subst (λ (z : Position). IsTrue (meets_span v (entry_first f z number) (entry_end f z number))) (entry_position f v (record { frame = frame; position = p }) number e q entry) meets;
}

-- the view whose path goes into a child, and whose tables are these
abbrev pub entered : Layout → View → (h number : ℕ) → Position → List Position → View
entered f v h number p tables = record v {
  path = v.path ++ record { frame = h; position = child_at f p number } ∷ [];
  known = child_at f p number ∷ v.known;
  tables = tables;
}

module _ (f : Layout) (n l : ℕ) (good : IsLayout f) where
  -- the child at an entry that meets the span meets it
  pub child_meets : (words : List ℕ) (views : List View) (r : Lawful f n l words views) (v : View) (frame number : ℕ) (p : Position) →
      StandsAt f n words views v frame number p → 0 < p.level → IsTrue (meets_span v (child_at f p number).base (end_of_table f (child_at f p number)))
  child_meets words views r v frame number p s high =
      ap (meets_span v (entry_first f p number)) (end_of_child f p number high s.within (is_position f n l words views good r frame p s.linked).0.aligned) ∙ s.meets

  -- the path goes into the child
  pub enters : (words : List ℕ) (views : List View) (id : ℕ) (v : View) (r : Lawful f n l words views) → get_elem? views id ≡ some v → 0 < v.count →
      (frame number : ℕ) (p : Position) → StandsAt f n words views v frame number p → 0 < p.level → (h : ℕ) → IsLinkedAt n words views h (child_at f p number) →
      (tables : List Position) → ((q : Position) → IsAmong v.tables q → IsAmong tables q) → ((q : Position) → IsAmong tables q → IsTrue (is_in_tree l words views q)) →
      AllByRecursion (IsOwnTable f v) tables → IsSorted tables → Finds f n l words views v (entered f v h number p tables)
  enters words views id v r at live frame number p s high h child tables kept found all order =
      let w : View = entered f v h number p tables in
      let meets = child_meets words views r v frame number p s high in
      let old = r.paths id v at in
      finds_of f n l words views id v r at tables w.known w.path w.absent kept found all order
      (path_more f n words views w v.path (record { frame = frame; position = p }) (record { frame = h; position = child_at f p number }) s.last refl
      (all_map (IsOnPath f n words views v) (IsOnPath f n words views w) v.path (λ x b. record { at = b.at; near = b.near }) old.nodes) old.begins old.descends
      (record { at = child; near = inr meets }) (record { number = number; within = s.within; high = high; is = refl }))
      (λ q b. ⊎_elim
      (λ (e : q ≡ child_at f p number). (
        subst (IsThere f n l words views good r) (sym e) (linked_there f n l words views good r h (child_at f p number) child),
        inr (subst (λ (z : Position). IsTrue (meets_span v z.base (end_of_table f z))) (sym e) meets),
      ))
      (λ (old : IsAmong v.known q). r.known id v at q old)
      (among_cases q (child_at f p number) v.known b))

  -- the manual's step goes on at a pointer
  pub pointer_facts : (words : List ℕ) (views : List View) (r : Lawful f n l words views) → (frame : ℕ) (p : Position) → IsLinkedAt n words views frame p → 0 < p.level →
      (h : ℕ) → h < n → IsTableLevel f p.level × IsTableAddress f (frame_address f h)
  pointer_facts words views r frame p linked high h within =
      let pos = (is_position f n l words views good r frame p linked).0 in
      (record { above = high; below = pos.a_level }, is_address f h (let m = r.sizes.limit in omega (arith, m, within)))

-- What a load makes of the view.

after_zero : (f : Layout) (v : View) (x : Node) (number found : ℕ) → lowest v.path ≡ Some x → found ≡ 0 → (absent : List Absence) × (met f number found v ≡ record v { absent = absent })
after_zero f v x number found e z =
    let b : (found == 0) ≡ true = eq-eqb found 0 z in
    let first : met f number found v ≡ met_zero f number (lowest v.path) v =
    ap (λ (c : Bool). if c then met_zero f number (lowest v.path) v else met_word f number (f.step (level_at (lowest v.path)) found (first_page f number (lowest v.path))) v) b in
    let more : List Absence = v.absent ++ Zero (child_at f x.position number) ∷ [] in
    (if nat_lt 0 x.position.level then more else v.absent, first ∙ ap (λ (o : Option Node). met_zero f number o v) e ∙ either (nat_lt 0 x.position.level) more)
  where
    either : (c : Bool) (more : List Absence) → (if c then record v { absent = more } else v) ≡ record v { absent = if c then more else v.absent }
    either true more = refl
    either false more = refl

pub after_some : (f : Layout) (v : View) (x : Node) (number found : ℕ) (step : Found) → lowest v.path ≡ Some x → found ≢ 0 → f.step x.position.level found (entry_first f x.position number) ≡ step →
    met f number found v ≡ met_word f number step v
after_some f v x number found step e z is =
    let b : (found == 0) ≡ false = ne_eqb found 0 z in
    ap (λ (c : Bool). if c then met_zero f number (lowest v.path) v else met_word f number (f.step (level_at (lowest v.path)) found (first_page f number (lowest v.path))) v) b
    ∙ ap (λ (o : Option Node). met_word f number (f.step (level_at o) found (first_page f number o)) v) e ∙ ap (λ (s : Found). met_word f number s v) is

module _ (f : Layout) (n l : ℕ) (good : IsLayout f) (d : WordsDiffer f) (a : StepsAgree f) where
  -- where no child stands at an entry, no table lies under it
  pub none_under : (words : List ℕ) (views : List View) (id : ℕ) (v : View) (r : Lawful f n l words views) → get_elem? views id ≡ some v → 0 < v.count →
      (frame number : ℕ) (p : Position) → IsLinkedAt n words views frame p → has_child f l words views p number ≡ false → HasNoTableUnder f v p number
  none_under words views id v r at live frame number p linked childless = record {
    no_table = λ q b. not_under q (table_there f n l words views good r id v at q b);
    none_known = λ q b. not_under q (r.known id v at q b).0;
    no_spine = λ level low up. not_under (spine_position level)
        (spine_there f n l words views good r level (subst (λ (k : ℕ). starting_top k ≤ level) (r.sizes.live id v at live).1 low) (let top = r.root.greatest id v at in omega arith));
  }
    where
      not_under : (q : Position) → IsThere f n l words views good r q → is_under f p number q ≡ false
      not_under q t = false_from_ne_true (is_under f p number q) (λ under.
          let b : ((nat_lt q.level p.level && nat_le (entry_first f p number) q.base) ≡ true) × (nat_lt q.base (entry_end f p number) ≡ true) =
          and_parts (nat_lt q.level p.level && nat_le (entry_first f p number) q.base) _ under in
          let c : (nat_lt q.level p.level ≡ true) × (nat_le (entry_first f p number) q.base ≡ true) = and_parts (nat_lt q.level p.level) _ b.0 in
          let high = ltb-true q.level p.level c.0 in
          false≢true (sym childless ∙ and_from (nat_lt 0 p.level) _ (lt-ltb 0 p.level (omega arith))
          (child_there f n l words views good r p number (linked_there f n l words views good r frame p linked) q t under)))

  -- where nothing stands at an entry, nothing lies under it
  pub vacant_at : (words : List ℕ) (views : List View) (id : ℕ) (v : View) (r : Lawful f n l words views) → get_elem? views id ≡ some v → 0 < v.count →
      (frame number : ℕ) (p : Position) → IsLinkedAt n words views frame p → total (has_piece f p number) views ≡ 0 → has_child f l words views p number ≡ false → IsVacant f v p number
  vacant_at words views id v r at live frame number p linked none childless =
      let under = none_under words views id v r at live frame number p linked childless in record {
        no_piece = let most = total_at (has_piece f p number) views id v at in omega arith;
        no_table = under.no_table;
        none_known = under.none_known;
        no_spine = under.no_spine;
      }

  -- what a load of an entry gives
  abbrev pub Looks : (words : List ℕ) → List View → (id : ℕ) → View → (frame number : ℕ) → Position → Type 0
  Looks words views id v frame number p =
      let found = entry_of f n words frame number in
      Lawful f n l (slice_set words (entry_place f n frame number) found) (set views id (met f number found v)) × EntryTells f n v p number found

  looks : (words : List ℕ) (views : List View) (id : ℕ) (v : View) (r : Lawful f n l words views) → get_elem? views id ≡ some v → 0 < v.count →
      (frame number : ℕ) (p : Position) → StandsAt f n words views v frame number p → IsEntry f n l words views p number (entry_of f n words frame number) →
      Looks words views id v frame number p
  looks words views id v r at live frame number p s entry =
      let x : Node = record { frame = frame; position = p } in
      let found : ℕ = entry_of f n words frame number in
      let place : ℕ = entry_place f n frame number in
      elim entry [
        | an_empty z none childless ↦
            let e : (absent : List Absence) × (met f number found v ≡ record v { absent = absent }) = after_zero f v x number found s.last z in (
              subst (λ (w : View). Lawful f n l (slice_set words place found) (set views id w)) (sym e.1)
                  (finds_at f n l words views id place v (record v { absent = e.0 }) r at live (stays words views id v r at live e.0)),
              tells_zero z (vacant_at words views id v r at live frame number p s.linked none childless),
            )
        | a_piece one word ↦
            let mine : one.view ≡ v = own_view f n l words views good r p number one id v at live s.meets in
            let nonzero : found ≢ 0 = (λ z. word_some f good one.view one.piece one.own d (sym word ∙ z)) in
            let step = step_of_piece f good a one.view one.piece one.own p number one.here in
            let e : met f number found v ≡ v = after_some f v x number found _ s.last nonzero (ap (λ (k : ℕ). f.step p.level k (entry_first f p number)) word ∙ step) in
            let alone : pieces_at f p number v.pieces ≡ 1 = subst (λ (u : View). pieces_at f p number u.pieces ≡ 1) mine one.alone in (
              subst (λ (w : View). Lawful f n l (slice_set words place found) (set views id w)) (sym e)
                  (finds_at f n l words views id place v v r at live (stays words views id v r at live v.absent)),
              own one.piece (subst (λ (u : View). IsOneOf u.pieces one.piece) mine one.member) (subst (λ (u : View). IsOwnPiece f u one.piece) mine one.own) one.here
                  alone word
                  (none_under words views id v r at live frame number p s.linked (false_from_ne_true (has_child f l words views p number) (λ child.
                  let none = r.entries.apart number p child in let most = total_at (has_piece f p number) views id v at in omega arith))),
            )
        | a_child h child high word ↦
            let facts : IsTableLevel f p.level × IsTableAddress f (frame_address f h) = pointer_facts f n l good words views r frame p s.linked high h child.is_linked.within in
            let nonzero : found ≢ 0 = (λ z. d.pointer_some p.level (frame_address f h) facts.0 facts.1 (sym word ∙ z)) in
            let step : f.step p.level found (entry_first f p number) ≡ table (frame_address f h) =
            ap (λ (k : ℕ). f.step p.level k (entry_first f p number)) word ∙ a.pointer p.level (frame_address f h) (entry_first f p number) facts.0 facts.1 in
            let e : met f number found v ≡ entered f v h number p v.tables =
            after_some f v x number found _ s.last nonzero step ∙ ap (λ (o : Option Node). deeper f (frame_named f (frame_address f h)) number o v) s.last
            ∙ ap (λ (k : ℕ). entered f v k number p v.tables) (frame_back f h) in
            let book = r.books id v at live in
            let there = linked_there f n l words views good r h (child_at f p number) child in (
              subst (λ (w : View). Lawful f n l (slice_set words place found) (set views id w)) (sym e)
                  (finds_at f n l words views id place v (entered f v h number p v.tables) r at live
                  (enters f n l good words views id v r at live frame number p s high h child v.tables (λ q b. b) (λ q b. table_there f n l words views good r id v at q b) book.tables book.in_order)),
              pointer h child.is_linked.within facts.0 word (λ all. whole_tree f n l words views good r id v at live all (child_at f p number) there)
                  (let none = r.entries.apart number p (and_from (nat_lt 0 p.level) _ (lt-ltb 0 p.level high) there) in
                  let most = total_at (has_piece f p number) views id v at in omega arith),
            )
      ]
    where
      stays : (words : List ℕ) (views : List View) (id : ℕ) (v : View) (r : Lawful f n l words views) → get_elem? views id ≡ some v → 0 < v.count → (absent : List Absence) →
          Finds f n l words views v (record v { absent = absent })
      stays words views id v r at live absent =
          let w : View = record v { absent = absent } in
          let book = r.books id v at live in
          finds_of f n l words views id v r at v.tables v.known v.path absent (λ q b. b) (own_in_tree l words views id v at) book.tables book.in_order
          (path_noted f n l words views v w (record { frames = refl; levels = refl; first = refl; count = refl }) refl (r.paths id v at)) (r.known id v at)

  pub looked : (frame number : ℕ) → Keeps f n l (look frame number)
  looked frame number words views id v r at live may =
      let p : Position = may.0.0 in
      let last : lowest v.path ≡ Some (record { frame = frame; position = p }) = may.0.1 in
      let s : StandsAt f n words views v frame number p = stands_at f n l words views id v r at frame number p last may.1.position may.1.entry may.1.meets in
      let g : Looks words views id v frame number p =
      looks words views id v r at live frame number p s (entry_is f n l words views good r frame p number s.linked s.within) in (
        g.0,
        λ q entry. subst (λ (z : Position). EntryTells f n v z number (entry_of f n words frame number))
            (sym (entry_position f v (record { frame = frame; position = p }) number last q entry)) g.1,
      )
