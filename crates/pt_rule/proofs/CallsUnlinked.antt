-- A load of an entry, a store of zero to it and a store of the child's tag are what a holder's call of unlink says:
-- the load goes into the child, the first store leaves and prepares it, and the second puts its frame into the purse.
use Rattle.std.proofs.Common.{◌≡◌, ◌≢◌, ℕ, true, false, ◌<◌, ◌≤◌, List, ◌∷◌, refl, ap, sym, ◌∙◌, subst, ⊎_elim, arith}
use Rattle.std.specs.Prelude.{◌&&◌, nat_lt, nat_le, Option, None, Some}
use Rattle.std.proofs.lemmas.Bool.{and_parts, and_from, false≢true, leb-true, lt-ltb, le-leb}
use Rattle.pt_model.proofs.Positions.{among_cases, among_more, is_same_self}
use Rattle.pt_model.proofs.Quotients.{entry_some}
use Rattle.pt_view.proofs.Paths.{front_snoc, lowest_snoc}
use Rattle.pt_model.specs.declared.block.Prot.{Prot}
use Rattle.pt_model.specs.declared.position.Position.{Position}
use Rattle.pt_model.specs.Layout.{Layout, table}
use Rattle.pt_model.specs.Tables.{child_at, is_same}
use Rattle.pt_model.specs.Words.{frame_address, frame_limit, frame_named}
use Rattle.pt_format.specs.Words.{IsLeaf, IsPointer, IsTableAddress, IsTableLevel}
use Rattle.pt_format.specs.Laws.{IsLayout, WordsDiffer}
use Rattle.pt_format.specs.Manual.{StepsAgree}
use Rattle.pt_view.specs.declared.view.View.{View}
use Rattle.pt_view.specs.declared.view.Node.{Node}
use Rattle.pt_model.specs.Sets.{IsAmong, RemovesPosition, without_position}
use Rattle.pt_view.specs.Pieces.{first_of}
use Rattle.pt_view.specs.Calls.{begins_under, entry_first, entry_end, is_under, lowest, span_end, IsEntryAt, IsUnlinked, MayUnlink, MeetsEntry}
use Rattle.pt_rule.specs.Kinds.{EntryTells, zero as tells_zero, own, pointer, IsLowestIn, May, MayCut, after, deeper, met, unlink, unlinked, unplace}
use Rattle.pt_rule.proofs.TreeFacts.{entry_of_piece, frame_back, is_address}
use Rattle.pt_rule.proofs.LookKept.{after_some, entered, entry_position}
use Rattle.pt_rule.proofs.ListsWithout.{without_is}

-- A path with one node more: its last node, and the rest.

module _ (f : Layout) (n : ℕ) (good : IsLayout f) (d : WordsDiffer f) (a : StepsAgree f) (few : n ≤ frame_limit f) (v : View) (number : ℕ) (may : MayUnlink f v number) where
  abbrev pub place : Position
  place = may.position

  abbrev pub child : Position
  child = child_at f place number

  -- the view that has gone into the child
  abbrev pub inside : (h : ℕ) → View
  inside h = entered f v h number place v.tables

  abbrev node : (h : ℕ) → Node
  node h = record { frame = h; position = child }

  lowest_is : lowest v.path ≡ Some (record { frame = may.entry.node.frame; position = place })
  lowest_is = may.entry.is_lowest ∙ ap (λ (p : Position). Some (record { frame = may.entry.node.frame; position = p })) may.entry.at

  one_place : (p : Position) → IsEntryAt f v p number → p ≡ place
  one_place p entry = entry_position f v (record { frame = may.entry.node.frame; position = place }) number lowest_is p entry

  -- The load.

  -- the entry meets the span
  pub meets_entry : MeetsEntry f v number
  meets_entry =
      let b : (nat_le v.first (entry_first f place number) ≡ true) × (nat_le (entry_end f place number) (span_end v) ≡ true) =
      and_parts (nat_le v.first (entry_first f place number)) _ may.bare.inside in
      let low = leb-true v.first (entry_first f place number) b.0 in
      let up = leb-true (entry_end f place number) (span_end v) b.1 in
      let some_page = entry_some f place.level in
      record {
        position = place;
        entry = may.entry;
        meets = and_from (nat_lt (entry_first f place number) (span_end v)) _ (lt-ltb (entry_first f place number) (span_end v) (omega arith)) (lt-ltb v.first (entry_end f place number) (omega arith));
      }

  child_under : is_under f place number child ≡ true
  child_under =
      let high = may.bare.high in
      let some_page = entry_some f place.level in
      and_from (nat_lt child.level place.level && nat_le (entry_first f place number) child.base) _
      (and_from (nat_lt child.level place.level) _ (lt-ltb child.level place.level (omega arith)) (le-leb (entry_first f place number) child.base (omega arith)))
      (lt-ltb child.base (entry_end f place number) (omega arith))

  module _ (found : ℕ) (told : (p : Position) → IsEntryAt f v p number → EntryTells f n v p number found) where
    -- it finds the pointer to a frame
    pub found_pointer : (h : ℕ) × (h < n) × IsTableLevel f place.level × (found ≡ f.pointer place.level (frame_address f h))
    found_pointer = elim (told place may.entry) [
      | tells_zero none vacant ↦ absurd (⊎_elim
          (λ (known : IsAmong v.known child). false≢true (sym (vacant.none_known child known) ∙ child_under))
          (λ (listed : IsAmong v.tables child). false≢true (sym (vacant.no_table child listed) ∙ child_under)) may.linked)
      | own x member legal at_it alone_there is under ↦
          let first : entry_first f place number ≡ first_of f x = entry_of_piece f good v x legal place number at_it in
          let some_page = entry_some f place.level in
          let begins : begins_under f place number x ≡ true =
          and_from (nat_le (entry_first f place number) (first_of f x)) _ (le-leb (entry_first f place number) (first_of f x) (omega arith))
          (lt-ltb (first_of f x) (entry_end f place number) (omega arith)) in
          absurd (false≢true (sym (may.bare.no_piece x member) ∙ begins))
      | pointer frame within level is owned none ↦ (frame, within, level, is)
    ]

    abbrev pub frame_found : ℕ
    frame_found = found_pointer.0

    pub frame_within : frame_found < n
    frame_within = found_pointer.1

    pub was_pointer : found ≡ f.pointer place.level (frame_address f frame_found)
    was_pointer = found_pointer.3

    address : IsTableAddress f (frame_address f frame_found)
    address = is_address f frame_found (let h = frame_within in omega arith)

    pub is_pointer : (p : Position) → IsEntryAt f v p number → IsPointer f p.level found (frame_address f frame_found)
    is_pointer p entry = subst (λ (q : Position). IsPointer f q.level found (frame_address f frame_found)) (sym (one_place p entry))
        (record { at_level = found_pointer.2; a_frame = address; word_is = was_pointer })

    -- so it isn't zero, nor the word of a page
    pub not_zero : found ≢ 0
    not_zero z = d.pointer_some place.level (frame_address f frame_found) found_pointer.2 address (sym was_pointer ∙ z)

    pub not_leaf : (log2 : ℕ) (prot : Prot) → IsLeaf f place.level found log2 prot → ⊥
    not_leaf log2 prot read = d.apart place.level log2 read.out read.part (frame_address f frame_found) prot read.may found_pointer.2 address (sym read.word_is ∙ was_pointer)

    -- what it reads as names the frame
    pub named : (read_address : ℕ) → IsPointer f place.level found read_address → frame_named f read_address ≡ frame_found
    named read_address read =
        ap (frame_named f) (d.one_address place.level read_address (frame_address f frame_found) found_pointer.2 read.a_frame address (sym read.word_is ∙ was_pointer)) ∙ frame_back f frame_found

    -- and the path goes into the child
    pub goes_inside : met f number found v ≡ inside frame_found
    goes_inside =
        let x : Node = record { frame = may.entry.node.frame; position = place } in
        let step : f.step place.level found (entry_first f place number) ≡ table (frame_address f frame_found) =
        ap (λ (k : ℕ). f.step place.level k (entry_first f place number)) was_pointer ∙ a.pointer place.level (frame_address f frame_found) (entry_first f place number) found_pointer.2 address in
        after_some f v x number found _ lowest_is not_zero step ∙ ap (λ (o : Option Node). deeper f (frame_named f (frame_address f frame_found)) number o v) lowest_is
        ∙ ap (λ (k : ℕ). inside k) (frame_back f frame_found)

  -- The stores.
  module _ (h : ℕ) where
    -- the first one may be made
    pub may_cut : (frame : ℕ) → IsLowestIn v frame → MayCut f (inside h) frame number
    may_cut frame down =
        let x : Node = record { frame = frame; position = down.0 } in
        let y : Node = record { frame = may.entry.node.frame; position = place } in
        let e : Some x ≡ Some y = sym down.1 ∙ lowest_is in
        let nodes : x ≡ y = cc in
        let same : down.0 ≡ place = ap (λ (z : Node). z.position) nodes in
        record {
          position = place;
          child = h;
          over = ap lowest (front_snoc v.path (node h)) ∙ down.1 ∙ ap (λ (p : Position). Some (record { frame = frame; position = p })) same;
          last = lowest_snoc v.path (node h);
          within = may.entry.within;
          bare = record { high = may.bare.high; off_spine = may.bare.off_spine; inside = may.bare.inside; no_piece = may.bare.no_piece; no_table = may.bare.no_table };
          none = may.none;
        }

    -- it leaves and prepares the child
    abbrev pub cut : View
    cut = record v {
      tables = without_position child v.tables;
      prepared = Some (record { frame = h; position = child; bridge = None });
      known = without_position child (child ∷ v.known);
    }

    pub cut_is : (frame found : ℕ) → after f (unlink frame number) found (inside h) ≡ cut
    cut_is frame found =
        ap (λ (o : Option Node). unlinked o (inside h)) (lowest_snoc v.path (node h)) ∙ ap (λ (xs : List Node). record cut { path = xs }) (front_snoc v.path (node h))

    -- the second one may be made
    pub may_unplace : May f n (unplace h) cut
    may_unplace = (child, refl)

    -- and both are what the call says
    known_is : RemovesPosition v.known (without_position child (child ∷ v.known)) child
    known_is q = (
      λ m. let k : (is_same child q ≡ false) × IsAmong (child ∷ v.known) q = (without_is child (child ∷ v.known) q).0 m in (
        k.0,
        ⊎_elim (λ (e : q ≡ child). absurd (false≢true (sym k.0 ∙ ap (is_same child) e ∙ is_same_self child child refl))) (λ (old : IsAmong v.known q). old) (among_cases q child v.known k.1),
      ),
      λ m. (without_is child (child ∷ v.known) q).1 (m.0, among_more q child v.known m.1),
    )

    pub unlinked_is : (tells : Type 0) (found : ℕ) → IsUnlinked f tells number v (after f (unplace h) found cut)
    unlinked_is tells found = record {
      range = record { frames = refl; levels = refl; first = refl; count = refl };
      pieces = refl;
      top = refl;
      path = refl;
      purse = (h, refl);
      end = refl;
      prepared = refl;
      busy = λ g. (λ b. b, λ b. b);
      tables = λ p entry. ap (λ (q : Position). without_position (child_at f q number) v.tables) (sym (one_place p entry));
      known = λ p entry. subst (λ (q : Position). RemovesPosition v.known (without_position child (child ∷ v.known)) (child_at f q number)) (sym (one_place p entry)) known_is;
      told = λ told. record { taken = refl; absent = refl; stores = refl };
    }
