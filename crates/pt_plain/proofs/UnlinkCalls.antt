-- The call that unlinks a table: a load of its entry, a store of zero there, and a store of the table's tag.
use Rattle.std.proofs.Common.{◌≡◌, ◌≢◌, ℕ, true, false, ◌+◌, ◌%◌, ◌<◌, ◌≤◌, List, [], ◌∷◌, length, refl, ap, sym, ◌∙◌, subst, arith, ⊎_elim}
use Rattle.std.specs.Prelude.{IsTrue, None, Some, Option, not, slice_index, slice_set}
use Rattle.std.proofs.lemmas.Bool.{false≢true, not-true}
use Rattle.pt_model.specs.declared.position.Position.{Position}
use Rattle.pt_model.specs.Layout.{Layout}
use Rattle.pt_model.specs.Sets.{IsAmong}
use Rattle.pt_model.specs.Tables.{child_at, is_same, is_spine}
use Rattle.pt_model.specs.Words.{entry_of, entry_place, frame_address, frame_named, tag}
use Rattle.pt_model.proofs.Places.{root_after_entry, root_after_tag, tag_after_entry}
use Rattle.pt_model.proofs.Positions.{among_filtered, same_cases}
use Rattle.pt_format.specs.Words.{IsPointer, IsTableLevel}
use Rattle.pt_view.specs.declared.view.View.{View}
use Rattle.pt_view.specs.declared.view.Node.{Node}
use Rattle.pt_view.specs.declared.view.Prepared.{Prepared}
use Rattle.pt_view.specs.declared.holder.Seen.TheVariants.{Entered}
use Rattle.pt_view.specs.Calls.{IsUnlinked, MayUnlink, UnlinkFinds, Went, lowest, prepared_count}
use Rattle.pt_view.proofs.Paths.{lowest_snoc}
use Rattle.pt_rule.specs.Holds.{Holds}
use Rattle.pt_rule.specs.Tags.{first_or, held_word}
use Rattle.pt_rule.specs.Lawful.{Lawful}
use Rattle.pt_rule.specs.Kinds.{IsLowestIn, May, Tells, UnlinkTells, after, frame_of, look, unlink, unlinked as cut_off, unplace}
use Rattle.pt_rule.specs.Meets.{Always, GoesInto, IsWhole, Unlinks, in_child, out_of_child}
use Rattle.pt_rule.proofs.Laws.{steps_keep, unlink_meets, views_hold}
use Rattle.pt_rule.proofs.TagFacts.{placed_some, prepared_by}
use Rattle.pt_plain.specs.Owner.{Fields, IsOwner, known_in, span_view, whole_view}
use Rattle.pt_plain.proofs.Carried.{unlinked_on}
use Rattle.pt_plain.proofs.Known.{known_cases, known_spine, known_table}
use Rattle.pt_plain.proofs.Laws.{Laws}
use Rattle.pt_plain.proofs.Matches.{path_kept, prepared_kept, purse_more}
use Rattle.pt_plain.proofs.Owners.{Does, frame_within, given, level_below, level_is, live, lowest_in, matches, place_is, shown, span_whole}
use Rattle.pt_plain.proofs.Steps.{busy_here, busy_within, known_here, loaded, read_back, says, told}
use Rattle.pt_plain.proofs.TagCalls.{next_is, purse_length, tags_before}

-- What the call does, and what is asked of the view before.
module _ {f : Layout} {o : Fields} (own : IsOwner f o) (number : ℕ) where
  abbrev pub Unlinked : (child : ℕ) (words : List ℕ) → Type 0
  Unlinked child words = Does f o (record o { words = words; head = Some child; held = o.held + 1 }) (λ v w. IsUnlinked f ⊥ number v w)

  abbrev pub Asks : Type 0
  Asks = MayUnlink f (span_view f o) number

module _ {f : Layout} (laws : Laws f) {o : Fields} (own : IsOwner f o) (number : ℕ) (asked : MayUnlink f (span_view f o) number) where
  abbrev v : View
  v = whole_view f o

  abbrev frame : ℕ
  frame = slice_index o.path o.level

  abbrev place : ℕ
  place = entry_place f o.frames frame number

  abbrev found : ℕ
  found = entry_of f o.frames o.words frame number

  may : MayUnlink f v number
  may = given own (λ w. MayUnlink f w number) asked

  abbrev gone : Position
  gone = child_at f may.position number

  pub within : frame < o.frames
  within = frame_within own may.entry

  down : IsLowestIn v frame
  down = lowest_in own may.entry

  at_level : may.position.level ≡ o.level
  at_level = level_is own may.entry

  -- the level is one of a table with tables below it
  pub table_level : IsTableLevel f o.level
  table_level = record { above = (let e = at_level in let h = may.bare.high in omega arith); below = level_below own may.entry }

  -- The load.

  looks : (found : ℕ) → Tells f o.frames (look frame number) v found → Unlinks f o.frames v frame number found
  looks = (unlink_meets f laws.layout laws.differ laws.agree o.frames own.lawful.sizes.limit v frame number down may).1

  looking : May f o.frames (look frame number) v
  looking = (unlink_meets f laws.layout laws.differ laws.agree o.frames own.lawful.sizes.limit v frame number down may).0

  pub unlinks : Unlinks f o.frames v frame number found
  unlinks = looks found (told laws own (look frame number) looking)

  abbrev pub child : ℕ
  child = unlinks.child

  -- it finds the pointer to the child
  pub pointer : IsPointer f o.level found (frame_address f child)
  pointer = subst (λ (k : ℕ). IsPointer f k found (frame_address f child)) at_level (unlinks.pointer may.position may.entry)

  abbrev inside : View
  inside = in_child f frame number found v

  entered : Went f Always (IsWhole f v) number v Entered inside × GoesInto f may.position number (frame_named f (frame_address f child)) v inside
  entered = (says laws own (look frame number) looking may.position may.entry).pointer (frame_address f child) (unlinks.pointer may.position may.entry)

  abbrev node : Node
  node = record { frame = frame_named f (frame_address f child); position = gone }

  last_is : lowest inside.path ≡ Some node
  last_is = ap lowest entered.1 ∙ lowest_snoc v.path node

  lawful_inside : Lawful f o.frames o.levels o.words (inside ∷ [])
  lawful_inside = loaded laws own (look frame number) looking refl

  -- The store of zero.

  abbrev cut_words : List ℕ
  cut_words = slice_set o.words place 0

  abbrev cut : View
  cut = out_of_child f frame number found found v

  cuts : Lawful f o.frames o.levels cut_words (cut ∷ []) × UnlinkTells f o.frames inside found
  cuts = steps_keep f laws.layout laws.differ laws.agree o.frames o.levels (unlink frame number) o.words (inside ∷ []) 0 inside lawful_inside refl
      (let e = entered.0.range.count in let l = live f o in omega arith) unlinks.may_unlink

  -- the child was one of the tables
  was_table : IsAmong v.tables gone
  was_table =
      let t = cuts.1 in
      let both : Some t.child ≡ Some node = sym t.last ∙ last_is in
      let same : t.child ≡ node = cc in
      subst (λ (ps : List Position). IsAmong ps gone) entered.0.book.tables
      (subst (λ (p : Position). IsAmong inside.tables p) (ap (λ (z : Node). z.position) same) t.own)

  pub finds : UnlinkFinds f (Unit {0}) number (span_view f o)
  finds = subst (λ (w : View). UnlinkFinds f (Unit {0}) number w) (sym (span_whole own)) (λ _ p entry. subst (λ (q : Position). IsAmong v.tables (child_at f q number)) (place_is own may.entry ∙ sym (place_is own entry)) was_table)

  -- The store of the tag.

  abbrev last : ℕ
  last = tag cut_words child

  abbrev u : View
  u = after f (unplace child) last cut

  r : IsUnlinked f Always number v u
  r = unlinks.unlinked found last

  prepared : (p : Position) × (cut.prepared ≡ Some (let x : Prepared = record { frame = child; position = p; bridge = None } in x))
  prepared = unlinks.may_unplace found

  -- the pointer names the child's frame
  pub child_is : frame_named f (frame_address f child) ≡ child
  child_is = sym (ap (λ (k : Option Node). frame_of (cut_off k inside).prepared) last_is) ∙ ap frame_of prepared.1

  abbrev ready : Prepared
  ready = record { frame = child; position = prepared.0; bridge = None }

  live_cut : 0 < cut.count
  live_cut = let e = r.range.count in let l = live f o in omega arith

  holds : Holds f o.frames o.levels cut
  holds = views_hold f laws.layout o.frames o.levels cut_words (cut ∷ []) 0 cut cuts.0 refl live_cut

  pub child_within : child < o.frames
  child_within = holds.prepared_within ready prepared.1

  -- the purse is as before until then
  same_rest : (x y : ℕ) (xs ys : List ℕ) → x ∷ xs ≡ y ∷ ys → xs ≡ ys
  same_rest x y xs ys e = cc

  purse_is : cut.purse ≡ v.purse
  purse_is = same_rest child r.purse.0 cut.purse v.purse r.purse.1

  next_held : first_or cut.end cut.purse ≡ o.head
  next_held = (λ i. first_or (r.end i) (purse_is i)) ∙ next_is laws own

  -- the count of the purse can grow
  pub room : o.held < o.frames
  room =
      let most = holds.few in
      let one : prepared_count cut.prepared ≡ 1 = ap prepared_count prepared.1 in
      let e : length cut.purse ≡ o.held = ap length purse_is ∙ purse_length laws own in
      omega arith

  -- the child's tag wasn't 0
  tag_kept : (g : ℕ) → g < o.frames → tag cut_words g ≡ tag o.words g
  tag_kept g lt = tag_after_entry f o.frames o.words frame number 0 g lt

  was_placed : tag cut_words child ≢ 0
  was_placed = placed_some (tag cut_words child) (prepared_by f o.frames cut_words (cut ∷ []) cuts.0.frames 0 cut ready refl prepared.1).placed

  -- what it knows still
  known_there : (p : Position) → IsAmong (known_in o.levels u.tables u.top) p → IsAmong u.known p
  known_there p h = (r.known may.position may.entry p).1 (⊎_elim
      (λ (t : IsAmong u.tables p).
      let k : IsAmong v.tables p × (not (is_same gone p) ≡ true) =
      among_filtered (λ q. not (is_same gone q)) v.tables p (subst (λ (ps : List Position). IsAmong ps p) (r.tables may.position may.entry) t) in
      (not-true (is_same gone p) k.1, known_here own p (known_table o.levels v.tables v.top p k.0)))
      (λ (s : IsTrue (is_spine o.levels p) × (p.level ≤ u.top)).
      let up = s.1 in let top = r.top in
      (apart p s.0, known_here own p (known_spine o.levels v.tables v.top p s.0 (omega arith))))
      (known_cases o.levels u.tables u.top p h))
    where
      gone_off : is_spine o.levels gone ≡ false
      gone_off = ap (λ (l : ℕ). is_spine l gone) (sym (shown f o).levels_are) ∙ may.bare.off_spine

      apart : (p : Position) → IsTrue (is_spine o.levels p) → is_same gone p ≡ false
      apart p spine = ⊎_elim
          (λ (e : gone ≡ p). absurd (false≢true (sym gone_off ∙ ap (is_spine o.levels) e ∙ spine)))
          (λ (ne : is_same gone p ≡ false). ne) (same_cases gone p)

  stored : (words : List ℕ) → words ≡ slice_set cut_words (1 + child) (held_word o.head) → Unlinked own number child words
  stored words stores =
      let m = matches own in
      let three = steps_keep f laws.layout laws.differ laws.agree o.frames o.levels (unplace child) cut_words (cut ∷ []) 0 cut cuts.0 refl live_cut prepared in
      let now : slice_set cut_words (1 + child) (held_word (first_or cut.end cut.purse)) ≡ words =
      ap (λ (h : Option ℕ). slice_set cut_words (1 + child) (held_word h)) next_held ∙ sym stores in
      let root = ap (λ (z : ℕ). z % 8) (ap (λ (ws : List ℕ). slice_index ws 0) stores ∙ root_after_tag cut_words child (held_word o.head) ∙ root_after_entry f o.frames o.words frame number 0) in
      read_back laws own u (record o { words = words; head = Some child; held = o.held + 1 })
      (subst (λ (ws : List ℕ). Lawful f o.frames o.levels ws (u ∷ [])) now three.0) r.range own.span
      (record {
        purse = purse_more (ap (λ (xs : List ℕ). child ∷ xs) purse_is) r.end m.purse;
        path = path_kept r.path root m.path;
        prepared = prepared_kept (r.prepared ∙ sym may.none) m.prepared;
      })
      (record {
        within = λ g h. busy_within own g ((r.busy g).0 h);
        busy = λ g lt some. (r.busy g).1 (busy_here own g lt (λ z. tags_before cut_words child (held_word o.head) was_placed g
            (λ none. some (ap (λ (ws : List ℕ). tag ws g) stores ∙ none)) (tag_kept g lt ∙ z)));
        known = known_there;
        taken = λ g h. (r.busy g).1 (own.taken g h);
      })
      (λ v w. IsUnlinked f ⊥ number v w) (λ a. unlinked_on a r)

  -- of the frame that the pointer names
  pub unlinked : (mine : ℕ) → mine ≡ child → (words : List ℕ) → words ≡ slice_set cut_words (1 + mine) (held_word o.head) → Unlinked own number mine words
  unlinked mine is words stores = subst (λ (g : ℕ). Unlinked own number g words) (sym is)
      (stored words (stores ∙ ap (λ (g : ℕ). slice_set cut_words (1 + g) (held_word o.head)) is))
