-- The call that raises the top: a store of the bridge in the prepared frame, and a store of the root.
use Rattle.std.proofs.Common.{◌≡◌, ℕ, inl, inr, ◌+◌, ◌%◌, ◌<◌, ◌≤◌, suc, List, [], ◌∷◌, length, refl, ap, sym, ◌∙◌, subst, arith, ⊎_elim, length-set, get_or-set_same}
use Rattle.std.specs.Prelude.{IsTrue, None, Some, slice_index, slice_set}
use Rattle.std.proofs.lemmas.Nat.{pow_pos}
use Rattle.pt_model.specs.declared.position.Position.{Position}
use Rattle.pt_model.specs.Layout.{Layout}
use Rattle.pt_model.specs.Sets.{IsAmong}
use Rattle.pt_model.specs.Tables.{is_spine, spine_position}
use Rattle.pt_model.specs.Words.{entry_place, frame_address, root_level, root_word, tag, word_count}
use Rattle.pt_model.proofs.Places.{length_kept, root_same, tag_after_entry, tag_after_root}
use Rattle.pt_format.specs.Words.{IsTableLevel}
use Rattle.pt_view.specs.declared.view.View.{View}
use Rattle.pt_view.specs.declared.holder.Won.TheVariants.{Yes}
use Rattle.pt_view.specs.Calls.{IsEntryAt, IsGrown, IsRaised, MayGrow, lowest}
use Rattle.pt_rule.specs.Lawful.{Lawful}
use Rattle.pt_rule.specs.WholeView.{prepared_frame}
use Rattle.pt_rule.specs.Meets.{Always, IsWhole}
use Rattle.pt_rule.proofs.LoneGrowth.{found_tells, grown_lawful, grown_view, lone_grown}
use Rattle.pt_plain.specs.Owner.{Fields, IsOwner, known_in, span_view, whole_view}
use Rattle.pt_plain.proofs.Carried.{grown_on}
use Rattle.pt_plain.proofs.Known.{known_cases, known_table}
use Rattle.pt_plain.proofs.Laws.{Laws}
use Rattle.pt_plain.proofs.Matches.{prepared_none, purse_kept}
use Rattle.pt_plain.proofs.Owners.{Does, frame_within, given, live, matches, shown, whole}
use Rattle.pt_plain.proofs.Paths.{Follows}
use Rattle.pt_plain.proofs.Steps.{busy_here, busy_within, known_here, read_back}

-- What the call does, and what is asked of the view before.
module _ {f : Layout} {o : Fields} (own : IsOwner f o) where
  abbrev pub Raised : (frame : ℕ) (words : List ℕ) → Type 0
  Raised frame words = Does f o (record o { words = words; path = slice_set o.path (o.level + 1) frame; level = o.level + 1; prepared = None })
      (λ v w. IsGrown f ⊥ (Unit {0}) v Yes w)

  abbrev pub Asks : Type 0
  Asks = MayGrow (span_view f o)

module _ {f : Layout} (laws : Laws f) {o : Fields} (own : IsOwner f o) (asked : MayGrow (span_view f o)) where
  abbrev v : View
  v = whole_view f o

  abbrev may : MayGrow v
  may = given own MayGrow asked

  abbrev n : ℕ
  n = o.frames

  -- the path is the root alone, at its level
  one_node : Follows o.path (suc (root_level o.words)) (record { frame = may.root; position = spine_position may.level } ∷ [])
  one_node = subst (λ (k : ℕ). Follows o.path k (record { frame = may.root; position = spine_position may.level } ∷ [])) (let e : root_level o.words + 1 ≡ suc (root_level o.words) = omega arith in e)
      (subst (Follows o.path (root_level o.words + 1)) may.path (matches own).path.follows)

  at_root : o.level ≡ root_level o.words
  at_root = let depth = (matches own).path.depth in let one = ap length may.path in omega arith

  pub level_is : may.level ≡ o.level
  level_is = one_node.1 ∙ sym at_root

  pub root_is : slice_index o.path o.level ≡ may.root
  root_is = ap (slice_index o.path) at_root ∙ one_node.0

  pub prepared_is : Some may.frame ≡ o.prepared
  prepared_is = sym (ap prepared_frame may.prepared) ∙ (matches own).prepared.is

  -- the new top is of a level of the format
  pub table_level : IsTableLevel f (o.level + 1)
  table_level = record { above = (let e : 0 < o.level + 1 = omega arith in e); below = (let h = (found_tells f n o.levels laws.layout o.words v own.lawful (live f o) (whole own) may).legal in let e = level_is in omega arith) }

  pub few_levels : o.level + 1 < 8
  few_levels = let b = table_level.below in let h = laws.layout.levels_high in omega arith

  -- the root's frame is one of the space
  root_entry : IsEntryAt f v (spine_position may.level) 0
  root_entry = record {
    node = record { frame = may.root; position = spine_position may.level };
    is_lowest = ap lowest may.path;
    at = refl;
    within = pow_pos f.index;
  }

  pub root_within : slice_index o.path o.level < o.frames
  root_within = frame_within own root_entry

  -- The words and the view after it.

  abbrev u : View
  u = grown_view f n o.levels laws.layout o.words v own.lawful (live f o) (whole own) may

  r : IsGrown f Always (IsWhole f v) v Yes u
  r = lone_grown f n o.levels laws.layout o.words v own.lawful (live f o) (whole own) may

  -- the words after a bridge to the old root, and a root that names this frame
  abbrev pub raised_words : (frame level root : ℕ) → List ℕ
  raised_words frame level root =
      slice_set (slice_set o.words (entry_place f n frame 0) (f.pointer (level + 1) (frame_address f root))) 0 (root_word frame (level + 1))

  level_after : (words : List ℕ) → words ≡ raised_words may.frame may.level may.root → root_level words ≡ o.level + 1
  level_after words is =
      let bridge : List ℕ = slice_set o.words (entry_place f n may.frame 0) (f.pointer (may.level + 1) (frame_address f may.root)) in
      let long : length bridge ≡ word_count f n = length_kept o.words (entry_place f n may.frame 0) _ ∙ own.lawful.sizes.words_are in
      let e : root_level words ≡ root_word may.frame (may.level + 1) % 8 =
      ap root_level is ∙ ap (λ (z : ℕ). z % 8) (root_same f n bridge (root_word may.frame (may.level + 1)) long) in
      let few = few_levels in let level = level_is in omega arith

  tag_kept : (words : List ℕ) → words ≡ raised_words may.frame may.level may.root → (g : ℕ) → g < n → tag words g ≡ tag o.words g
  tag_kept words is g lt =
      ap (λ (ws : List ℕ). tag ws g) is ∙ tag_after_root _ (root_word may.frame (may.level + 1)) g
      ∙ tag_after_entry f n o.words may.frame 0 (f.pointer (may.level + 1) (frame_address f may.root)) g lt

  known_there : (p : Position) → IsAmong (known_in o.levels u.tables u.top) p → IsAmong u.known p
  known_there p h =
      let grows : IsRaised f may.level v u = r.grows may.level (may.root, may.path) in
      (grows.known p).1 (⊎_elim
      (λ (t : IsAmong u.tables p). inr (known_here own p (known_table o.levels v.tables v.top p (subst (λ (ps : List Position). IsAmong ps p) r.tables t))))
      (λ (s : IsTrue (is_spine o.levels p) × (p.level ≤ u.top)).
      let top = grows.top in let up = s.1 in
      inl (subst (λ (l : ℕ). IsTrue (is_spine l p)) (sym (shown f o).levels_are) s.0, omega arith))
      (known_cases o.levels u.tables u.top p h))

  grown_to : (words : List ℕ) → words ≡ raised_words may.frame may.level may.root → Raised own may.frame words
  grown_to words stores =
      let m = matches own in
      let top = level_after words stores in let few = few_levels in let level = level_is in
      let eight : length o.path ≡ 8 = own.eight in
      read_back laws own u (record o { words = words; path = slice_set o.path (o.level + 1) may.frame; level = o.level + 1; prepared = None })
      (subst (λ (ws : List ℕ). Lawful f o.frames o.levels ws (u ∷ [])) (sym stores) (grown_lawful f n o.levels laws.layout o.words v own.lawful (live f o) (whole own) may)) r.range own.span
      (record {
        purse = purse_kept r.purse m.purse;
        path = record {
          follows = subst (λ (k : ℕ). Follows (slice_set o.path (o.level + 1) may.frame) k u.path) (let e : suc (o.level + 1) ≡ root_level words + 1 = omega arith in e)
              (get_or-set_same o.path (o.level + 1) may.frame 0 (omega arith), (let e : may.level + 1 ≡ o.level + 1 = omega arith in e), tt);
          depth = (let e : 1 + (o.level + 1) ≡ root_level words + 1 = omega arith in e);
          eight = length-set o.path (o.level + 1) may.frame ∙ own.eight;
        };
        prepared = prepared_none refl;
      })
      (record {
        within = λ g h. busy_within own g ((r.busy g).0 h);
        busy = λ g lt some. (r.busy g).1 (busy_here own g lt (λ z. some (tag_kept words stores g lt ∙ z)));
        known = known_there;
        taken = λ g h. (r.busy g).1 (own.taken g h);
      })
      (λ v w. IsGrown f ⊥ (Unit {0}) v Yes w) (λ a. grown_on a (whole own) r)

  -- by the frame that is prepared, and the path's
  pub raised : (mine : ℕ) → o.prepared ≡ Some mine → (words : List ℕ) → words ≡ raised_words mine o.level (slice_index o.path o.level) → Raised own mine words
  raised mine is words stores =
      let both : Some may.frame ≡ Some mine = prepared_is ∙ is in
      let same : may.frame ≡ mine = cc in
      subst (λ (g : ℕ). Raised own g words) same
      (grown_to words (stores ∙ (λ i. raised_words (sym same i) (sym level_is i) (root_is i))))
