-- Every visited entry of an image of words at rest is good.
use Rattle.std.proofs.Common.{◌≡◌, ◌≢◌, ◌⊎◌, inl, inr, ⊎_elim, ℕ, zero, suc, ◌+◌, ◌-◌, ◌*◌, ◌/◌, ◌%◌, ◌^◌, ◌<◌, ◌≤◌, List, [], ◌∷◌, ◌++◌, refl, sym, ap, ◌∙◌, subst, arith}
use Rattle.std.specs.Prelude.{IsTrue, nat_le, ◌&&◌}
use Rattle.std.proofs.lemmas.Bool.{and_from, le-leb, or_left}
use Rattle.std.proofs.lemmas.Nat.{mod-mul-add, pow_pos, shl-shr}
use Rattle.pt_model.specs.declared.block.Block.{Block}
use Rattle.pt_model.specs.declared.position.Position.{Position}
use Rattle.pt_model.specs.Layout.{Layout}
use Rattle.pt_model.specs.Tables.{child_at, is_spine, parent_of, position_over, spine_position, starting_top}
use Rattle.pt_model.specs.Words.{frame_address, frame_limit, root_level}
use Rattle.pt_model.proofs.Positions.{same_position}
use Rattle.pt_model.proofs.Quotients.{root_over}
use Rattle.pt_format.specs.Laws.{IsLayout, WordsDiffer}
use Rattle.pt_format.specs.Words.{IsTableLevel}
use Rattle.pt_view.specs.declared.view.View.{View}
use Rattle.pt_view.specs.Calls.{entry_first}
use Rattle.pt_rule.specs.Lawful.{slot_of}
use Rattle.pt_rule.specs.Linked.{IsLinkedAt, is_in_tree}
use Rattle.pt_rule.specs.WholeCounts.{nothing, a_part, a_table}
use Rattle.pt_image.specs.Books.{IsVisited, RestsAlone}
use Rattle.pt_image.specs.Bytes.{entry_at, root_in}
use Rattle.pt_image.specs.Order.{Visit, visits}
use Rattle.pt_image.specs.Faults.{AreGood, IsGoodEntry, IsOfSpine, all_visits}
use Rattle.pt_image.specs.Visits.{HasImage}
use Rattle.pt_image.proofs.Entries.{later_first}
use Rattle.pt_image.proofs.Firsts.{good_append, visits_append, visits_none, visits_one}
use Rattle.pt_image.proofs.Goodness.{good_part, good_pointer, good_zero}
use Rattle.pt_image.proofs.Pointing.{is_address, pointed_some}
use Rattle.pt_image.proofs.Reaching as reaching
use Rattle.pt_image.proofs.Resting.{position, root_at, stands}
use Rattle.pt_image.proofs.RestingBlocks.{in_piece}

zero_over : (k : ℕ) → 0 / 2 ^ k ≡ 0
zero_over k = ap (λ (z : ℕ). z / 2 ^ k) (let e : 0 ≡ 0 * 2 ^ k = omega arith in e) ∙ shl-shr 0 k

zero_slot : (k index : ℕ) → 0 / 2 ^ k % 2 ^ index ≡ 0
zero_slot k index = ap (λ (z : ℕ). z % 2 ^ index) (zero_over k ∙ (let e : 0 ≡ 0 * 2 ^ index + 0 = omega arith in e)) ∙ mod-mul-add 0 (2 ^ index) 0 (pow_pos index)

module _ (f : Layout) (good : IsLayout f) (differ : WordsDiffer f) (n l : ℕ) (image words : List ℕ) (v : View) (blocks : List Block)
    (r : RestsAlone f n l words v blocks) (has : HasImage f n image words) where
  abbrev At : (frame : ℕ) → Position → Type 0
  At frame p = IsLinkedAt n words (v ∷ []) frame p

  abbrev Seen : Visit → Type 0
  Seen w = reaching.IsSeen f good differ n l image words v blocks r has w

  abbrev Behind : (before : List Visit) (level first : ℕ) → Type 0
  Behind before level first = reaching.IsBehind f good differ n l image words v blocks r has before level first

  root_is : root_level words ≡ root_in image % 8
  root_is = ap (λ (w : ℕ). w % 8) has.root

  -- the entry over a table of the tree points to its frame
  pub named_at : (g h : ℕ) (p : Position) → At h p → p ≢ spine_position (root_in image % 8) → At g (parent_of f p) →
      entry_at f image g (slot_of f p) ≡ f.pointer (p.level + 1) (frame_address f h)
  named_at g h p a ne b =
      let small : slot_of f p < 2 ^ f.index = reaching.slot_small f p in
      sym (has.entries g b.is_linked.within (slot_of f p) small)
      ∙ r.lawful.parents.named g h p a (λ e. ne (e ∙ ap spine_position root_is)) b

  -- entry 0 of a table of the spine above the starting top is a pointer
  spine_pointer : (w : Visit) → Seen w → w.position.level ≤ root_in image % 8 → IsOfSpine f n l image w →
      (child : ℕ) × (child < n) × IsTableLevel f w.position.level × (entry_at f image w.frame w.number ≡ f.pointer w.position.level (frame_address f child))
  spine_pointer w s low on =
      let level : ℕ = w.position.level in
      let c : Position = spine_position (level - 1) in
      let above = on.above in
      let root = root_is in
      let there : IsTrue (is_in_tree l words (v ∷ []) c) =
      or_left (is_spine l c && nat_le (level - 1) (root_level words)) _
      (and_from (is_spine l c) _ (and_from (nat_le (starting_top l) (level - 1)) _ (le-leb (starting_top l) (level - 1) (omega arith)) refl) (le-leb (level - 1) (root_level words) (omega arith))) in
      let h : (frame : ℕ) × At frame c = r.lawful.positions.all c there in
      let back : level - 1 + 1 ≡ level = omega arith in
      let up : parent_of f c ≡ w.position =
      ap (position_over f 0) back ∙ sym (root_over f 0 level (pow_pos (f.index * (level + 1)))) ∙ same_position (spine_position level) w.position refl (sym on.at_page_0) in
      let parent : At w.frame (parent_of f c) = subst (At w.frame) (sym up) s.linked in
      let named = named_at w.frame h.0 c h.1 (λ e. let same : level - 1 ≡ root_in image % 8 = ap (λ (q : Position). q.level) e in absurd (omega arith)) parent in
      let slot : slot_of f c ≡ w.number = zero_slot (f.index * (level - 1 + 1)) f.index ∙ sym on.first in (
        h.0,
        h.1.is_linked.within,
        record { above = omega arith; below = (position f good n l image words v blocks r has w.frame w.position s.linked).a_level },
        ap (entry_at f image w.frame) (sym slot) ∙ named ∙ ap (λ (k : ℕ). f.pointer k (frame_address f h.0)) back,
      )

  good_entry : (before : List Visit) (w : Visit) → Seen w → w.position.level ≤ root_in image % 8 → Behind before w.position.level (entry_first f w.position w.number) →
      IsGoodEntry f n l image before w
  good_entry before w s low behind = elim (stands f good n l image words v blocks r has w.frame w.position s.linked w.number s.small) [
    | nothing none bare ↦ good_zero f differ n few good l image before w (position f good n l image words v blocks r has w.frame w.position s.linked).a_level none
        (λ on. let x = spine_pointer w s low on in
        differ.pointer_some w.position.level (frame_address f x.0) x.2 (is_address f x.0 (let lt = x.1 in let all = few in omega arith)) (sym x.3 ∙ none))
    | a_part x one legal here single is ↦ good_part f differ n few good l image before w r.lawful.sizes.levels_low
        (in_piece f good n l image words v blocks r has w.frame w.position w.number x s.linked one legal here)
    | a_table child linked high is bare ↦
        let points = pointed_some f differ w.position.level n (entry_at f image w.frame w.number) child high few linked.is_linked.within is in
        good_pointer f differ n few good l image before w child (position f good n l image words v blocks r has child (child_at f w.position w.number) linked).a_page high
        linked.is_linked.within is points (reaching.unreached f good differ n l image words v blocks r has before w child s low behind points)
  ]
    where
      few : n ≤ frame_limit f
      few = r.lawful.sizes.limit

  abbrev at : (level base : ℕ) → Position
  at level base = record { level = level; base = base }

  -- the entries of a linked table are good behind entries that lie behind it
  abbrev Good : (level frame base i count : ℕ) → Type 0
  Good level frame base i count = (before : List Visit) → Behind before level (entry_first f (at level base) i) → AreGood f n l image before (visits f n image level frame base i count)

  abbrev GoodBelow : (level : ℕ) → Type 0
  GoodBelow level = (child first : ℕ) → 0 < level → At child (at (level - 1) first) → Good (level - 1) child first 0 (2 ^ f.index)

  behind_more : (before xs : List Visit) (level first level' first' : ℕ) → Behind before level first → level' ≤ level → first ≤ first' →
      ((w : Visit) → IsVisited xs w → Seen w × ((entry_first f w.position w.number < first') ⊎ (level' < w.position.level))) → Behind (before ++ xs) level' first'
  behind_more before xs level first level' first' b low later new w m = ⊎_elim
      (λ old. let d = b w old in (d.0, ⊎_elim (λ less. inl (let a : entry_first f w.position w.number < first' = omega arith in a)) (λ more. inr (let a : level' < w.position.level = omega arith in a)) d.1))
      (λ now. new w now)
      (reaching.visited_parts before xs w m)

  good_own : (level frame base i : ℕ) → At frame (at level base) → i < 2 ^ f.index → level ≤ root_in image % 8 → GoodBelow level → Good level frame base i 1
  good_own level frame base i a small low below before behind =
      let u : Visit = record { frame = frame; position = at level base; number = i } in
      let s : Seen u = record { linked = a; small = small } in
      let here : IsGoodEntry f n l image before u = good_entry before u s low behind in
      let one = visits_one f n image level frame base i in
      elim (reaching.owns f good differ n l image words v blocks r has level frame base i a small) [
        | reaching.alone is ↦ subst (AreGood f n l image before) (sym (one ∙ is)) (here, tt)
        | reaching.table child linked high word is ↦ subst (AreGood f n l image before) (sym (one ∙ is)) (
          here,
          below child (entry_first f (at level base) i) (let k = high.above in omega arith) linked (before ++ u ∷ [])
              (behind_more before (u ∷ []) level (entry_first f (at level base) i) (level - 1) (entry_first f (at (level - 1) (entry_first f (at level base) i)) 0) behind (omega arith) (omega arith)
              (λ w m. ⊎_elim
              (λ e. subst (λ (x : Visit). Seen x × ((entry_first f x.position x.number < entry_first f (at (level - 1) (entry_first f (at level base) i)) 0) ⊎ (level - 1 < x.position.level))) e
              (s, inr (let k = high.above in let less : level - 1 < level = omega arith in less)))
              (λ x. absurd x) m)),
        )
      ]

  good_count : (level frame base i count : ℕ) → At frame (at level base) → i + count ≤ 2 ^ f.index → level ≤ root_in image % 8 → GoodBelow level → Good level frame base i count
  good_count level frame base i zero a fits low below before behind = subst (AreGood f n l image before) (sym (visits_none f n image level frame base i)) tt
  good_count level frame base i (suc count) a fits low below before behind =
      let more : suc count ≡ count + 1 = omega arith in
      let is : visits f n image level frame base i (suc count) ≡ visits f n image level frame base i count ++ visits f n image level frame base (i + count) 1 =
      ap (visits f n image level frame base i) more ∙ visits_append f n image level frame base i count 1 in
      let xs : List Visit = visits f n image level frame base i count in
      let later = later_first f (at level base) i (i + count) (omega arith) in
      let behind' : Behind (before ++ xs) level (entry_first f (at level base) (i + count)) =
      behind_more before xs level (entry_first f (at level base) i) level (entry_first f (at level base) (i + count)) behind (omega arith) later
      (λ w m. let d = reaching.inside f good differ n l image words v blocks r has (level + 1) level frame base i count (omega arith) a (omega arith) w m in (d.0, inl d.1)) in
      subst (AreGood f n l image before) (sym is)
      (good_append f n l image before xs (visits f n image level frame base (i + count) 1) (good_count level frame base i count a (omega arith) low below before behind)
      (good_own level frame base (i + count) a (omega arith) low below (before ++ xs) behind'))

  good_tables : (tables level frame base : ℕ) → level < tables → At frame (at level base) → level ≤ root_in image % 8 → Good level frame base 0 (2 ^ f.index)
  good_tables zero level frame base lt a low = absurd (omega arith)
  good_tables (suc tables) level frame base lt a low = good_count level frame base 0 (2 ^ f.index) a (omega arith) low
      (λ child first high b. good_tables tables (level - 1) child first (omega arith) b (omega arith))

  -- all entries are good
  pub all_good : AreGood f n l image [] (all_visits f n l image)
  all_good = good_tables (root_in image % 8 + 1) (root_in image % 8) (root_in image / 8) 0 (omega arith) (root_at f good n l image words v blocks r has) (omega arith) [] (λ w m. absurd m)
