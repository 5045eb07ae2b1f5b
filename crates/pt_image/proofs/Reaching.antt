-- Every visited entry of an image of words at rest is one of a linked table, and begins before the entries that come later.
use Rattle.std.proofs.Common.{◌≡◌, ◌⊎◌, inl, inr, ⊎_elim, ℕ, zero, suc, ◌+◌, ◌-◌, ◌/◌, ◌%◌, ◌^◌, ◌<◌, ◌≤◌, List, [], ◌∷◌, ◌++◌, refl, sym, ap, ◌∙◌, subst, arith}
use Rattle.std.specs.Prelude.{Some}
use Rattle.std.proofs.lemmas.Nat.{mod_below, pow_pos}
use Rattle.pt_model.specs.declared.block.Block.{Block}
use Rattle.pt_model.specs.declared.position.Position.{Position}
use Rattle.pt_model.specs.Layout.{Layout, pages_of_table}
use Rattle.pt_model.specs.Tables.{child_at, spine_position}
use Rattle.pt_model.specs.Words.{frame_address, placed_at, tag}
use Rattle.pt_model.proofs.Quotients.{entry_some}
use Rattle.pt_format.specs.Laws.{IsLayout, WordsDiffer}
use Rattle.pt_format.specs.Words.{IsLeaf, IsTableLevel}
use Rattle.pt_view.specs.declared.view.View.{View}
use Rattle.pt_view.specs.declared.view.Piece.{Piece}
use Rattle.pt_view.specs.Calls.{entry_first, pieces_at}
use Rattle.pt_view.specs.Pieces.{IsLegalPiece, level_of, word_of}
use Rattle.pt_view.proofs.Pieces.{may_be_leaf, one_here}
use Rattle.pt_rule.specs.Lawful.{slot_of}
use Rattle.pt_rule.specs.WholeCounts.{nothing, a_part, a_table}
use Rattle.pt_image.specs.Books.{IsVisited, RestsAlone}
use Rattle.pt_image.specs.Bytes.{entry_at, root_in}
use Rattle.pt_image.specs.Faults.{IsNamed, IsReached, all_visits, target}
use Rattle.pt_image.specs.Order.{Visit, visits}
use Rattle.pt_image.specs.Visits.{HasImage}
use Rattle.pt_image.proofs.Entries.{child_end, later_first, next_first}
use Rattle.pt_image.proofs.Firsts.{own, own_alone, own_table, visits_append, visits_none, visits_one}
use Rattle.pt_image.proofs.Goodness.{leaf_points, none_some, zero_points}
use Rattle.pt_image.proofs.Pointing.{pointed_some}
use Rattle.pt_image.proofs.Resting.{IsAt, position, root_at, stands}

-- the entry over a table is one of a table's
pub slot_small : (f : Layout) (p : Position) → slot_of f p < 2 ^ f.index
slot_small f p = mod_below (p.base / pages_of_table f p.level) (2 ^ f.index) (pow_pos f.index)

pub visited_parts : (xs ys : List Visit) (w : Visit) → IsVisited (xs ++ ys) w → IsVisited xs w ⊎ IsVisited ys w
visited_parts [] ys w a = inr a
visited_parts (x ∷ xs) ys w (inl here) = inl (inl here)
visited_parts (x ∷ xs) ys w (inr more) = ⊎_elim (λ a. inl (inr a)) (λ b. inr b) (visited_parts xs ys w more)

module _ (f : Layout) (good : IsLayout f) (differ : WordsDiffer f) (n l : ℕ) (image words : List ℕ) (v : View) (blocks : List Block)
    (r : RestsAlone f n l words v blocks) (has : HasImage f n image words) where
  abbrev at : (level base : ℕ) → Position
  at level base = record { level = level; base = base }

  -- an entry that was visited is one of a linked table
  pub record IsSeen (w : Visit) : Type 0 where
    pub linked : IsAt f good n l image words v blocks r has w.frame w.position
    pub small : w.number < 2 ^ f.index

  -- what an entry of a linked table visits: itself alone, or the table besides that is linked there
  pub data Owns (level frame base i : ℕ) : Type 0 where
    alone : own f n image level frame base i ≡ record { frame = frame; position = at level base; number = i } ∷ [] → Owns level frame base i
    table : (child : ℕ) → IsAt f good n l image words v blocks r has child (child_at f (at level base) i) → IsTableLevel f level →
        entry_at f image frame i ≡ f.pointer level (frame_address f child) →
        own f n image level frame base i ≡ record { frame = frame; position = at level base; number = i }
        ∷ visits f n image (level - 1) child (entry_first f (at level base) i) 0 (2 ^ f.index) → Owns level frame base i

  piece_leaf : (p : Position) (i word : ℕ) (x : Piece) → IsLegalPiece f x → pieces_at f p i (x ∷ []) ≡ 1 → word ≡ word_of f x → IsLeaf f p.level word x.block.log2 x.block.prot
  piece_leaf p i word x legal here is =
      let level : p.level ≡ level_of f x = ap (λ (q : Position). q.level) (one_here f p i x here).0 in
      subst (λ (k : ℕ). IsLeaf f k word x.block.log2 x.block.prot) (sym level)
      (record { out = x.block.out; part = x.part; may = may_be_leaf good legal; word_is = is })

  pub owns : (level frame base i : ℕ) → IsAt f good n l image words v blocks r has frame (at level base) → i < 2 ^ f.index → Owns level frame base i
  owns level frame base i a small = elim (stands f good n l image words v blocks r has frame (at level base) a i small) [
    | nothing none bare ↦ alone (own_alone f n image level frame base i
        (zero_points f differ n r.lawful.sizes.limit level (entry_at f image frame i) (position f good n l image words v blocks r has frame (at level base) a).a_level none))
    | a_part x one legal here single is ↦ alone (own_alone f n image level frame base i
        (leaf_points f differ n r.lawful.sizes.limit level (entry_at f image frame i) x.block.log2 x.block.prot (piece_leaf (at level base) i (entry_at f image frame i) x legal here is)))
    | a_table child linked high is bare ↦ table child linked high is (own_table f n image level frame base i child (let k = high.above in omega arith)
        (pointed_some f differ level n (entry_at f image frame i) child high r.lawful.sizes.limit linked.is_linked.within is))
  ]

  abbrev Inside : (level frame base i count : ℕ) → Type 0
  Inside level frame base i count = (w : Visit) → IsVisited (visits f n image level frame base i count) w →
      IsSeen w × (entry_first f w.position w.number < entry_first f (at level base) (i + count)) × (w.position.level ≤ level)

  inside_own : (level frame base i : ℕ) → IsAt f good n l image words v blocks r has frame (at level base) → i < 2 ^ f.index →
      ((child first : ℕ) → 0 < level → IsAt f good n l image words v blocks r has child (at (level - 1) first) → Inside (level - 1) child first 0 (2 ^ f.index)) →
      Inside level frame base i 1
  inside_own level frame base i a small below w m =
      let own_one = visits_one f n image level frame base i in
      let next = next_first f (at level base) i in
      let some_page = entry_some f level in
      let here : IsSeen (record { frame = frame; position = at level base; number = i }) × (entry_first f (at level base) i < entry_first f (at level base) (i + 1)) × (level ≤ level) =
      (record { linked = a; small = small }, omega arith, omega arith) in
      elim (owns level frame base i a small) [
        | alone is ↦ ⊎_elim
            (λ e. subst (λ (u : Visit). IsSeen u × (entry_first f u.position u.number < entry_first f (at level base) (i + 1)) × (u.position.level ≤ level)) e here)
            (λ x. absurd x)
            (subst (λ (zs : List Visit). IsVisited zs w) (own_one ∙ is) m)
        | table child linked high word is ↦ ⊎_elim
            (λ e. subst (λ (u : Visit). IsSeen u × (entry_first f u.position u.number < entry_first f (at level base) (i + 1)) × (u.position.level ≤ level)) e here)
            (λ deep.
            let d = below child (entry_first f (at level base) i) (let k = high.above in omega arith) linked w deep in
            let end = child_end f (at level base) i (let k = high.above in omega arith) in
            let first = d.1 in let low = d.2 in
            (d.0, omega arith, omega arith))
            (subst (λ (zs : List Visit). IsVisited zs w) (own_one ∙ is) m)
      ]

  inside_count : (level frame base i count : ℕ) → IsAt f good n l image words v blocks r has frame (at level base) → i + count ≤ 2 ^ f.index →
      ((child first : ℕ) → 0 < level → IsAt f good n l image words v blocks r has child (at (level - 1) first) → Inside (level - 1) child first 0 (2 ^ f.index)) →
      Inside level frame base i count
  inside_count level frame base i zero a fits below w m = absurd (subst (λ (zs : List Visit). IsVisited zs w) (visits_none f n image level frame base i) m)
  inside_count level frame base i (suc count) a fits below w m =
      let one_more : suc count ≡ count + 1 = omega arith in
      let is : visits f n image level frame base i (suc count) ≡ visits f n image level frame base i count ++ visits f n image level frame base (i + count) 1 =
      ap (visits f n image level frame base i) one_more ∙ visits_append f n image level frame base i count 1 in
      ⊎_elim
      (λ old.
      let d = inside_count level frame base i count a (omega arith) below w old in
      let later = later_first f (at level base) (i + count) (i + suc count) (omega arith) in
      let first = d.1 in (d.0, omega arith, d.2))
      (λ new.
      let d = inside_own level frame base (i + count) a (omega arith) below w new in
      let later = later_first f (at level base) (i + count + 1) (i + suc count) (omega arith) in
      let first = d.1 in (d.0, omega arith, d.2))
      (visited_parts (visits f n image level frame base i count) (visits f n image level frame base (i + count) 1) w (subst (λ (zs : List Visit). IsVisited zs w) is m))

  -- the entries that a linked table visits are of linked tables no higher than it, and begin before its next entry does
  pub inside : (tables level frame base i count : ℕ) → level < tables → IsAt f good n l image words v blocks r has frame (at level base) → i + count ≤ 2 ^ f.index →
      Inside level frame base i count
  inside zero level frame base i count lt a fits = absurd (omega arith)
  inside (suc tables) level frame base i count lt a fits = inside_count level frame base i count a fits
      (λ child first high b. inside tables (level - 1) child first 0 (2 ^ f.index) (omega arith) b (omega arith))

  -- every visited entry is of a linked table, no higher than the root
  pub seen : (w : Visit) → IsVisited (all_visits f n l image) w → IsSeen w × (w.position.level ≤ root_in image % 8)
  seen w m =
      let d = inside (root_in image % 8 + 1) (root_in image % 8) (root_in image / 8) 0 0 (2 ^ f.index) (omega arith)
      (root_at f good n l image words v blocks r has) (omega arith) w m in
      (d.0, d.2)

  some_same : {a b : ℕ} → Some a ≡ Some b → a ≡ b
  some_same e = cc

  -- the frame to which such an entry points is linked at the child's position
  pub target_linked : (w : Visit) (child : ℕ) → IsSeen w → target f n l image w ≡ Some child →
      IsAt f good n l image words v blocks r has child (child_at f w.position w.number) × IsTableLevel f w.position.level
  target_linked w child s points = elim (stands f good n l image words v blocks r has w.frame w.position s.linked w.number s.small) [
    | nothing none bare ↦ absurd (none_some (sym (zero_points f differ n r.lawful.sizes.limit w.position.level (entry_at f image w.frame w.number)
        (position f good n l image words v blocks r has w.frame w.position s.linked).a_level none) ∙ points))
    | a_part x one legal here single is ↦ absurd (none_some (sym (leaf_points f differ n r.lawful.sizes.limit w.position.level (entry_at f image w.frame w.number) x.block.log2 x.block.prot
        (piece_leaf w.position w.number (entry_at f image w.frame w.number) x legal here is)) ∙ points))
    | a_table other linked high is bare ↦
        let same : other ≡ child = some_same (sym (pointed_some f differ w.position.level n (entry_at f image w.frame w.number) other high r.lawful.sizes.limit linked.is_linked.within is) ∙ points) in
        (subst (λ (g : ℕ). IsAt f good n l image words v blocks r has g (child_at f w.position w.number)) same linked, high)
  ]

  pub named_by : (vs : List Visit) (child : ℕ) → IsNamed f n l image vs child → (w : Visit) × IsVisited vs w × (target f n l image w ≡ Some child)
  named_by [] child a = absurd a
  named_by (x ∷ xs) child (inl here) = (x, inl refl, here)
  named_by (x ∷ xs) child (inr more) = let w = named_by xs child more in (w.0, inr w.1, w.2)

  -- all these entries are of linked tables, and each begins before a page or is of a table above a level
  abbrev pub IsBehind : (before : List Visit) (level first : ℕ) → Type 0
  IsBehind before level first = (w : Visit) → IsVisited before w → IsSeen w × ((entry_first f w.position w.number < first) ⊎ (level < w.position.level))

  -- the frame to which an entry points isn't reached by the entries before it
  pub unreached : (before : List Visit) (u : Visit) (child : ℕ) → IsSeen u → u.position.level ≤ root_in image % 8 → IsBehind before u.position.level (entry_first f u.position u.number) →
      target f n l image u ≡ Some child → ¬ IsReached f n l image before child
  unreached before u child s low behind points (inl root) =
      let here = target_linked u child s points in
      let top = root_at f good n l image words v blocks r has in
      let same : spine_position (root_in image % 8) ≡ child_at f u.position u.number =
      sym top.at ∙ ap (λ (g : ℕ). placed_at (tag words g)) root ∙ here.0.at in
      let level : root_in image % 8 ≡ u.position.level - 1 = ap (λ (q : Position). q.level) same in
      let high = here.1.above in absurd (omega arith)
  unreached before u child s low behind points (inr named) =
      let here = target_linked u child s points in
      let w = named_by before child named in
      let b = behind w.0 w.1 in
      let there = target_linked w.0 child b.0 w.2 in
      let same : child_at f w.0.position w.0.number ≡ child_at f u.position u.number = sym there.0.at ∙ here.0.at in
      let level : w.0.position.level - 1 ≡ u.position.level - 1 = ap (λ (q : Position). q.level) same in
      let first : entry_first f w.0.position w.0.number ≡ entry_first f u.position u.number = ap (λ (q : Position). q.base) same in
      let high = here.1.above in let also = there.1.above in
      ⊎_elim (λ less. absurd (omega arith)) (λ above. absurd (omega arith)) b.1
