-- Positions: a child's parent and its entry there, what lies under an entry, and the spans of both.
use Rattle.std.proofs.Common.{◌≡◌, ℕ, ◌+◌, ◌-◌, ◌*◌, ◌/◌, ◌%◌, ◌^◌, ◌<◌, ◌≤◌, ap, sym, ◌∙◌, arith}
use Rattle.std.proofs.lemmas.Nat.{shr_split, shl-shr, pow-add, pow_pos, mod_below, div-mul-add, mod-mul-add, mul-le, le-div}
use Rattle.std.proofs.Math.Pow.{pow-lt}
use Rattle.std.proofs.Math.Nat.{div-mul-le_self}
use mathlib.Core.Logic.{dite}
use native.Mathlib.Decide.{dec_le}
use Rattle.pt_model.proofs.Positions.{same_position}
use Rattle.pt_model.proofs.Quotients.{base_lemma, entry_is_table, entry_some, one_multiple, quotient, table_is_entries, whole}
use Rattle.pt_model.specs.declared.position.Position.{Position}
use Rattle.pt_model.specs.Layout.{Layout, pages_of_entry, pages_of_table}
use Rattle.pt_model.specs.Tables.{child_at, end_of_table, parent_of}
use Rattle.pt_view.specs.Calls.{entry_first, entry_end}
use Rattle.pt_rule.specs.Lawful.{slot_of}

-- The pages of a table are those of an entry one level up, and 2 ^ index times those of its own entries.

-- The same over plain numbers: a table begins at `b` times `t` entries of `e` pages, and `i` is one of these.

child_base : (b e t i : ℕ) → b * (e * t) + i * e ≡ (b * t + i) * e
child_base b e t i = omega arith

pub child_quotient : (f : Layout) (p : Position) (i : ℕ) → p.base % pages_of_table f p.level ≡ 0 →
    entry_first f p i ≡ (p.base / pages_of_table f p.level * 2 ^ f.index + i) * pages_of_entry f p.level
child_quotient f p i aligned =
    let k : ℕ = f.index * (p.level + 1) in
    let b : ℕ = p.base / 2 ^ k in
    ap (λ x. x + i * pages_of_entry f p.level) (whole p.base k aligned ∙ ap (λ x. b * x) (table_is_entries f p.level))
    ∙ child_base b (pages_of_entry f p.level) (2 ^ f.index) i

-- An entry of a table, and the child there.
module _ (f : Layout) (p : Position) (i : ℕ) (high : 0 < p.level) (below : i < 2 ^ f.index) (aligned : p.base % pages_of_table f p.level ≡ 0) where
  abbrev entries_before : ℕ
  entries_before = p.base / pages_of_table f p.level * 2 ^ f.index

  over_entries : entry_first f p i / pages_of_entry f p.level ≡ entries_before + i
  over_entries = ap (λ x. x / pages_of_entry f p.level) (child_quotient f p i aligned) ∙ shl-shr (entries_before + i) (f.index * p.level)

  over_table : entry_first f p i / pages_of_table f p.level ≡ p.base / pages_of_table f p.level
  over_table = sym (quotient f (entry_first f p i) p.level) ∙ ap (λ x. x / 2 ^ f.index) over_entries
      ∙ div-mul-add (p.base / pages_of_table f p.level) (2 ^ f.index) i below

  pub slot_of_child : slot_of f (child_at f p i) ≡ i
  slot_of_child = ap (λ x. entry_first f p i / x % 2 ^ f.index) (sym (entry_is_table f p.level high)) ∙ ap (λ x. x % 2 ^ f.index) over_entries
      ∙ mod-mul-add (p.base / pages_of_table f p.level) (2 ^ f.index) i below

  pub parent_of_child : parent_of f (child_at f p i) ≡ p
  parent_of_child =
      let e : p.level - 1 + 1 ≡ p.level = omega arith in
      same_position (parent_of f (child_at f p i)) p e
      (ap (λ k. entry_first f p i / pages_of_table f k * pages_of_table f k) e ∙ ap (λ x. x * pages_of_table f p.level) over_table
      ∙ sym (whole p.base (f.index * (p.level + 1)) aligned))

  pub child_aligned : (child_at f p i).base % pages_of_table f (child_at f p i).level ≡ 0
  child_aligned =
      let m : ℕ = entries_before + i in
      ap (λ x. entry_first f p i % x) (sym (entry_is_table f p.level high)) ∙ ap (λ x. x % pages_of_entry f p.level) (child_quotient f p i aligned)
      ∙ (let e : m * pages_of_entry f p.level ≡ m * pages_of_entry f p.level + 0 = omega arith in ap (λ x. x % pages_of_entry f p.level) e)
      ∙ mod-mul-add m (pages_of_entry f p.level) 0 (entry_some f p.level)

  pub end_of_child : end_of_table f (child_at f p i) ≡ entry_end f p i
  end_of_child = ap (λ x. entry_first f p i + x) (sym (entry_is_table f p.level high))

-- A table at a position that lies under an entry of another is the child there, or its parent lies there too.
module _ (f : Layout) (p : Position) (i : ℕ) (aligned : p.base % pages_of_table f p.level ≡ 0) (q : Position) (q_aligned : q.base % pages_of_table f q.level ≡ 0) (low : entry_first f p i ≤ q.base) (up : q.base < entry_end f p i) where
  pub is_child : q.level + 1 ≡ p.level → q ≡ child_at f p i
  is_child e =
      let level : q.level ≡ p.level - 1 = omega arith in
      let m : ℕ = p.base / pages_of_table f p.level * 2 ^ f.index + i in
      let k : ℕ = f.index * (q.level + 1) in
      let same : pages_of_table f q.level ≡ pages_of_entry f p.level = ap (λ x. 2 ^ (f.index * x)) e in
      let here : q.base ≡ q.base / 2 ^ k * pages_of_entry f p.level = whole q.base k q_aligned ∙ ap (λ x. q.base / 2 ^ k * x) same in
      let there : entry_first f p i ≡ m * pages_of_entry f p.level = child_quotient f p i aligned in
      let one : q.base / 2 ^ k ≡ m = one_multiple m (q.base / 2 ^ k) (pages_of_entry f p.level) (omega (arith, low, here, there)) (omega (arith, up, here, there)) in
      same_position q (child_at f p i) level (here ∙ ap (λ x. x * pages_of_entry f p.level) one ∙ sym there)

  -- a multiple of larger pages is one of smaller pages
  first_before : (t : ℕ) → t < p.level → entry_first f p i ≤ q.base / pages_of_table f t * pages_of_table f t
  first_before t lower =
      let m : ℕ = p.base / pages_of_table f p.level * 2 ^ f.index + i in
      let j : ℕ = f.index * (t + 1) in
      let over : ℕ = f.index * (p.level - (t + 1)) in
      let e : f.index * p.level ≡ over + j = let h : p.level ≡ p.level - (t + 1) + (t + 1) = omega arith in ap (λ x. f.index * x) h ∙ (let g : f.index * (p.level - (t + 1) + (t + 1)) ≡ f.index * (p.level - (t + 1)) + f.index * (t + 1) = omega arith in g) in
      let pages : pages_of_entry f p.level ≡ 2 ^ over * 2 ^ j = ap (λ x. 2 ^ x) e ∙ pow-add 2 over j in
      let first : entry_first f p i ≡ m * 2 ^ over * 2 ^ j = child_quotient f p i aligned ∙ ap (λ x. m * x) pages ∙ (let g : m * (2 ^ over * 2 ^ j) ≡ m * 2 ^ over * 2 ^ j = omega arith in g) in
      let down : m * 2 ^ over ≤ q.base / 2 ^ j = le-div (m * 2 ^ over) q.base (2 ^ j) (pow_pos j) (omega (arith, first, low)) in
      let h = mul-le (m * 2 ^ over) (2 ^ j) (q.base / 2 ^ j) (2 ^ j) down (omega arith) in omega (arith, h, first)

  pub parent_low : q.level + 1 < p.level → entry_first f p i ≤ (parent_of f q).base
  parent_low lower = first_before (q.level + 1) lower

  pub parent_up : (parent_of f q).base < entry_end f p i
  parent_up = let h = div-mul-le_self q.base (pages_of_table f (q.level + 1)) in omega (arith, h, up)

-- The parent of an aligned position.

module _ (f : Layout) (q : Position) (aligned : q.base % pages_of_table f q.level ≡ 0) where
  pub slot_below : slot_of f q < 2 ^ f.index
  slot_below = mod_below (q.base / pages_of_table f q.level) (2 ^ f.index) (pow_pos f.index)

  -- a table begins at its entry of its parent
  pub base_in_parent : (parent_of f q).base + slot_of f q * pages_of_table f q.level ≡ q.base
  base_in_parent =
      base_lemma (q.base / pages_of_table f (q.level + 1)) (pages_of_table f (q.level + 1)) (pages_of_table f q.level) (2 ^ f.index) (slot_of f q) (q.base / pages_of_table f q.level)
      (table_is_entries f (q.level + 1))
      (ap (λ x. x * 2 ^ f.index + slot_of f q) (sym (quotient f q.base (q.level + 1))) ∙ shr_split (q.base / pages_of_table f q.level) f.index)
      ∙ sym (whole q.base (f.index * (q.level + 1)) aligned)

  pub child_of_parent : child_at f (parent_of f q) (slot_of f q) ≡ q
  child_of_parent = let e : q.level + 1 - 1 ≡ q.level = omega arith in same_position (child_at f (parent_of f q) (slot_of f q)) q e base_in_parent

  pub parent_aligned : (parent_of f q).base % pages_of_table f (parent_of f q).level ≡ 0
  parent_aligned =
      let b : ℕ = q.base / pages_of_table f (q.level + 1) in let t : ℕ = pages_of_table f (q.level + 1) in
      (let e : b * t ≡ b * t + 0 = omega arith in ap (λ x. x % t) e) ∙ mod-mul-add b t 0 (pow_pos (f.index * (q.level + 1 + 1)))

  -- its span lies in the parent's
  pub end_in_parent : end_of_table f q ≤ end_of_table f (parent_of f q)
  end_in_parent =
      let t : ℕ = pages_of_table f q.level in
      let h = mul-le (slot_of f q + 1) t (2 ^ f.index) t (omega (arith, slot_below)) (omega arith) in
      let w : pages_of_table f (q.level + 1) ≡ t * 2 ^ f.index = table_is_entries f (q.level + 1) in
      omega (arith, h, w, base_in_parent)

-- a table that ends within the span of a spine table is no higher
pub level_within : (f : Layout) → 0 < f.index → (level base top : ℕ) → base + pages_of_table f level ≤ pages_of_table f top → level ≤ top
level_within f some level base top h = dite (dec_le level top) (λ le. le) (λ gt.
    let r : f.index * (top + 1) < f.index * (level + 1) = (let g = mul-le f.index (top + 2) f.index (level + 1) (omega arith) (omega arith) in omega (arith, g)) in
    let s = pow-lt r in absurd (omega (arith, s, h)))
