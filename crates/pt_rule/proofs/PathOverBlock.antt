-- What a block needs is on a path down to the table of its pieces: the positions over the block, up to the first.
use Rattle.std.proofs.Common.{◌≡◌, ℕ, ◌+◌, ◌-◌, ◌*◌, ◌/◌, ◌%◌, ◌^◌, ◌<◌, ◌≤◌, List, [], ◌∷◌, ap, sym, ◌∙◌, subst, arith}
use Rattle.std.specs.Prelude.{map, Some}
use Rattle.std.specs.List.{AllByRecursion}
use Rattle.std.proofs.lemmas.Nat.{shr-shr, shr_split, shl-shr, pow-add, pow_pos, mod_below, div-mul-add, mul-le}
use Rattle.std.proofs.Math.Nat.{div-mul-le_self}
use mathlib.Core.Logic.{dite}
use native.Mathlib.Decide.{dec_le}
use Rattle.pt_model.specs.declared.position.Position.{Position}
use Rattle.pt_model.specs.Layout.{Layout, IsLegalBlock, end_of, pages_of_entry, pages_of_table}
use Rattle.pt_model.specs.Tables.{parent_of, position_over}
use Rattle.pt_format.specs.Laws.{IsLayout}
use Rattle.pt_view.specs.declared.view.Node.{Node}
use Rattle.pt_view.specs.declared.view.Piece.{Piece}
use Rattle.pt_model.specs.Sets.{IsAmong}
use Rattle.pt_view.specs.Pieces.{first_of, level_of, words_of}
use Rattle.pt_view.specs.Calls.{lowest}
use Rattle.pt_rule.specs.Lawful.{Descends, IsChild}
use Rattle.pt_model.proofs.Positions.{among_here, among_more}
use Rattle.pt_model.proofs.Quotients.{quotient, whole}
use Rattle.pt_rule.proofs.PositionFacts.{parent_of_child}

-- The position over a page, one level up.
pub over_over : (f : Layout) (page level : ℕ) → parent_of f (position_over f page level) ≡ position_over f page (level + 1)
over_over f page level =
    let k : ℕ = f.index * (level + 1) in
    let e : page / 2 ^ k * 2 ^ k / pages_of_table f (level + 1) ≡ page / pages_of_table f (level + 1) =
    sym (quotient f (page / 2 ^ k * 2 ^ k) (level + 1)) ∙ ap (λ x. x / 2 ^ f.index) (shl-shr (page / 2 ^ k) k) ∙ quotient f page (level + 1) in
    ap (λ x. let p : Position = record { level = level + 1; base = x * pages_of_table f (level + 1) } in p) e

-- A path of tables down to one that lies over a page: each lies over it, and none is left out.
pub record LiesOver (f : Layout) (page low : ℕ) (top : Node) (path : List Node) : Type 0 where
  pub high : low ≤ top.position.level
  pub first : top.position ≡ position_over f page top.position.level
  pub each : (level : ℕ) → low ≤ level → level ≤ top.position.level → IsAmong (map (λ (x : Node). x.position) path) (position_over f page level)

abbrev pub IsAligned : Layout → Node → Type 0
IsAligned f x = x.position.base % pages_of_table f x.position.level ≡ 0

pub lies_over : (f : Layout) (page : ℕ) (node x : Node) (xs : List Node) → AllByRecursion (IsAligned f) (x ∷ xs) → Descends f (x ∷ xs) →
    lowest (x ∷ xs) ≡ Some node → node.position ≡ position_over f page node.position.level → LiesOver f page node.position.level x (x ∷ xs)
lies_over f page node x [] aligned down low over =
    let same : x ≡ node = cc in
    record {
      high = (let h : x.position.level ≡ node.position.level = ap (λ (z : Node). z.position.level) same in omega arith);
      first = subst (λ (z : Node). z.position ≡ position_over f page z.position.level) (sym same) over;
      each = λ level from to.
          let is : level ≡ node.position.level = (let h : x.position.level ≡ node.position.level = ap (λ (z : Node). z.position.level) same in omega arith) in
          subst (IsAmong (x.position ∷ [])) (ap (λ (z : Node). z.position) same ∙ over ∙ ap (position_over f page) (sym is)) (among_here x.position []);
    }
lies_over f page node x (y ∷ ys) aligned down low over =
    let rest : LiesOver f page node.position.level y (y ∷ ys) = lies_over f page node y ys aligned.1 down.1 low over in
    let child : IsChild f x.position y.position = down.0 in
    let below : y.position.level ≡ x.position.level - 1 = ap (λ (p : Position). p.level) child.is in
    let high = child.high in
    let level : y.position.level + 1 ≡ x.position.level = omega arith in
    let here : x.position ≡ position_over f page x.position.level =
    sym (parent_of_child f x.position child.number child.high child.within aligned.0) ∙ ap (parent_of f) (sym child.is)
    ∙ ap (parent_of f) rest.first ∙ over_over f page y.position.level ∙ ap (position_over f page) level in
    record {
      high = (let h = rest.high in omega arith);
      first = here;
      each = λ k from to. dite (dec_le k y.position.level)
          (λ le. among_more (position_over f page k) x.position (map (λ (z : Node). z.position) (y ∷ ys)) (rest.each k from le))
          (λ gt. let is : x.position.level ≡ k = omega arith in
          subst (IsAmong (map (λ (z : Node). z.position) (x ∷ y ∷ ys))) (here ∙ ap (position_over f page) is) (among_here x.position (map (λ (z : Node). z.position) (y ∷ ys))));
    }

-- Over plain numbers: what begins at a multiple of 2 ^ j and is less than that long stays within one multiple of a larger power.
within_one : (m d j i : ℕ) → d < 2 ^ j → (m * 2 ^ j + d) / 2 ^ (j + i) ≡ m / 2 ^ i
within_one m d j i short = sym (shr-shr (m * 2 ^ j + d) j i) ∙ ap (λ x. x / 2 ^ i) (div-mul-add m (2 ^ j) d short)

pub next_multiple : (m t s : ℕ) → m * s < t * s → m * s + s ≤ t * s
next_multiple m t s h = dite (dec_le t m)
    (λ le. let g = mul-le t s m s le (omega arith) in absurd (omega arith))
    (λ gt. let g = mul-le (m + 1) s t s (omega arith) (omega arith) in omega arith)

-- The tables over a piece are those over its block.
module _ (f : Layout) (good : IsLayout f) (x : Piece) (a_part : x.part < words_of f x.block) (legal : IsLegalBlock f x.block) where
  size_is : x.block.log2 ≡ x.block.log2 - f.index * level_of f x + f.index * level_of f x
  size_is = let h = div-mul-le_self x.block.log2 f.index in let c : x.block.log2 / f.index * f.index ≡ f.index * (x.block.log2 / f.index) = omega arith in omega (arith, h, c)

  pub block_is : 2 ^ x.block.log2 ≡ words_of f x.block * pages_of_entry f (level_of f x)
  block_is = ap (λ k. 2 ^ k) size_is ∙ pow-add 2 (x.block.log2 - f.index * level_of f x) (f.index * level_of f x)

  pub piece_within : x.part * pages_of_entry f (level_of f x) + pages_of_entry f (level_of f x) ≤ 2 ^ x.block.log2
  piece_within =
      let e : ℕ = pages_of_entry f (level_of f x) in
      let h = mul-le (x.part + 1) e (words_of f x.block) e (omega arith) (omega arith) in omega (arith, h, block_is)

  -- its size is at most that of a table of its level
  size_low : (level : ℕ) → level_of f x ≤ level → x.block.log2 ≤ f.index * (level + 1)
  size_low level low =
      let some_index : 0 < f.index = omega (arith, good.index_is, good.granule_low) in
      let g : x.block.log2 < (x.block.log2 / f.index + 1) * f.index = below_next x.block.log2 f.index some_index in
      let m = mul-le (x.block.log2 / f.index + 1) f.index (level + 1) f.index (omega arith) (omega arith) in
      omega (arith, g, m)
    where
      below_next : (a b : ℕ) → 0 < b → a < (a / b + 1) * b
      below_next a b h = let m = mod_below a b h in omega arith

  pub same_over : (level : ℕ) → level_of f x ≤ level → position_over f x.block.first level ≡ position_over f (first_of f x) level
  same_over level low =
      let j : ℕ = x.block.log2 in
      let i : ℕ = f.index * (level + 1) - j in
      let m : ℕ = x.block.first / 2 ^ j in
      let d : ℕ = x.part * pages_of_entry f (level_of f x) in
      let long : j + i ≡ f.index * (level + 1) = (let h = size_low level low in omega arith) in
      let first : x.block.first ≡ m * 2 ^ j = whole x.block.first j legal.first_aligned in
      let some_page : 0 < pages_of_entry f (level_of f x) = pow_pos (f.index * level_of f x) in
      let short : d < 2 ^ j = (let h = piece_within in omega arith) in
      let a : x.block.first / 2 ^ (j + i) ≡ m / 2 ^ i = ap (λ y. y / 2 ^ (j + i)) (first ∙ omega arith) ∙ within_one m 0 j i (pow_pos j) in
      let b : first_of f x / 2 ^ (j + i) ≡ m / 2 ^ i = ap (λ y. (y + d) / 2 ^ (j + i)) first ∙ within_one m d j i short in
      let same : x.block.first / pages_of_table f level ≡ first_of f x / pages_of_table f level =
      subst (λ (z : ℕ). x.block.first / 2 ^ z ≡ first_of f x / 2 ^ z) long (a ∙ sym b) in
      ap (λ y. let p : Position = record { level = level; base = y * pages_of_table f level } in p) same

  -- where the position over it is at page 0, the block ends within that table
  pub ends_under : (level : ℕ) → level_of f x ≤ level → (position_over f (first_of f x) level).base ≡ 0 → end_of x.block ≤ pages_of_table f level
  ends_under level low zero_base =
      let j : ℕ = x.block.log2 in
      let k : ℕ = f.index * (level + 1) in
      let i : ℕ = k - j in
      let m : ℕ = x.block.first / 2 ^ j in
      let long : i + j ≡ k = (let h = size_low level low in omega arith) in
      let first : x.block.first ≡ m * 2 ^ j = whole x.block.first j legal.first_aligned in
      let table : 2 ^ k ≡ 2 ^ i * 2 ^ j = ap (λ z. 2 ^ z) (sym long) ∙ pow-add 2 i j in
      let base : x.block.first / 2 ^ k * 2 ^ k ≡ 0 = ap (λ (p : Position). p.base) (same_over level low) ∙ zero_base in
      let rest : x.block.first ≡ x.block.first % 2 ^ k = (let s = shr_split x.block.first k in omega arith) in
      let inside : x.block.first < 2 ^ k = (let h = mod_below x.block.first (2 ^ k) (pow_pos k) in omega arith) in
      let h = next_multiple m (2 ^ i) (2 ^ j) (omega arith) in omega arith
