-- Two pieces of a live view at two entries have no page in common.
use Rattle.std.proofs.Common.{◌≡◌, ◌⊎◌, inl, inr, ℕ, true, ◌+◌, ◌-◌, ◌*◌, ◌/◌, ◌%◌, ◌^◌, ◌<◌, ◌≤◌, List, [], ◌∷◌, sym, ap, ◌∙◌, subst, arith, ⊎_elim}
use Rattle.std.specs.Prelude.{IsTrue, nat_lt, nat_le, ◌&&◌}
use Rattle.std.specs.List.{AllByRecursion}
use Rattle.std.proofs.lemmas.Bool.{and_from, lt-ltb, le-leb}
use Rattle.std.proofs.lemmas.Nat.{mul-le, le-div, pow_pos, pow-add}
use Rattle.std.proofs.Math.Nat.{div-mul-le_self}
use mathlib.Core.Option.{some}
use mathlib.Core.Logic.{dite}
use native.Mathlib.Decide.{ℕ_discrete, dec_le}
use lib.ListN.{get_elem?}
use Rattle.pt_model.specs.declared.position.Position.{Position}
use Rattle.pt_model.specs.Layout.{Layout, pages_of_entry, pages_of_table}
use Rattle.pt_model.specs.Tables.{position_over}
use Rattle.pt_format.specs.Laws.{IsLayout}
use Rattle.pt_view.specs.declared.view.View.{View}
use Rattle.pt_view.specs.declared.view.Piece.{Piece}
use Rattle.pt_view.specs.Pieces.{IsOneOf, first_of, level_of, number_of, table_of}
use Rattle.pt_view.specs.Calls.{entry_first, entry_end, is_under, pieces_at}
use Rattle.pt_rule.specs.Totals.{has_piece}
use Rattle.pt_rule.specs.Linked.{is_in_tree}
use Rattle.pt_rule.specs.Lawful.{Lawful, IsOwnPiece, PiecesInOrder, has_child}
use Rattle.pt_rule.proofs.TotalsKept.{total_at}
use Rattle.pt_model.proofs.Quotients.{one_multiple}
use Rattle.pt_view.proofs.Members.{all_map}
use Rattle.pt_view.proofs.Pieces.{here_one}
use Rattle.pt_rule.proofs.PieceFacts.{first_whole, first_is_entry's}
use Rattle.pt_rule.proofs.TreeFacts.{all_both, all_one_of, child_there}

-- Over plain numbers: a run of e pages from b * e, and one of c * d * e from a * (c * d * e), meet. Then the
-- multiple of d * e at or before the small one is in the large one.
large_first : (a b c d e : ℕ) → a * (c * (d * e)) < b * e + e → a * c * (d * e) ≤ b * e
large_first a b c d e h =
    let same : a * (c * (d * e)) ≡ a * c * d * e = omega arith in
    let low : a * c * d ≤ b = dite (dec_le (a * c * d) b) (λ le. le) (λ gt. absurd (let m = mul-le (b + 1) e (a * c * d) e (omega arith) (omega arith) in omega arith)) in
    let m = mul-le (a * c * d) e b e low (omega arith) in
    let again : a * c * (d * e) ≡ a * c * d * e = omega arith in omega arith

under_large : (a b c d e : ℕ) → 0 < d * e → a * (c * (d * e)) < b * e + e → a * (c * (d * e)) ≤ b * e / (d * e) * (d * e)
under_large a b c d e wide h =
    let low = le-div (a * c) (b * e) (d * e) wide (large_first a b c d e h) in
    let m = mul-le (a * c) (d * e) (b * e / (d * e)) (d * e) low (omega arith) in
    let same : a * (c * (d * e)) ≡ a * c * (d * e) = omega arith in omega arith

-- the page after a piece's last one
abbrev pub last_of : Layout → Piece → ℕ
last_of f x = first_of f x + pages_of_entry f (level_of f x)

-- each piece of a list ends before the later ones begin
abbrev pub Spaced : Layout → List Piece → Type 0
Spaced f [] = Unit {0}
Spaced f (x ∷ xs) = AllByRecursion (λ y. last_of f x ≤ first_of f y) xs × Spaced f xs

-- a piece of a list stands at its entry
pub stands : (f : Layout) (xs : List Piece) (x : Piece) → IsOneOf xs x → 0 < pieces_at f (table_of f x) (number_of f x) xs
stands f [] x h = absurd h
stands f (y ∷ ys) x (inl e) = subst (λ (z : Piece). 0 < pieces_at f (table_of f z) (number_of f z) (y ∷ ys)) e (let one = here_one f y in omega arith)
stands f (y ∷ ys) x (inr h) = let rest = stands f ys x h in omega arith

module _ (f : Layout) (n l : ℕ) (words : List ℕ) (views : List View) (good : IsLayout f) (r : Lawful f n l words views) (id : ℕ) (v : View) (at : get_elem? views id ≡ some v) where
  -- what the rule says of a piece of the view
  pub record IsHome (x : Piece) : Type 0 where
    pub own : IsOwnPiece f v x
    pub there : IsTrue (is_in_tree l words views (table_of f x))
    pub member : IsOneOf v.pieces x

  pub all_home : 0 < v.count → AllByRecursion IsHome v.pieces
  all_home live = all_map (λ x. (IsOwnPiece f v x × IsTrue (is_in_tree l words views (table_of f x))) × IsOneOf v.pieces x) IsHome v.pieces
      (λ x a. record { own = a.0.0; there = a.0.1; member = a.1 })
      (all_both (λ x. IsOwnPiece f v x × IsTrue (is_in_tree l words views (table_of f x))) (IsOneOf v.pieces) v.pieces
      (all_both (IsOwnPiece f v) (λ x. IsTrue (is_in_tree l words views (table_of f x))) v.pieces (r.books id v at live).pieces (r.entries.homes id v at)) (all_one_of v.pieces))

  -- a piece doesn't lie under the entry of one in a higher table: no table does
  not_under : (x y : Piece) → IsHome x → IsHome y → level_of f x < level_of f y → first_of f x < last_of f y → first_of f y < last_of f x → ⊥
  not_under x y a b low up down =
      let e : ℕ = pages_of_entry f (level_of f x) in
      let t : ℕ = pages_of_table f (level_of f x) in
      let d : ℕ = 2 ^ f.index in
      let more : ℕ = f.index * (level_of f y - (level_of f x + 1)) in
      let c : ℕ = 2 ^ more in
      let p : Position = table_of f y in
      let i : ℕ = number_of f y in
      let q : Position = table_of f x in
      let table : t ≡ d * e = (let s : f.index * (level_of f x + 1) ≡ f.index + f.index * level_of f x = omega arith in ap (λ k. 2 ^ k) s ∙ pow-add 2 f.index (f.index * level_of f x)) in
      let large : pages_of_entry f (level_of f y) ≡ c * t =
      (let h : level_of f y ≡ level_of f y - (level_of f x + 1) + (level_of f x + 1) = omega arith in
      let s : f.index * (level_of f y - (level_of f x + 1) + (level_of f x + 1)) ≡ more + f.index * (level_of f x + 1) = omega arith in
      ap (λ k. 2 ^ (f.index * k)) h ∙ ap (λ k. 2 ^ k) s ∙ pow-add 2 more (f.index * (level_of f x + 1))) in
      let m : ℕ = first_of f y / pages_of_entry f (level_of f y) in
      let k : ℕ = first_of f x / e in
      let first_x : first_of f x ≡ k * e = first_whole f good v x a.own in
      let first_y : first_of f y ≡ m * (c * (d * e)) = first_whole f good v y b.own ∙ ap (λ z. m * z) (large ∙ ap (λ z. c * z) table) in
      let wide : 0 < d * e = subst (λ (z : ℕ). 0 < z) table (pow_pos (f.index * (level_of f x + 1))) in
      let base : q.base ≡ k * e / (d * e) * (d * e) = (λ j. first_x j / table j * table j) in
      let from : first_of f y ≤ q.base = (let h = under_large m k c d e wide (omega (arith, down, first_x, first_y)) in omega (arith, h, base, first_y)) in
      let to : q.base ≤ first_of f x = div-mul-le_self (first_of f x) t in
      let here : entry_first f p i ≡ first_of f y = first_is_entry's f good v y b.own in
      let under : is_under f p i q ≡ true =
      and_from (nat_lt q.level p.level && nat_le (entry_first f p i) q.base) _
      (and_from (nat_lt q.level p.level) _ (lt-ltb q.level p.level low) (le-leb (entry_first f p i) q.base (omega (arith, here, from))))
      (lt-ltb q.base (entry_end f p i) (omega (arith, here, to, up))) in
      let child : has_child f l words views p i ≡ true =
      and_from (nat_lt 0 p.level) _ (lt-ltb 0 p.level (omega arith)) (child_there f n l words views good r p i b.there q a.there under) in
      let none = r.entries.apart i p child in
      let most = total_at (has_piece f p i) views id v at in
      let some_one = stands f v.pieces y b.member in omega (arith, none, most, some_one)

  -- pieces of one level that meet are at one entry
  one_entry : (x y : Piece) → IsHome x → IsHome y → level_of f x ≡ level_of f y → first_of f x < last_of f y → first_of f y < last_of f x →
      (table_of f x ≡ table_of f y) × (number_of f x ≡ number_of f y)
  one_entry x y a b level up down =
      let e : ℕ = pages_of_entry f (level_of f x) in
      let same : pages_of_entry f (level_of f y) ≡ e = ap (pages_of_entry f) (sym level) in
      let m : ℕ = first_of f y / pages_of_entry f (level_of f y) in
      let k : ℕ = first_of f x / e in
      let first_x : first_of f x ≡ k * e = first_whole f good v x a.own in
      let first_y : first_of f y ≡ m * e = first_whole f good v y b.own ∙ ap (λ z. m * z) same in
      let one : k ≡ m = dite (dec_le (k * e) (m * e))
      (λ le. sym (one_multiple k m e le (omega (arith, down, first_x, first_y))))
      (λ gt. one_multiple m k e (omega arith) (omega (arith, up, first_x, first_y, same))) in
      let first : first_of f x ≡ first_of f y = first_x ∙ ap (λ z. z * e) one ∙ sym first_y in (
        λ j. position_over f (first j) (level j),
        λ j. first j / pages_of_entry f (level j) % 2 ^ f.index,
      )

  -- two pieces at two entries have no page in common
  pub pieces_apart : (x y : Piece) → IsHome x → IsHome y → (table_of f x ≡ table_of f y → number_of f x ≡ number_of f y → ⊥) →
      (last_of f x ≤ first_of f y) ⊎ (last_of f y ≤ first_of f x)
  pieces_apart x y a b other = dite (dec_le (last_of f x) (first_of f y)) (λ le. inl le)
      (λ over. dite (dec_le (last_of f y) (first_of f x)) (λ le. inr le)
      (λ under. absurd (dite (ℕ_discrete (level_of f x) (level_of f y))
      (λ level. let s = one_entry x y a b level (omega arith) (omega arith) in other s.0 s.1)
      (λ ne. dite (dec_le (level_of f x) (level_of f y))
      (λ le. not_under x y a b (omega arith) (omega arith) (omega arith))
      (λ gt. not_under y x b a (omega arith) (omega arith) (omega arith))))))

  spaced_from : (xs : List Piece) → AllByRecursion IsHome xs → PiecesInOrder f xs → ((p : Position) (i : ℕ) → pieces_at f p i xs ≤ 1) → Spaced f xs
  spaced_from [] all order once = tt
  spaced_from (x ∷ xs) all order once = (
    all_map (λ y. (IsHome y × IsOneOf xs y) × (first_of f x ≤ first_of f y)) (λ y. last_of f x ≤ first_of f y) xs
        (λ y a. ⊎_elim (λ (le : last_of f x ≤ first_of f y). le)
        (λ (le : last_of f y ≤ first_of f x). let some = pow_pos (f.index * level_of f y) in let low = a.1 in absurd (omega arith))
        (pieces_apart x y all.0 a.0.0 (λ e d. not_here y a.0.1 e d)))
        (all_both (λ y. IsHome y × IsOneOf xs y) (λ y. first_of f x ≤ first_of f y) xs (all_both IsHome (IsOneOf xs) xs all.1 (all_one_of xs)) order.0),
    spaced_from xs all.1 order.1 (λ p i. let most = once p i in omega arith),
  )
    where
      not_here : (y : Piece) → IsOneOf xs y → table_of f x ≡ table_of f y → number_of f x ≡ number_of f y → ⊥
      not_here y member e d =
          let most = once (table_of f x) (number_of f x) in
          let mine = here_one f x in
          let theirs : 0 < pieces_at f (table_of f x) (number_of f x) xs = subst (λ (s : Position × ℕ). 0 < pieces_at f s.0 s.1 xs) (λ j. (sym e j, sym d j)) (stands f xs y member) in
          omega (arith, most, mine, theirs)

  -- each piece of a live view ends before the later ones begin
  pub spaced : 0 < v.count → Spaced f v.pieces
  spaced live = spaced_from v.pieces (all_home live) (r.books id v at live).pieces_in_order
      (λ p i. let once = r.entries.once i p in let most = total_at (has_piece f p i) views id v at in omega arith)
