-- The parts of a view that is cut at a page.
use Rattle.std.proofs.Common.{◌≡◌, ℕ, zero, suc, Bool, true, false, ◌+◌, ◌*◌, ◌<◌, ◌≤◌, List, [], ◌∷◌, ◌++◌, set, refl, sym, ◌∙◌, subst, arith, ⊎_elim}
use Rattle.std.specs.Prelude.{Option, filter, nat_le, nat_lt, ◌&&◌, not, if◌then◌else◌}
use Rattle.std.specs.List.{AllByRecursion}
use Rattle.std.proofs.lemmas.Bool.{lt-ltb}
use Rattle.std.proofs.lemmas.Bool.Decides.{nat_tests}
use mathlib.Core.Option.{some}
use mathlib.Core.Logic.{dite}
use native.Mathlib.Decide.{dec_le}
use lib.ListN.{get_elem?}
use Rattle.atomic_table.proofs.Lists.{at_snoc}
use Rattle.pt_model.specs.declared.position.Position.{Position}
use Rattle.pt_model.specs.Layout.{Layout}
use Rattle.pt_view.specs.declared.view.View.{View}
use Rattle.pt_view.specs.declared.view.Piece.{Piece}
use Rattle.pt_model.specs.Sets.{one_if}
use Rattle.pt_view.specs.Pieces.{first_of, word_of}
use Rattle.pt_view.specs.Calls.{pieces_at}
use Rattle.pt_rule.specs.Totals.{Each, total, words_at}
use Rattle.pt_rule.specs.Tags.{Chained, IsEnd, first_or}
use Rattle.pt_rule.specs.Lawful.{PiecesInOrder}
use Rattle.pt_rule.proofs.TotalsKept.{total_set}
use Rattle.pt_rule.specs.Cuts.{seam_of}

-- A view put last.
pub total_snoc : {V : Type 0} → (f : V → ℕ) (vs : List V) (w : V) → total f (vs ++ w ∷ []) ≡ total f vs + f w
total_snoc f [] w = omega arith
total_snoc f (v ∷ vs) w = let r = total_snoc f vs w in omega arith

pub each_snoc : (P : View → Type 0) (views : List View) (w : View) → Each views P → P w → Each (views ++ w ∷ []) P
each_snoc P views w all here j u e = ⊎_elim (λ (t : get_elem? views j ≡ some u). all j u t) (λ (t : w ≡ u). subst P t here) (at_snoc views w u j e)

-- what two views have together stays
pub two_totals : (c : View → ℕ) (views : List View) (id : ℕ) (v a b : View) → get_elem? views id ≡ some v → c a + c b ≡ c v → total c (set views id a ++ b ∷ []) ≡ total c views
two_totals c views id v a b at both = let s = total_set c views id v a at in let t = total_snoc c (set views id a) b in omega arith

-- Spans.
abbrev pub covers_by : (page first count : ℕ) → ℕ
covers_by page first count = one_if (nat_le first page && nat_lt page (first + count))

cov_in : (p first count : ℕ) → first ≤ p → p < first + count → covers_by p first count ≡ 1
cov_in p first count a b = grind (arith, nat_tests)

cov_low : (p first count : ℕ) → p < first → covers_by p first count ≡ 0
cov_low p first count a = grind (arith, nat_tests)

cov_high : (p first count : ℕ) → first + count ≤ p → covers_by p first count ≡ 0
cov_high p first count a = grind (arith, nat_tests)

pub parts_cover : (p first a b : ℕ) → covers_by p first a + covers_by p (first + a) b ≡ covers_by p first (a + b)
parts_cover p first a b = dite (dec_le first p)
    (λ le. dite (dec_le (first + a) p)
    (λ le2. dite (dec_le (first + (a + b)) p)
    (λ le3. let x = cov_high p first a le2 in let y = cov_high p (first + a) b (omega arith) in let z = cov_high p first (a + b) le3 in omega arith)
    (λ lt. let x = cov_high p first a le2 in let y = cov_in p (first + a) b le2 (omega arith) in let z = cov_in p first (a + b) le (omega arith) in omega arith))
    (λ lt. let x = cov_in p first a le (omega arith) in let y = cov_low p (first + a) b (omega arith) in let z = cov_in p first (a + b) le (omega arith) in omega arith))
    (λ lt. let x = cov_low p first a (omega arith) in let y = cov_low p (first + a) b (omega arith) in let z = cov_low p first (a + b) (omega arith) in omega arith)

-- Lists cut by a test.
module _ {X : Type 0} (t : X → Bool) where
  pub all_filter : (P Q : X → Type 0) (xs : List X) → ((x : X) → P x → t x ≡ true → Q x) → AllByRecursion P xs → AllByRecursion Q (filter t xs)
  all_filter P Q [] h all = tt
  all_filter P Q (x ∷ xs) h all = go (t x) refl (all_filter P Q xs h all.1)
    where
      go : (b : Bool) → t x ≡ b → AllByRecursion Q (filter t xs) → AllByRecursion Q (if b then x ∷ filter t xs else filter t xs)
      go true e rest = (h x all.0 e, rest)
      go false e rest = rest

  pub all_sub : (P : X → Type 0) (xs : List X) → AllByRecursion P xs → AllByRecursion P (filter t xs)
  all_sub P xs all = all_filter P P xs (λ x h e. h) all

  -- a sum over the elements, of those that pass and those that don't
  pub parts_sum : (F : List X → ℕ) (c : X → ℕ) → F [] ≡ 0 → ((x : X) (xs : List X) → F (x ∷ xs) ≡ c x + F xs) → (xs : List X) → F (filter t xs) + F (filter (λ x. not (t x)) xs) ≡ F xs
  parts_sum F c none step [] = omega arith
  parts_sum F c none step (x ∷ xs) = go (t x) (parts_sum F c none step xs)
    where
      go : (b : Bool) → F (filter t xs) + F (filter (λ y. not (t y)) xs) ≡ F xs → F (if b then x ∷ filter t xs else filter t xs) + F (if not b then x ∷ filter (λ y. not (t y)) xs else filter (λ y. not (t y)) xs) ≡ F (x ∷ xs)
      go true r = let a = step x (filter t xs) in let b = step x xs in omega arith
      go false r = let a = step x (filter (λ y. not (t y)) xs) in let b = step x xs in omega arith

pub pieces_sum : (f : Layout) (p : Position) (i : ℕ) (t : Piece → Bool) (xs : List Piece) → pieces_at f p i (filter t xs) + pieces_at f p i (filter (λ x. not (t x)) xs) ≡ pieces_at f p i xs
pieces_sum f p i t xs = parts_sum t (pieces_at f p i) (λ x. pieces_at f p i (x ∷ [])) refl (λ x ys. let a : pieces_at f p i (x ∷ ys) ≡ pieces_at f p i (x ∷ []) + pieces_at f p i ys = omega arith in a) xs

pub words_sum : (f : Layout) (p : Position) (i : ℕ) (t : Piece → Bool) (xs : List Piece) → words_at f p i (filter t xs) + words_at f p i (filter (λ x. not (t x)) xs) ≡ words_at f p i xs
words_sum f p i t xs = parts_sum t (words_at f p i) (λ x. pieces_at f p i (x ∷ []) * word_of f x) refl (λ x ys. refl) xs

pub pieces_filter : (f : Layout) (t : Piece → Bool) (xs : List Piece) → PiecesInOrder f xs → PiecesInOrder f (filter t xs)
pieces_filter f t [] h = tt
pieces_filter f t (x ∷ xs) h = go (t x) (pieces_filter f t xs h.1)
  where
    go : (b : Bool) → PiecesInOrder f (filter t xs) → PiecesInOrder f (if b then x ∷ filter t xs else filter t xs)
    go true rest = (all_sub t (λ y. first_of f x ≤ first_of f y) xs h.0, rest)
    go false rest = rest

-- Positions that pass a test.

-- two numbers are some or none alike
pub some_alike : (a b : ℕ) → (0 < a → 0 < b) → (0 < b → 0 < a) → nat_lt 0 a ≡ nat_lt 0 b
some_alike zero zero x y = refl
some_alike zero (suc b) x y = absurd (let r = y (omega arith) in omega arith)
some_alike (suc a) zero x y = absurd (let r = x (omega arith) in omega arith)
some_alike (suc a) (suc b) x y = lt-ltb 0 (suc a) (omega arith) ∙ sym (lt-ltb 0 (suc b) (omega arith))

-- Purses.
pub chained_front : (words : List ℕ) (end : Option ℕ) (xs ys : List ℕ) → Chained words end (xs ++ ys) → Chained words (seam_of xs (first_or end ys)) xs
chained_front words end [] ys h = tt
chained_front words end (x ∷ []) ys h = (h.0, tt)
chained_front words end (x ∷ y ∷ xs) ys h = (h.0, chained_front words end (y ∷ xs) ys h.1)

pub chained_back : (words : List ℕ) (end : Option ℕ) (xs ys : List ℕ) → Chained words end (xs ++ ys) → Chained words end ys
chained_back words end [] ys h = h
chained_back words end (x ∷ xs) ys h = chained_back words end xs ys h.1

-- the end mark of the front is a frame or none
pub seam_end : (n : ℕ) (xs : List ℕ) (o : Option ℕ) → IsEnd n o → IsEnd n (seam_of xs o)
seam_end n [] o h = tt
seam_end n (x ∷ xs) o h = h
