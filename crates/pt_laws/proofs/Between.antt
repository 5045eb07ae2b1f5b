-- Blocks between others: what a test finds and keeps, and where blocks are put.
use Rattle.std.proofs.Common.{◌≡◌, ℕ, zero, suc, ◌+◌, ◌-◌, ◌%◌, ◌^◌, ◌≤◌, List, [], ◌∷◌, ◌++◌, Bool, true, false, inl, inr, refl, ap, sym, ◌∙◌, arith, append_assoc, None}
use Rattle.std.specs.Prelude.{IsTrue, filter, find, not, nat_lt, nat_le, ◌==◌}
use Rattle.std.specs.List.{list_any}
use Rattle.std.proofs.lemmas.Bool.{cases_Bool, lt-ltb, le-ltb, le-leb, lt-leb, leb-true, and_left, and_right, and_parts, and_from, or_cases, false≢true}
use Rattle.std.proofs.lemmas.List.{append-nil}
use Rattle.std.proofs.lemmas.Nat.{pow_pos}
use Rattle.pt_model.specs.declared.block.Block.{Block}
use Rattle.pt_model.specs.declared.block.Prot.{Prot}
use Rattle.pt_model.specs.declared.position.Position.{Position}
use Rattle.pt_model.specs.Layout.{Layout, end_of, is_size}
use Rattle.pt_model.specs.Tiling.{tiling_within, greatest_size, fits_at, largest_below}
use Rattle.pt_model.specs.Book.{meets, lies_in, add_blocks, table_lies_in}
use Rattle.pt_model.specs.Tables.{end_of_table}
use Rattle.pt_model.specs.Unmap.{is_cut}
use Rattle.pt_model.specs.Cuts.{crosses}
use Rattle.pt_laws.specs.Apart.{EndBy, BeginFrom, LieIn}

-- a test that no block outside the pages from `lo` to before `hi` passes
pub record IsApart (lo hi : ℕ) (t : Block → Bool) : Type 0 where
  pub before : (b : Block) → end_of b ≤ lo → t b ≡ false
  pub behind : (b : Block) → hi ≤ b.first → t b ≡ false

find_front : (lo hi : ℕ) (t : Block → Bool) → IsApart lo hi t → (front xs : List Block) → EndBy lo front → find t (front ++ xs) ≡ find t xs
find_front lo hi t apart [] xs e = refl
find_front lo hi t apart (b ∷ front) xs e = let fails : t b ≡ false = apart.before b e.0 in rw fails (find_front lo hi t apart front xs e.1)

find_none : (lo hi : ℕ) (t : Block → Bool) → IsApart lo hi t → (bs : List Block) → BeginFrom hi bs → find t bs ≡ None
find_none lo hi t apart [] e = refl
find_none lo hi t apart (b ∷ bs) e = let fails : t b ≡ false = apart.behind b e.0 in rw fails (find_none lo hi t apart bs e.1)

find_back : (lo hi : ℕ) (t : Block → Bool) → IsApart lo hi t → (xs bs : List Block) → BeginFrom hi bs → find t (xs ++ bs) ≡ find t xs
find_back lo hi t apart [] bs e = find_none lo hi t apart bs e
find_back lo hi t apart (x ∷ xs) bs e = elim (cases_Bool (t x)) [
  | inl here ↦ rw here refl
  | inr fails ↦ rw fails (find_back lo hi t apart xs bs e)
]

pub find_between : (lo hi : ℕ) (t : Block → Bool) → IsApart lo hi t → (front xs bs : List Block) → EndBy lo front → BeginFrom hi bs →
    find t (front ++ (xs ++ bs)) ≡ find t xs
find_between lo hi t apart front xs bs e g = find_front lo hi t apart front (xs ++ bs) e ∙ find_back lo hi t apart xs bs g

-- what passes is among the blocks between
out_front : (lo hi : ℕ) (t : Block → Bool) → IsApart lo hi t → (front xs : List Block) → EndBy lo front → filter t (front ++ xs) ≡ filter t xs
out_front lo hi t apart [] xs e = refl
out_front lo hi t apart (b ∷ front) xs e = let fails : t b ≡ false = apart.before b e.0 in rw fails (out_front lo hi t apart front xs e.1)

out_none : (lo hi : ℕ) (t : Block → Bool) → IsApart lo hi t → (bs : List Block) → BeginFrom hi bs → filter t bs ≡ []
out_none lo hi t apart [] e = refl
out_none lo hi t apart (b ∷ bs) e = let fails : t b ≡ false = apart.behind b e.0 in rw fails (out_none lo hi t apart bs e.1)

out_back : (lo hi : ℕ) (t : Block → Bool) → IsApart lo hi t → (xs bs : List Block) → BeginFrom hi bs → filter t (xs ++ bs) ≡ filter t xs
out_back lo hi t apart [] bs e = out_none lo hi t apart bs e
out_back lo hi t apart (x ∷ xs) bs e = elim (cases_Bool (t x)) [
  | inl here ↦ rw here (ap (λ ys. x ∷ ys) (out_back lo hi t apart xs bs e))
  | inr fails ↦ rw fails (out_back lo hi t apart xs bs e)
]

pub passes_between : (lo hi : ℕ) (t : Block → Bool) → IsApart lo hi t → (front xs bs : List Block) → EndBy lo front → BeginFrom hi bs →
    filter t (front ++ (xs ++ bs)) ≡ filter t xs
passes_between lo hi t apart front xs bs e g = out_front lo hi t apart front (xs ++ bs) e ∙ out_back lo hi t apart xs bs g

-- what fails is taken out between alone
abbrev fails : (Block → Bool) → Block → Bool
fails t b = not (t b)

in_front : (lo hi : ℕ) (t : Block → Bool) → IsApart lo hi t → (front xs : List Block) → EndBy lo front → filter (fails t) (front ++ xs) ≡ front ++ filter (fails t) xs
in_front lo hi t apart [] xs e = refl
in_front lo hi t apart (b ∷ front) xs e =
    let none : t b ≡ false = apart.before b e.0 in rw none (ap (λ ys. b ∷ ys) (in_front lo hi t apart front xs e.1))

in_all : (lo hi : ℕ) (t : Block → Bool) → IsApart lo hi t → (bs : List Block) → BeginFrom hi bs → filter (fails t) bs ≡ bs
in_all lo hi t apart [] e = refl
in_all lo hi t apart (b ∷ bs) e =
    let none : t b ≡ false = apart.behind b e.0 in rw none (ap (λ ys. b ∷ ys) (in_all lo hi t apart bs e.1))

in_back : (lo hi : ℕ) (t : Block → Bool) → IsApart lo hi t → (xs bs : List Block) → BeginFrom hi bs → filter (fails t) (xs ++ bs) ≡ filter (fails t) xs ++ bs
in_back lo hi t apart [] bs e = in_all lo hi t apart bs e
in_back lo hi t apart (x ∷ xs) bs e = elim (cases_Bool (t x)) [
  | inl here ↦ rw here (in_back lo hi t apart xs bs e)
  | inr none ↦ rw none (ap (λ ys. x ∷ ys) (in_back lo hi t apart xs bs e))
]

pub fails_between : (lo hi : ℕ) (t : Block → Bool) → IsApart lo hi t → (front xs bs : List Block) → EndBy lo front → BeginFrom hi bs →
    filter (λ b. not (t b)) (front ++ (xs ++ bs)) ≡ front ++ (filter (λ b. not (t b)) xs ++ bs)
fails_between lo hi t apart front xs bs e g =
    in_front lo hi t apart front (xs ++ bs) e ∙ ap (λ ys. front ++ ys) (in_back lo hi t apart xs bs g)

-- The tests of the book machine.

pub meets_apart : (lo hi first last : ℕ) → lo ≤ first → last ≤ hi → IsApart lo hi (meets first last)
meets_apart lo hi first last low high = record {
  before = λ b e. and_right (nat_lt b.first last) (nat_lt first (end_of b)) (le-ltb first (end_of b) (omega arith));
  behind = λ b e. and_left (nat_lt b.first last) (nat_lt first (end_of b)) (le-ltb b.first last (omega arith));
}

pub cut_apart : (lo hi first last : ℕ) → lo ≤ first → last ≤ hi → IsApart lo hi (is_cut first last)
cut_apart lo hi first last low high =
    let m = meets_apart lo hi first last low high in record {
      before = λ b e. and_left (meets first last b) (not (lies_in first last b)) (m.before b e);
      behind = λ b e. and_left (meets first last b) (not (lies_in first last b)) (m.behind b e);
    }

pub crosses_apart : (lo hi page : ℕ) → lo ≤ page → page ≤ hi → IsApart lo hi (crosses page)
crosses_apart lo hi page low high = record {
  before = λ b e. and_right (nat_lt b.first page) (nat_lt page (end_of b)) (le-ltb page (end_of b) (omega arith));
  behind = λ b e. and_left (nat_lt b.first page) (nat_lt page (end_of b)) (le-ltb b.first page (omega arith));
}

pub lies_apart : (lo hi first last : ℕ) → lo ≤ first → last ≤ hi → IsApart lo hi (lies_in first last)
lies_apart lo hi first last low high = record {
  before = λ b e. and_left (nat_le first b.first) (nat_le (end_of b) last) (lt-leb first b.first (omega (arith, pow_pos b.log2)));
  behind = λ b e. and_right (nat_le first b.first) (nat_le (end_of b) last) (lt-leb (end_of b) last (omega (arith, pow_pos b.log2)));
}

-- New blocks that lie between.

pub lie_wider : (lo hi low high : ℕ) (bs : List Block) → low ≤ lo → hi ≤ high → LieIn lo hi bs → LieIn low high bs
lie_wider lo hi low high [] a z l = tt
lie_wider lo hi low high (b ∷ bs) a z l =
    let i = l.0 in let j = l.1 in let k = l.2 in (omega arith, omega arith, omega arith, lie_wider lo hi low high bs a z l.3)

pub lie_filter : (lo hi : ℕ) (t : Block → Bool) (bs : List Block) → LieIn lo hi bs → LieIn lo hi (filter t bs)
lie_filter lo hi t [] l = tt
lie_filter lo hi t (b ∷ bs) l = elim (cases_Bool (t b)) [
  | inl here ↦ rw here (l.0, l.1, l.2, lie_filter lo hi t bs l.3)
  | inr none ↦ rw none (lie_filter lo hi t bs l.3)
]

lie_append : (lo hi : ℕ) (xs ys : List Block) → LieIn lo hi xs → LieIn lo hi ys → LieIn lo hi (xs ++ ys)
lie_append lo hi [] ys l k = k
lie_append lo hi (x ∷ xs) ys l k = (l.0, l.1, l.2, lie_append lo hi xs ys l.3 k)

pub lie_put : (lo hi : ℕ) (xs new : List Block) → LieIn lo hi xs → LieIn lo hi new → LieIn lo hi (add_blocks xs new)
lie_put lo hi [] new l k = k
lie_put lo hi (x ∷ xs) new l k =
    lie_append lo hi (filter (λ n. nat_lt n.first x.first) new) (x ∷ add_blocks xs (filter (λ n. not (nat_lt n.first x.first)) new))
    (lie_filter lo hi (λ n. nat_lt n.first x.first) new k)
    (l.0, l.1, l.2, lie_put lo hi xs (filter (λ n. not (nat_lt n.first x.first)) new) l.3 (lie_filter lo hi (λ n. not (nat_lt n.first x.first)) new k))

none_sooner : (page lo hi : ℕ) (new : List Block) → page ≤ lo → LieIn lo hi new → filter (λ n. nat_lt n.first page) new ≡ []
none_sooner page lo hi [] le l = refl
none_sooner page lo hi (n ∷ new) le l =
    let e : nat_lt n.first page ≡ false = le-ltb n.first page (let i = l.0 in omega arith) in rw e (none_sooner page lo hi new le l.3)

all_later : (page lo hi : ℕ) (new : List Block) → page ≤ lo → LieIn lo hi new → filter (λ n. not (nat_lt n.first page)) new ≡ new
all_later page lo hi [] le l = refl
all_later page lo hi (n ∷ new) le l =
    let e : nat_lt n.first page ≡ false = le-ltb n.first page (let i = l.0 in omega arith) in rw e (ap (λ ys. n ∷ ys) (all_later page lo hi new le l.3))

all_sooner : (page lo hi : ℕ) (new : List Block) → hi ≤ page → LieIn lo hi new → filter (λ n. nat_lt n.first page) new ≡ new
all_sooner page lo hi [] le l = refl
all_sooner page lo hi (n ∷ new) le l =
    let e : nat_lt n.first page ≡ true = lt-ltb n.first page (let i = l.1 in omega arith) in rw e (ap (λ ys. n ∷ ys) (all_sooner page lo hi new le l.3))

none_later : (page lo hi : ℕ) (new : List Block) → hi ≤ page → LieIn lo hi new → filter (λ n. not (nat_lt n.first page)) new ≡ []
none_later page lo hi [] le l = refl
none_later page lo hi (n ∷ new) le l =
    let e : nat_lt n.first page ≡ true = lt-ltb n.first page (let i = l.1 in omega arith) in rw e (none_later page lo hi new le l.3)

put_front : (lo hi : ℕ) (new front xs : List Block) → LieIn lo hi new → EndBy lo front → add_blocks (front ++ xs) new ≡ front ++ add_blocks xs new
put_front lo hi new [] xs l e = refl
put_front lo hi new (b ∷ front) xs l e =
    let sooner : b.first ≤ lo = let k = e.0 in omega (arith, pow_pos b.log2) in
    let none = none_sooner b.first lo hi new sooner l in
    let all = all_later b.first lo hi new sooner l in
    ap (λ ys. ys ++ (b ∷ add_blocks (front ++ xs) (filter (λ n. not (nat_lt n.first b.first)) new))) none
    ∙ ap (λ ys. b ∷ add_blocks (front ++ xs) ys) all ∙ ap (λ ys. b ∷ ys) (put_front lo hi new front xs l e.1)

put_nothing : (bs : List Block) → add_blocks bs [] ≡ bs
put_nothing [] = refl
put_nothing (b ∷ bs) = ap (λ ys. b ∷ ys) (put_nothing bs)

put_back : (lo hi : ℕ) (new xs bs : List Block) → LieIn lo hi new → BeginFrom hi bs → add_blocks (xs ++ bs) new ≡ add_blocks xs new ++ bs
put_back lo hi new [] [] l e = sym (append-nil new)
put_back lo hi new [] (b ∷ bs) l e =
    ap (λ ys. ys ++ (b ∷ add_blocks bs (filter (λ n. not (nat_lt n.first b.first)) new))) (all_sooner b.first lo hi new e.0 l)
    ∙ ap (λ ys. new ++ (b ∷ add_blocks bs ys)) (none_later b.first lo hi new e.0 l) ∙ ap (λ ys. new ++ (b ∷ ys)) (put_nothing bs)
put_back lo hi new (x ∷ xs) bs l e =
    let sooner = filter (λ (n : Block). nat_lt n.first x.first) new in
    let back = filter (λ (n : Block). not (nat_lt n.first x.first)) new in
    ap (λ ys. sooner ++ (x ∷ ys)) (put_back lo hi back xs bs (lie_filter lo hi (λ n. not (nat_lt n.first x.first)) new l) e)
    ∙ sym (append_assoc sooner (x ∷ add_blocks xs back) bs)

pub put_between : (lo hi : ℕ) (new front xs bs : List Block) → LieIn lo hi new → EndBy lo front → BeginFrom hi bs →
    add_blocks (front ++ (xs ++ bs)) new ≡ front ++ (add_blocks xs new ++ bs)
put_between lo hi new front xs bs l e g = put_front lo hi new front (xs ++ bs) l e ∙ ap (λ ys. front ++ ys) (put_back lo hi new xs bs l g)

-- The blocks of a tiling lie in its range.

largest_passes : (p : ℕ → Bool) (n : ℕ) → p 0 ≡ true → p (largest_below p n) ≡ true
largest_passes p zero e = e
largest_passes p (suc n) e =
    elim (cases_Bool (p n)) [ inl t ↦ rw t t | inr f ↦ rw f (largest_passes p n e) ]

pub size_fits : (g : Layout) (first out more : ℕ) → IsTrue (is_size g 0) → 2 ^ greatest_size g first out (suc more) ≤ suc more
size_fits g first out more page =
    let left : ℕ = suc more in
    let a : (first % 2 ^ 0 == 0) ≡ true = let e : first % 1 ≡ 0 = omega arith in ap (λ n. n == 0) e in
    let b : (out % 2 ^ 0 == 0) ≡ true = let e : out % 1 ≡ 0 = omega arith in ap (λ n. n == 0) e in
    let c : nat_le (2 ^ 0) (suc more) ≡ true = le-leb (2 ^ 0) (suc more) (omega arith) in
    let zero_fits : fits_at g first out (suc more) 0 ≡ true =
    and_from (is_size g 0) _ page (and_from (first % 2 ^ 0 == 0) _ a (and_from (out % 2 ^ 0 == 0) _ b c)) in
    let k : ℕ = greatest_size g first out (suc more) in
    let passes : fits_at g first out (suc more) k ≡ true = largest_passes (fits_at g first out (suc more)) (g.input + 1) zero_fits in
    let one = and_parts (is_size g k) _ passes in
    let two = and_parts (first % 2 ^ k == 0) _ one.1 in
    let three = and_parts (out % 2 ^ k == 0) _ two.1 in
    leb-true (2 ^ k) (suc more) three.1

pub tiles_lie : (g : Layout) (prot : Prot) (fuel first out left last : ℕ) → IsTrue (is_size g 0) → first + left ≡ last →
    LieIn first last (tiling_within fuel g prot first out left)
tiles_lie g prot zero first out left last page e = tt
tiles_lie g prot (suc fuel) first out zero last page e = tt
tiles_lie g prot (suc fuel) first out (suc more) last page e =
    let k : ℕ = greatest_size g first out (suc more) in
    let fits = size_fits g first out more page in (
      omega arith,
      omega arith,
      omega arith,
      lie_wider (first + 2 ^ greatest_size g first out (suc more)) last first last _ (omega arith) (omega arith)
          (tiles_lie g prot fuel (first + 2 ^ greatest_size g first out (suc more)) (out + 2 ^ greatest_size g first out (suc more)) (suc more - 2 ^ greatest_size g first out (suc more)) last page (omega arith)),
    )

-- a table that lies in a new block lies between
pub lies_between : (f : Layout) (lo hi : ℕ) (new : List Block) (p : Position) → LieIn lo hi new →
    list_any (λ b. table_lies_in f b.first (end_of b) p) new ≡ true → table_lies_in f lo hi p ≡ true
lies_between f lo hi [] p l e = absurd (false≢true e)
lies_between f lo hi (b ∷ bs) p l e = elim (or_cases (table_lies_in f b.first (end_of b) p) _ e) [
  | inl here ↦
      let h = and_parts (nat_le b.first p.base) _ here in
      let low = leb-true b.first p.base h.0 in
      let high = leb-true (end_of_table f p) (end_of b) h.1 in
      let i = l.0 in let k = l.2 in
      and_from (nat_le lo p.base) _ (le-leb lo p.base (omega arith)) (le-leb (end_of_table f p) hi (omega arith))
  | inr later ↦ lies_between f lo hi bs p l.3 later
]
