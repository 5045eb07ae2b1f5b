-- The branches of a fork come to the same on one book and on two.
use Rattle.std.proofs.Common.{◌≡◌, ℕ, suc, ◌+◌, ◌-◌, ◌*◌, ◌<◌, ◌≤◌, List, [], ◌∷◌, ◌++◌, Bool, true, false, ◌⊎◌, inl, inr, refl, ap, sym, subst, ◌∙◌, arith, Some, None, length}
use Rattle.std.specs.Prelude.{IsTrue, ◌&&◌, is_none, if◌then◌else◌, filter, find, All, AllPairs, max, ◌↔◌, nat_lt, nat_le, slice_index_or}
use Rattle.std.proofs.lemmas.Bool.{cases_Bool, cases_lt, true≢false, and_parts, and_from, and_cases, and_left, and_right, leb-true, ltb-true, ltb-false, le-leb, lt-leb, lt-ltb, false_from_ne_true}
use Rattle.std.proofs.lemmas.List.{append-nil}
use Rattle.std.proofs.lemmas.Nat.{pow_pos}
use Rattle.pt_model.specs.declared.block.Block.{Block}
use Rattle.pt_model.specs.declared.position.Position.{Position}
use Rattle.pt_model.specs.declared.command.What.{What}
use Rattle.pt_model.specs.declared.command.What.TheVariants.{Map, Unmap, Lookup, Dump, Release, Fork, With, End}
use Rattle.pt_model.specs.declared.command.Command.{Command}
use Rattle.pt_model.specs.Layout.{Layout, end_of, is_size}
use Rattle.pt_model.specs.Pages.{page_under}
use Rattle.pt_model.specs.Sets.{IsSorted, IsAmong}
use Rattle.pt_model.specs.Tables.{add_positions, is_before, end_of_table}
use Rattle.pt_model.specs.Book.{Book, IsLawful, span_end, lies_in, table_meets, table_lies_in}
use Rattle.pt_model.specs.Run.{Machine, Opened, Cut, Refused, State, is_running, is_in_fork, Decided, ByLines, is_lacking, at_with, at_end, state_after}
use Rattle.pt_model.proofs.Positions.{among_none, among_cases, among_filtered, among_passes, sorted_filter, adds_by_members}
use Rattle.pt_model.specs.Cuts.{crosses, cut_refusal, joined, spanning}
use Rattle.pt_laws.specs.Apart.{EndBy, BeginFrom, LieIn, Rest, IsBeside, Follows, AreClosed}
use Rattle.pt_laws.specs.Laws.{left_part, right_part, in_left, left_done, in_right, right_done, ComeTogether, DecidesByLines, in_forks, by_lines, BranchesComeTogether}
use Rattle.pt_laws.proofs.Same.{cut_inside, cut_free}
use Rattle.pt_laws.proofs.Listing.{home, AllAlike, all_alike}

-- Blocks in order, by recursion.

abbrev Ordered : List Block → Type 0
Ordered [] = Unit {0}
Ordered (b ∷ bs) = BeginFrom (end_of b) bs × Ordered bs

begin_from : (n : ℕ) (bs : List Block) → All (λ b. n ≤ b.first) bs → BeginFrom n bs
begin_from n [] h = tt
begin_from n (b ∷ bs) h = (h 0 b (omega arith), begin_from n bs (λ k d i. h (suc k) d (omega arith)))

ordered : (bs : List Block) → AllPairs (λ b c. end_of b ≤ c.first) bs → Ordered bs
ordered [] h = tt
ordered (b ∷ bs) h = (
  begin_from (end_of b) bs (λ k d i. h 0 (suc k) d (omega arith) (omega arith)),
  ordered bs (λ i j d a z. h (suc i) (suc j) d (omega arith) (omega arith)),
)

begin_later : (m n : ℕ) (bs : List Block) → m ≤ n → BeginFrom n bs → BeginFrom m bs
begin_later m n [] le h = tt
begin_later m n (b ∷ bs) le h = (let x = h.0 in omega arith, begin_later m n bs le h.1)

-- blocks that lie in pages
inside : (lo hi : ℕ) (bs : List Block) → All (λ b. IsTrue (lies_in lo hi b)) bs → LieIn lo hi bs
inside lo hi [] h = tt
inside lo hi (b ∷ bs) h =
    let one = and_parts (nat_le lo b.first) _ (h 0 b (omega arith)) in
    let low = leb-true lo b.first one.0 in let high = leb-true (end_of b) hi one.1 in
    (low, omega (arith, pow_pos b.log2), high, inside lo hi bs (λ k d i. h (suc k) d (omega arith)))

lie_from : (lo hi n : ℕ) (bs : List Block) → LieIn lo hi bs → BeginFrom n bs → LieIn n hi bs
lie_from lo hi n [] l g = tt
lie_from lo hi n (b ∷ bs) l g = (g.0, l.1, l.2, lie_from lo hi n bs l.3 g.1)

lies : (lo hi : ℕ) (b : Block) → lo ≤ b.first → end_of b ≤ hi → lies_in lo hi b ≡ true
lies lo hi b low high = and_from (nat_le lo b.first) _ (le-leb lo b.first low) (le-leb (end_of b) hi high)

-- The blocks before a cut and those behind it.
record AreHalves (lo at hi : ℕ) (bs : List Block) : Type 0 where
  parted : bs ≡ filter (lies_in lo at) bs ++ filter (lies_in at hi) bs
  left_lie : LieIn lo at (filter (lies_in lo at) bs)
  right_lie : LieIn at hi (filter (lies_in at hi) bs)

none_left : (lo at hi : ℕ) (bs : List Block) → LieIn at hi bs → filter (lies_in lo at) bs ≡ []
none_left lo at hi [] l = refl
none_left lo at hi (b ∷ bs) l =
    let e : lies_in lo at b ≡ false = and_right (nat_le lo b.first) (nat_le (end_of b) at) (lt-leb (end_of b) at (let x = l.0 in omega (arith, pow_pos b.log2))) in
    rw e (none_left lo at hi bs l.3)

all_right : (at hi : ℕ) (bs : List Block) → LieIn at hi bs → filter (lies_in at hi) bs ≡ bs
all_right at hi [] l = refl
all_right at hi (b ∷ bs) l = let e : lies_in at hi b ≡ true = lies at hi b l.0 l.2 in rw e (ap (λ xs. b ∷ xs) (all_right at hi bs l.3))

not_first : {X : Type 0} (t : X → Bool) (x : X) (xs : List X) → find t (x ∷ xs) ≡ None → (t x ≡ false) × (find t xs ≡ None)
not_first t x xs e = elim (cases_Bool (t x)) [
  | inl here ↦ let bad : Some x ≡ None = sym (rw here refl) ∙ e in cc
  | inr fails ↦ (fails, sym (rw fails refl) ∙ e)
]

halves : (lo at hi : ℕ) (bs : List Block) → Ordered bs → LieIn lo hi bs → find (crosses at) bs ≡ None → AreHalves lo at hi bs
halves lo at hi [] o l free = record { parted = refl; left_lie = tt; right_lie = tt }
halves lo at hi (b ∷ bs) o l free =
    let h = not_first (crosses at) b bs free in
    elim (cases_lt b.first at) [
      | inl before ↦
          let ends : end_of b ≤ at = elim (and_cases (nat_lt b.first at) _ h.0) [
            | inl e ↦ absurd (true≢false (sym (lt-ltb b.first at before) ∙ e))
            | inr e ↦ ltb-false at (end_of b) e
          ] in
          let more : AreHalves lo at hi bs = halves lo at hi bs o.1 l.3 h.1 in
          let here : lies_in lo at b ≡ true = lies lo at b l.0 ends in
          let there : lies_in at hi b ≡ false = and_left (nat_le at b.first) _ (lt-leb at b.first before) in
          record {
            parted = rw (here, there) (ap (λ xs. b ∷ xs) more.parted);
            left_lie = rw here (l.0, before, ends, more.left_lie);
            right_lie = rw there more.right_lie;
          }
      | inr behind ↦
          let right : LieIn at hi (b ∷ bs) = (behind, l.1, l.2, lie_from lo hi at bs l.3 (begin_later at (end_of b) bs (omega (arith, pow_pos b.log2)) o.0)) in
          let none = none_left lo at hi (b ∷ bs) right in
          let all = all_right at hi (b ∷ bs) right in
          record {
            parted = sym (ap (λ xs. xs ++ filter (lies_in at hi) (b ∷ bs)) none ∙ all);
            left_lie = subst (λ xs. LieIn lo at xs) (sym none) tt;
            right_lie = subst (λ xs. LieIn at hi xs) (sym all) right;
          }
    ]

end_by : (lo hi : ℕ) (bs : List Block) → LieIn lo hi bs → EndBy hi bs
end_by lo hi [] l = tt
end_by lo hi (b ∷ bs) l = (l.2, end_by lo hi bs l.3)

begin_by : (lo hi : ℕ) (bs : List Block) → LieIn lo hi bs → BeginFrom lo bs
begin_by lo hi [] l = tt
begin_by lo hi (b ∷ bs) l = (l.0, begin_by lo hi bs l.3)

-- Tables.

table_bounds : (f : Layout) (lo hi : ℕ) (q : Position) → table_lies_in f lo hi q ≡ true → (lo ≤ q.base) × (end_of_table f q ≤ hi)
table_bounds f lo hi q e = let h = and_parts (nat_le lo q.base) _ e in (leb-true lo q.base h.0, leb-true (end_of_table f q) hi h.1)

meet_bounds : (f : Layout) (lo hi : ℕ) (q : Position) → table_meets f lo hi q ≡ true → (q.base < hi) × (lo < end_of_table f q)
meet_bounds f lo hi q e = let h = and_parts (nat_lt q.base hi) _ e in (ltb-true q.base hi h.0, ltb-true lo (end_of_table f q) h.1)

meets_by : (f : Layout) (lo hi : ℕ) (q : Position) → q.base < hi → lo < end_of_table f q → table_meets f lo hi q ≡ true
meets_by f lo hi q a z = and_from (nat_lt q.base hi) _ (lt-ltb q.base hi a) (lt-ltb lo (end_of_table f q) z)

-- a table that lies in pages meets them
lying_meets : (f : Layout) (lo hi : ℕ) (q : Position) → table_lies_in f lo hi q ≡ true → table_meets f lo hi q ≡ true
lying_meets f lo hi q e =
    let h = table_bounds f lo hi q e in
    let a = h.0 in let z = h.1 in
    let some = pow_pos (f.index * (q.level + 1)) in
    meets_by f lo hi q (omega arith) (omega arith)

-- a table that meets pages doesn't lie behind them, nor before them
not_behind : (f : Layout) (lo at hi : ℕ) (q : Position) → table_meets f lo at q ≡ true → table_lies_in f at hi q ≡ false
not_behind f lo at hi q m = false_from_ne_true (table_lies_in f at hi q) (λ e. let h = table_bounds f at hi q e in let k = meet_bounds f lo at q m in let x = h.0 in let y = k.0 in absurd (omega arith))

-- a table that meets the whole meets one of the parts
meets_one : (f : Layout) (lo at hi : ℕ) (q : Position) → table_meets f lo hi q ≡ true → (table_meets f lo at q ≡ true) ⊎ (table_meets f at hi q ≡ true)
meets_one f lo at hi q m =
    let k = meet_bounds f lo hi q m in
    elim (cases_lt q.base at) [
      | inl before ↦ inl (meets_by f lo at q before k.1)
      | inr behind ↦ inr (meets_by f at hi q k.0 (omega (arith, pow_pos (f.index * (q.level + 1)))))
    ]

-- The place of a member, and what holds of all of a list.
member_at : (ps : List Position) (p : Position) → IsAmong ps p → (k : ℕ) × (k < length ps) × (slice_index_or ps k p ≡ p)
member_at [] p k = absurd (among_none p k)
member_at (q ∷ qs) p k = elim (among_cases p q qs k) [
  | inl e ↦ (0, omega arith, sym e)
  | inr later ↦ (let h : (k : ℕ) × (k < length qs) × (slice_index_or qs k p ≡ p) = member_at qs p later in (suc h.0, (let s = h.1 in omega arith), h.2))
]

all_member : (P : Position → Type 0) (ps : List Position) → All P ps → (q : Position) → IsAmong ps q → P q
all_member P ps all q k = let h = member_at ps q k in subst P h.2 (all h.0 q h.1)

sorted_tables : (ps : List Position) → AllPairs (λ p q. IsTrue (is_before p q)) ps → IsSorted ps
sorted_tables [] pairs = tt
sorted_tables (q ∷ qs) pairs = (
  λ p k.
      let h : (k : ℕ) × (k < length qs) × (slice_index_or qs k p ≡ p) = member_at qs p k in
      let less = h.1 in
      subst (λ (r : Position). IsTrue (is_before q r)) h.2 (pairs 0 (suc h.0) p (omega arith) (omega arith)),
  sorted_tables qs (λ i j d a z. pairs (suc i) (suc j) d (omega arith) (omega arith)),
)

same_book : (a a' c c' t t' : ℕ) (bs bs' : List Block) (ps ps' : List Position) → a ≡ a' → c ≡ c' → t ≡ t' → bs ≡ bs' → ps ≡ ps' →
    (let x : Book = record { first = a; count = c; blocks = bs; tables = ps; top = t } in x)
    ≡ record { first = a'; count = c'; blocks = bs'; tables = ps'; top = t' }
same_book a a' c c' t t' bs bs' ps ps' ea ec et eb ep = cc

in_fork : (fs os : List Opened) (o : Opened) → is_in_fork (fs ++ (o ∷ os)) ≡ true
in_fork [] os o = refl
in_fork (f ∷ fs) os o = refl

lacking_alike : (m : Machine) (by : Decided) (lines : ℕ → Bool) → DecidesByLines by lines → (w p : State) → is_in_fork w.forks ≡ true → (line : ℕ) (what : What) →
    is_lacking m by w line what ≡ is_lacking m (ByLines lines) p line what
lacking_alike m _ _ (in_forks lines) w p e line (Map va pa len prot) = rw e refl
lacking_alike m _ _ (by_lines lines) w p e line (Map va pa len prot) = refl
lacking_alike m by lines d w p e line (Unmap va len) = refl
lacking_alike m by lines d w p e line (Lookup va) = refl
lacking_alike m by lines d w p e line Dump = refl
lacking_alike m by lines d w p e line Release = refl
lacking_alike m by lines d w p e line (Fork at) = refl
lacking_alike m by lines d w p e line With = refl
lacking_alike m by lines d w p e line End = refl

module _ (m : Machine) (by : Decided) (lines : ℕ → Bool) (b : Book) (forks : List Opened) (at : ℕ) (left right : List Command) (decides : DecidesByLines by lines)
    (page : IsTrue (is_size m.layout 0)) (good : IsLawful m.layout m.levels b) (runs : is_running forks ≡ true) (admitted : cut_refusal m.layout b at ≡ None)
    (closed_left : AreClosed 0 left) (closed_right : AreClosed 0 right) where
  abbrev f : Layout
  f = m.layout

  abbrev cut : ℕ
  cut = page_under m.layout at

  abbrev last : ℕ
  last = span_end b

  abbrev outer : List Opened
  outer = Cut b.first cut last ∷ forks

  abbrev L : List Block
  L = filter (lies_in b.first cut) b.blocks

  abbrev R : List Block
  R = filter (lies_in cut last) b.blocks

  in_span : (b.first < cut) × (cut < last)
  in_span = cut_inside f b at admitted

  both : AreHalves b.first cut last b.blocks
  both = halves b.first cut last b.blocks (ordered b.blocks good.in_order) (inside b.first last b.blocks good.in_span) (cut_free f b at admitted)

  sorted_all : IsSorted b.tables
  sorted_all = sorted_tables b.tables good.tables_in_order

  all_meet : (q : Position) → IsAmong b.tables q → table_meets f b.first last q ≡ true
  all_meet q k = all_member (λ x. IsTrue (table_meets f b.first last x)) b.tables good.tables_meet q k

  test : (is_running forks && is_none (cut_refusal m.layout b at)) ≡ true
  test = ap (λ (r : Bool). r && is_none (cut_refusal m.layout b at)) runs ∙ ap is_none admitted

  left_is : in_left m b forks at ≡ record { book = spanning b b.first cut; forks = outer }
  left_is =
      ap (λ (t : Bool). if t then (let x : State = record { book = spanning b b.first cut; forks = outer } in x) else record { book = b; forks = Refused ∷ forks }) test

  -- The left branch.

  abbrev rest_left : Rest f b.first cut
  rest_left = record {
    front = [];
    back = R;
    tables = λ q. IsAmong b.tables q × (table_lies_in f b.first cut q ≡ false);
    top = b.top;
    front_ends = tt;
    back_begins = begin_by cut last R both.right_lie;
    tables_outside = λ q k. k.1;
    kept = λ q. IsAmong b.tables q × (table_meets f b.first cut q ≡ true) × (table_lies_in f b.first cut q ≡ false);
    kept_outside = λ q k. k.2;
  }

  left_members : (q : Position) → IsAmong b.tables q ↔ (IsAmong (filter (table_meets f b.first cut) b.tables) q ⊎ (IsAmong b.tables q × (table_lies_in f b.first cut q ≡ false)))
  left_members q = (
    λ k. elim (cases_Bool (table_lies_in f b.first cut q)) [
      | inl e ↦ inl (among_passes (table_meets f b.first cut) b.tables q k (lying_meets f b.first cut q e))
      | inr e ↦ inr (k, e)
    ],
    λ k. elim k [ inl here ↦ (among_filtered (table_meets f b.first cut) b.tables q here).0 | inr other ↦ other.0 ],
  )

  left_beside : IsBeside f b.first cut rest_left (spanning b b.first cut) (left_part m b at).book
  left_beside = record {
    tables = b.tables;
    top = b.top;
    is = ap (λ (bs : List Block). record (spanning b b.first cut) { blocks = bs }) both.parted;
    members = left_members;
    sorted = sorted_all;
    sorted_part = sorted_filter (table_meets f b.first cut) b.tables sorted_all;
    top_is = omega arith;
    low = omega arith;
    high = let x = in_span.0 in omega arith;
    lie = both.left_lie;
    meet = λ q k. (among_filtered (table_meets f b.first cut) b.tables q k).1;
    stay = λ q k. among_passes (table_meets f b.first cut) b.tables q k.0 k.1;
  }

  start_left : Follows f b.first cut rest_left outer (in_left m b forks at) (left_part m b at)
  start_left =
      subst (λ (s : State). Follows f b.first cut rest_left outer s (left_part m b at)) (sym left_is) (record { books = left_beside; forks = refl; inside = tt })

  agree_left : (w p : State) → Follows f b.first cut rest_left outer w p → (line : ℕ) (what : What) → is_lacking m by w line what ≡ is_lacking m (ByLines lines) p line what
  agree_left w p h line what = lacking_alike m by lines decides w p (ap is_in_fork h.forks ∙ in_fork p.forks forks (Cut b.first cut last)) line what

  all_left : AllAlike m page b.first cut rest_left outer runs by (ByLines lines) agree_left (in_left m b forks at) (left_part m b at) left
  all_left = all_alike m page b.first cut rest_left outer runs by (ByLines lines) agree_left left (in_left m b forks at) (left_part m b at) start_left closed_left

  abbrev wl : State
  wl = left_done m by b forks at left

  abbrev pl : State
  pl = state_after m (ByLines lines) (left_part m b at) left

  beside_left : IsBeside f b.first cut rest_left wl.book pl.book
  beside_left = all_left.after.books

  forks_left : wl.forks ≡ outer
  forks_left = all_left.after.forks ∙ ap (λ (fs : List Opened). fs ++ outer) all_left.closed

  -- The right branch.

  abbrev rest_right : Rest f cut last
  rest_right = record {
    front = pl.book.blocks;
    back = [];
    tables = λ q. IsAmong beside_left.tables q × (table_lies_in f cut last q ≡ false);
    top = pl.book.top;
    front_ends = end_by b.first cut pl.book.blocks beside_left.lie;
    back_begins = tt;
    tables_outside = λ q k. k.1;
    kept = λ q. IsAmong b.tables q × (table_meets f cut last q ≡ true) × (table_lies_in f cut last q ≡ false);
    kept_outside = λ q k. k.2;
  }

  right_is : in_right m by b forks at left ≡ record { book = spanning wl.book cut last; forks = outer }
  right_is = ap (λ (fs : List Opened). at_with wl.book fs) forks_left

  not_before : (q : Position) → table_meets f cut last q ≡ true → table_lies_in f b.first cut q ≡ false
  not_before q k =
      false_from_ne_true (table_lies_in f b.first cut q) (λ e.
      let h = table_bounds f b.first cut q e in let i = meet_bounds f cut last q k in let x = h.1 in let y = i.1 in absurd (omega arith))

  right_members : (q : Position) → IsAmong beside_left.tables q ↔ (IsAmong (filter (table_meets f cut last) b.tables) q ⊎ (IsAmong beside_left.tables q × (table_lies_in f cut last q ≡ false)))
  right_members q = (
    λ k. elim (cases_Bool (table_lies_in f cut last q)) [
      | inl e ↦ elim ((beside_left.members q).0 k) [
        | inl here ↦ absurd (true≢false (sym e ∙ not_behind f b.first cut last q (beside_left.meet q here)))
        | inr other ↦ inl (among_passes (table_meets f cut last) b.tables q other.0 (lying_meets f cut last q e))
      ]
      | inr e ↦ inr (k, e)
    ],
    λ k. elim k [
      | inl here ↦
          let h = among_filtered (table_meets f cut last) b.tables q here in
          (beside_left.members q).1 (inr (h.0, not_before q h.1))
      | inr other ↦ other.0
    ],
  )

  right_beside : IsBeside f cut last rest_right (spanning wl.book cut last) (right_part m b at).book
  right_beside = record {
    tables = beside_left.tables;
    top = beside_left.top;
    is = ap (λ (x : Book). spanning x cut last) beside_left.is
        ∙ ap (λ (bs : List Block). (let x : Book = record { first = cut; count = last - cut; blocks = pl.book.blocks ++ bs; tables = beside_left.tables; top = beside_left.top } in x)) (sym (append-nil R));
    members = right_members;
    sorted = beside_left.sorted;
    sorted_part = sorted_filter (table_meets f cut last) b.tables sorted_all;
    top_is = let e = beside_left.top_is in omega arith;
    low = omega arith;
    high = let x = in_span.1 in omega arith;
    lie = both.right_lie;
    meet = λ q k. (among_filtered (table_meets f cut last) b.tables q k).1;
    stay = λ q k. among_passes (table_meets f cut last) b.tables q k.0 k.1;
  }

  start_right : Follows f cut last rest_right outer (in_right m by b forks at left) (right_part m b at)
  start_right =
      subst (λ (s : State). Follows f cut last rest_right outer s (right_part m b at)) (sym right_is) (record { books = right_beside; forks = refl; inside = tt })

  agree_right : (w p : State) → Follows f cut last rest_right outer w p → (line : ℕ) (what : What) → is_lacking m by w line what ≡ is_lacking m (ByLines lines) p line what
  agree_right w p h line what = lacking_alike m by lines decides w p (ap is_in_fork h.forks ∙ in_fork p.forks forks (Cut b.first cut last)) line what

  all_right_side : AllAlike m page cut last rest_right outer runs by (ByLines lines) agree_right (in_right m by b forks at left) (right_part m b at) right
  all_right_side = all_alike m page cut last rest_right outer runs by (ByLines lines) agree_right right (in_right m by b forks at left) (right_part m b at) start_right closed_right

  abbrev wr : State
  wr = right_done m by b forks at left right

  abbrev pr : State
  pr = state_after m (ByLines lines) (right_part m b at) right

  beside_right : IsBeside f cut last rest_right wr.book pr.book
  beside_right = all_right_side.after.books

  forks_right : wr.forks ≡ outer
  forks_right = all_right_side.after.forks ∙ ap (λ (fs : List Opened). fs ++ outer) all_right_side.closed

  -- Both joined.

  home_left : (pl.book.first ≡ b.first) × (span_end pl.book ≡ b.first + (cut - b.first))
  home_left =
      let e : home pl.book.first (span_end pl.book) [] ≡ (b.first, b.first + (cut - b.first)) = ap (home pl.book.first (span_end pl.book)) (sym all_left.closed) ∙ all_left.home in
      (ap (λ (x : ℕ × ℕ). x.0) e, ap (λ (x : ℕ × ℕ). x.1) e)

  home_right : (pr.book.first ≡ cut) × (span_end pr.book ≡ cut + (last - cut))
  home_right =
      let e : home pr.book.first (span_end pr.book) [] ≡ (cut, cut + (last - cut)) = ap (home pr.book.first (span_end pr.book)) (sym all_right_side.closed) ∙ all_right_side.home in
      (ap (λ (x : ℕ × ℕ). x.0) e, ap (λ (x : ℕ × ℕ). x.1) e)

  joined_tables : beside_right.tables ≡ add_positions pl.book.tables pr.book.tables
  joined_tables =
      adds_by_members pl.book.tables pr.book.tables beside_right.tables beside_left.sorted_part beside_right.sorted
      (λ q. (
        λ k. elim ((beside_right.members q).0 k) [
          | inl here ↦ inr here
          | inr other ↦ elim ((beside_left.members q).0 other.0) [
            | inl there ↦ inl there
            | inr old ↦ elim (meets_one f b.first cut last q (all_meet q old.0)) [
              | inl low ↦ inl (beside_left.stay q (old.0, low, old.1))
              | inr high ↦ inr (beside_right.stay q (old.0, high, other.1))
            ]
          ]
        ],
        λ k. elim k [
          | inl here ↦ (beside_right.members q).1 (inr ((beside_left.members q).1 (inl here), not_behind f b.first cut last q (beside_left.meet q here)))
          | inr there ↦ (beside_right.members q).1 (inl there)
        ],
      ))

  ends : at_end wr.book wr.forks ≡ record { book = joined pl.book pr.book; forks = forks }
  ends =
      let home_l = home_left in let home_r = home_right in let a = home_l.0 in let a' = home_l.1 in let c = home_r.0 in let c' = home_r.1 in
      let i = in_span.0 in let j = in_span.1 in
      ap (λ (fs : List Opened). at_end wr.book fs) forks_right
      ∙ ap (λ (x : Book). (let s : State = record { book = spanning x b.first last; forks = forks } in s)) beside_right.is
      ∙ ap (λ (x : Book). (let s : State = record { book = x; forks = forks } in s))
      (same_book b.first pl.book.first (last - b.first) (pl.book.count + pr.book.count) beside_right.top (max pl.book.top pr.book.top)
      (pl.book.blocks ++ (pr.book.blocks ++ [])) (pl.book.blocks ++ pr.book.blocks) beside_right.tables (add_positions pl.book.tables pr.book.tables)
      (sym a) (omega arith) beside_right.top_is (ap (λ (bs : List Block). pl.book.blocks ++ bs) (append-nil pr.book.blocks)) joined_tables)

  together : ComeTogether m by lines b forks at left right
  together = record { left_replies = all_left.replies; right_replies = all_right_side.replies; book = ends }

pub branches_come_together : BranchesComeTogether
branches_come_together m by lines b forks at left right decides page good runs admitted cl cr = together m by lines b forks at left right decides page good runs admitted cl cr
