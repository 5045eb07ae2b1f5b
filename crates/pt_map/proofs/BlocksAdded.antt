-- The pieces of blocks put among the pieces of a book are those of the blocks put among its blocks.
use Rattle.pt_view.proofs.Members.{all_pieces_append, piece_at}
use Rattle.std.proofs.Common.{◌≡◌, ℕ, zero, suc, ◌+◌, ◌-◌, ◌*◌, ◌^◌, ◌<◌, ◌≤◌, ◌⊎◌, List, [], ◌∷◌, ◌++◌, Bool, true, false, inl, inr, refl, ap, sym, subst, ◌∙◌, arith, append_assoc}
use Rattle.std.specs.Prelude.{map, filter, not, nat_lt, nat_le, AllPairs, length, slice_index_or}
use Rattle.std.specs.List.{range_with_len}
use Rattle.std.proofs.lemmas.Bool.{lt-ltb, le-ltb, le-leb, lt-leb}
use Rattle.std.proofs.lemmas.List.{append-nil}
use Rattle.std.proofs.lemmas.Nat.{mul-le, pow-add, pow_pos}
use Rattle.pt_model.specs.declared.block.Block.{Block}
use Rattle.pt_model.specs.declared.block.Prot.{Prot}
use Rattle.pt_model.specs.Layout.{Layout, end_of, level_of_size, pages_of_entry}
use Rattle.pt_model.specs.Book.{add_blocks}
use Rattle.pt_model.specs.Tiling.{IsTiling}
use Rattle.pt_format.specs.Laws.{IsLayout}
use Rattle.pt_view.specs.declared.view.Piece.{Piece}
use Rattle.pt_view.specs.Pieces.{add_piece, add_pieces, all_pieces, first_of, pieces_of, words_of}
use Rattle.pt_model.proofs.Quotients.{size_split}
use Rattle.pt_tile.proofs.Levels.{after}
use Rattle.pt_tile.specs.Extents.{from}

-- Pieces by their first pages: each at most at a page, each from a page on, each before a page, and rising from one.

abbrev Each : Layout → (ℕ → Type 0) → List Piece → Type 0
Each f P [] = Unit {0}
Each f P (x ∷ xs) = P (first_of f x) × Each f P xs

abbrev UpTo : Layout → ℕ → List Piece → Type 0
UpTo f n xs = Each f (λ k. k ≤ n) xs

abbrev From : Layout → ℕ → List Piece → Type 0
From f n xs = Each f (λ k. n ≤ k) xs

abbrev Under : Layout → ℕ → List Piece → Type 0
Under f n xs = Each f (λ k. k < n) xs

abbrev Rising : Layout → ℕ → List Piece → Type 0
Rising f n [] = Unit {0}
Rising f n (x ∷ xs) = (n ≤ first_of f x) × Rising f (first_of f x) xs

each_more : (f : Layout) (P Q : ℕ → Type 0) (xs : List Piece) → ((k : ℕ) → P k → Q k) → Each f P xs → Each f Q xs
each_more f P Q [] more h = tt
each_more f P Q (x ∷ xs) more h = (more (first_of f x) h.0, each_more f P Q xs more h.1)

each_append : (f : Layout) (P : ℕ → Type 0) (xs ys : List Piece) → Each f P xs → Each f P ys → Each f P (xs ++ ys)
each_append f P [] ys a b = b
each_append f P (x ∷ xs) ys a b = (a.0, each_append f P xs ys a.1 b)

under_up_to : (f : Layout) (n : ℕ) (xs : List Piece) → Under f n xs → UpTo f n xs
under_up_to f n xs h = each_more f (λ k. k < n) (λ k. k ≤ n) xs (λ k less. omega arith) h

rising_lower : (f : Layout) (m n : ℕ) (xs : List Piece) → m ≤ n → Rising f n xs → Rising f m xs
rising_lower f m n [] le h = tt
rising_lower f m n (x ∷ xs) le h = (let a = h.0 in omega arith, h.1)

rising_from : (f : Layout) (n : ℕ) (xs : List Piece) → Rising f n xs → From f n xs
rising_from f n [] h = tt
rising_from f n (x ∷ xs) h = (h.0, rising_from f n xs (rising_lower f n (first_of f x) xs h.0 h.1))

-- a list that rises to a page, and one that rises from there
rising_append : (f : Layout) (n m : ℕ) (xs ys : List Piece) → n ≤ m → Rising f n xs → UpTo f m xs → Rising f m ys → Rising f n (xs ++ ys)
rising_append f n m [] ys le a up b = rising_lower f n m ys le b
rising_append f n m (x ∷ xs) ys le a up b = (a.0, rising_append f (first_of f x) m xs ys up.0 a.1 up.1 b)

-- A rising list put between the pieces before it and those behind it.

put_between : (f : Layout) (hi : ℕ) (xs ys : List Piece) (z : Piece) → UpTo f (first_of f z) xs → From f hi ys → first_of f z < hi →
    add_piece f (xs ++ ys) z ≡ xs ++ (z ∷ ys)
put_between f hi [] [] z before after less = refl
put_between f hi [] (y ∷ ys) z before after less =
    let later : nat_le (first_of f y) (first_of f z) ≡ false = lt-leb (first_of f y) (first_of f z) (let a = after.0 in omega arith) in rw later refl
put_between f hi (x ∷ xs) ys z before after less =
    let earlier : nat_le (first_of f x) (first_of f z) ≡ true = le-leb (first_of f x) (first_of f z) before.0 in
    rw earlier (ap (λ (zs : List Piece). x ∷ zs) (put_between f hi xs ys z before.1 after less))

puts_between : (f : Layout) (lo hi : ℕ) (zs xs ys : List Piece) → UpTo f lo xs → From f hi ys → Rising f lo zs → Under f hi zs →
    add_pieces f (xs ++ ys) zs ≡ xs ++ (zs ++ ys)
puts_between f lo hi [] xs ys before after rising under = refl
puts_between f lo hi (z ∷ zs) xs ys before after rising under =
    let up : UpTo f (first_of f z) xs = each_more f (λ k. k ≤ lo) (λ k. k ≤ first_of f z) xs (λ k less. let from = rising.0 in omega arith) before in
    let here : add_piece f (xs ++ ys) z ≡ (xs ++ z ∷ []) ++ ys = put_between f hi xs ys z up after under.0 ∙ sym (append_assoc xs (z ∷ []) ys) in
    let wider : UpTo f (first_of f z) (xs ++ z ∷ []) = each_append f (λ k. k ≤ first_of f z) xs (z ∷ []) up (omega arith, tt) in
    ap (λ (ps : List Piece). add_pieces f ps zs) here
    ∙ puts_between f (first_of f z) hi zs (xs ++ z ∷ []) ys wider after rising.1 under.1
    ∙ append_assoc xs (z ∷ []) (zs ++ ys)

-- The pieces of a block, and those of a tiling.

abbrev some_pieces : Block → (low n : ℕ) → List Piece
some_pieces b low n = map (piece_at b) (range_with_len low n)

next_piece : (f : Layout) (b : Block) (k : ℕ) → first_of f (piece_at b k) ≤ first_of f (piece_at b (k + 1))
next_piece f b k = omega (arith, mul-le k (pages_of_entry f (level_of_size f b.log2)) (k + 1) (pages_of_entry f (level_of_size f b.log2)) (omega arith) (omega arith))

run_rises : (f : Layout) (b : Block) (n low m : ℕ) → m ≤ first_of f (piece_at b low) → Rising f m (some_pieces b low n)
run_rises f b zero low m h = tt
run_rises f b (suc n) low m h = (h, run_rises f b n (low + 1) (first_of f (piece_at b low)) (next_piece f b low))

run_under : (f : Layout) (b : Block) (n low m : ℕ) → b.first + (low + n) * pages_of_entry f (level_of_size f b.log2) ≤ m → Under f m (some_pieces b low n)
run_under f b zero low m h = tt
run_under f b (suc n) low m h =
    let e : ℕ = pages_of_entry f (level_of_size f b.log2) in
    let le = mul-le (low + 1) e (low + suc n) e (omega arith) (omega arith) in
    let one : (low + 1) * e ≡ low * e + e = omega arith in
    let less : b.first + low * e < m = omega (arith, le, one, h, some e (f.index * level_of_size f b.log2) refl) in
    let same : low + 1 + n ≡ low + suc n = omega arith in
    (less, run_under f b n (low + 1) m (subst (λ (k : ℕ). b.first + k * e ≤ m) (sym same) h))
  where
    some : (e k : ℕ) → e ≡ 2 ^ k → 0 < e
    some e k same = omega (arith, pow_pos k, same)

module _ {f : Layout} (good : IsLayout f) (b : Block) where
  block_pages : 2 ^ b.log2 ≡ words_of f b * pages_of_entry f (level_of_size f b.log2)
  block_pages =
      let bits : ℕ = f.index * level_of_size f b.log2 in
      ap (λ k. 2 ^ k) (size_split f.index b.log2 (omega (arith, good.index_is, good.granule_low))) ∙ pow-add 2 (b.log2 - bits) bits

  pieces_rise : (m : ℕ) → m ≤ b.first → Rising f m (pieces_of f b)
  pieces_rise m h = run_rises f b (words_of f b) 0 m (omega arith)

  pieces_under : (m : ℕ) → end_of b ≤ m → Under f m (pieces_of f b)
  pieces_under m h =
      let n : ℕ = words_of f b in
      let e : ℕ = pages_of_entry f (level_of_size f b.log2) in
      let same : (0 + n) * e ≡ n * e = omega arith in
      run_under f b (words_of f b) 0 m (omega (arith, block_pages, same))

tiles_rise : (f : Layout) → IsLayout f → (prot : Prot) (s out left : ℕ) (bs : List Block) → IsTiling f prot s out left bs → Rising f s (all_pieces f bs)
tiles_rise f good prot s out left [] t = tt
tiles_rise f good prot s out left (b ∷ bs) t =
    let first : b.first ≡ s = ap (λ (c : Block). c.first) t.0 in
    let whole = under_up_to f (s + 2 ^ b.log2) (pieces_of f b) (pieces_under good b (s + 2 ^ b.log2) (omega arith)) in
    rising_append f s (s + 2 ^ b.log2) (pieces_of f b) (all_pieces f bs) (omega arith) (pieces_rise good b s (omega arith)) whole
    (tiles_rise f good prot (s + 2 ^ b.log2) (out + 2 ^ b.log2) (left - 2 ^ b.log2) bs t.2)

tiles_under : (f : Layout) → IsLayout f → (prot : Prot) (s out left : ℕ) (bs : List Block) → IsTiling f prot s out left bs → Under f (s + left) (all_pieces f bs)
tiles_under f good prot s out left [] t = tt
tiles_under f good prot s out left (b ∷ bs) t =
    let first : b.first ≡ s = ap (λ (c : Block). c.first) t.0 in
    let fits = t.1.fits in
    let ends : s + 2 ^ b.log2 + (left - 2 ^ b.log2) ≡ s + left = omega arith in
    each_append f (λ k. k < s + left) (pieces_of f b) (all_pieces f bs) (pieces_under good b (s + left) (omega arith))
    (subst (λ (n : ℕ). Under f n (all_pieces f bs)) ends (tiles_under f good prot (s + 2 ^ b.log2) (out + 2 ^ b.log2) (left - 2 ^ b.log2) bs t.2))

-- Blocks by their first pages.

abbrev StartWithin : (lo hi : ℕ) → List Block → Type 0
StartWithin lo hi [] = Unit {0}
StartWithin lo hi (b ∷ bs) = (lo ≤ b.first) × (b.first < hi) × StartWithin lo hi bs

tiles_start : (f : Layout) (prot : Prot) (lo s out left : ℕ) (bs : List Block) → lo ≤ s → IsTiling f prot s out left bs → StartWithin lo (s + left) bs
tiles_start f prot lo s out left [] from t = tt
tiles_start f prot lo s out left (b ∷ bs) from t =
    let first : b.first ≡ s = ap (λ (c : Block). c.first) t.0 in
    let fits = t.1.fits in
    let ends : s + 2 ^ b.log2 + (left - 2 ^ b.log2) ≡ s + left = omega arith in (
      omega arith,
      omega (arith, pow_pos b.log2),
      subst (λ (n : ℕ). StartWithin lo n bs) ends (tiles_start f prot lo (s + 2 ^ b.log2) (out + 2 ^ b.log2) (left - 2 ^ b.log2) bs (omega arith) t.2),
    )

-- a test keeps all blocks, and keeps none
keeps_all : (t : Block → Bool) (lo hi : ℕ) (bs : List Block) → ((b : Block) → lo ≤ b.first → b.first < hi → t b ≡ true) → StartWithin lo hi bs → filter t bs ≡ bs
keeps_all t lo hi [] holds w = refl
keeps_all t lo hi (b ∷ bs) holds w = rw (holds b w.0 w.1) (ap (λ (cs : List Block). b ∷ cs) (keeps_all t lo hi bs holds w.2))

keeps_none : (t : Block → Bool) (lo hi : ℕ) (bs : List Block) → ((b : Block) → lo ≤ b.first → b.first < hi → t b ≡ false) → StartWithin lo hi bs → filter t bs ≡ []
keeps_none t lo hi [] fails w = refl
keeps_none t lo hi (b ∷ bs) fails w = rw (fails b w.0 w.1) (keeps_none t lo hi bs fails w.2)

adds_none : (bs : List Block) → add_blocks bs [] ≡ bs
adds_none [] = refl
adds_none (b ∷ bs) = ap (λ (cs : List Block). b ∷ cs) (adds_none bs)

-- Blocks in order, none of which meets a range.

abbrev pub InOrder : ℕ → List Block → Type 0
InOrder n [] = Unit {0}
InOrder n (b ∷ bs) = (n ≤ b.first) × InOrder (end_of b) bs

abbrev pub Apart : (lo hi : ℕ) → List Block → Type 0
Apart lo hi [] = Unit {0}
Apart lo hi (b ∷ bs) = ((end_of b ≤ lo) ⊎ (hi ≤ b.first)) × Apart lo hi bs

in_order_lower : (m n : ℕ) (bs : List Block) → m ≤ n → InOrder n bs → InOrder m bs
in_order_lower m n [] le h = tt
in_order_lower m n (b ∷ bs) le h = (let a = h.0 in omega arith, h.1)

-- all the pieces of blocks in order begin from a page on
module _ {f : Layout} (good : IsLayout f) where
  pieces_from : (n : ℕ) (bs : List Block) → InOrder n bs → From f n (all_pieces f bs)
  pieces_from n [] h = tt
  pieces_from n (b ∷ bs) h =
      let low = h.0 in
      each_append f (λ k. n ≤ k) (pieces_of f b) (all_pieces f bs) (rising_from f n (pieces_of f b) (pieces_rise good b n h.0))
      (pieces_from n bs (in_order_lower n (end_of b) bs (omega arith) h.1))

  adds_behind : (prot : Prot) (s out left n : ℕ) (new : List Block) → IsTiling f prot s out left new → (old : List Block) (before : List Piece) →
      InOrder n old → Apart s (s + left) old → UpTo f s before →
      add_pieces f (before ++ all_pieces f old) (all_pieces f new) ≡ before ++ all_pieces f (add_blocks old new)
  adds_behind prot s out left n new t [] before order apart up =
      puts_between f s (s + left) (all_pieces f new) before [] up tt (tiles_rise f good prot s out left new t) (tiles_under f good prot s out left new t)
      ∙ ap (λ (xs : List Piece). before ++ xs) (append-nil (all_pieces f new))
  adds_behind prot s out left n new t (b ∷ bs) before order apart up = elim apart.0 [
    | inl earlier ↦
        let starts = tiles_start f prot s s out left new (omega arith) t in
        let low : b.first ≤ s = omega arith in
        let blocks : add_blocks (b ∷ bs) new ≡ b ∷ add_blocks bs new =
        ap (λ (cs : List Block). cs ++ (b ∷ add_blocks bs (filter (λ (n : Block). not (nat_lt n.first b.first)) new))) (keeps_none (λ c. nat_lt c.first b.first) s (s + left) new (λ c from to. le-ltb c.first b.first (omega arith)) starts)
        ∙ ap (λ (cs : List Block). b ∷ add_blocks bs cs) (keeps_all (λ c. not (nat_lt c.first b.first)) s (s + left) new (λ c from to. ap not (le-ltb c.first b.first (omega arith))) starts) in
        let more : UpTo f s (before ++ pieces_of f b) =
        each_append f (λ k. k ≤ s) before (pieces_of f b) up (under_up_to f s (pieces_of f b) (pieces_under good b s earlier)) in
        ap (λ (xs : List Piece). add_pieces f xs (all_pieces f new)) (sym (append_assoc before (pieces_of f b) (all_pieces f bs)))
        ∙ adds_behind prot s out left (end_of b) new t bs (before ++ pieces_of f b) order.1 apart.1 more
        ∙ append_assoc before (pieces_of f b) (all_pieces f (add_blocks bs new))
        ∙ ap (λ (cs : List Block). before ++ all_pieces f cs) (sym blocks)
    | inr later ↦
        let starts = tiles_start f prot s s out left new (omega arith) t in
        let blocks : add_blocks (b ∷ bs) new ≡ new ++ (b ∷ bs) =
        ap (λ (cs : List Block). cs ++ (b ∷ add_blocks bs (filter (λ (n : Block). not (nat_lt n.first b.first)) new))) (keeps_all (λ c. nat_lt c.first b.first) s (s + left) new (λ c from to. lt-ltb c.first b.first (omega arith)) starts)
        ∙ ap (λ (cs : List Block). new ++ (b ∷ add_blocks bs cs)) (keeps_none (λ c. not (nat_lt c.first b.first)) s (s + left) new (λ c from to. ap not (lt-ltb c.first b.first (omega arith))) starts)
        ∙ ap (λ (cs : List Block). new ++ (b ∷ cs)) (adds_none bs) in
        puts_between f s (s + left) (all_pieces f new) before (all_pieces f (b ∷ bs)) up
        (pieces_from (s + left) (b ∷ bs) (later, order.1)) (tiles_rise f good prot s out left new t) (tiles_under f good prot s out left new t)
        ∙ ap (λ (xs : List Piece). before ++ xs) (sym (all_pieces_append f new (b ∷ bs)))
        ∙ ap (λ (cs : List Block). before ++ all_pieces f cs) (sym blocks)
  ]

  -- the pieces of a tiling put among those of blocks in order that have no page of its range
  pub adds_pieces : (prot : Prot) (s out left : ℕ) (new old : List Block) → IsTiling f prot s out left new → InOrder 0 old → Apart s (s + left) old →
      add_pieces f (all_pieces f old) (all_pieces f new) ≡ all_pieces f (add_blocks old new)
  adds_pieces prot s out left new old t order apart = adds_behind prot s out left 0 new t old [] order apart tt

-- blocks in order, as the book has it
pub in_order_from : (n : ℕ) (bs : List Block) → ((k : ℕ) (b : Block) → k < length bs → slice_index_or bs k b ≡ b → n ≤ b.first) →
    AllPairs (λ (b c : Block). end_of b ≤ c.first) bs → InOrder n bs
in_order_from n [] low pairs = tt
in_order_from n (b ∷ bs) low pairs = (
  low 0 b (omega arith) refl,
  in_order_from (end_of b) bs (λ k c less e. subst (λ (d : Block). end_of b ≤ d.first) e (pairs 0 (suc k) c (omega arith) (omega arith)))
      (λ i j d a z. pairs (suc i) (suc j) d (omega arith) (omega arith)),
)
