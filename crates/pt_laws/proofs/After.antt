-- A book beside others goes on beside them.
use Rattle.std.proofs.Common.{◌≡◌, ℕ, ◌+◌, ◌*◌, ◌/◌, ◌^◌, ◌<◌, ◌≤◌, List, [], ◌∷◌, Bool, true, false, ◌⊎◌, inl, inr, refl, ap, sym, subst, ◌∙◌, arith}
use Rattle.std.specs.Prelude.{IsTrue, filter, not, nat_le, nat_lt, max, ◌↔◌, fold, map}
use Rattle.std.specs.List.{list_any}
use Rattle.std.proofs.lemmas.Bool.{leb-true, le-leb, lt-ltb, and_parts, and_from, false≢true, true≢false, false_from_ne_true, not_from_false, not-true}
use Rattle.std.proofs.lemmas.Nat.{pow_pos, shr_split, mod_below}
use Rattle.pt_model.specs.declared.block.Block.{Block}
use Rattle.pt_model.specs.declared.block.Prot.{Prot}
use Rattle.pt_model.specs.declared.position.Position.{Position}
use Rattle.pt_model.specs.Layout.{Layout, end_of, is_size, level_of_size, pages_of_table}
use Rattle.pt_model.specs.Sets.{IsAmong}
use Rattle.pt_model.specs.Tiling.{tiling}
use Rattle.pt_model.specs.Tables.{add_positions, all_needed, end_of_table, is_spine, least_top, levels_between, needed, position_over, spine_position, starting_top}
use Rattle.pt_model.specs.Book.{Book, span_end, lies_in, mapped, table_lies_in, table_meets}
use Rattle.pt_model.proofs.Positions.{among_none, adds_are, among_append, among_filtered, among_levels, among_passes, sorted_adds, sorted_filter}
use Rattle.pt_model.specs.Unmap.{unmapped}
use Rattle.pt_model.specs.Cuts.{spanning}
use Rattle.pt_laws.specs.Apart.{LieIn, Rest, lifted, IsBeside}
use Rattle.pt_laws.proofs.Sizes.{AnyOf}
use Rattle.pt_laws.proofs.Between.{lie_wider, lie_put, lie_filter, fails_between, lies_apart, put_between, tiles_lie, lies_between}

max_assoc : (a b c : ℕ) → max (max a b) c ≡ max a (max b c)
max_assoc a b c = omega arith

-- Positions that are kept by a test and added to.
module _ (t : Position → Bool) (more : List Position) (Q : Position → Type 0) (keeps : (p : Position) → Q p → t p ≡ true) (ws ps : List Position) (same : (p : Position) → IsAmong ws p ↔ (IsAmong ps p ⊎ Q p)) where
  kept : (p : Position) → IsAmong (filter t ws) p ↔ (IsAmong (filter t ps) p ⊎ Q p)
  kept p = (
    λ m.
        let h = among_filtered t ws p m in
        elim ((same p).0 h.0) [ inl here ↦ inl (among_passes t ps p here h.1) | inr other ↦ inr other ],
    λ m. elim m [
      | inl here ↦ let h = among_filtered t ps p here in among_passes t ws p ((same p).1 (inl h.0)) h.1
      | inr other ↦ among_passes t ws p ((same p).1 (inr other)) (keeps p other)
    ],
  )

  changed : (p : Position) → IsAmong (add_positions (filter t ws) more) p ↔ (IsAmong (add_positions (filter t ps) more) p ⊎ Q p)
  changed p = (
    λ m. elim ((adds_are more (filter t ws) p).0 m) [
      | inl old ↦ elim ((kept p).0 old) [ inl here ↦ inl ((adds_are more (filter t ps) p).1 (inl here)) | inr other ↦ inr other ]
      | inr new ↦ inl ((adds_are more (filter t ps) p).1 (inr new))
    ],
    λ m. elim m [
      | inl here ↦ elim ((adds_are more (filter t ps) p).0 here) [
        | inl old ↦ (adds_are more (filter t ws) p).1 (inl ((kept p).1 (inl old)))
        | inr new ↦ (adds_are more (filter t ws) p).1 (inr new)
      ]
      | inr other ↦ (adds_are more (filter t ws) p).1 (inl ((kept p).1 (inr other)))
    ],
  )

-- A table that a block inside needs, and that isn't of the spine, meets the span.

fold_member : (f : Layout) (l : ℕ) (bs : List Block) (ps : List Position) (q : Position) →
    IsAmong (fold (λ xs b. add_positions xs (needed f l b)) ps bs) q → IsAmong ps q ⊎ AnyOf f l bs q
fold_member f l [] ps q m = inl m
fold_member f l (b ∷ bs) ps q m = elim (fold_member f l bs (add_positions ps (needed f l b)) q m) [
  | inl old ↦ elim ((adds_are (needed f l b) ps q).0 old) [ inl here ↦ inl here | inr new ↦ inr (inl new) ]
  | inr later ↦ inr (inr later)
]

over_meets : (f : Layout) (lo hi page level : ℕ) (q : Position) → lo ≤ page → page < hi → position_over f page level ≡ q → table_meets f lo hi q ≡ true
over_meets f lo hi page level q a z e =
    let size : ℕ = 2 ^ (f.index * (level + 1)) in
    let split = shr_split page (f.index * (level + 1)) in
    let within = mod_below page (2 ^ (f.index * (level + 1))) (pow_pos (f.index * (level + 1))) in
    subst (λ (r : Position). table_meets f lo hi r ≡ true) e
    (and_from (nat_lt (page / pages_of_table f level * pages_of_table f level) hi) _
    (lt-ltb (page / pages_of_table f level * pages_of_table f level) hi (omega arith))
    (lt-ltb lo (page / pages_of_table f level * pages_of_table f level + pages_of_table f level) (omega arith)))

any_meets : (f : Layout) (l lo hi : ℕ) (bs : List Block) (q : Position) → LieIn lo hi bs → AnyOf f l bs q → is_spine l q ≡ false → table_meets f lo hi q ≡ true
any_meets f l lo hi [] q lie m off = absurd m
any_meets f l lo hi (b ∷ bs) q lie m off = elim m [
  | inr later ↦ any_meets f l lo hi bs q lie.3 later off
  | inl here ↦ elim (among_append q
      (map (position_over f b.first) (levels_between (level_of_size f b.log2) (least_top f l (end_of b))))
      (map spine_position (levels_between (starting_top l) (least_top f l (end_of b)))) here) [
        | inl over ↦ (let h = among_levels (position_over f b.first) _ _ q over in over_meets f lo hi b.first h.0 q lie.0 lie.1 (sym h.3))
        | inr spine ↦
            let h = among_levels spine_position _ (starting_top l) q spine in
            let is : is_spine l q ≡ true = subst (λ (r : Position). is_spine l r ≡ true) (sym h.3)
            (and_from (nat_le (starting_top l) h.0) true (le-leb (starting_top l) h.0 h.1) refl) in
            absurd (true≢false (sym is ∙ off))
      ]
]

needed_meets : (f : Layout) (l lo hi : ℕ) (bs : List Block) (q : Position) → LieIn lo hi bs → IsAmong (all_needed f l bs) q → is_spine l q ≡ false → table_meets f lo hi q ≡ true
needed_meets f l lo hi bs q lie m off = elim (fold_member f l bs [] q m) [ inl none ↦ absurd (among_none q none) | inr any ↦ any_meets f l lo hi bs q lie any off ]

module _ (f : Layout) (lo hi : ℕ) (rest : Rest f lo hi) (w p : Book) (b : IsBeside f lo hi rest w p) where
  -- a map of pages inside the span
  pub mapped_beside : (levels first count out : ℕ) (prot : Prot) → IsTrue (is_size f 0) → p.first ≤ first → first + count ≤ span_end p →
      IsBeside f lo hi rest (mapped f levels w first count out prot) (mapped f levels p first count out prot)
  mapped_beside levels first count out prot page from to =
      let new : List Block = tiling f prot first out count in
      let narrow : LieIn first (first + count) (tiling f prot first out count) = tiles_lie f prot count first out count (first + count) page refl in
      let low = b.low in let high = b.high in
      let lie : LieIn lo hi (tiling f prot first out count) = lie_wider first (first + count) lo hi (tiling f prot first out count) (omega arith) (omega arith) narrow in
      let off : Position → Bool = λ q. not (list_any (λ (c : Block). table_lies_in f c.first (end_of c) q) (tiling f prot first out count)) in
      let more : List Position = filter (λ q. not (is_spine levels q)) (all_needed f levels (tiling f prot first out count)) in
      let passes : (q : Position) → table_lies_in f lo hi q ≡ false → off q ≡ true =
      λ q k. not_from_false _ (false_from_ne_true _ (λ e. false≢true (sym k ∙ lies_between f lo hi (tiling f prot first out count) q lie e))) in
      let keeps : (q : Position) → rest.tables q → off q ≡ true = λ q k. passes q (rest.tables_outside q k) in
      let t : ℕ = least_top f levels (first + count) in
      record {
        tables = add_positions (filter off b.tables) more;
        top = max b.top t;
        is = ap (λ (x : Book). mapped f levels x first count out prot) b.is
            ∙ ap (λ (bs : List Block). record (lifted rest.front rest.back (add_positions (filter off b.tables) more) (max b.top t) p) { blocks = bs })
            (put_between lo hi new rest.front p.blocks rest.back lie rest.front_ends rest.back_begins);
        members = changed off more rest.tables keeps b.tables p.tables b.members;
        sorted = sorted_adds more (filter off b.tables) (sorted_filter off b.tables b.sorted);
        sorted_part = sorted_adds more (filter off p.tables) (sorted_filter off p.tables b.sorted_part);
        top_is = ap (λ (n : ℕ). max n t) b.top_is ∙ max_assoc rest.top p.top t;
        low = b.low;
        high = b.high;
        lie = lie_put lo hi p.blocks (tiling f prot first out count) b.lie lie;
        meet = λ q k. elim ((adds_are more (filter off p.tables) q).0 k) [
          | inl old ↦ b.meet q (among_filtered off p.tables q old).0
          | inr added ↦
              let h = among_filtered (λ x. not (is_spine levels x)) (all_needed f levels (tiling f prot first out count)) q added in
              needed_meets f levels lo hi (tiling f prot first out count) q lie h.0 (not-true (is_spine levels q) h.1)
        ];
        stay = λ q k. (adds_are more (filter off p.tables) q).1 (inl (among_passes off p.tables q (b.stay q k) (passes q (rest.kept_outside q k))));
      }

  -- an unmap of pages inside the span
  pub unmapped_beside : (first count : ℕ) → p.first ≤ first → first + count ≤ span_end p →
      IsBeside f lo hi rest (unmapped f w first count) (unmapped f p first count)
  unmapped_beside first count from to =
      let last : ℕ = first + count in
      let off : Position → Bool = λ q. not (table_lies_in f first last q) in
      let low = b.low in let high = b.high in
      let passes : (q : Position) → table_lies_in f lo hi q ≡ false → off q ≡ true =
      λ q k. not_from_false (table_lies_in f first last q) (false_from_ne_true (table_lies_in f first last q) (λ e.
      let h = and_parts (nat_le first q.base) _ e in
      let x = leb-true first q.base h.0 in let y = leb-true (end_of_table f q) last h.1 in
      false≢true (sym k ∙ and_from (nat_le lo q.base) _ (le-leb lo q.base (omega arith)) (le-leb (end_of_table f q) hi (omega arith))))) in
      let keeps : (q : Position) → rest.tables q → off q ≡ true = λ q k. passes q (rest.tables_outside q k) in
      record {
        tables = filter off b.tables;
        top = b.top;
        is = ap (λ (x : Book). unmapped f x first count) b.is
            ∙ ap (λ (bs : List Block). record (lifted rest.front rest.back (filter off b.tables) b.top p) { blocks = bs })
            (fails_between lo hi (lies_in first last) (lies_apart lo hi first last (omega arith) (omega arith)) rest.front p.blocks rest.back rest.front_ends rest.back_begins);
        members = kept off [] rest.tables keeps b.tables p.tables b.members;
        sorted = sorted_filter off b.tables b.sorted;
        sorted_part = sorted_filter off p.tables b.sorted_part;
        top_is = b.top_is;
        low = b.low;
        high = b.high;
        lie = lie_filter lo hi (λ c. not (lies_in first last c)) p.blocks b.lie;
        meet = λ q k. b.meet q (among_filtered off p.tables q k).0;
        stay = λ q k. among_passes off p.tables q (b.stay q k) (passes q (rest.kept_outside q k));
      }

  -- another span inside
  pub spanning_beside : (first last : ℕ) → lo ≤ first → first ≤ last → last ≤ hi → IsBeside f lo hi rest (spanning w first last) (spanning p first last)
  spanning_beside first last from order to = record {
    tables = b.tables;
    top = b.top;
    is = ap (λ (x : Book). spanning x first last) b.is;
    members = b.members;
    sorted = b.sorted;
    sorted_part = b.sorted_part;
    top_is = b.top_is;
    low = from;
    high = omega arith;
    lie = b.lie;
    meet = b.meet;
    stay = b.stay;
  }
