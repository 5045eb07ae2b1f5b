-- What a dump counts and lists.
use Rattle.std.proofs.Common.{◌≡◌, ◌≤◌, ℕ, suc, zero, ◌+◌, ◌-◌, ◌^◌, ◌++◌, ◌∷◌, [], List, length, Bool, true, false, Some, cond, inl, inr, refl, ap, sym, ◌∙◌, subst, arith}
use Rattle.std.specs.Prelude.{All, AllPairs, IfOk, IsTrue, Result, Ok, Err, filter, slice_index_or, take, nat_lt, nat_le}
use Rattle.std.proofs.lemmas.Bool.{and_parts, and_from, cases_Bool, cases_lt, le-leb, leb-true, lt-ltb, ltb-true}
use Rattle.std.proofs.lemmas.List.{append-nil, take-append-le, take_all}
use Rattle.std.proofs.lemmas.List.Elements.{All-filter, All-take}
use Rattle.std.proofs.lemmas.Nat.{pow_pos}
use Rattle.pt_model.specs.declared.block.Block.{Block}
use Rattle.pt_model.specs.declared.reply.Dump.{Dump}
use Rattle.pt_model.specs.Layout.{Layout, end_of, input_pages}
use Rattle.pt_format.specs.Laws.{IsLayout}
use Rattle.pt_format.proofs.PageFacts.{pages_small}
use Rattle.pt_model.specs.Book.{Book, IsLawful, lies_in, meets}
use Rattle.pt_model.specs.Cuts.{crosses}
use Rattle.pt_model.specs.Dumps.{blocks_inside, dump_limit, dumped}
use Rattle.pt_model.specs.declared.command.What.TheVariants.{Dump as DumpLine}
use Rattle.pt_model.specs.declared.reply.Answer.TheVariants as answering
use Rattle.pt_view.specs.declared.view.View.{View}
use Rattle.pt_reply.specs.Telling.{IsListable, has_small_blocks}
use Rattle.pt_laws.specs.Covers as covers
use Rattle.pt_reply.specs.Running.{AnswersAs, IsUncrossed, LeavesIn, ListsNext, RestsAsBefore, blocks_of, blocks_over, book_in, stand_in}

abbrev pub dump_of : ℕ → List Block → Dump
dump_of count lowest = record { count = count; lowest = lowest }

-- Blocks in order are no more than the pages that they lie in.
pub few_blocks : (lo hi : ℕ) (bs : List Block) → AllPairs (λ b c. end_of b ≤ c.first) bs → All (λ b. lo ≤ b.first) bs → All (λ b. end_of b ≤ hi) bs → lo ≤ hi → length bs + lo ≤ hi
few_blocks lo hi [] pairs from to some = omega arith
few_blocks lo hi (b ∷ bs) pairs from to some =
    let low : lo ≤ b.first = from 0 b (omega arith) in
    let high : end_of b ≤ hi = to 0 b (omega arith) in
    let long = pow_pos b.log2 in
    let rest : length bs + end_of b ≤ hi = few_blocks (end_of b) hi bs
    (λ i j d a z. pairs (suc i) (suc j) d (omega arith) (omega arith))
    (λ k d h. pairs zero (suc k) d (omega arith) (omega arith))
    (λ k d h. to (suc k) d (omega arith)) high in
    omega arith

filter_few : (p : Block → Bool) (bs : List Block) → length (filter p bs) ≤ length bs
filter_few p [] = omega arith
filter_few p (b ∷ bs) = elim (cases_Bool (p b)) [
  | inl e ↦ (let rest = filter_few p bs in rw e (omega arith))
  | inr e ↦ (let rest = filter_few p bs in rw e (omega arith))
]

-- so that a test of a lawful book's blocks leaves few of them
pub few_of_lawful : (f : Layout) → IsLayout f → (levels : ℕ) (book : Book) → IsLawful f levels book → (p : Block → Bool) → length (filter p book.blocks) ≤ 2 ^ 52
few_of_lawful f l levels book lawful p =
    let few : length book.blocks + 0 ≤ input_pages f = few_blocks 0 (input_pages f) book.blocks lawful.in_order
    (λ k d h. omega arith) (λ k d h. (lawful.legal k d h).in_input) (omega arith) in
    omega (arith, few, filter_few p book.blocks, pages_small f l)

-- Tests that agree at each block of a list.

same_test : (p q : Bool) → (p ≡ true → q ≡ true) → (q ≡ true → p ≡ true) → p ≡ q
same_test true q a b = sym (a refl)
same_test false true a b = b refl
same_test false false a b = refl

is_false : (p : Bool) → (p ≡ true → ⊥) → p ≡ false
is_false true never = absurd (never refl)
is_false false never = refl

apart : {p : Bool} → p ≡ true → p ≡ false → ⊥
apart e h = let z : ⊥ = cc in z

filter_alike : (p q : Block → Bool) (bs : List Block) → All (λ b. p b ≡ q b) bs → filter p bs ≡ filter q bs
filter_alike p q [] same = refl
filter_alike p q (b ∷ bs) same =
    let rest : filter p bs ≡ filter q bs = filter_alike p q bs (λ k d h. same (suc k) d (omega arith)) in
    ap (λ (t : Bool). cond t (b ∷ filter p bs) (filter p bs)) (same zero b (omega arith))
    ∙ ap (λ (cs : List Block). cond (q b) (b ∷ cs) cs) rest

-- A block that crosses neither end of some pages meets them exactly where it lies in them.
module _ (first last : ℕ) (b : Block) where
  inside_from : (crosses first b ≡ false) → (crosses last b ≡ false) → meets first last b ≡ true → lies_in first last b ≡ true
  inside_from low high t =
      let p : (nat_lt b.first last ≡ true) × (nat_lt first (end_of b) ≡ true) = and_parts (nat_lt b.first last) _ t in
      let from : first ≤ b.first = elim (cases_lt b.first first) [
        | inl less ↦ absurd (apart (and_from (nat_lt b.first first) _ (lt-ltb b.first first less) p.1) low)
        | inr over ↦ omega arith
      ] in
      let to : end_of b ≤ last = elim (cases_lt last (end_of b)) [
        | inl less ↦ absurd (apart (and_from (nat_lt b.first last) _ p.0 (lt-ltb last (end_of b) less)) high)
        | inr over ↦ omega arith
      ] in
      and_from (nat_le first b.first) _ (le-leb first b.first from) (le-leb (end_of b) last to)

  inside_to : lies_in first last b ≡ true → meets first last b ≡ true
  inside_to t =
      let p : (nat_le first b.first ≡ true) × (nat_le (end_of b) last ≡ true) = and_parts (nat_le first b.first) _ t in
      let from = leb-true first b.first p.0 in
      let to = leb-true (end_of b) last p.1 in
      let long = pow_pos b.log2 in
      and_from (nat_lt b.first last) _ (lt-ltb b.first last (omega arith)) (lt-ltb first (end_of b) (omega arith))

  met_inside : (crosses first b ≡ false) → (crosses last b ≡ false) → meets first last b ≡ lies_in first last b
  met_inside low high = same_test (meets first last b) (lies_in first last b) (inside_from low high) inside_to

  -- and one that lies in them crosses neither
  pub uncrossed_first : IsTrue (lies_in first last b) → crosses first b ≡ false
  uncrossed_first t = is_false (crosses first b) (λ e.
      let p : (nat_le first b.first ≡ true) × (nat_le (end_of b) last ≡ true) = and_parts (nat_le first b.first) _ t in
      let q : (nat_lt b.first first ≡ true) × (nat_lt first (end_of b) ≡ true) = and_parts (nat_lt b.first first) _ e in
      let from = leb-true first b.first p.0 in
      let less = ltb-true b.first first q.0 in
      absurd (omega arith))

  pub uncrossed_last : IsTrue (lies_in first last b) → crosses last b ≡ false
  uncrossed_last t = is_false (crosses last b) (λ e.
      let p : (nat_le first b.first ≡ true) × (nat_le (end_of b) last ≡ true) = and_parts (nat_le first b.first) _ t in
      let q : (nat_lt b.first last ≡ true) × (nat_lt last (end_of b) ≡ true) = and_parts (nat_lt b.first last) _ e in
      let to = leb-true (end_of b) last p.1 in
      let less = ltb-true last (end_of b) q.1 in
      absurd (omega arith))

pub met_are_inside : (first last : ℕ) (bs : List Block) → All (λ b. crosses first b ≡ false) bs → All (λ b. crosses last b ≡ false) bs →
    filter (meets first last) bs ≡ filter (lies_in first last) bs
met_are_inside first last bs low high = filter_alike (meets first last) (lies_in first last) bs (λ k d h. met_inside first last (slice_index_or bs k d) (low k d h) (high k d h))

-- The lowest of the blocks that came and of those that are left.

pub listed_full : (came : List Block) (b : Block) → dump_limit ≤ length came → ListsNext came b came
listed_full came b full left = take-append-le dump_limit came left full ∙ sym (take-append-le dump_limit came (b ∷ left) full)

-- a step of the walk, and its end
pub counts_on : (came : ℕ) (b : Block) (old new all : List Block) → old ≡ b ∷ new → came + length old ≡ length all → came + 1 + length new ≡ length all
counts_on came b old new all e counted = let l = ap length e in omega arith

pub lists_on : (came now : List Block) (b : Block) (old new all : List Block) → ListsNext came b now → old ≡ b ∷ new →
    take dump_limit (came ++ old) ≡ take dump_limit all → take dump_limit (now ++ new) ≡ take dump_limit all
lists_on came now b old new all next e listed = next new ∙ ap (λ (xs : List Block). take dump_limit (came ++ xs)) (sym e) ∙ listed

pub dumps_all : (count : ℕ) (came left all : List Block) → left ≡ [] → count + length left ≡ length all → length came ≤ dump_limit →
    take dump_limit (came ++ left) ≡ take dump_limit all → dump_of count came ≡ dumped all
dumps_all count came left all none counted few listed =
    let number : count ≡ length all = (let l = ap length none in omega arith) in
    let lowest : came ≡ take dump_limit all =
    sym (take_all dump_limit came few) ∙ ap (take dump_limit) (sym (append-nil came))
    ∙ ap (λ (xs : List Block). take dump_limit (came ++ xs)) (sym none) ∙ listed in
    λ i. dump_of (number i) (lowest i)

-- What a dump of a span answers.

-- the pages of a span are those up to its end
same_end : (first count : ℕ) → first + (first + count - first) ≡ first + count
same_end first count = omega arith

-- the blocks that meet a span whose ends no block crosses are those inside
pub met_are_over : (v : View) (first count : ℕ) → IsUncrossed v first → IsUncrossed v (first + count) →
    filter (meets first (first + count)) (blocks_of v.pieces) ≡ blocks_over v first (first + count)
met_are_over v first count low high =
    met_are_inside first (first + count) (blocks_of v.pieces) low high
    ∙ ap (λ (n : ℕ). filter (lies_in first n) (blocks_of v.pieces)) (sym (same_end first count))

pub dumps_same : {E : Type 0} (r : Result Dump E) (xs ys : List Block) → xs ≡ ys → IfOk r (λ d. d ≡ dumped xs) → IfOk r (λ d. d ≡ dumped ys)
dumps_same (Ok d) xs ys e h = h ∙ ap dumped e
dumps_same (Err x) xs ys e h = tt

pub listable_blocks : (f : Layout) (levels : ℕ) (book : Book) → IsLawful f levels book → IsTrue (has_small_blocks f) → All (IsListable f) book.blocks
listable_blocks f levels book lawful small k d h =
    record { nameable = record { legal = lawful.legal k d h; small = small }; stated = lawful.stated k d h }

pub dumps_listable : {E : Type 0} (f : Layout) (p : Block → Bool) (bs : List Block) → All (IsListable f) bs →
    (r : Result Dump E) → IfOk r (λ d. d ≡ dumped (filter p bs)) → IfOk r (λ d. All (IsListable f) d.lowest)
dumps_listable f p bs all (Ok d) h =
    subst (λ (x : Dump). All (IsListable f) x.lowest) (sym h) (All-take (IsListable f) dump_limit (filter p bs) (All-filter p (IsListable f) bs all))
dumps_listable f p bs all (Err x) h = tt

-- the ends of a lawful book's span cross no block
module _ (f : Layout) (v : View) (lawful : IsLawful f v.levels (book_in v)) (first count : ℕ) (first_is : first ≡ v.first) (count_is : count ≡ v.count) where
  pub uncrossed_from : IsUncrossed v first
  uncrossed_from k d h = subst (λ (n : ℕ). crosses n (slice_index_or (blocks_of v.pieces) k d) ≡ false) (sym first_is)
      (uncrossed_first v.first (v.first + v.count) (slice_index_or (blocks_of v.pieces) k d) (lawful.in_span k d h))

  pub uncrossed_to : IsUncrossed v (first + count)
  uncrossed_to k d h = subst (λ (n : ℕ). crosses n (slice_index_or (blocks_of v.pieces) k d) ≡ false) (λ i. sym first_is i + sym count_is i)
      (uncrossed_last v.first (v.first + v.count) (slice_index_or (blocks_of v.pieces) k d) (lawful.in_span k d h))

-- a dump of the whole span is what the book machine answers
pub dumps_as : {E : Type 0} (f : Layout) (v w : View) (first count : ℕ) → first ≡ v.first → count ≡ v.count → RestsAsBefore f v w →
    (r : Result Dump E) → IfOk r (λ d. d ≡ dumped (blocks_over v first (first + count))) → IfOk r (λ d. AnswersAs f v w DumpLine (answering.Dump d))
dumps_as f v w first count first_is count_is rests (Ok d) h =
    let over : blocks_over v first (first + count) ≡ blocks_inside (book_in v) =
    ap (λ (n : ℕ). filter (lies_in first n) (blocks_of v.pieces)) (same_end first count)
    ∙ (λ i. filter (lies_in (first_is i) (first_is i + count_is i)) (blocks_of v.pieces)) in
    record {
      ready = rests.ready;
      machine = rests.machine;
      answers = ap (λ (x : Dump). Some (answering.Dump x)) (sym (h ∙ ap dumped over));
      book = rests.book;
    }
dumps_as f v w first count first_is count_is rests (Err x) h = tt

-- and leaves the book and the purse
pub dumps_leave : {E : Type 0} (f : Layout) (v w : View) → RestsAsBefore f v w → (r : Result Dump E) → IfOk r (λ d. LeavesIn f v w DumpLine (answering.Dump d))
dumps_leave f v w rests (Ok d) = covers.dump (stand_in v) (stand_in w) d (record { book = rests.book; purse = ap length rests.purse })
dumps_leave f v w rests (Err x) = tt
