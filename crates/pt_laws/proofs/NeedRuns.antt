-- What a run links is at most what its commands need.
use Rattle.std.proofs.Common.{◌≡◌, ℕ, ◌+◌, ◌-◌, ◌*◌, ◌/◌, ◌%◌, ◌^◌, ◌<◌, ◌≤◌, List, [], ◌∷◌, ◌++◌, Bool, true, false, inl, inr, refl, ap, sym, subst, ◌∙◌, arith, Option, Some, None, length}
use Rattle.std.specs.Prelude.{IsTrue, not, nat_le, nat_lt, ◌&&◌, is_none, option_map, if◌then◌else◌}
use Rattle.std.proofs.lemmas.Bool.{cases_lt, and_from, and_parts, le-leb, le-ltb, ltb-true, eqb-true, true≢false, not-false}
use Rattle.std.proofs.lemmas.Nat.{pow_below, pow_pos, shr_split, shr_below, mod_below}
use Rattle.std.proofs.lemmas.List.FromFn.{length-range_with_len}
use Rattle.pt_model.specs.declared.block.Prot.{Prot}
use Rattle.pt_model.specs.declared.position.Position.{Position}
use Rattle.pt_model.specs.declared.command.What.{What}
use Rattle.pt_model.specs.declared.command.What.TheVariants.{Map, Unmap, Lookup, Dump, Release, Fork, With, End}
use Rattle.pt_model.specs.declared.command.Command.{Command}
use Rattle.pt_model.specs.declared.reply.MapAnswer.{MapAnswer}
use Rattle.pt_model.specs.declared.reply.MapAnswer.TheVariants as mapping
use Rattle.pt_model.specs.Layout.{Layout, is_size, input_pages}
use Rattle.pt_model.specs.Pages.{has_page, page_under, range_at, is_whole, byte_at}
use Rattle.pt_model.specs.Tiling.{tiling}
use Rattle.pt_model.specs.Tables.{all_needed, starting_top}
use Rattle.pt_model.specs.Book as book
use Rattle.pt_model.specs.Book.{Book, MapRefusal, new_book, span_end, is_inside, lowest_mapped, map_refusal, mapped, linked_count, table_lies_in}
use Rattle.pt_model.specs.declared.reply.UnmapAnswer.{UnmapAnswer}
use Rattle.pt_model.specs.declared.reply.UnmapAnswer.TheVariants as unmapping
use Rattle.pt_model.specs.Run.{Machine, lacks_frames, refused_answer, after_map, after_unmap, unmap_answer, Opened, Refused, Cut, State, at_start, Decided, InForks, is_running, is_lacking, at_with, at_end, behind_what, behind, state_after}
use Rattle.pt_laws.proofs.Sizes.{length_filtered}
use Rattle.pt_model.specs.Unmap.{unmapped}
use Rattle.pt_model.specs.Cuts.{cut_refusal}
use Rattle.pt_laws.specs.Need.{needed_by, need_of_one, need, NeedIsEnough, HoldIsEnough, fork_lines, stands_behind}
use Rattle.pt_laws.proofs.Enough.{adds_few, lacks_few}

-- The pages of a range are of the space.

page_below : (f : Layout) (x : ℕ) → page_under f x < input_pages f
page_below f x = elim (cases_lt f.input f.granule) [
  | inl small ↦
      let none : f.input - f.granule ≡ 0 = omega arith in
      let short : x % 2 ^ f.input < 2 ^ (0 + f.granule) =
      let e : 2 ^ (0 + f.granule) ≡ 2 ^ f.granule = ap (λ n. 2 ^ n) (let z : 0 + f.granule ≡ f.granule = omega arith in z) in
      omega (arith, e, mod_below x (2 ^ f.input) (pow_pos f.input), pow_below f.input f.granule small) in
      subst (λ (n : ℕ). page_under f x < n) (sym (ap (λ n. 2 ^ n) none)) (shr_below (x % 2 ^ f.input) 0 f.granule short)
  | inr fits ↦
      let same : 2 ^ (f.input - f.granule + f.granule) ≡ 2 ^ f.input = ap (λ n. 2 ^ n) (let e : f.input - f.granule + f.granule ≡ f.input = omega arith in e) in
      shr_below (x % 2 ^ f.input) (f.input - f.granule) f.granule (omega (arith, same, mod_below x (2 ^ f.input) (pow_pos f.input)))
]

pub if_some : (b : Bool) (x y : ℕ) (r : ℕ × ℕ) → (if b then Some (x, y) else None) ≡ Some r → (b ≡ true) × (x ≡ r.0) × (y ≡ r.1)
if_some true x y r e = (refl, cc, cc)
if_some false x y r e = cc

pub range_space : (f : Layout) (va len : ℕ) (r : ℕ × ℕ) → range_at f va len ≡ Some r → r.0 + r.1 ≤ input_pages f
range_space f va len r e =
    let h = if_some _ (page_under f va) (len / 2 ^ f.granule) r e in
    let a = and_parts (has_page f va) _ h.0 in
    let b = and_parts (has_page f (va + len - 1)) _ a.1 in
    let c = and_parts (nat_le (va + len) (2 ^ 64)) _ b.1 in
    let d = eqb-true (page_under f va + len / 2 ^ f.granule) (page_under f (va + len - 1) + 1) c.1 in
    let low = page_below f (va + len - 1) in
    let x = h.1 in let y = h.2 in
    omega arith

guarded : {X : Type 0} (b : Bool) (x : X) (o : Option X) → (if b then Some x else o) ≡ None → (b ≡ false) × (o ≡ None)
guarded true x o e = cc
guarded false x o e = (refl, e)

lets_through : {X : Type 0} (b : Bool) (x : X) (o : Option X) → b ≡ false → o ≡ None → (if b then Some x else o) ≡ None
lets_through true x o e h = absurd (true≢false e)
lets_through false x o e h = h

-- what the numbers alone refuse is all that an empty book of the whole space refuses
ranged_new : (f : Layout) (l : ℕ) (b : Book) (pa len : ℕ) (o : Option (ℕ × ℕ)) → ((r : ℕ × ℕ) → o ≡ Some r → r.0 + r.1 ≤ input_pages f) →
    elim o as (λ _. Option MapRefusal) [
      | None ↦ Some book.OutsideLease
      | Some range ↦
          if not (is_inside b range.0 (range.0 + range.1)) then Some book.OutsideLease else (
          if nat_lt (2 ^ f.output) (pa + len) then Some book.OutputRange else
          option_map (λ page. book.Occupied (byte_at f page)) (lowest_mapped b range.0 (range.0 + range.1)))
    ] ≡ None →
    elim o as (λ _. Option MapRefusal) [
      | None ↦ Some book.OutsideLease
      | Some range ↦
          if not (is_inside (new_book f l) range.0 (range.0 + range.1)) then Some book.OutsideLease else (
          if nat_lt (2 ^ f.output) (pa + len) then Some book.OutputRange else
          option_map (λ page. book.Occupied (byte_at f page)) (lowest_mapped (new_book f l) range.0 (range.0 + range.1)))
    ] ≡ None
ranged_new f l b pa len None in_space e = cc
ranged_new f l b pa len (Some r) in_space e =
    let g = guarded (not (is_inside b r.0 (r.0 + r.1))) book.OutsideLease _ e in
    let h = guarded (nat_lt (2 ^ f.output) (pa + len)) book.OutputRange _ g.1 in
    let inside : is_inside (new_book f l) r.0 (r.0 + r.1) ≡ true =
    let s = in_space r refl in and_from (nat_le 0 r.0) _ (le-leb 0 r.0 (omega arith)) (le-leb (r.0 + r.1) (0 + input_pages f) (omega arith)) in
    ap (λ (t : Bool). if not t then Some book.OutsideLease else (if nat_lt (2 ^ f.output) (pa + len) then Some book.OutputRange else None)) inside
    ∙ ap (λ (t : Bool). if t then Some book.OutputRange else None) h.0

pub new_admits : (f : Layout) (l : ℕ) (b : Book) (va pa len : ℕ) → map_refusal f b va pa len ≡ None → map_refusal f (new_book f l) va pa len ≡ None
new_admits f l b va pa len e =
    let g = guarded (not ((is_whole f va && is_whole f pa) && (is_whole f len && nat_lt 0 len))) book.Misaligned _ e in
    lets_through (not ((is_whole f va && is_whole f pa) && (is_whole f len && nat_lt 0 len))) book.Misaligned _ g.0 (ranged_new f l b pa len (range_at f va len) (range_space f va len) g.1)

pub some_pages : (f : Layout) (b : Book) (va pa len : ℕ) → map_refusal f b va pa len ≡ None → 0 < len / 2 ^ f.granule
some_pages f b va pa len e =
    let g = guarded (not ((is_whole f va && is_whole f pa) && (is_whole f len && nat_lt 0 len))) book.Misaligned _ e in
    let h = and_parts (is_whole f va && is_whole f pa) _ (not-false _ g.0) in
    let i = and_parts (is_whole f len) _ h.1 in
    let none_over = eqb-true (len % 2 ^ f.granule) 0 i.0 in
    let some = ltb-true 0 len i.1 in
    let split = shr_split len f.granule in
    elim (cases_lt 0 (len / 2 ^ f.granule)) [
      | inl is ↦ is
      | inr none ↦
          let zero_is : len / 2 ^ f.granule ≡ 0 = omega arith in
          let gone : 0 * 2 ^ f.granule + len % 2 ^ f.granule ≡ len = subst (λ (n : ℕ). n * 2 ^ f.granule + len % 2 ^ f.granule ≡ len) zero_is split in
          absurd (omega arith)
    ]

-- The need of a command without a cap.
abbrev pub bare : Machine → What → ℕ
bare m what = length (needed_by m what) - 1

abbrev pub bares : Machine → List Command → ℕ
bares m [] = 0
bares m (c ∷ cs) = bare m c.what + bares m cs

pub uncapped : (m : Machine) (cs : List Command) → need m cs < m.frames → bares m cs ≡ need m cs
uncapped m [] h = refl
uncapped m (c ∷ cs) h = let e = uncapped m cs (omega arith) in omega arith

-- what is linked grows by at most the need
pub record Grows (m : Machine) (b b' : Book) (count : ℕ) : Type 0 where
  pub linked : linked_count m.levels b' ≤ linked_count m.levels b + count
  pub top : starting_top m.levels ≤ b'.top

module _ (m : Machine) (page : IsTrue (is_size m.layout 0)) where
  stays : (b : Book) (count : ℕ) → starting_top m.levels ≤ b.top → Grows m b b count
  stays b count low = record { linked = omega arith; top = low }

  map_grows : (b : Book) (lacking : Bool) (va pa len : ℕ) (prot : Prot) → starting_top m.levels ≤ b.top → (o : Option MapRefusal) → map_refusal m.layout b va pa len ≡ o →
      Grows m b
      (after_map (elim o as (λ _. MapAnswer) [ Some refusal ↦ refused_answer refusal | None ↦ if lacking then mapping.Frames else mapping.Mapped ])
      (mapped m.layout m.levels b (page_under m.layout va) (len / 2 ^ m.layout.granule) (pa / 2 ^ m.layout.granule) prot) b)
      (bare m (Map va pa len prot))
  map_grows b lacking va pa len prot low (Some book.Misaligned) e = stays b _ low
  map_grows b lacking va pa len prot low (Some book.OutsideLease) e = stays b _ low
  map_grows b lacking va pa len prot low (Some book.OutputRange) e = stays b _ low
  map_grows b lacking va pa len prot low (Some (book.Occupied address)) e = stays b _ low
  map_grows b true va pa len prot low None e = stays b _ low
  map_grows b false va pa len prot low None e =
      let first : ℕ = page_under m.layout va in
      let admits = new_admits m.layout m.levels b va pa len e in
      let is : needed_by m (Map va pa len prot) ≡ all_needed m.layout m.levels (tiling m.layout prot (page_under m.layout va) (pa / 2 ^ m.layout.granule) (len / 2 ^ m.layout.granule)) =
      ap (λ (o : Option MapRefusal). elim o as (λ _. List Position) [ Some refusal ↦ [] | None ↦ all_needed m.layout m.levels (tiling m.layout prot (page_under m.layout va) (pa / 2 ^ m.layout.granule) (len / 2 ^ m.layout.granule)) ]) admits in
      let few = adds_few m.layout m.levels (page_under m.layout va) (len / 2 ^ m.layout.granule) (pa / 2 ^ m.layout.granule) prot page (some_pages m.layout b va pa len e) b low in
      record {
        linked = subst (λ (ps : List Position). linked_count m.levels (mapped m.layout m.levels b (page_under m.layout va) (len / 2 ^ m.layout.granule) (pa / 2 ^ m.layout.granule) prot) ≤ linked_count m.levels b + (length ps - 1)) (sym is) few;
        top = omega arith;
      }

  unmap_grows : (b : Book) (va len count : ℕ) → starting_top m.levels ≤ b.top → (a : UnmapAnswer) →
      Grows m b (after_unmap a (unmapped m.layout b (page_under m.layout va) (len / 2 ^ m.layout.granule)) b) count
  unmap_grows b va len count low (unmapping.Unmapped pages) = record {
    linked = omega (arith, length_filtered (λ p. not (table_lies_in m.layout (page_under m.layout va) (page_under m.layout va + len / 2 ^ m.layout.granule) p)) b.tables);
    top = low;
  }
  unmap_grows b va len count low unmapping.Misaligned = stays b count low
  unmap_grows b va len count low unmapping.Outside = stays b count low
  unmap_grows b va len count low (unmapping.Cuts block) = stays b count low

  either : (b x y : Book) (count : ℕ) (t : Bool) → Grows m b x count → Grows m b y count → Grows m b (if t then x else y) count
  either b x y count true g h = g
  either b x y count false g h = h

  with_grows : (b : Book) (count : ℕ) → starting_top m.levels ≤ b.top → (fs : List Opened) → Grows m b (at_with b fs).book count
  with_grows b count low [] = stays b count low
  with_grows b count low (Refused ∷ fs) = stays b count low
  with_grows b count low (Cut first at last ∷ fs) = record { linked = omega arith; top = low }

  end_grows : (b : Book) (count : ℕ) → starting_top m.levels ≤ b.top → (fs : List Opened) → Grows m b (at_end b fs).book count
  end_grows b count low [] = stays b count low
  end_grows b count low (Refused ∷ fs) = stays b count low
  end_grows b count low (Cut first at last ∷ fs) = record { linked = omega arith; top = low }

  run_or_not : (s : State) (x : Book) (count : ℕ) (t : Bool) → starting_top m.levels ≤ s.book.top → Grows m s.book x count → Grows m s.book (if t then record s { book = x } else s).book count
  run_or_not s x count true low g = g
  run_or_not s x count false low g = stays s.book count low

  fork_or_not : (s : State) (x : Book) (o : Opened) (count : ℕ) (t : Bool) → starting_top m.levels ≤ s.book.top → Grows m s.book x count →
      Grows m s.book (if t then (let y : State = record { book = x; forks = o ∷ s.forks } in y) else record s { forks = Refused ∷ s.forks }).book count
  fork_or_not s x o count true low g = g
  fork_or_not s x o count false low g = stays s.book count low

  step_grows : (by : Decided) (s : State) (line : ℕ) (what : What) → starting_top m.levels ≤ s.book.top → Grows m s.book (behind_what m by s line what).book (bare m what)
  step_grows by s line (Map va pa len prot) low =
      run_or_not s _ _ (is_running s.forks) low (map_grows s.book (is_lacking m by s line (Map va pa len prot)) va pa len prot low (map_refusal m.layout s.book va pa len) refl)
  step_grows by s line (Unmap va len) low = run_or_not s _ _ (is_running s.forks) low (unmap_grows s.book va len _ low (unmap_answer m s.book va len))
  step_grows by s line (Lookup va) low = run_or_not s _ _ (is_running s.forks) low (stays s.book _ low)
  step_grows by s line Dump low = run_or_not s _ _ (is_running s.forks) low (stays s.book _ low)
  step_grows by s line Release low = run_or_not s _ _ (is_running s.forks) low (stays s.book _ low)
  step_grows by s line (Fork at) low =
      fork_or_not s _ _ _ (is_running s.forks && is_none (cut_refusal m.layout s.book at)) low (record { linked = omega arith; top = low })
  step_grows by s line With low = with_grows s.book _ low s.forks
  step_grows by s line End low = end_grows s.book _ low s.forks

  pub all_grows : (by : Decided) (cs : List Command) (s : State) → starting_top m.levels ≤ s.book.top → Grows m s.book (state_after m by s cs).book (bares m cs)
  all_grows by [] s low = stays s.book 0 low
  all_grows by (c ∷ cs) s low =
      let one = step_grows by s c.line c.what low in
      let more = all_grows by cs (behind m by s c) one.top in
      record { linked = let x = one.linked in let y = more.linked in omega arith; top = more.top }

pub need_append : (m : Machine) (xs ys : List Command) → need m (xs ++ ys) ≡ need m xs + need m ys
need_append m [] ys = omega arith
need_append m (x ∷ xs) ys = let e = need_append m xs ys in omega arith

pub need_is_enough : NeedIsEnough
need_is_enough m hold body lines page less enough before rest c is =
    let whole = ap (need m) is ∙ need_append m before (c ∷ rest) in
    let few = uncapped m before (omega arith) in
    let start = at_start (new_book m.layout m.levels) in
    let grown = all_grows m page (InForks lines) before (at_start (new_book m.layout m.levels)) (omega arith) in
    let more = grown.linked in
    let one = length-range_with_len (starting_top m.levels) (starting_top m.levels + 1 - starting_top m.levels) in
    omega arith

-- Nothing is short.
pub one_uncapped : (m : Machine) (c : Command) (cs : List Command) → need m (c ∷ cs) < m.frames → bare m c.what ≡ need_of_one m c.what
one_uncapped m c cs h = omega arith

pub fork_need : (m : Machine) (left right rest : List Command) (line at middle last : ℕ) →
    need m (fork_lines line at middle last left right rest) ≡ need m left + need m right + need m rest
fork_need m left right rest line at middle last =
    let a = need_append m left (record { line = middle; what = With } ∷ (right ++ (record { line = last; what = End } ∷ rest))) in
    let b = need_append m right (record { line = last; what = End } ∷ rest) in
    omega arith

pub hold_is_enough : HoldIsEnough
hold_is_enough m hold body lines page less enough = record {
  maps = λ before rest line va pa len prot is admitted.
      let c : Command = record { line = line; what = Map va pa len prot } in
      let s : State = stands_behind m lines before in
      let room = need_is_enough m hold body lines page less enough before rest (record { line = line; what = Map va pa len prot }) is in
      let whole = ap (need m) is ∙ need_append m before (record { line = line; what = Map va pa len prot } ∷ rest) in
      let bare_is = one_uncapped m (record { line = line; what = Map va pa len prot }) rest (omega arith) in
      let low = (all_grows m page (InForks lines) before (at_start (new_book m.layout m.levels)) (omega arith)).top in
      let admits = new_admits m.layout m.levels (stands_behind m lines before).book va pa len admitted in
      let needs : needed_by m (Map va pa len prot) ≡ all_needed m.layout m.levels (tiling m.layout prot (page_under m.layout va) (pa / 2 ^ m.layout.granule) (len / 2 ^ m.layout.granule)) =
      ap (λ (o : Option MapRefusal). elim o as (λ _. List Position) [ Some refusal ↦ [] | None ↦ all_needed m.layout m.levels (tiling m.layout prot (page_under m.layout va) (pa / 2 ^ m.layout.granule) (len / 2 ^ m.layout.granule)) ]) admits in
      let few = lacks_few m.layout m.levels (page_under m.layout va) (len / 2 ^ m.layout.granule) (pa / 2 ^ m.layout.granule) prot page (some_pages m.layout (stands_behind m lines before).book va pa len admitted) (stands_behind m lines before).book low in
      let counted = ap (λ (ps : List Position). length ps) needs in
      le-ltb m.frames _ (omega (arith, room, few, counted, bare_is));
  forks = λ before left right rest line at middle last is short.
      let room = need_is_enough m hold body lines page less enough before (left ++ (record { line = middle; what = With } ∷ (right ++ (record { line = last; what = End } ∷ rest)))) (record { line = line; what = Fork at }) is in
      let whole = fork_need m left right rest line at middle last in
      absurd (omega (arith, room, whole, short));
}

-- The same from any state on: where the need of commands fits in what isn't linked, no account among them is short. So in an
-- outermost fork that isn't short none inside is.
pub one_linked : (m : Machine) (b : Book) → starting_top m.levels ≤ b.top → 1 ≤ linked_count m.levels b
one_linked m b low = omega (arith, low, length-range_with_len (starting_top m.levels) (b.top + 1 - starting_top m.levels))

pub room_left : (m : Machine) (by : Decided) (s : State) (cs before rest : List Command) (c : Command) → IsTrue (is_size m.layout 0) → starting_top m.levels ≤ s.book.top →
    linked_count m.levels s.book + need m cs ≤ m.frames → cs ≡ before ++ c ∷ rest →
    linked_count m.levels (state_after m by s before).book + need m (c ∷ rest) ≤ m.frames
room_left m by s cs before rest c page low fits is =
    let whole = ap (need m) is ∙ need_append m before (c ∷ rest) in
    let some = one_linked m s.book low in
    let few = uncapped m before (omega arith) in
    let more = (all_grows m page by before s low).linked in
    omega arith

pub no_account_short : (m : Machine) (by : Decided) (s : State) (cs before rest : List Command) (line va pa len : ℕ) (prot : Prot) → IsTrue (is_size m.layout 0) → starting_top m.levels ≤ s.book.top →
    linked_count m.levels s.book + need m cs ≤ m.frames → cs ≡ before ++ record { line = line; what = Map va pa len prot } ∷ rest →
    map_refusal m.layout (state_after m by s before).book va pa len ≡ None → lacks_frames m (state_after m by s before).book va pa len prot ≡ false
no_account_short m by s cs before rest line va pa len prot page low fits is admitted =
    let room = room_left m by s cs before rest (record { line = line; what = Map va pa len prot }) page low fits is in
    let whole = ap (need m) is ∙ need_append m before (record { line = line; what = Map va pa len prot } ∷ rest) in
    let some = one_linked m s.book low in
    let bare_is = one_uncapped m (record { line = line; what = Map va pa len prot }) rest (omega arith) in
    let top = (all_grows m page by before s low).top in
    let admits = new_admits m.layout m.levels (state_after m by s before).book va pa len admitted in
    let needs : needed_by m (Map va pa len prot) ≡ all_needed m.layout m.levels (tiling m.layout prot (page_under m.layout va) (pa / 2 ^ m.layout.granule) (len / 2 ^ m.layout.granule)) =
    ap (λ (o : Option MapRefusal). elim o as (λ _. List Position) [ Some refusal ↦ [] | None ↦ all_needed m.layout m.levels (tiling m.layout prot (page_under m.layout va) (pa / 2 ^ m.layout.granule) (len / 2 ^ m.layout.granule)) ]) admits in
    let few = lacks_few m.layout m.levels (page_under m.layout va) (len / 2 ^ m.layout.granule) (pa / 2 ^ m.layout.granule) prot page (some_pages m.layout (state_after m by s before).book va pa len admitted) (state_after m by s before).book top in
    let counted = ap (λ (ps : List Position). length ps) needs in
    le-ltb m.frames _ (omega (arith, room, few, counted, bare_is))
