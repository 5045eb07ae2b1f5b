-- What a purse lasts for: the two invariants of a branch, by need and by use.
use Rattle.std.proofs.Common.{◌≡◌, ℕ, ◌+◌, ◌/◌, ◌^◌, ◌<◌, ◌≤◌, List, [], ◌∷◌, ◌++◌, true, inl, inr, refl, ap, sym, subst, ◌∙◌, arith, length, append_assoc, Option, Some, None}
use Rattle.std.specs.Prelude.{IsTrue}
use Rattle.std.proofs.lemmas.Bool.{false≢true}
use Rattle.std.proofs.lemmas.List.{append-nil}
use Rattle.pt_model.specs.declared.block.Prot.{Prot}
use Rattle.pt_model.specs.declared.position.Position.{Position}
use Rattle.pt_model.specs.declared.command.What.{What}
use Rattle.pt_model.specs.declared.command.What.TheVariants.{Map, Unmap, Lookup, Dump, Fork, With, End}
use Rattle.pt_model.specs.declared.command.Command.{Command}
use Rattle.pt_model.specs.declared.reply.MapAnswer.{MapAnswer}
use Rattle.pt_model.specs.declared.reply.MapAnswer.TheVariants as mapping
use Rattle.pt_model.specs.Layout.{is_size}
use Rattle.pt_model.specs.Pages.{page_under}
use Rattle.pt_model.specs.Sets.{IsSorted, IsAmong}
use Rattle.pt_model.specs.Tiling.{tiling}
use Rattle.pt_model.specs.Tables.{all_needed, starting_top}
use Rattle.pt_model.specs.Book.{Book, MapRefusal, is_linked, map_refusal}
use Rattle.pt_model.specs.Run.{Machine, is_frames}
use Rattle.pt_model.proofs.Positions.{among_none, adds_are, among_filtered, among_passes, sorted_adds, sorted_filter}
use Rattle.pt_laws.proofs.Sizes.{length_members}
use Rattle.pt_model.specs.declared.reply.UnmapAnswer.{UnmapAnswer}
use Rattle.pt_model.specs.declared.reply.UnmapAnswer.TheVariants as unmapping
use Rattle.pt_model.specs.declared.reply.Answer.{Answer}
use Rattle.pt_model.specs.declared.reply.Answer.TheVariants as answer
use Rattle.pt_model.specs.declared.reply.Reply.{Reply}
use Rattle.pt_laws.specs.Need.{needed_by, need_of_one, need, used_by, use_of, HasNoFork, fork_lines}
use Rattle.pt_laws.specs.Covers
use Rattle.pt_laws.specs.Covers.{Stand, Leaves, LeavesMap, LeavesMapped, LeavesWanting, LeavesUnmap, LeavesUnmapped, Stays, Runs, IsDealt, KeepsNeed, KeepsUse, Wants, LackOnly, PurseLasts, PursesLast}
use Rattle.pt_laws.proofs.Enough.{lacks_few}
use Rattle.pt_laws.proofs.NeedRuns.{new_admits, some_pages, need_append, fork_need}
use Rattle.pt_laws.proofs.Counting.{linked_of, starts, room, grows, loses}

-- What commands use, as a set.

pub sorted_used : (m : Machine) (cs : List Command) → IsSorted (used_by m cs)
sorted_used m [] = tt
sorted_used m (c ∷ cs) = sorted_adds (needed_by m c.what) (used_by m cs) (sorted_used m cs)

used_front : (m : Machine) (xs ys : List Command) (p : Position) → IsAmong (used_by m xs) p → IsAmong (used_by m (xs ++ ys)) p
used_front m [] ys p h = absurd (among_none p h)
used_front m (x ∷ xs) ys p h =
    (adds_are (needed_by m x.what) (used_by m (xs ++ ys)) p).1
    (elim ((adds_are (needed_by m x.what) (used_by m xs) p).0 h) [ inl later ↦ inl (used_front m xs ys p later) | inr here ↦ inr here ])

used_back : (m : Machine) (xs ys : List Command) (p : Position) → IsAmong (used_by m ys) p → IsAmong (used_by m (xs ++ ys)) p
used_back m [] ys p h = h
used_back m (x ∷ xs) ys p h = (adds_are (needed_by m x.what) (used_by m (xs ++ ys)) p).1 (inl (used_back m xs ys p h))

used_last : (m : Machine) (xs : List Command) (c : Command) (p : Position) → IsAmong (needed_by m c.what) p → IsAmong (used_by m (xs ++ c ∷ [])) p
used_last m xs c p h = used_back m xs (c ∷ []) p ((adds_are (needed_by m c.what) [] p).1 (inr h))

-- more linked positions in a greater set
wider : (m : Machine) (b : Book) (xs ys : List Command) → length (linked_of m.levels b (used_by m xs)) ≤ length (linked_of m.levels b (used_by m (xs ++ ys)))
wider m b xs ys =
    length_members (linked_of m.levels b (used_by m (xs ++ ys))) (linked_of m.levels b (used_by m xs))
    (sorted_filter (λ p. is_linked m.levels b p) (used_by m xs) (sorted_used m xs))
    (λ p h. let i = among_filtered (λ p. is_linked m.levels b p) (used_by m xs) p h in
    among_passes (λ p. is_linked m.levels b p) (used_by m (xs ++ ys)) p (used_front m xs ys p i.0) i.1)

-- One call.

module _ (m : Machine) (page : IsTrue (is_size m.layout 0)) where
  -- a map that its numbers and the book admit needs what its tiling needs
  needs_tiling : (b : Book) (va pa len : ℕ) (prot : Prot) → map_refusal m.layout b va pa len ≡ None →
      needed_by m (Map va pa len prot) ≡ all_needed m.layout m.levels (tiling m.layout prot (page_under m.layout va) (pa / 2 ^ m.layout.granule) (len / 2 ^ m.layout.granule))
  needs_tiling b va pa len prot admitted =
      ap (λ (o : Option MapRefusal). elim o as (λ _. List Position) [ Some refusal ↦ [] | None ↦ all_needed m.layout m.levels (tiling m.layout prot (page_under m.layout va) (pa / 2 ^ m.layout.granule) (len / 2 ^ m.layout.granule)) ])
      (new_admits m.layout m.levels b va pa len admitted)

  lacks_need : (b : Book) (va pa len : ℕ) (prot : Prot) (n : ℕ) → map_refusal m.layout b va pa len ≡ None → starting_top m.levels ≤ b.top →
      n ≤ length (Covers.lacking_at m b va pa len prot) → n ≤ m.frames + 1 → n ≤ need_of_one m (Map va pa len prot)
  lacks_need b va pa len prot n admitted low few capped =
      let counted = ap (λ (ps : List Position). length ps) (needs_tiling b va pa len prot admitted) in
      let most = lacks_few m.layout m.levels (page_under m.layout va) (len / 2 ^ m.layout.granule) (pa / 2 ^ m.layout.granule) prot page (some_pages m.layout b va pa len admitted) b low in
      omega (arith, counted, most, few, capped)

  -- by need

  map_spends : (va pa len : ℕ) (prot : Prot) (s s' : Stand) (a : MapAnswer) → LeavesMap m va pa len prot s s' a → s.purse ≤ s'.purse + need_of_one m (Map va pa len prot)
  map_spends va pa len prot s s' mapping.Mapped h =
      let one = lacks_need s.book va pa len prot h.linked h.admitted h.low h.few h.capped in let p = h.purse in omega (arith, one, p)
  map_spends va pa len prot s s' mapping.Frames h = let p = h.purse in omega (arith, p)
  map_spends va pa len prot s s' mapping.Misaligned h = let p = h.purse in omega (arith, p)
  map_spends va pa len prot s s' mapping.Outside h = let p = h.purse in omega (arith, p)
  map_spends va pa len prot s s' mapping.Output h = let p = h.purse in omega (arith, p)
  map_spends va pa len prot s s' (mapping.Occupied address) h = let p = h.purse in omega (arith, p)

  unmap_spends : (va len : ℕ) (s s' : Stand) (a : UnmapAnswer) → LeavesUnmap m va len s s' a → s.purse ≤ s'.purse
  unmap_spends va len s s' (unmapping.Unmapped pages) h = let p = h.purse in omega (arith, p)
  unmap_spends va len s s' unmapping.Misaligned h = let p = h.purse in omega (arith, p)
  unmap_spends va len s s' unmapping.Outside h = let p = h.purse in omega (arith, p)
  unmap_spends va len s s' (unmapping.Cuts b) h = let p = h.purse in omega (arith, p)

  pub spends : (what : What) (s s' : Stand) (a : Answer) → Leaves m what s s' a → s.purse ≤ s'.purse + need_of_one m what
  spends _ _ _ _ (Covers.map va pa len prot s s' x h) = map_spends va pa len prot s s' x h
  spends _ _ _ _ (Covers.unmap va len s s' x h) = omega (arith, unmap_spends va len s s' x h)
  spends _ _ _ _ (Covers.lookup va s s' x h) = let p = h.purse in omega (arith, p)
  spends _ _ _ _ (Covers.dump s s' x h) = let p = h.purse in omega (arith, p)

  -- by use

  stays_use : (start : ℕ) (done : List Command) (c : Command) (s s' : Stand) → Stays s s' → KeepsUse m start done s → KeepsUse m start (done ++ c ∷ []) s'
  stays_use start done c s s' h k =
      let p = h.purse in
      let same : length (linked_of m.levels s'.book (used_by m (done ++ c ∷ []))) ≡ length (linked_of m.levels s.book (used_by m (done ++ c ∷ []))) =
      ap (λ (b : Book). length (linked_of m.levels b (used_by m (done ++ c ∷ [])))) h.book in
      omega (arith, k, p, same, wider m s.book done (c ∷ []))

  abbrev the_map : (line va pa len : ℕ) → Prot → Command
  the_map line va pa len prot = record { line = line; what = Map va pa len prot }

  -- what the map's tiling needs is used by the commands with it
  used_now : (done : List Command) (line va pa len : ℕ) (prot : Prot) (b : Book) → map_refusal m.layout b va pa len ≡ None →
      (p : Position) → IsAmong (all_needed m.layout m.levels (tiling m.layout prot (page_under m.layout va) (pa / 2 ^ m.layout.granule) (len / 2 ^ m.layout.granule))) p → IsAmong (used_by m (done ++ the_map line va pa len prot ∷ [])) p
  used_now done line va pa len prot b admitted p h =
      used_last m done (the_map line va pa len prot) p (subst (λ (ps : List Position). IsAmong ps p) (sym (needs_tiling b va pa len prot admitted)) h)

  mapped_use : (start : ℕ) (done : List Command) (line va pa len : ℕ) (prot : Prot) (s s' : Stand) → LeavesMapped m va pa len prot s s' → KeepsUse m start done s →
      KeepsUse m start (done ++ the_map line va pa len prot ∷ []) s'
  mapped_use start done line va pa len prot s s' h k =
      let first : ℕ = page_under m.layout va in
      let some = some_pages m.layout s.book va pa len h.admitted in
      let has = used_now done line va pa len prot s.book h.admitted in
      let u : List Position = used_by m (done ++ the_map line va pa len prot ∷ []) in
      let sorted = sorted_used m (done ++ the_map line va pa len prot ∷ []) in
      let begin = starts m.layout m.levels (page_under m.layout va) (len / 2 ^ m.layout.granule) (pa / 2 ^ m.layout.granule) prot page some s.book h.low (used_by m (done ++ the_map line va pa len prot ∷ [])) sorted has in
      let more = grows m.layout m.levels (page_under m.layout va) (len / 2 ^ m.layout.granule) (pa / 2 ^ m.layout.granule) prot page some s.book h.low (used_by m (done ++ the_map line va pa len prot ∷ [])) sorted has in
      let same = ap (λ (b : Book). length (linked_of m.levels b (used_by m (done ++ the_map line va pa len prot ∷ [])))) h.book in
      let p = h.purse in let freed = h.freed in let few = h.few in
      omega (arith, k, p, freed, few, begin, more, same, wider m s.book done (the_map line va pa len prot ∷ []))

  map_use : (start : ℕ) (done : List Command) (line va pa len : ℕ) (prot : Prot) (s s' : Stand) (a : MapAnswer) → LeavesMap m va pa len prot s s' a → KeepsUse m start done s →
      KeepsUse m start (done ++ the_map line va pa len prot ∷ []) s'
  map_use start done line va pa len prot s s' mapping.Mapped h k = mapped_use start done line va pa len prot s s' h k
  map_use start done line va pa len prot s s' mapping.Frames h k =
      let p = h.purse in
      let same : length (linked_of m.levels s'.book (used_by m (done ++ the_map line va pa len prot ∷ []))) ≡ length (linked_of m.levels s.book (used_by m (done ++ the_map line va pa len prot ∷ []))) =
      ap (λ (b : Book). length (linked_of m.levels b (used_by m (done ++ the_map line va pa len prot ∷ [])))) h.book in
      omega (arith, k, p, same, wider m s.book done (the_map line va pa len prot ∷ []))
  map_use start done line va pa len prot s s' mapping.Misaligned h k = stays_use start done (the_map line va pa len prot) s s' h k
  map_use start done line va pa len prot s s' mapping.Outside h k = stays_use start done (the_map line va pa len prot) s s' h k
  map_use start done line va pa len prot s s' mapping.Output h k = stays_use start done (the_map line va pa len prot) s s' h k
  map_use start done line va pa len prot s s' (mapping.Occupied address) h k = stays_use start done (the_map line va pa len prot) s s' h k

  unmap_use : (start : ℕ) (done : List Command) (line va len : ℕ) (s s' : Stand) (a : UnmapAnswer) → LeavesUnmap m va len s s' a → KeepsUse m start done s →
      KeepsUse m start (done ++ record { line = line; what = Unmap va len } ∷ []) s'
  unmap_use start done line va len s s' (unmapping.Unmapped pages) h k =
      let c : Command = record { line = line; what = Unmap va len } in
      let less = loses m.layout m.levels s.book (page_under m.layout va) (len / 2 ^ m.layout.granule) (used_by m (done ++ record { line = line; what = Unmap va len } ∷ [])) (sorted_used m (done ++ record { line = line; what = Unmap va len } ∷ [])) in
      let same = ap (λ (b : Book). length (linked_of m.levels b (used_by m (done ++ record { line = line; what = Unmap va len } ∷ [])))) h.book in
      let p = h.purse in let freed = h.freed in
      omega (arith, k, p, freed, less, same, wider m s.book done (record { line = line; what = Unmap va len } ∷ []))
  unmap_use start done line va len s s' unmapping.Misaligned h k = stays_use start done (record { line = line; what = Unmap va len }) s s' h k
  unmap_use start done line va len s s' unmapping.Outside h k = stays_use start done (record { line = line; what = Unmap va len }) s s' h k
  unmap_use start done line va len s s' (unmapping.Cuts b) h k = stays_use start done (record { line = line; what = Unmap va len }) s s' h k

  pub keeps_use : (start : ℕ) (done : List Command) (line : ℕ) (what : What) (s s' : Stand) (a : Answer) → Leaves m what s s' a → KeepsUse m start done s →
      KeepsUse m start (done ++ record { line = line; what = what } ∷ []) s'
  keeps_use start done line _ _ _ _ (Covers.map va pa len prot s s' x h) k = map_use start done line va pa len prot s s' x h k
  keeps_use start done line _ _ _ _ (Covers.unmap va len s s' x h) k = unmap_use start done line va len s s' x h k
  keeps_use start done line _ _ _ _ (Covers.lookup va s s' x h) k = stays_use start done (record { line = line; what = Lookup va }) s s' h k
  keeps_use start done line _ _ _ _ (Covers.dump s s' x h) k = stays_use start done (record { line = line; what = Dump }) s s' h k

  -- A map that lacks frames.

  pub record IsShort (start : ℕ) (done : List Command) (c : Command) : Type 0 where
    pub by_need : start < need m (done ++ c ∷ [])
    pub by_use : HasNoFork done → start < use_of m (done ++ c ∷ [])

  wanting : (start : ℕ) (done : List Command) (line va pa len : ℕ) (prot : Prot) (s s' : Stand) → LeavesWanting m va pa len prot s s' → KeepsNeed m start done s →
      (HasNoFork done → KeepsUse m start done s) → IsShort start done (the_map line va pa len prot)
  wanting start done line va pa len prot s s' h k uses =
      let p = h.purse in let more = h.more in let few = h.few in
      let one = lacks_need s.book va pa len prot h.absent h.admitted h.low h.few h.capped in
      let sum = need_append m done (the_map line va pa len prot ∷ []) in
      record {
        by_need = omega (arith, one, p, more, sum, k);
        by_use = λ none.
            let now = uses none in
            let some = some_pages m.layout s.book va pa len h.admitted in
            let has = used_now done line va pa len prot s.book h.admitted in
            let sorted = sorted_used m (done ++ the_map line va pa len prot ∷ []) in
            let begin = starts m.layout m.levels (page_under m.layout va) (len / 2 ^ m.layout.granule) (pa / 2 ^ m.layout.granule) prot page some s.book h.low (used_by m (done ++ the_map line va pa len prot ∷ [])) sorted has in
            let fits = room m.layout m.levels (page_under m.layout va) (len / 2 ^ m.layout.granule) (pa / 2 ^ m.layout.granule) prot page some s.book h.low (used_by m (done ++ the_map line va pa len prot ∷ [])) sorted has in
            omega (arith, now, p, more, few, begin, fits, wider m s.book done (the_map line va pa len prot ∷ []));
      }

  map_short : (start : ℕ) (done : List Command) (line va pa len : ℕ) (prot : Prot) (s s' : Stand) (a : MapAnswer) → LeavesMap m va pa len prot s s' a → KeepsNeed m start done s →
      (HasNoFork done → KeepsUse m start done s) → is_frames (answer.Map a) ≡ true → IsShort start done (the_map line va pa len prot)
  map_short start done line va pa len prot s s' mapping.Frames h k uses e = wanting start done line va pa len prot s s' h k uses
  map_short start done line va pa len prot s s' mapping.Mapped h k uses e = absurd (false≢true e)
  map_short start done line va pa len prot s s' mapping.Misaligned h k uses e = absurd (false≢true e)
  map_short start done line va pa len prot s s' mapping.Outside h k uses e = absurd (false≢true e)
  map_short start done line va pa len prot s s' mapping.Output h k uses e = absurd (false≢true e)
  map_short start done line va pa len prot s s' (mapping.Occupied address) h k uses e = absurd (false≢true e)

  pub lacks_short : (start : ℕ) (done : List Command) (line : ℕ) (what : What) (s s' : Stand) (a : Answer) → Leaves m what s s' a → KeepsNeed m start done s →
      (HasNoFork done → KeepsUse m start done s) → is_frames a ≡ true → IsShort start done (record { line = line; what = what })
  lacks_short start done line _ _ _ _ (Covers.map va pa len prot s s' x h) k uses e = map_short start done line va pa len prot s s' x h k uses e
  lacks_short start done line _ _ _ _ (Covers.unmap va len s s' x h) k uses e = absurd (false≢true e)
  lacks_short start done line _ _ _ _ (Covers.lookup va s s' x h) k uses e = absurd (false≢true e)
  lacks_short start done line _ _ _ _ (Covers.dump s s' x h) k uses e = absurd (false≢true e)

-- Lists of replies.

pub lack_append : (IsOne : ℕ → Type 0) (xs ys : List Reply) → LackOnly IsOne xs → LackOnly IsOne ys → LackOnly IsOne (xs ++ ys)
lack_append IsOne [] ys h k = k
lack_append IsOne (x ∷ xs) ys h k = (h.0, lack_append IsOne xs ys h.1 k)

pub lack_map : (IsOne IsTwo : ℕ → Type 0) → ((n : ℕ) → IsOne n → IsTwo n) → (rs : List Reply) → LackOnly IsOne rs → LackOnly IsTwo rs
lack_map IsOne IsTwo g [] h = tt
lack_map IsOne IsTwo g (r ∷ rs) h = ((λ e. g r.line (h.0 e)), lack_map IsOne IsTwo g rs h.1)

-- Commands with and without a fork.

pub no_fork_front : (xs ys : List Command) → HasNoFork (xs ++ ys) → HasNoFork xs
no_fork_front [] ys h = tt
no_fork_front (x ∷ xs) ys h = (h.0, no_fork_front xs ys h.1)

pub has_fork : (xs ys : List Command) (line at : ℕ) → HasNoFork (xs ++ record { line = line; what = Fork at } ∷ ys) → ⊥
has_fork [] ys line at h = h.0 at refl
has_fork (x ∷ xs) ys line at h = has_fork xs ys line at h.1

pub fork_whole : (line at middle last : ℕ) (left right rest : List Command) → fork_lines line at middle last left right [] ++ rest ≡ fork_lines line at middle last left right rest
fork_whole line at middle last left right rest =
    ap (λ (xs : List Command). record { line = line; what = Fork at } ∷ xs)
    (append_assoc left (record { line = middle; what = With } ∷ (right ++ (record { line = last; what = End } ∷ []))) rest
    ∙ ap (λ (xs : List Command). left ++ (record { line = middle; what = With } ∷ xs)) (append_assoc right (record { line = last; what = End } ∷ []) rest))

-- A line in a branch, seen from the commands around.

module _ (m : Machine) (start : ℕ) (done : List Command) (s : Stand) (line at middle last : ℕ) (left right rest : List Command) (held : ℕ) (l r : Stand)
    (keeps : KeepsNeed m start done s) (some : s.purse ≤ held) (dealt : IsDealt m left held l r) where
  abbrev around : List Command
  around = done ++ fork_lines line at middle last left right rest

  abbrev opens : Command
  opens = record { line = line; what = Fork at }

  abbrev turns : Command
  turns = record { line = middle; what = With }

  abbrev behind : List Command
  behind = right ++ (record { line = last; what = End } ∷ rest)

  pub in_left : (n : ℕ) → Wants m l.purse left n → Wants m start around n
  in_left n w =
      let first = dealt.first in let by_need = w.by_need in
      let whole = ap (need m) w.whole ∙ need_append m w.upto (w.here ∷ w.past) in
      let short = need_append m w.upto (w.here ∷ []) in
      let up : List Command = done ++ opens ∷ w.upto in
      let sum = need_append m (done ++ opens ∷ w.upto) (w.here ∷ []) in
      let front = need_append m done (opens ∷ w.upto) in
      record {
        upto = done ++ opens ∷ w.upto;
        here = w.here;
        past = w.past ++ (turns ∷ behind);
        whole = ap (λ (xs : List Command). done ++ opens ∷ (xs ++ (turns ∷ behind))) w.whole
            ∙ ap (λ (xs : List Command). done ++ opens ∷ xs) (append_assoc w.upto (w.here ∷ w.past) (turns ∷ behind))
            ∙ sym (append_assoc done (opens ∷ w.upto) (w.here ∷ (w.past ++ (turns ∷ behind))));
        line_is = w.line_is;
        by_need = omega (arith, keeps, some, first, by_need, whole, short, sum, front);
        by_use = λ none. absurd (has_fork done w.upto line at none);
      }

  pub in_right : (n : ℕ) → Wants m r.purse right n → Wants m start around n
  in_right n w =
      let first = dealt.first in let second = dealt.second in let by_need = w.by_need in
      let short = need_append m w.upto (w.here ∷ []) in
      let sum = need_append m (done ++ opens ∷ (left ++ (turns ∷ w.upto))) (w.here ∷ []) in
      let front = need_append m done (opens ∷ (left ++ (turns ∷ w.upto))) in
      let inner = need_append m left (turns ∷ w.upto) in
      record {
        upto = done ++ opens ∷ (left ++ (turns ∷ w.upto));
        here = w.here;
        past = w.past ++ (record { line = last; what = End } ∷ rest);
        whole = ap (λ (xs : List Command). done ++ opens ∷ (left ++ (turns ∷ (xs ++ (record { line = last; what = End } ∷ rest))))) w.whole
            ∙ ap (λ (xs : List Command). done ++ opens ∷ (left ++ (turns ∷ xs))) (append_assoc w.upto (w.here ∷ w.past) (record { line = last; what = End } ∷ rest))
            ∙ ap (λ (xs : List Command). done ++ opens ∷ xs) (sym (append_assoc left (turns ∷ w.upto) (w.here ∷ (w.past ++ (record { line = last; what = End } ∷ rest)))))
            ∙ sym (append_assoc done (opens ∷ (left ++ (turns ∷ w.upto))) (w.here ∷ (w.past ++ (record { line = last; what = End } ∷ rest))));
        line_is = w.line_is;
        by_need = omega (arith, keeps, some, first, second, by_need, short, sum, front, inner);
        by_use = λ none. absurd (has_fork done (left ++ (turns ∷ w.upto)) line at none);
      }

-- A run, begun in the middle.

record LastsFrom (m : Machine) (start : ℕ) (all : List Command) (s' : Stand) (rs : List Reply) : Type 0 where
  pub keeps : KeepsNeed m start all s'
  pub lacks : LackOnly (Wants m start all) rs

module _ (m : Machine) (page : IsTrue (is_size m.layout 0)) where
  lasts : (cs : List Command) (s s' : Stand) (rs : List Reply) → Runs m cs s s' rs → (start : ℕ) (done : List Command) → KeepsNeed m start done s →
      (HasNoFork done → KeepsUse m start done s) → LastsFrom m start (done ++ cs) s' rs
  lasts _ _ _ _ (Covers.nothing s) start done keeps uses = record { keeps = subst (λ (xs : List Command). KeepsNeed m start xs s) (sym (append-nil done)) keeps; lacks = tt }
  lasts _ _ _ _ (Covers.call line what cs s s' s'' a rs leaves run) start done keeps uses =
      let c : Command = record { line = line; what = what } in
      let sum = need_append m done (record { line = line; what = what } ∷ []) in
      let one = spends m page what s s' a leaves in
      let later = lasts cs s' s'' rs run start (done ++ record { line = line; what = what } ∷ []) (omega (arith, keeps, sum, one))
      (λ none. keeps_use m page start done line what s s' a leaves (uses (no_fork_front done (record { line = line; what = what } ∷ []) none))) in
      let same : (done ++ record { line = line; what = what } ∷ []) ++ cs ≡ done ++ (record { line = line; what = what } ∷ cs) = append_assoc done (record { line = line; what = what } ∷ []) cs in
      record {
        keeps = subst (λ (xs : List Command). KeepsNeed m start xs s'') same later.keeps;
        lacks = (
          (λ e. let short = lacks_short m page start done line what s s' a leaves keeps uses e in
              record { upto = done; here = record { line = line; what = what }; past = cs; whole = refl; line_is = refl; by_need = short.by_need; by_use = short.by_use }),
          subst (λ (xs : List Command). LackOnly (Wants m start xs) rs) same later.lacks,
        );
      }
  lasts _ _ _ _ (Covers.past line at middle last left right cs s s' s'' a rs stays run) start done keeps uses =
      let p = stays.purse in
      let sum = need_append m done (fork_lines line at middle last left right []) in
      let later = lasts cs s' s'' rs run start (done ++ fork_lines line at middle last left right []) (omega (arith, keeps, p, sum))
      (λ none. absurd (has_fork done (left ++ (record { line = middle; what = With } ∷ (right ++ (record { line = last; what = End } ∷ [])))) line at none)) in
      let same : (done ++ fork_lines line at middle last left right []) ++ cs ≡ done ++ fork_lines line at middle last left right cs =
      append_assoc done (fork_lines line at middle last left right []) cs ∙ ap (λ (xs : List Command). done ++ xs) (fork_whole line at middle last left right cs) in
      record {
        keeps = subst (λ (xs : List Command). KeepsNeed m start xs s'') same later.keeps;
        lacks = ((λ e. absurd (false≢true e)), subst (λ (xs : List Command). LackOnly (Wants m start xs) rs) same later.lacks);
      }
  lasts _ _ _ _ (Covers.fork line at middle last left right cs s l l' r r' j s'' drawn a ls rs qs dealt one two joins run) start done keeps uses =
      let in_one = lasts left l l' ls one l.purse [] (omega arith) (λ none. omega arith) in
      let in_two = lasts right r r' rs two r.purse [] (omega arith) (λ none. omega arith) in
      let a = in_one.keeps in let b = in_two.keeps in let first = dealt.first in let second = dealt.second in
      let sum = need_append m done (fork_lines line at middle last left right []) in
      let forks = fork_need m left right [] line at middle last in
      let later = lasts cs j s'' qs run start (done ++ fork_lines line at middle last left right []) (omega (arith, keeps, a, b, first, second, joins, sum, forks))
      (λ none. absurd (has_fork done (left ++ (record { line = middle; what = With } ∷ (right ++ (record { line = last; what = End } ∷ [])))) line at none)) in
      let same : (done ++ fork_lines line at middle last left right []) ++ cs ≡ done ++ fork_lines line at middle last left right cs =
      append_assoc done (fork_lines line at middle last left right []) cs ∙ ap (λ (xs : List Command). done ++ xs) (fork_whole line at middle last left right cs) in
      record {
        keeps = subst (λ (xs : List Command). KeepsNeed m start xs s'') same later.keeps;
        lacks = (
          (λ e. absurd (false≢true e)),
          lack_append (Wants m start (done ++ fork_lines line at middle last left right cs)) ls (rs ++ qs)
              (lack_map (Wants m l.purse left) (Wants m start (done ++ fork_lines line at middle last left right cs)) (in_left m start done s line at middle last left right cs (drawn + s.purse) l r keeps (omega arith) dealt) ls in_one.lacks)
              (lack_append (Wants m start (done ++ fork_lines line at middle last left right cs)) rs qs
              (lack_map (Wants m r.purse right) (Wants m start (done ++ fork_lines line at middle last left right cs)) (in_right m start done s line at middle last left right cs (drawn + s.purse) l r keeps (omega arith) dealt) rs in_two.lacks)
              (subst (λ (xs : List Command). LackOnly (Wants m start xs) qs) same later.lacks)),
        );
      }

pub purses_last : PursesLast
purses_last m cs s s' rs page run =
    let all = lasts m page cs s s' rs run s.purse [] (omega arith) (λ none. omega arith) in
    record { keeps = all.keeps; lacks = all.lacks }
