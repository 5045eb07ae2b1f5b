-- The run of a part beside the run of the whole: one command, and all.
use Rattle.std.proofs.Common.{◌≡◌, ℕ, ◌/◌, ◌^◌, ◌<◌, List, [], ◌∷◌, ◌++◌, Bool, true, false, refl, ap, sym, subst, ◌∙◌, arith, Option, Some, None, length}
use Rattle.std.specs.Prelude.{IsTrue, ◌&&◌, is_none, if◌then◌else◌}
use Rattle.std.proofs.lemmas.Bool.{and_parts, false≢true}
use Rattle.pt_model.specs.declared.block.Block.{Block}
use Rattle.pt_model.specs.declared.block.Prot.{Prot}
use Rattle.pt_model.specs.declared.command.What.{What}
use Rattle.pt_model.specs.declared.command.What.TheVariants.{Map, Unmap, Lookup, Dump, Release, Fork, With, End}
use Rattle.pt_model.specs.declared.command.Command.{Command}
use Rattle.pt_model.specs.declared.reply.MapAnswer.{MapAnswer}
use Rattle.pt_model.specs.declared.reply.MapAnswer.TheVariants as mapping
use Rattle.pt_model.specs.Layout.{is_size}
use Rattle.pt_model.specs.Pages.{page_under}
use Rattle.pt_model.specs.Book as book
use Rattle.pt_model.specs.Book.{Book, MapRefusal, span_end, map_refusal, mapped}
use Rattle.pt_model.specs.Run.{Machine, refused_answer, lookup_answer, after_map, after_unmap, Opened, Refused, Cut, State, is_running, Decided, is_lacking, map_answer, refused_unmap, refused_fork, answer_to, answer_of, book_after, at_fork, at_with, at_end, behind_what}
use Rattle.pt_model.specs.declared.reply.UnmapAnswer.{UnmapAnswer}
use Rattle.pt_model.specs.declared.reply.UnmapAnswer.TheVariants as unmapping
use Rattle.pt_model.specs.declared.reply.ForkAnswer.{ForkAnswer}
use Rattle.pt_model.specs.declared.reply.ForkAnswer.TheVariants as forking
use Rattle.pt_model.specs.declared.reply.Answer.{Answer}
use Rattle.pt_model.specs.declared.reply.Answer.TheVariants as answer
use Rattle.pt_model.specs.Unmap as unmap
use Rattle.pt_model.specs.Unmap.{CutRefusal, CutsEntry, unmap_refusal, unmapped, pages_gone}
use Rattle.pt_model.specs.Cuts.{cut_refusal, spanning}
use Rattle.pt_model.specs.Dumps.{dumped, blocks_inside}
use Rattle.pt_laws.specs.Apart.{Rest, IsBeside, AreInside, Follows, may_stand}
use Rattle.pt_laws.proofs.Same.{map_inside, unmap_inside, cut_inside, map_same, unmap_same, cut_same, lookup_same, dump_same, pages_same}
use Rattle.pt_laws.proofs.After.{mapped_beside, unmapped_beside, spanning_beside}

running_append : (fs outer : List Opened) → is_running outer ≡ true → is_running (fs ++ outer) ≡ is_running fs
running_append [] outer e = e
running_append (Refused ∷ fs) outer e = refl
running_append (Cut first at last ∷ fs) outer e = running_append fs outer e

module _ (m : Machine) (page : IsTrue (is_size m.layout 0)) (lo hi : ℕ) (rest : Rest m.layout lo hi) where
  module _ (w p : Book) (b : IsBeside m.layout lo hi rest w p) where
    maps_same : (va pa len : ℕ) → map_refusal m.layout w va pa len ≡ map_refusal m.layout p va pa len
    maps_same va pa len = ap (λ (x : Book). map_refusal m.layout x va pa len) b.is ∙ map_same m.layout lo hi rest b.tables b.top p b.low b.high va pa len

    unmaps_same : (va len : ℕ) → unmap_refusal m.layout w va len ≡ unmap_refusal m.layout p va len
    unmaps_same va len = ap (λ (x : Book). unmap_refusal m.layout x va len) b.is ∙ unmap_same m.layout lo hi rest b.tables b.top p b.low b.high va len

    cuts_same : (at : ℕ) → cut_refusal m.layout w at ≡ cut_refusal m.layout p at
    cuts_same at = ap (λ (x : Book). cut_refusal m.layout x at) b.is ∙ cut_same m.layout lo hi rest b.tables b.top p b.low b.high at

    unmap_answers : (va len : ℕ) (o : Option CutRefusal) → unmap_refusal m.layout p va len ≡ o →
        elim o as (λ _. UnmapAnswer) [
          | Some refusal ↦ refused_unmap refusal
          | None ↦ unmapping.Unmapped (pages_gone w (page_under m.layout va) (len / 2 ^ m.layout.granule))
        ]
        ≡ elim o as (λ _. UnmapAnswer) [
          | Some refusal ↦ refused_unmap refusal
          | None ↦ unmapping.Unmapped (pages_gone p (page_under m.layout va) (len / 2 ^ m.layout.granule))
        ]
    unmap_answers va len (Some r) e = refl
    unmap_answers va len None e =
        let i = unmap_inside m.layout p va len e in
        let first : ℕ = page_under m.layout va in
        let count : ℕ = len / 2 ^ m.layout.granule in
        ap unmapping.Unmapped
        (ap (λ (x : Book). pages_gone x first count) b.is ∙ pages_same m.layout lo hi rest b.tables b.top p b.low b.high first count i.0 i.1)

    pub answers : (lw lp : Bool) → lw ≡ lp → (what : What) → answer_to m w lw what ≡ answer_to m p lp what
    answers lw lp same (Map va pa len prot) =
        ap (λ (o : Option MapRefusal). Some (answer.Map (elim o as (λ _. MapAnswer) [ Some refusal ↦ refused_answer refusal | None ↦ if lw then mapping.Frames else mapping.Mapped ]))) (maps_same va pa len)
        ∙ ap (λ (l : Bool). Some (answer.Map (map_answer m p l va pa len))) same
    answers lw lp same (Unmap va len) =
        ap (λ (o : Option CutRefusal). Some (answer.Unmap (elim o as (λ _. UnmapAnswer) [ Some refusal ↦ refused_unmap refusal | None ↦ unmapping.Unmapped (pages_gone w (page_under m.layout va) (len / 2 ^ m.layout.granule)) ]))) (unmaps_same va len)
        ∙ ap (λ (a : UnmapAnswer). Some (answer.Unmap a)) (unmap_answers va len (unmap_refusal m.layout p va len) refl)
    answers lw lp same (Lookup va) =
        ap (λ (x : Book). Some (answer.Lookup (lookup_answer m x va))) b.is
        ∙ ap (λ a. Some (answer.Lookup a)) (lookup_same m.layout lo hi rest b.tables b.top p b.low b.high va)
    answers lw lp same Dump =
        ap (λ (x : Book). Some (answer.Dump (dumped (blocks_inside x)))) b.is
        ∙ ap (λ (bs : List Block). Some (answer.Dump (dumped bs))) (dump_same m.layout lo hi rest b.tables b.top p b.low b.high)
    answers lw lp same Release = refl
    answers lw lp same (Fork at) =
        ap (λ (o : Option CutRefusal). Some (answer.Fork (elim o as (λ _. ForkAnswer) [ Some refusal ↦ refused_fork refusal | None ↦ forking.Forked ]))) (cuts_same at)
    answers lw lp same With = refl
    answers lw lp same End = refl

    map_after : (lacking : Bool) (va pa len : ℕ) (prot : Prot) (o : Option MapRefusal) → map_refusal m.layout p va pa len ≡ o →
        IsBeside m.layout lo hi rest
        (after_map (elim o as (λ _. MapAnswer) [ Some refusal ↦ refused_answer refusal | None ↦ if lacking then mapping.Frames else mapping.Mapped ])
        (mapped m.layout m.levels w (page_under m.layout va) (len / 2 ^ m.layout.granule) (pa / 2 ^ m.layout.granule) prot) w)
        (after_map (elim o as (λ _. MapAnswer) [ Some refusal ↦ refused_answer refusal | None ↦ if lacking then mapping.Frames else mapping.Mapped ])
        (mapped m.layout m.levels p (page_under m.layout va) (len / 2 ^ m.layout.granule) (pa / 2 ^ m.layout.granule) prot) p)
    map_after lacking va pa len prot (Some book.Misaligned) e = b
    map_after lacking va pa len prot (Some book.OutsideLease) e = b
    map_after lacking va pa len prot (Some book.OutputRange) e = b
    map_after lacking va pa len prot (Some (book.Occupied address)) e = b
    map_after true va pa len prot None e = b
    map_after false va pa len prot None e =
        let i = map_inside m.layout p va pa len e in
        mapped_beside m.layout lo hi rest w p b m.levels (page_under m.layout va) (len / 2 ^ m.layout.granule) (pa / 2 ^ m.layout.granule) prot page i.0 i.1

    abbrev taken : Book → (va len : ℕ) → Book
    taken x va len = unmapped m.layout x (page_under m.layout va) (len / 2 ^ m.layout.granule)

    -- the answer of an unmap that is refused so, or takes so many pages
    abbrev unmap_by : Book → (va len : ℕ) → Option CutRefusal → UnmapAnswer
    unmap_by x va len o = elim o as (λ _. UnmapAnswer) [
      | Some refusal ↦ refused_unmap refusal
      | None ↦ unmapping.Unmapped (pages_gone x (page_under m.layout va) (len / 2 ^ m.layout.granule))
    ]

    unmap_after : (va len : ℕ) (o : Option CutRefusal) → unmap_refusal m.layout p va len ≡ o →
        IsBeside m.layout lo hi rest (after_unmap (unmap_by w va len o) (taken w va len) w) (after_unmap (unmap_by p va len o) (taken p va len) p)
    unmap_after va len (Some unmap.Misaligned) e = b
    unmap_after va len (Some unmap.OutsideLease) e = b
    unmap_after va len (Some (CutsEntry block)) e = b
    unmap_after va len None e =
        let i = unmap_inside m.layout p va len e in
        unmapped_beside m.layout lo hi rest w p b (page_under m.layout va) (len / 2 ^ m.layout.granule) i.0 i.1

    pub afters : (lw lp : Bool) → lw ≡ lp → (what : What) → IsBeside m.layout lo hi rest (book_after m w lw what) (book_after m p lp what)
    afters lw lp same (Map va pa len prot) =
        let here = map_after lw va pa len prot (map_refusal m.layout p va pa len) refl in
        let wide = subst (λ (o : Option MapRefusal). IsBeside m.layout lo hi rest
        (after_map (elim o as (λ _. MapAnswer) [ Some refusal ↦ refused_answer refusal | None ↦ if lw then mapping.Frames else mapping.Mapped ])
        (mapped m.layout m.levels w (page_under m.layout va) (len / 2 ^ m.layout.granule) (pa / 2 ^ m.layout.granule) prot) w)
        (book_after m p lw (Map va pa len prot))) (sym (maps_same va pa len)) here in
        subst (λ (l : Bool). IsBeside m.layout lo hi rest (book_after m w lw (Map va pa len prot)) (book_after m p l (Map va pa len prot))) same wide
    afters lw lp same (Unmap va len) =
        subst (λ (o : Option CutRefusal). IsBeside m.layout lo hi rest (after_unmap (unmap_by w va len o) (taken w va len) w) (book_after m p lp (Unmap va len)))
        (sym (unmaps_same va len)) (unmap_after va len (unmap_refusal m.layout p va len) refl)
    afters lw lp same (Lookup va) = b
    afters lw lp same Dump = b
    afters lw lp same Release = b
    afters lw lp same (Fork at) = b
    afters lw lp same With = b
    afters lw lp same End = b

  module _ (outer : List Opened) (runs : is_running outer ≡ true) where
    abbrev F : State → State → Type 0
    F w p = Follows m.layout lo hi rest outer w p

    running_same : (w p : State) → F w p → is_running w.forks ≡ is_running p.forks
    running_same w p h = ap is_running h.forks ∙ running_append p.forks outer runs

    pub answered : (by by' : Decided) (w p : State) (c : Command) → F w p → is_lacking m by w c.line c.what ≡ is_lacking m by' p c.line c.what →
        answer_of m by w c ≡ answer_of m by' p c
    answered by by' w p c h same =
        ap (λ (r : Bool). if r then answer_to m w.book (is_lacking m by w c.line c.what) c.what else None) (running_same w p h)
        ∙ ap (λ (a : Option Answer). if is_running p.forks then a else None) (answers w.book p.book h.books _ _ same c.what)

    in_place : (w p : State) → F w p → (x y : Book) → IsBeside m.layout lo hi rest x y → (r : Bool) →
        F (if r then record w { book = x } else w) (if r then record p { book = y } else p)
    in_place w p h x y b true = record { books = b; forks = h.forks; inside = h.inside }
    in_place w p h x y b false = h

    plain : (w p : State) → F w p → (x y : Book) → IsBeside m.layout lo hi rest x y →
        F (if is_running w.forks then record w { book = x } else w) (if is_running p.forks then record p { book = y } else p)
    plain w p h x y b =
        subst (λ (r : Bool). F (if r then record w { book = x } else w) (if is_running p.forks then record p { book = y } else p)) (sym (running_same w p h))
        (in_place w p h x y b (is_running p.forks))

    forked : (w p : State) → F w p → (at : ℕ) → (t : Bool) → (t ≡ true → (p.book.first < page_under m.layout at) × (page_under m.layout at < span_end p.book)) →
        F (if t then record { book = spanning w.book w.book.first (page_under m.layout at); forks = Cut w.book.first (page_under m.layout at) (span_end w.book) ∷ w.forks } else record w { forks = Refused ∷ w.forks })
        (if t then record { book = spanning p.book p.book.first (page_under m.layout at); forks = Cut p.book.first (page_under m.layout at) (span_end p.book) ∷ p.forks } else record p { forks = Refused ∷ p.forks })
    forked w p h at true i =
        let cut : ℕ = page_under m.layout at in
        let first : w.book.first ≡ p.book.first = ap (λ (x : Book). x.first) h.books.is in
        let end : span_end w.book ≡ span_end p.book = ap (λ (x : Book). span_end x) h.books.is in
        let in_span = i refl in
        let a = in_span.0 in let z = in_span.1 in let low = h.books.low in let high = h.books.high in
        record {
          books = subst (λ (n : ℕ). IsBeside m.layout lo hi rest (spanning w.book n (page_under m.layout at)) (spanning p.book p.book.first (page_under m.layout at))) (sym first)
              (spanning_beside m.layout lo hi rest w.book p.book h.books p.book.first (page_under m.layout at) low (omega arith) (omega arith));
          forks = ap (λ (n : ℕ). Cut n (page_under m.layout at) (span_end w.book) ∷ w.forks) first ∙ ap (λ (n : ℕ). Cut p.book.first (page_under m.layout at) n ∷ w.forks) end
              ∙ ap (λ (fs : List Opened). Cut p.book.first (page_under m.layout at) (span_end p.book) ∷ fs) h.forks;
          inside = (low, omega arith, omega arith, high, h.inside);
        }
    forked w p h at false i = record { books = h.books; forks = ap (λ (fs : List Opened). Refused ∷ fs) h.forks; inside = h.inside }

    none_is : (o : Option CutRefusal) → is_none o ≡ true → o ≡ None
    none_is None e = refl
    none_is (Some r) e = absurd (false≢true e)

    turned : (w p : Book) → IsBeside m.layout lo hi rest w p → (fs : List Opened) → may_stand With (length fs) ≡ true → AreInside lo hi fs →
        F (at_with w (fs ++ outer)) (at_with p fs)
    turned w p b [] stands inside = absurd (false≢true stands)
    turned w p b (Refused ∷ fs) stands inside = record { books = b; forks = refl; inside = inside }
    turned w p b (Cut first at last ∷ fs) stands inside =
        let i = inside.0 in let j = inside.1 in
        record { books = spanning_beside m.layout lo hi rest w p b at last (omega arith) inside.2 inside.3; forks = refl; inside = inside }

    ended : (w p : Book) → IsBeside m.layout lo hi rest w p → (fs : List Opened) → may_stand End (length fs) ≡ true → AreInside lo hi fs →
        F (at_end w (fs ++ outer)) (at_end p fs)
    ended w p b [] stands inside = absurd (false≢true stands)
    ended w p b (Refused ∷ fs) stands inside = record { books = b; forks = refl; inside = inside }
    ended w p b (Cut first at last ∷ fs) stands inside =
        let j = inside.1 in let k = inside.2 in
        record { books = spanning_beside m.layout lo hi rest w p b first last inside.0 (omega arith) inside.3; forks = refl; inside = inside.4 }

    -- what a command leaves of the whole follows what it leaves of the part
    pub steps : (by by' : Decided) (w p : State) (line : ℕ) (what : What) → F w p → may_stand what (length p.forks) ≡ true →
        is_lacking m by w line what ≡ is_lacking m by' p line what → F (behind_what m by w line what) (behind_what m by' p line what)
    steps by by' w p line (Map va pa len prot) h stands same = plain w p h _ _ (afters w.book p.book h.books _ _ same (Map va pa len prot))
    steps by by' w p line (Unmap va len) h stands same = plain w p h _ _ (afters w.book p.book h.books _ _ same (Unmap va len))
    steps by by' w p line (Lookup va) h stands same = plain w p h _ _ (afters w.book p.book h.books _ _ same (Lookup va))
    steps by by' w p line Dump h stands same = plain w p h _ _ (afters w.book p.book h.books _ _ same Dump)
    steps by by' w p line Release h stands same = plain w p h _ _ (afters w.book p.book h.books _ _ same Release)
    steps by by' w p line (Fork at) h stands same =
        let test : (is_running w.forks && is_none (cut_refusal m.layout w.book at)) ≡ (is_running p.forks && is_none (cut_refusal m.layout p.book at)) =
        ap (λ (r : Bool). r && is_none (cut_refusal m.layout w.book at)) (running_same w p h)
        ∙ ap (λ (o : Option CutRefusal). is_running p.forks && is_none o) (cuts_same w.book p.book h.books at) in
        subst (λ (t : Bool). F (if t then record { book = spanning w.book w.book.first (page_under m.layout at); forks = Cut w.book.first (page_under m.layout at) (span_end w.book) ∷ w.forks } else record w { forks = Refused ∷ w.forks }) (at_fork m p at)) (sym test)
        (forked w p h at (is_running p.forks && is_none (cut_refusal m.layout p.book at))
        (λ e. cut_inside m.layout p.book at (none_is (cut_refusal m.layout p.book at) (and_parts (is_running p.forks) _ e).1)))
    steps by by' w p line With h stands same =
        subst (λ (fs : List Opened). F (at_with w.book fs) (at_with p.book p.forks)) (sym h.forks) (turned w.book p.book h.books p.forks stands h.inside)
    steps by by' w p line End h stands same =
        subst (λ (fs : List Opened). F (at_end w.book fs) (at_end p.book p.forks)) (sym h.forks) (ended w.book p.book h.books p.forks stands h.inside)
