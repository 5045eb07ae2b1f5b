-- What a command of the whole owner does to a place.
use Rattle.std.proofs.Common.{◌≡◌, ◌≢◌, ◌⊎◌, ℕ, ◌+◌, ◌/◌, ◌^◌, ◌≤◌, Bool, true, false, Option, Some, None, refl, ap, sym, ◌∙◌, subst, arith}
use Rattle.std.specs.Prelude.{IfOk, OnOk, OnErr, IsTrue, Ok, Err, Result, ◌&&◌, if◌then◌else◌}
use Rattle.pt_model.specs.declared.command.What.{What}
use Rattle.pt_model.specs.declared.command.What.TheVariants.{Map, Unmap, Lookup, Dump, Release, Fork, With, End}
use Rattle.pt_model.specs.declared.reply.MapAnswer.{MapAnswer}
use Rattle.pt_model.specs.declared.reply.MapAnswer.TheVariants as mapping
use Rattle.pt_model.specs.declared.reply.UnmapAnswer.{UnmapAnswer}
use Rattle.pt_model.specs.declared.reply.UnmapAnswer.TheVariants as unmapping
use Rattle.pt_model.specs.declared.reply.LookupAnswer.TheVariants as looking
use Rattle.pt_model.specs.declared.reply.Answer.{Answer}
use Rattle.pt_model.specs.declared.reply.Answer.TheVariants as answering
use Rattle.pt_model.specs.Layout.{Layout, is_size}
use Rattle.pt_model.specs.Pages.{is_whole, page_under}
use Rattle.pt_model.specs.Book.{Book, MapRefusal, is_outside, mapped, span_end, translation}
use Rattle.pt_model.specs.Unmap.{CutRefusal, pages_gone, unmapped}
use Rattle.pt_model.specs.Run.{Machine, after_map, after_unmap, answer_to, book_after, found_answer, map_answer, refused_answer, refused_unmap, unmap_answer}
use Rattle.pt_laws.specs.OneText.{is_call}
use Rattle.pt_plain.specs.Owner.{Owned}
use Rattle.pt_forks.specs.Places.{Place, StaysIn, account_says}
use Rattle.pt_reply.specs.Running.{AnswersAs, IsReady, RestsAsBefore, book_in, lacks_for, machine_in}
use Rattle.pt_reply.specs.Telling.{IsTellable}
use Rattle.pt_narrow.specs.Standing.{Answers, IsStanding, LeavesApart, Stand, StandsIn, has_outside, outside_answer, over_span, place_of, reaches_out}
use Rattle.pt_narrow.proofs.Apart.{apart_after}
use Rattle.pt_narrow.proofs.Reaching as reaching
use Rattle.pt_narrow.proofs.Stands.{stands_on, within}

-- A refusal that is answered, or none.

if_some : (t : Bool) (x a : Answer) → (if t then Some x else None) ≡ Some a → (t ≡ true) × (x ≡ a)
if_some true x a e = (refl, cc)
if_some false x a e = absurd (let w : ⊥ = cc in w)

if_none : (t : Bool) (x : Answer) → (if t then Some x else None) ≡ None → t ≡ false
if_none true x e = absurd (let w : ⊥ = cc in w)
if_none false x e = refl

-- The span of a book after a change.

spans_map : (a : MapAnswer) (new old : Book) (first count : ℕ) →
    over_span (after_map a new old) first count ≡ after_map a (over_span new first count) (over_span old first count)
spans_map mapping.Mapped new old first count = refl
spans_map mapping.Misaligned new old first count = refl
spans_map mapping.Outside new old first count = refl
spans_map mapping.Output new old first count = refl
spans_map (mapping.Occupied address) new old first count = refl
spans_map mapping.Frames new old first count = refl

spans_unmap : (a : UnmapAnswer) (new old : Book) (first count : ℕ) →
    over_span (after_unmap a new old) first count ≡ after_unmap a (over_span new first count) (over_span old first count)
spans_unmap (unmapping.Unmapped pages) new old first count = refl
spans_unmap unmapping.Misaligned new old first count = refl
spans_unmap unmapping.Outside new old first count = refl
spans_unmap (unmapping.Cuts block) new old first count = refl

-- a command keeps the span
keeps_span : (m : Machine) (b : Book) (lacking : Bool) (what : What) → over_span (book_after m b lacking what) b.first b.count ≡ book_after m b lacking what
keeps_span m b lacking (Map va pa len prot) = spans_map (map_answer m b lacking va pa len) _ b b.first b.count
keeps_span m b lacking (Unmap va len) = spans_unmap (unmap_answer m b va len) _ b b.first b.count
keeps_span m b lacking (Lookup va) = refl
keeps_span m b lacking Dump = refl
keeps_span m b lacking Release = refl
keeps_span m b lacking (Fork at) = refl
keeps_span m b lacking With = refl
keeps_span m b lacking End = refl

abbrev map_said : (lacking : Bool) → Option MapRefusal → MapAnswer
map_said lacking o = elim o [ Some refusal ↦ refused_answer refusal | None ↦ if lacking then mapping.Frames else mapping.Mapped ]

abbrev unmap_said : (pages : ℕ) → Option CutRefusal → UnmapAnswer
unmap_said pages o = elim o [ Some refusal ↦ refused_unmap refusal | None ↦ unmapping.Unmapped pages ]

-- A command that reaches out of the span is refused, and nothing changes.
module _ (f : Layout) (s : Stand) where
  abbrev m : Machine
  m = machine_in f s.owned.view

  abbrev b : Book
  b = book_in s.owned.view

  abbrev part : Book
  part = over_span b s.first s.count

  pub nothing_changes : StaysIn (place_of f s) (place_of f s)
  nothing_changes = record { machine = refl; cuts = refl }

  module _ (stands : IsStanding f s) where
    abbrev from : b.first ≤ s.first
    from = (within b s.first s.count s.cuts stands.stands).0

    abbrev to : s.first + s.count ≤ span_end b
    to = (within b s.first s.count s.cuts stands.stands).1

    map_refused : (va pa len : ℕ) (lacking : Bool) (new : Book) → (is_whole f pa && reaches_out f s.first s.count va len) ≡ true →
        (map_answer m part lacking va pa len ≡ mapping.Outside) × (part ≡ after_map (map_answer m part lacking va pa len) new part)
    map_refused va pa len lacking new e =
        let is : map_answer m part lacking va pa len ≡ mapping.Outside = ap (map_said lacking) (reaching.map_outside f b s.first s.count from to va pa len e) in
        (is, ap (λ a. after_map a new part) (sym is))

    unmap_refused : (va len : ℕ) (new : Book) → reaches_out f s.first s.count va len ≡ true →
        (unmap_answer m part va len ≡ unmapping.Outside) × (part ≡ after_unmap (unmap_answer m part va len) new part)
    unmap_refused va len new e =
        let is : unmap_answer m part va len ≡ unmapping.Outside = ap (unmap_said (pages_gone part (page_under f va) (len / 2 ^ f.granule))) (reaching.unmap_outside f b s.first s.count from to va len e) in
        (is, ap (λ a. after_unmap a new part) (sym is))

    pub refused_outside : (what : What) (a : Answer) → outside_answer f s.first s.count what ≡ Some a → Answers (place_of f s) (place_of f s) what a
    refused_outside (Map va pa len prot) a e =
        let said = if_some (is_whole f pa && reaches_out f s.first s.count va len) _ a e in
        let done = map_refused va pa len (account_says (place_of f s) (Map va pa len prot)) _ said.0 in
        record { stays = nothing_changes; answers = ap (λ x. Some (answering.Map x)) done.0 ∙ ap Some said.1; book = done.1 }
    refused_outside (Unmap va len) a e =
        let said = if_some (reaches_out f s.first s.count va len) _ a e in
        let done = unmap_refused va len _ said.0 in
        record { stays = nothing_changes; answers = ap (λ x. Some (answering.Unmap x)) done.0 ∙ ap Some said.1; book = done.1 }
    refused_outside (Lookup va) a e =
        let said = if_some (has_outside f s.first s.count va) _ a e in
        record {
          stays = nothing_changes;
          answers = ap (λ (t : Bool). Some (answering.Lookup (if t then looking.Outside else found_answer (translation f part va)))) said.0 ∙ ap Some said.1;
          book = refl;
        }
    refused_outside Dump a e = absurd (let w : ⊥ = cc in w)
    refused_outside Release a e = absurd (let w : ⊥ = cc in w)
    refused_outside (Fork at) a e = absurd (let w : ⊥ = cc in w)
    refused_outside With a e = absurd (let w : ⊥ = cc in w)
    refused_outside End a e = absurd (let w : ⊥ = cc in w)

pub outside_tellable : (f : Layout) (first count : ℕ) (what : What) (a : Answer) → outside_answer f first count what ≡ Some a → IsTellable f a
outside_tellable f first count (Map va pa len prot) a e = subst (IsTellable f) (if_some _ _ a e).1 tt
outside_tellable f first count (Unmap va len) a e = subst (IsTellable f) (if_some _ _ a e).1 tt
outside_tellable f first count (Lookup va) a e = subst (IsTellable f) (if_some _ _ a e).1 tt
outside_tellable f first count Dump a e = absurd (let w : ⊥ = cc in w)
outside_tellable f first count Release a e = absurd (let w : ⊥ = cc in w)
outside_tellable f first count (Fork at) a e = absurd (let w : ⊥ = cc in w)
outside_tellable f first count With a e = absurd (let w : ⊥ = cc in w)
outside_tellable f first count End a e = absurd (let w : ⊥ = cc in w)

-- Any other command but a dump is answered by the whole owner as it is in the span.
module _ (f : Layout) (s : Stand) (stands : IsStanding f s) (o : Owned) where
  abbrev now : Stand
  now = record s { owned = o }

  abbrev lacking_in : What → Bool
  lacking_in what = account_says (place_of f s) what

  -- that the answer and the book are those in the span is enough
  answers_by : (what : What) (a : Answer) → AnswersAs f s.owned.view o.view what a →
      answer_to (m f s) (part f s) (lacking_in what) what ≡ answer_to (m f s) (b f s) (lacks_for (m f s) (b f s) what) what →
      over_span (book_after (m f s) (b f s) (lacks_for (m f s) (b f s) what) what) s.first s.count ≡ book_after (m f s) (part f s) (lacking_in what) what →
      Answers (place_of f s) (place_of f now) what a
  answers_by what a done same_answer same_book = record {
    stays = record { machine = done.machine; cuts = refl };
    answers = same_answer ∙ done.answers;
    book = ap (λ x. over_span x s.first s.count) done.book ∙ same_book;
  }

  pub answers_inside : (what : What) (a : Answer) → outside_answer f s.first s.count what ≡ None → is_call what ≡ true → what ≢ Dump →
      AnswersAs f s.owned.view o.view what a → Answers (place_of f s) (place_of f now) what a
  answers_inside (Map va pa len prot) a e call other done =
      let inside : (is_whole f pa && reaches_out f s.first s.count va len) ≡ false = if_none _ _ e in
      let lacking = lacking_in (Map va pa len prot) in
      let same : map_answer (m f s) (part f s) lacking va pa len ≡ map_answer (m f s) (b f s) lacking va pa len =
      ap (map_said lacking) (reaching.map_inside_alike f (b f s) s.first s.count (from f s stands) (to f s stands) va pa len inside) in
      answers_by (Map va pa len prot) a done (ap (λ x. Some (answering.Map x)) same)
      (spans_map (map_answer (m f s) (b f s) lacking va pa len) _ (b f s) s.first s.count
      ∙ ap (λ x. after_map x (mapped f (m f s).levels (part f s) (page_under f va) (len / 2 ^ f.granule) (pa / 2 ^ f.granule) prot) (part f s)) (sym same))
  answers_inside (Unmap va len) a e call other done =
      let inside : reaches_out f s.first s.count va len ≡ false = if_none _ _ e in
      let pages = pages_gone (b f s) (page_under f va) (len / 2 ^ f.granule) in
      let same : unmap_answer (m f s) (part f s) va len ≡ unmap_answer (m f s) (b f s) va len =
      ap (unmap_said pages) (reaching.unmap_inside_alike f (b f s) s.first s.count (from f s stands) (to f s stands) va len inside) in
      answers_by (Unmap va len) a done (ap (λ x. Some (answering.Unmap x)) same)
      (spans_unmap (unmap_answer (m f s) (b f s) va len) _ (b f s) s.first s.count
      ∙ ap (λ x. after_unmap x (unmapped f (part f s) (page_under f va) (len / 2 ^ f.granule)) (part f s)) (sym same))
  answers_inside (Lookup va) a e call other done =
      let inside : has_outside f s.first s.count va ≡ false = if_none _ _ e in
      let there : is_outside f (b f s) va ≡ false = reaching.found_inside f (b f s) s.first s.count (from f s stands) (to f s stands) va inside in
      answers_by (Lookup va) a done
      (ap (λ (t : Bool). Some (answering.Lookup (if t then looking.Outside else found_answer (translation f (b f s) va)))) (inside ∙ sym there))
      refl
  answers_inside Dump a e call other done = absurd (other refl)
  answers_inside Release a e call other done = answers_by Release a done refl refl
  answers_inside (Fork at) a e call other done = absurd (let w : ⊥ = cc in w)
  answers_inside With a e call other done = absurd (let w : ⊥ = cc in w)
  answers_inside End a e call other done = absurd (let w : ⊥ = cc in w)

  -- then it stands as before
  pub stands_after : IsTrue (is_size f 0) → (what : What) (a : Answer) → IsReady f o.view → o.aside ≡ s.owned.aside →
      (book_in o.view).first ≡ (b f s).first → (book_in o.view).count ≡ (b f s).count →
      Answers (place_of f s) (place_of f now) what a → IsStanding f now
  stands_after size what a ready aside first count done = record {
    ready = ready;
    aside = ap (λ x. x.positions) aside ∙ stands.aside;
    small = stands.small;
    some = stands.some;
    stands =
        let keeps : (page : ℕ) → (page ≤ s.first) ⊎ (s.first + s.count ≤ page) → LeavesApart (b f s) page → LeavesApart (book_in o.view) page =
        (λ page out apart. subst (λ (x : Book). LeavesApart x page) (sym done.book) (apart_after (m f s) (part f s) size page out apart (lacking_in what) what)) in
        stands_on (b f s) (book_in o.view) first count s.first (s.first + s.count) keeps s.first s.count s.cuts (omega arith) (omega arith) stands.stands;
  }

  -- what only rests as before stands as before
  pub stands_again : RestsAsBefore f s.owned.view o.view → o.aside ≡ s.owned.aside → IsStanding f now
  stands_again rests aside = record {
    ready = rests.ready;
    aside = ap (λ x. x.positions) aside ∙ stands.aside;
    small = stands.small;
    some = stands.some;
    stands = subst (λ (x : Book). StandsIn x s.first s.count s.cuts) (sym rests.book) stands.stands;
  }

-- What a command over the whole owner answers in the span, want of memory too.
pub record AnswersWith {E : Type 0} (f : Layout) (p q : Place) (what : What) (r : Result Answer E) : Type 0 where
  pub stays : StaysIn p q
  pub answers : IfOk r (λ a. answer_to p.machine p.book (account_says p what) what ≡ Some a)
  pub book : OnOk r (q.book ≡ book_after p.machine p.book (account_says p what) what)
  pub told : IfOk r (IsTellable f)

module _ {E : Type 0} (f : Layout) (s : Stand) (stands : IsStanding f s) (o : Owned) (aside : o.aside ≡ s.owned.aside) (what : What) (inside : outside_answer f s.first s.count what ≡ None) (call : is_call what ≡ true) (other : what ≢ Dump) where
  pub stands_by : (r : Result Answer E) → IsTrue (is_size f 0) → IfOk r (AnswersAs f s.owned.view o.view what) → OnErr r (RestsAsBefore f s.owned.view o.view) →
      IsStanding f (record s { owned = o })
  stands_by (Ok a) size said rests =
      let kept : book_in o.view ≡ over_span (book_after (m f s) (b f s) (lacks_for (m f s) (b f s) what) what) (b f s).first (b f s).count =
      said.book ∙ sym (keeps_span (m f s) (b f s) (lacks_for (m f s) (b f s) what) what) in
      stands_after f s stands o size what a said.ready aside (ap (λ (x : Book). x.first) kept) (ap (λ (x : Book). x.count) kept)
      (answers_inside f s stands o what a inside call other said)
  stands_by (Err x) size said rests = stands_again f s stands o rests aside

  pub answers_with : (r : Result Answer E) → IfOk r (AnswersAs f s.owned.view o.view what) → OnErr r (RestsAsBefore f s.owned.view o.view) → IfOk r (IsTellable f) →
      AnswersWith f (place_of f s) (place_of f (record s { owned = o })) what r
  answers_with (Ok a) said rests told =
      let done = answers_inside f s stands o what a inside call other said in
      record { stays = done.stays; answers = done.answers; book = done.book; told = told }
  answers_with (Err x) said rests told = record { stays = record { machine = rests.machine; cuts = refl }; answers = tt; book = tt; told = tt }
