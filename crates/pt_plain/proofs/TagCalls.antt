-- The calls on tags: take, place, unplace, and the freeing of one frame.
use Rattle.std.proofs.Common.{◌≡◌, ◌≢◌, ◌⊎◌, inl, inr, ℕ, suc, Bool, true, false, ◌+◌, ◌-◌, ◌%◌, ◌^◌, ◌<◌, ◌≤◌, List, [], ◌∷◌, length, refl, ap, sym, ◌∙◌, subst, arith, eq-eqb, ⊎_elim, ◌++◌}
use Rattle.std.specs.Prelude.{Option, None, Some, ◌==◌, slice_index, slice_set, if◌then◌else◌}
use Rattle.std.proofs.lemmas.Bool.{cases_eq, ne_eqb}
use Rattle.std.proofs.Math.Pow.{pow_mono}
use mathlib.Core.Logic.{dite}
use native.Mathlib.Decide.{ℕ_discrete}
use Rattle.pt_model.specs.declared.position.Position.{Position}
use Rattle.pt_model.specs.Layout.{Layout}
use Rattle.pt_model.specs.Tables.{IsPosition}
use Rattle.pt_model.specs.Words.{frame_limit, placed_at, placed_word, tag}
use Rattle.pt_model.proofs.Places.{root_after_tag, tag_else, tag_same}
use Rattle.pt_format.specs.Laws.{IsLayout}
use Rattle.pt_view.specs.declared.view.View.{View}
use Rattle.pt_view.specs.declared.view.Prepared.{Prepared}
use Rattle.pt_view.specs.Lists.{IsIn}
use Rattle.pt_view.specs.Views.{Aside}
use Rattle.pt_view.specs.Calls.{FillsSpace, FitsSpace, HasEveryFrame, HasFramesBelow, IsFreed, IsPlaced, IsTaken, IsUnplaced, prepared_count}
use Rattle.pt_rule.specs.Tags.{Chained, IsEnd, first_or, held_word}
use Rattle.pt_rule.specs.Holds.{Holds}
use Rattle.pt_rule.specs.Lawful.{Lawful}
use Rattle.pt_rule.specs.Kinds.{after, free, place, rest_of, take, unplace, without}
use Rattle.pt_rule.specs.Meets.{Always}
use Rattle.pt_rule.proofs.Laws.{views_hold}
use Rattle.pt_rule.proofs.TagFacts.{held_nonzero, placed_some, prepared_by}
use Rattle.pt_view.proofs.Members.{in_cases, in_here, in_more}
use Rattle.pt_plain.specs.Owner.{Fields, IsOwner, aside_of, prepared_at, span_view, taken_upto, whole_view}
use Rattle.pt_plain.proofs.Carried.{freed_on, placed_on, taken_on, unplaced_on}
use Rattle.pt_plain.proofs.Laws.{Laws}
use Rattle.pt_plain.proofs.Matches.{path_kept, prepared_kept, prepared_none, purse_more}
use Rattle.pt_plain.proofs.Owners.{Does, aside_none, does, given, live, matches, shown, span_whole, whole}
use Rattle.pt_plain.proofs.Steps.{busy_here, busy_within, known_after, noted_after, read_back, says, stored, told}

-- the frames of a space are few
pub frames_few : (f : Layout) → IsLayout f → frame_limit f ≤ 2 ^ 15
frames_few f good = let bits : 27 - f.granule ≤ 15 = (let low = good.granule_low in omega arith) in pow_mono bits

-- a purse with a first frame
first_rest : (xs : List ℕ) (frame : ℕ) → first_or None xs ≡ Some frame → (rest : List ℕ) × (xs ≡ frame ∷ rest)
first_rest [] frame e = absurd (let w : ⊥ = cc in w)
first_rest (x ∷ xs) frame e = let same : x ≡ frame = cc in (xs, ap (λ (y : ℕ). y ∷ xs) same)

some_first : (xs : List ℕ) → 0 < length xs → first_or None xs ≡ None → ⊥
some_first [] some e = omega arith
some_first (x ∷ xs) some e = let w : ⊥ = cc in w

-- a tag that wasn't 0 is written
pub tags_before : (words : List ℕ) (frame word : ℕ) → tag words frame ≢ 0 → (g : ℕ) → tag (slice_set words (1 + frame) word) g ≢ 0 → tag words g ≢ 0
tags_before words frame word old g some = dite (ℕ_discrete g frame) (λ e z. old (sym (ap (tag words) e) ∙ z)) (λ ne z. some (tag_else words frame word g ne ∙ z))

-- What the calls do: a frame isn't free, it is the purse's first, the purse's first frame is prepared, the prepared one is
-- put back, and the first one is freed.
abbrev pub Lost : {f : Layout} {o : Fields} → IsOwner f o → (frame number : ℕ) → Type 0
Lost {f} {o} own frame number = Does f o (record o { taken_below = number }) (λ v w. IsTaken ⊥ frame v false w)

module _ {f : Layout} {o : Fields} (own : IsOwner f o) (frame : ℕ) (words : List ℕ) where
  abbrev pub Taken : (number : ℕ) → Type 0
  Taken number = Does f o (record o { words = words; head = Some frame; held = o.held + 1; taken_below = number }) (λ v w. IsTaken ⊥ frame v true w)

  abbrev pub Placed : (next : Option ℕ) → Position → Type 0
  Placed next p = Does f o (record o { words = words; head = next; held = o.held - 1; prepared = Some frame }) (λ v w. IsPlaced ⊥ v p w)

  abbrev pub Unplaced : Type 0
  Unplaced = Does f o (record o { words = words; head = Some frame; held = o.held + 1; prepared = None }) (λ v w. IsUnplaced ⊥ v w)

  abbrev pub Freed : (next : Option ℕ) (number : ℕ) → Type 0
  Freed next number = Does f o (record o { words = words; head = next; held = o.held - 1; taken_below = number }) (λ v w. IsFreed ⊥ (frame ∷ []) v w)

module _ {f : Layout} (laws : Laws f) {o : Fields} (own : IsOwner f o) where
  abbrev v : View
  v = whole_view f o

  -- The frames of an owner.

  holds : Holds f o.frames o.levels v
  holds = views_hold f laws.layout o.frames o.levels o.words (v ∷ []) 0 v own.lawful refl (live f o)

  -- a frame's tag is one of the words
  pub tag_there : (frame : ℕ) → frame < o.frames → 1 + frame < length o.words
  tag_there frame lt = let long = own.lawful.sizes.words_are in omega arith

  pub frames_are : (span_view f o).frames ≡ o.frames
  frames_are = ap (λ (w : View). w.frames) (span_whole own) ∙ (shown f o).frames_are

  -- the linked frames and the own ones are at most all, and all where every frame was found busy
  pub few : FitsSpace (span_view f o) (aside_of f o)
  few = subst (λ (t : View × Aside). FitsSpace t.0 t.1) (λ i. (sym (span_whole own) i, sym (aside_none own) i)) (let c = (holds.counted (whole own)).0 in let e = (shown f o).frames_are in omega arith)

  pub every : HasEveryFrame (span_view f o) → FillsSpace (span_view f o) (aside_of f o)
  every = subst (λ (t : View × Aside). HasEveryFrame t.0 → FillsSpace t.0 t.1) (λ i. (sym (span_whole own) i, sym (aside_none own) i))
      (λ all. let c = (holds.counted (whole own)).1 all in let e = (shown f o).frames_are in omega arith)

  pub purse_length : length v.purse ≡ o.held
  purse_length = ap length (shown f o).purse_is ∙ own.held_is

  pub held_is : length (span_view f o).purse ≡ o.held
  held_is = ap (λ (w : View). length w.purse) (span_whole own) ∙ purse_length

  pub held_few : o.held ≤ o.frames
  held_few = let e = purse_length in let most = holds.few in omega arith

  pub next_is : first_or v.end v.purse ≡ o.head
  next_is = let s = shown f o in (λ i. first_or (s.end_is i) (s.purse_is i)) ∙ own.first_is

  -- Take.

  -- each frame below the number after a try was below it before, or is the one that was tried
  upto_cases : (number frame g : ℕ) → g < taken_upto number frame → (g ≡ frame) ⊎ (g < number)
  upto_cases number frame g less = elim (cases_eq frame number) [
    | inl e ↦ (let below : g < frame + 1 = subst (λ (b : Bool). g < (if b then frame + 1 else number)) (eq-eqb frame number e) less in
        dite (ℕ_discrete g frame) (λ same. inl same) (λ ne. inr (omega arith)))
    | inr ne ↦ inr (subst (λ (b : Bool). g < (if b then frame + 1 else number)) (ne_eqb frame number ne) less)
  ]

  -- the number has a part in no view
  same_view : (number : ℕ) → whole_view f (record o { taken_below = number }) ≡ v
  unfolding whole_view
  same_view number = refl

  not_taken_here : (frame : ℕ) → frame < o.frames → tag o.words frame ≢ 0 → IsTaken ⊥ frame v false v
  not_taken_here frame lt some = record {
    range = record { frames = refl; levels = refl; first = refl; count = refl };
    book = record { pieces = refl; tables = refl; top = refl };
    path = refl;
    prepared = refl;
    end = refl;
    takes = (refl, λ no. absurd no);
    busy = λ x. (λ h. inr h, λ h. ⊎_elim (λ (e : x ≡ frame). subst (IsIn v.busy) (sym e) (busy_here own frame lt some)) (λ (old : IsIn v.busy x). old) h);
    known = λ p. (λ h. h, λ h. h);
    told = λ no. absurd no;
  }

  -- the frame wasn't free: the view stays
  pub not_taken : (frame : ℕ) → frame < o.frames → tag o.words frame ≢ 0 → (number : ℕ) → number ≡ taken_upto o.taken_below frame → Lost own frame number
  not_taken frame lt some number is =
      let same = same_view number in
      let all : HasFramesBelow v number =
      (λ g less. ⊎_elim (λ (e : g ≡ frame). subst (IsIn v.busy) (sym e) (busy_here own frame lt some)) (λ (old : g < o.taken_below). own.taken g old)
      (upto_cases o.taken_below frame g (subst (λ (n : ℕ). g < n) is less))) in
      let now : IsOwner f (record o { taken_below = number }) = record {
        lawful = subst (λ (w : View). Lawful f o.frames o.levels o.words (w ∷ [])) (sym same) own.lawful;
        span = own.span;
        first_is = own.first_is;
        held_is = own.held_is;
        low = own.low;
        levels_are = own.levels_are;
        eight = own.eight;
        taken = subst (λ (w : View). HasFramesBelow w number) (sym same) all;
      } in
      does (λ v w. IsTaken ⊥ frame v false w) own now (subst (IsTaken ⊥ frame v false) (sym same) (not_taken_here frame lt some))

  module _ (frame : ℕ) (lt : frame < o.frames) (free : tag o.words frame ≡ 0) where
    abbrev u : View
    u = record v { purse = frame ∷ v.purse; busy = frame ∷ v.busy }

    after_is : after f (take frame) (tag o.words frame) v ≡ u
    after_is = ap (λ (b : Bool). if b then u else record v { busy = frame ∷ v.busy; taken = v.taken ++ frame ∷ [] }) (eq-eqb (tag o.words frame) 0 free)

    -- the count of the purse can grow
    pub take_room : o.held < o.frames
    take_room = let r = told laws own (take frame) lt free in let e = purse_length in omega arith

    pub taken : (words : List ℕ) → words ≡ slice_set o.words (1 + frame) (held_word o.head) → (number : ℕ) → number ≡ taken_upto o.taken_below frame → Taken own frame words number
    taken words is number number_is =
        let puts : (if tag o.words frame == 0 then held_word (first_or v.end v.purse) else tag o.words frame) ≡ held_word o.head =
        ap (λ (b : Bool). if b then held_word (first_or v.end v.purse) else tag o.words frame) (eq-eqb (tag o.words frame) 0 free) ∙ ap held_word next_is in
        let r : IsTaken Always frame v true u =
        subst (λ (t : Bool × View). IsTaken Always frame v t.0 t.1) (λ i. (eq-eqb (tag o.words frame) 0 free i, after_is i)) (says laws own (take frame) lt) in
        let m = matches own in
        let root = ap (λ (z : ℕ). z % 8) (ap (λ (ws : List ℕ). slice_index ws 0) is ∙ root_after_tag o.words frame (held_word o.head)) in
        read_back laws own u (record o { words = words; head = Some frame; held = o.held + 1; taken_below = number })
        (subst (λ (w : View). Lawful f o.frames o.levels words (w ∷ [])) after_is (stored laws own (take frame) lt puts is)) r.range own.span
        (record { purse = purse_more refl refl m.purse; path = path_kept refl root m.path; prepared = prepared_kept refl m.prepared })
        (record {
          within = λ g h. ⊎_elim (λ (e : g ≡ frame). subst (λ (k : ℕ). k < o.frames) (sym e) lt) (λ (old : IsIn v.busy g). busy_within own g old) ((r.busy g).0 h);
          busy = λ g below some. dite (ℕ_discrete g frame) (λ e. (r.busy g).1 (inl e))
              (λ ne. (r.busy g).1 (inr (busy_here own g below (λ z. some (ap (λ (ws : List ℕ). tag ws g) is ∙ tag_else o.words frame (held_word o.head) g ne ∙ z)))));
          known = known_after own u (λ p h. h) (λ p h. inl h) refl;
          taken = λ g less. ⊎_elim (λ (e : g ≡ frame). (r.busy g).1 (inl e)) (λ (old : g < o.taken_below). (r.busy g).1 (inr (own.taken g old))) (upto_cases o.taken_below frame g (subst (λ (n : ℕ). g < n) number_is less));
        })
        (λ v w. IsTaken ⊥ frame v true w) (λ a. taken_on a r)

  -- Place.

  pub some_head : 0 < length (span_view f o).purse → o.head ≢ None
  some_head some e =
      some_first v.purse (given own (λ w. 0 < length w.purse) some) (ap (λ (h : Option ℕ). first_or h v.purse) (sym (shown f o).end_is) ∙ next_is ∙ e)

  module _ (frame : ℕ) (is : o.head ≡ Some frame) where
    pub purse_is : (rest : List ℕ) × (v.purse ≡ frame ∷ rest)
    purse_is = first_rest v.purse frame (ap (λ (h : Option ℕ). first_or h v.purse) (sym (shown f o).end_is) ∙ next_is ∙ is)

    abbrev pub rest : List ℕ
    rest = purse_is.0

    mine : (x : ℕ) → IsIn (frame ∷ rest) x → x < o.frames
    mine x h = holds.purse_within x (subst (λ (xs : List ℕ). IsIn xs x) (sym purse_is.1) h)

    pub head_within : frame < o.frames
    head_within = mine frame (in_here frame rest)

    chained : Chained o.words None (frame ∷ rest)
    chained = subst (λ (t : Option ℕ × List ℕ). Chained o.words t.0 t.1) (λ i. ((shown f o).end_is i, purse_is.1 i)) (own.lawful.purses.chained 0 v refl)

    pub tag_is : tag o.words frame ≡ held_word (first_or None rest)
    tag_is = chained.0

    next_end : (xs : List ℕ) → ((x : ℕ) → IsIn xs x → x < o.frames) → IsEnd (2 ^ 32) (first_or None xs)
    next_end [] h = tt
    next_end (x ∷ xs) h = let a = h x (in_here x xs) in let b = own.lawful.sizes.limit in let c = frames_few f laws.layout in omega arith

    -- the tag names the next one
    pub next_named : (next : Option ℕ) × (tag o.words frame ≡ held_word next) × IsEnd (2 ^ 32) next
    next_named = (first_or None rest, tag_is, next_end rest (λ x h. mine x (in_more x frame rest h)))

    module _ (none : (span_view f o).prepared ≡ None) (p : Position) (legal : IsPosition f p) where
      abbrev placed_u : View
      placed_u = after f (place frame p) (tag o.words frame) v

      may : ((xs : List ℕ) × (v.purse ≡ frame ∷ xs)) × (v.prepared ≡ None) × IsPosition f p
      may = (purse_is, given own (λ w. w.prepared ≡ None) none, legal)

      pub placed : (words : List ℕ) (next : Option ℕ) → words ≡ slice_set o.words (1 + frame) (placed_word p) → first_or None rest ≡ next → Placed own frame words next p
      placed words next stores next_is =
          let r = says laws own (place frame p) may in
          let m = matches own in
          let less : length v.purse ≡ suc (length rest) = ap length purse_is.1 in
          let same : length (rest_of v.purse) ≡ length rest = ap (λ (xs : List ℕ). length (rest_of xs)) purse_is.1 in
          let h = purse_length in
          let a = legal.a_level in
          let b = laws.layout.levels_high in
          let old : tag o.words frame ≢ 0 = (λ z. held_nonzero (first_or None rest) (sym tag_is ∙ z)) in
          let root = ap (λ (z : ℕ). z % 8) (ap (λ (ws : List ℕ). slice_index ws 0) stores ∙ root_after_tag o.words frame (placed_word p)) in
          read_back laws own placed_u (record o { words = words; head = next; held = o.held - 1; prepared = Some frame }) (stored laws own (place frame p) may refl stores) r.range own.span
          (record {
            purse = record { first_is = ap (λ (xs : List ℕ). first_or None (rest_of xs)) purse_is.1 ∙ next_is; held_is = omega arith; end = m.purse.end };
            path = path_kept refl root m.path;
            prepared = record { is = refl; plain = (refl, omega arith) };
          })
          (noted_after own placed_u r.busy (λ g lt some. tags_before o.words frame (placed_word p) old g (λ z. some (ap (λ (ws : List ℕ). tag ws g) stores ∙ z))) (λ p h. h) (λ p h. inl h) refl)
          (λ v w. IsPlaced ⊥ v p w) (λ a. placed_on a r)

    -- Freeing the first frame of the purse.

    only_frame : (g : ℕ) → IsIn (frame ∷ []) g → g ≡ frame
    only_frame g h = ⊎_elim (λ (e : g ≡ frame). e) (λ (none : IsIn [] g). absurd (omega arith)) (in_cases g frame [] h)

    pub freed : (words : List ℕ) (next : Option ℕ) → words ≡ slice_set o.words (1 + frame) 0 → first_or None rest ≡ next → (number : ℕ) → number ≤ o.taken_below → number ≤ frame →
        Freed own frame words next number
    freed words next stores next_is number below here =
        let u : View = record v { purse = rest_of v.purse; busy = without frame v.busy } in
        let r : IsFreed Always (frame ∷ []) v u = says laws own (free frame) purse_is in
        let m = matches own in
        let less : length v.purse ≡ suc (length rest) = ap length purse_is.1 in
        let same : length (rest_of v.purse) ≡ length rest = ap (λ (xs : List ℕ). length (rest_of xs)) purse_is.1 in
        let h = purse_length in
        let root = ap (λ (z : ℕ). z % 8) (ap (λ (ws : List ℕ). slice_index ws 0) stores ∙ root_after_tag o.words frame 0) in
        let zero_now : tag words frame ≡ 0 = ap (λ (ws : List ℕ). tag ws frame) stores ∙ tag_same f o.frames o.words frame 0 own.lawful.sizes.words_are head_within in
        read_back laws own u (record o { words = words; head = next; held = o.held - 1; taken_below = number }) (stored laws own (free frame) purse_is refl stores) r.range own.span
        (record {
          purse = record { first_is = ap (λ (xs : List ℕ). first_or None (rest_of xs)) purse_is.1 ∙ next_is; held_is = omega arith; end = m.purse.end };
          path = path_kept refl root m.path;
          prepared = prepared_kept refl m.prepared;
        })
        (record {
          within = λ g h. busy_within own g ((r.busy g).0 h).1;
          busy = λ g lt some. (r.busy g).1 (
            λ (gone : IsIn (frame ∷ []) g). some (ap (tag words) (only_frame g gone) ∙ zero_now),
            busy_here own g lt (λ z. dite (ℕ_discrete g frame) (λ e. some (ap (tag words) e ∙ zero_now))
                (λ ne. some (ap (λ (ws : List ℕ). tag ws g) stores ∙ tag_else o.words frame 0 g ne ∙ z))),
          );
          known = known_after own u (λ p h. h) (λ p h. inl h) refl;
          taken = λ g less. (r.busy g).1 (λ (gone : IsIn (frame ∷ []) g). let same = only_frame g gone in omega arith, own.taken g (omega arith));
        })
        (λ v w. IsFreed ⊥ (frame ∷ []) v w) (λ a. freed_on a r)

  -- Unplace.

  pub some_prepared : (x : Prepared) → v.prepared ≡ Some x → o.prepared ≢ None
  some_prepared x h e =
      let both : prepared_at o.words None ≡ Some x = ap (prepared_at o.words) (sym e) ∙ sym (shown f o).prepared_is ∙ h in
      let w : ⊥ = cc in w

  module _ (frame : ℕ) (is : o.prepared ≡ Some frame) where
    abbrev at_tag : Position
    at_tag = placed_at (tag o.words frame)

    abbrev ready : Prepared
    ready = record { frame = frame; position = at_tag; bridge = None }

    prepared_is : v.prepared ≡ Some ready
    prepared_is = (shown f o).prepared_is ∙ ap (prepared_at o.words) is

    pub prepared_within : frame < o.frames
    prepared_within = holds.prepared_within ready prepared_is

    -- the count of the purse can grow
    pub unplace_room : o.held < o.frames
    unplace_room = let most = holds.few in let e = purse_length in let one : prepared_count v.prepared ≡ 1 = ap prepared_count prepared_is in omega arith

    pub unplaced : (words : List ℕ) → words ≡ slice_set o.words (1 + frame) (held_word o.head) → Unplaced own frame words
    unplaced words stores =
        let u : View = record v { purse = frame ∷ v.purse; prepared = None } in
        let may : (p : Position) × (v.prepared ≡ Some (let x : Prepared = record { frame = frame; position = p; bridge = None } in x)) = (at_tag, prepared_is) in
        let r : IsUnplaced Always v u = says laws own (unplace frame) may in
        let m = matches own in
        let old : tag o.words frame ≢ 0 = placed_some (tag o.words frame) (prepared_by f o.frames o.words (v ∷ []) own.lawful.frames 0 v ready refl prepared_is).placed in
        let root = ap (λ (z : ℕ). z % 8) (ap (λ (ws : List ℕ). slice_index ws 0) stores ∙ root_after_tag o.words frame (held_word o.head)) in
        read_back laws own u (record o { words = words; head = Some frame; held = o.held + 1; prepared = None })
        (stored laws own (unplace frame) may (ap held_word next_is) stores) r.range own.span
        (record { purse = purse_more refl refl m.purse; path = path_kept refl root m.path; prepared = prepared_none refl })
        (noted_after own u r.busy (λ g lt some. tags_before o.words frame (held_word o.head) old g (λ z. some (ap (λ (ws : List ℕ). tag ws g) stores ∙ z))) (λ p h. h) (λ p h. inl h) refl)
        (λ v w. IsUnplaced ⊥ v w) (λ a. unplaced_on a r)
