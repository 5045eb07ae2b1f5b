-- One step of one owner: the rule holds after it, what the number found tells is told, and the call is met.
use Rattle.std.proofs.Common.{◌≡◌, ◌≢◌, ◌⊎◌, ℕ, ◌<◌, List, [], ◌∷◌, refl, ap, sym, ◌∙◌, subst, ⊎_elim}
use Rattle.std.specs.Prelude.{Option, slice_index, slice_set}
use Rattle.std.proofs.lemmas.List.{set-get_or}
use Rattle.pt_model.specs.declared.position.Position.{Position}
use Rattle.pt_model.specs.Layout.{Layout}
use Rattle.pt_model.specs.Sets.{IsAmong}
use Rattle.pt_model.specs.Words.{tag}
use Rattle.pt_view.specs.declared.view.View.{View}
use Rattle.pt_view.specs.Lists.{IsIn, SameFrames}
use Rattle.pt_view.specs.Views.{SameRange}
use Rattle.pt_rule.specs.Lawful.{Lawful}
use Rattle.pt_rule.specs.Kinds.{Kind, May, Tells, after, place_of, put}
use Rattle.pt_rule.specs.Meets.{Says}
use Rattle.pt_rule.proofs.Laws.{steps_keep, steps_meet}
use Rattle.pt_plain.specs.Owner.{Fields, HasWholeSpan, IsOwner, known_in, whole_view}
use Rattle.pt_plain.proofs.Chains.{busy_tag, tag_busy}
use Rattle.pt_plain.proofs.Known.{known_more, known_table}
use Rattle.pt_plain.proofs.Laws.{Laws}
use Rattle.pt_plain.proofs.Matches.{Matches}
use Rattle.pt_plain.proofs.Owners.{Does, does, live, shown, whole}
use Rattle.pt_plain.proofs.ReadBack.{Agrees, Noted, agrees, owner}

module _ {f : Layout} (laws : Laws f) {o : Fields} (own : IsOwner f o) (k : Kind) (may : May f o.frames k (whole_view f o)) where
  abbrev pub found : ℕ
  found = slice_index o.words (place_of f o.frames k)

  kept : Lawful f o.frames o.levels (slice_set o.words (place_of f o.frames k) (put f k (whole_view f o) found)) (after f k found (whole_view f o) ∷ [])
      × Tells f o.frames k (whole_view f o) found
  kept = steps_keep f laws.layout laws.differ laws.agree o.frames o.levels k o.words (whole_view f o ∷ []) 0 (whole_view f o) own.lawful refl (live f o) may

  -- what the number found tells, and what the call says
  pub told : Tells f o.frames k (whole_view f o) found
  told = kept.1

  pub says : Says f k (whole_view f o) found (after f k found (whole_view f o))
  says = steps_meet f laws.layout laws.differ laws.agree o.frames own.lawful.sizes.limit (whole_view f o) k found may told

  -- a store
  pub stored : {word : ℕ} {words : List ℕ} → put f k (whole_view f o) found ≡ word → words ≡ slice_set o.words (place_of f o.frames k) word →
      Lawful f o.frames o.levels words (after f k found (whole_view f o) ∷ [])
  stored puts is = subst (λ (ws : List ℕ). Lawful f o.frames o.levels ws (after f k found (whole_view f o) ∷ []))
      (ap (slice_set o.words (place_of f o.frames k)) puts ∙ sym is) kept.0

  -- a load
  pub loaded : put f k (whole_view f o) found ≡ found → Lawful f o.frames o.levels o.words (after f k found (whole_view f o) ∷ [])
  loaded puts = stored puts (sym (set-get_or o.words (place_of f o.frames k) 0))

-- What an owner's view has noted.
module _ {f : Layout} {o : Fields} (own : IsOwner f o) where
  abbrev v : View
  v = whole_view f o

  pub busy_here : (g : ℕ) → g < o.frames → tag o.words g ≢ 0 → IsIn v.busy g
  busy_here g lt some = subst (λ (xs : List ℕ). IsIn xs g) (sym (shown f o).busy_is) (tag_busy o.words o.frames g lt some)

  pub busy_within : (g : ℕ) → IsIn v.busy g → g < o.frames
  busy_within g h = (busy_tag o.words o.frames g (subst (λ (xs : List ℕ). IsIn xs g) (shown f o).busy_is h)).0

  pub known_here : (p : Position) → IsAmong (known_in o.levels v.tables v.top) p → IsAmong v.known p
  known_here p h = subst (λ (ps : List Position). IsAmong ps p) ((λ i. known_in (sym (shown f o).levels_are i) v.tables v.top) ∙ sym (shown f o).known_is) h

  -- after a step its view has noted all still: no other frame's tag is written, and what joins the tables is known
  pub known_after : (u : View) → ((p : Position) → IsAmong v.known p → IsAmong u.known p) → ((p : Position) → IsAmong u.tables p → IsAmong v.tables p ⊎ IsAmong u.known p) → u.top ≡ v.top →
      (p : Position) → IsAmong (known_in o.levels u.tables u.top) p → IsAmong u.known p
  known_after u keeps joins top p h =
      let old : IsAmong (known_in o.levels v.tables v.top) p → IsAmong u.known p = (λ k. keeps p (known_here p k)) in
      ⊎_elim
      (λ (t : IsAmong u.tables p). ⊎_elim (λ (mine : IsAmong v.tables p). keeps p (known_here p (known_table o.levels v.tables v.top p mine))) (λ (k : IsAmong u.known p). k) (joins p t))
      (λ (s : IsAmong (known_in o.levels v.tables v.top) p). old s)
      (known_more o.levels v.tables u.tables v.top p (subst (λ (k : ℕ). IsAmong (known_in o.levels u.tables k) p) top h))

  pub noted_after : (u : View) {words' : List ℕ} → SameFrames v.busy u.busy → ((g : ℕ) → g < o.frames → tag words' g ≢ 0 → tag o.words g ≢ 0) →
      ((p : Position) → IsAmong v.known p → IsAmong u.known p) → ((p : Position) → IsAmong u.tables p → IsAmong v.tables p ⊎ IsAmong u.known p) → u.top ≡ v.top →
      {head : Option ℕ} {held : ℕ} {path : List ℕ} {level : ℕ} {prepared : Option ℕ} →
      Noted (record o { words = words'; head = head; held = held; path = path; level = level; prepared = prepared }) u
  noted_after u same tags keeps joins top = record {
    within = λ g h. busy_within g ((same g).0 h);
    busy = λ g lt some. (same g).1 (busy_here g lt (tags g lt some));
    known = known_after u keeps joins top;
    taken = λ g h. (same g).1 (own.taken g h);
  }

-- fields that are those of a view after a step are an owner's, and what is said of the view is said of theirs
pub read_back : {f : Layout} (laws : Laws f) {o : Fields} (own : IsOwner f o) (u : View) (o' : Fields) → Lawful f o'.frames o'.levels o'.words (u ∷ []) → SameRange (whole_view f o) u → HasWholeSpan f o'.first o'.count →
    Matches o' u → Noted o' u → (Call : View → View → Type 0) → (Agrees u (whole_view f o') → Call (whole_view f o) (whole_view f o')) → Does f o o' Call
read_back laws own u o' r range span m noted Call says =
    let all = range.count ∙ whole own in
    let a = agrees laws r all span m noted in
    does Call own (owner laws r all span m (λ g h. (a.busy g).1 (noted.taken g h))) (says a)
