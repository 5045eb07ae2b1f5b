-- Where a view spans the whole space, the linked positions, its purse and its prepared frame are as many frames:
-- at most all, and all where it found none of them free.
use Rattle.std.proofs.Common.{◌≡◌, ◌≢◌, ◌⊎◌, inl, inr, ℕ, zero, suc, true, false, ◌+◌, ◌-◌, ◌*◌, ◌%◌, ◌<◌, ◌≤◌, List, [], ◌∷◌, ◌++◌, length, refl, ap, sym, ◌∙◌, subst, ⊎_elim, arith}
use Rattle.std.specs.Prelude.{IsTrue, ◌==◌, nat_le, map, Option, None, Some}
use Rattle.std.specs.List.{AllByRecursion, range_with_len}
use Rattle.std.proofs.lemmas.Bool.{and_parts, eq-eqb, ne_eqb, eqb-true, cases_Bool, false_from_ne_true, false≢true, leb-true}
use Rattle.std.proofs.lemmas.Nat.{pow_pos}
use Rattle.std.proofs.lemmas.List.{length-append, length-map}
use mathlib.Core.Option.{some}
use mathlib.Core.Logic.{dite}
use native.Mathlib.Decide.{ℕ_discrete, dec_le}
use lib.ListN.{get_elem?}
use Rattle.pt_view.proofs.Members.{all_append, times_append}
use Rattle.pt_model.specs.declared.position.Position.{Position}
use Rattle.pt_model.specs.Layout.{Layout, input_pages}
use Rattle.pt_model.specs.Tables.{is_same, is_spine, levels_between, spine_position, starting_top}
use Rattle.pt_model.specs.Words.{tag, placed_at, placed_word, root_level}
use Rattle.pt_format.specs.Laws.{IsLayout}
use Rattle.pt_view.specs.declared.view.View.{View}
use Rattle.pt_view.specs.declared.view.Prepared.{Prepared}
use Rattle.pt_model.specs.Sets.{one_if, places, IsAmong}
use Rattle.pt_view.specs.Lists.{times}
use Rattle.pt_view.specs.Calls.{held_count, prepared_count, HasEveryFrame}
use Rattle.pt_view.specs.Views.{linked_of}
use Rattle.pt_rule.specs.Totals.{total, is_prepared, prepares}
use Rattle.pt_rule.specs.Tags.{free, held, placed, held_word, is_held, is_placed}
use Rattle.pt_rule.specs.Linked.{IsLinked, IsLinkedAt, is_in_tree}
use Rattle.pt_rule.specs.Lawful.{Lawful, IsOwnTable}
use Rattle.pt_rule.proofs.FewFrames.{distinct_few, length_sum, sum_below}
use Rattle.pt_model.proofs.Positions.{bit_le, bit_true, bit_false, is_same_self, same_cases, places_append, among_all, all_among, same_position, levels_among, sorted_once, sorted_levels}
use Rattle.pt_rule.proofs.PathTables.{all_levels}
use Rattle.pt_rule.proofs.TreeFacts.{level_low, one_frame, spine_there, table_there, whole_alone, whole_tree}
use Rattle.pt_rule.proofs.RootKept.{spine_is}
use Rattle.pt_rule.specs.WholeView.{is_linked_in, prepared_frame}
use Rattle.pt_rule.specs.WholeCounts.{TagsAreCounted, linked_frames_in}
use Rattle.pt_rule.proofs.AloneKept.{alone}
use Rattle.pt_rule.proofs.ReadTables.{is_linked, reads_linked}

-- Lists of positions.

spine_all : (levels low count : ℕ) → starting_top levels ≤ low → AllByRecursion (λ p. IsTrue (is_spine levels p)) (map spine_position (range_with_len low count))
spine_all levels low zero h = tt
spine_all levels low (suc count) h = (spine_is levels low h, spine_all levels (low + 1) count (omega arith))

abbrev prepared_frames : Option Prepared → List ℕ
prepared_frames None = []
prepared_frames (Some x) = x.frame ∷ []

prepared_times : (g : ℕ) (o : Option Prepared) → times g (prepared_frames o) ≡ one_if (is_prepared g o)
prepared_times g None = refl
prepared_times g (Some x) = omega arith

prepared_length : (o : Option Prepared) → length (prepared_frames o) ≡ prepared_count o
prepared_length None = refl
prepared_length (Some x) = refl

-- numbers that are 1 each below n add up to n
sum_all : (h : ℕ → ℕ) (n : ℕ) → ((g : ℕ) → g < n → h g ≡ 1) → sum_below h n ≡ n
sum_all h zero each = refl
sum_all h (suc n) each = let a = sum_all h n (λ g lt. each g (omega arith)) in let b = each n (omega arith) in omega arith

held_or_placed : (t : ℕ) → one_if (is_held t) + one_if (is_placed t) ≤ 1
held_or_placed t = ⊎_elim
    (λ (e : is_held t ≡ true). let one : t % 4 ≡ 1 = eqb-true (t % 4) 1 e in
    let no : is_placed t ≡ false = ap (λ (z : ℕ). z == 2) one in let a = bit_le (is_held t) in let b = bit_false (is_placed t) no in omega arith)
    (λ (e : is_held t ≡ false). let a = bit_false (is_held t) e in let b = bit_le (is_placed t) in omega arith) (cases_Bool (is_held t))

module _ (f : Layout) (n l : ℕ) (good : IsLayout f) (words : List ℕ) (v : View) (r : Lawful f n l words (v ∷ [])) (whole : v.count ≡ input_pages f) where
  live : 0 < v.count
  live = let some_page = pow_pos (f.input - f.granule) in omega arith

  levels_are : v.levels ≡ l
  levels_are = (r.sizes.live 0 v refl live).1

  top_is : root_level words ≡ v.top
  top_is = is r.root.reached
    where
      is : ((j : ℕ) × (u : View) × (get_elem? (v ∷ []) j ≡ some u) × (0 < u.count) × (u.top ≡ root_level words)) → root_level words ≡ v.top
      is (j, u, here, alive, e) = sym e ∙ ap (λ (z : View). z.top) (whole_alone f n l words (v ∷ []) good r 0 v refl live whole j u here alive)

  low_is : starting_top v.levels ≤ v.top
  low_is = (r.books 0 v refl live).top_low

  abbrev There : Position → Type 0
  There p = IsTrue (is_in_tree l words (v ∷ []) p)

  -- The linked positions.

  abbrev spine : List Position
  spine = map spine_position (levels_between (starting_top v.levels) v.top)

  abbrev positions : List Position
  positions = v.tables ++ spine

  all_there : AllByRecursion There positions
  all_there = all_append There v.tables spine (all_among There v.tables (λ p a. table_there f n l words (v ∷ []) good r 0 v refl p a))
      (all_levels There spine_position (starting_top v.levels) v.top
      (λ k from to. let top = top_is in spine_there f n l words (v ∷ []) good r k (subst (λ (z : ℕ). starting_top z ≤ k) levels_are from) (omega arith)))

  once : (p : Position) → places p positions ≤ 1
  once p =
      let sum = places_append p v.tables spine in
      let a = sorted_once v.tables (r.books 0 v refl live).in_order p in
      let b = sorted_once spine (sorted_levels spine_position (λ k. refl) (v.top + 1 - starting_top v.levels) (starting_top v.levels)) p in
      dite (dec_le (places p v.tables) 0) (λ none. omega arith)
      (λ some_one.
      let known : IsAmong v.tables p = omega arith in
      let off : is_spine v.levels p ≡ false = (among_all (IsOwnTable f v) v.tables (r.books 0 v refl live).tables p known).off_spine in
      dite (dec_le (places p spine) 0) (λ none. omega arith)
      (λ other. let on : IsAmong spine p = omega arith in
      absurd (false≢true (sym off ∙ among_all (λ q. IsTrue (is_spine v.levels q)) spine (spine_all v.levels (starting_top v.levels) (v.top + 1 - starting_top v.levels) (omega arith)) p on))))

  stands : (p : Position) → There p → IsAmong positions p
  stands p t = ⊎_elim
      (λ (known : IsAmong v.tables p). let sum = places_append p v.tables spine in omega arith)
      (λ (s : IsTrue (is_spine v.levels p)).
      let b : (nat_le (starting_top v.levels) p.level ≡ true) × ((p.base == 0) ≡ true) = and_parts (nat_le (starting_top v.levels) p.level) _ s in
      let low = leb-true (starting_top v.levels) p.level b.0 in
      let high = level_low f n l words (v ∷ []) good r p t in
      let top = top_is in
      let on : IsAmong spine p = subst (IsAmong spine) (sym (same_position p (spine_position p.level) refl (eqb-true p.base 0 b.1)))
      (levels_among spine_position (v.top + 1 - starting_top v.levels) (starting_top v.levels) p.level low (omega arith)) in
      let sum = places_append p v.tables spine in omega arith)
      (whole_tree f n l words (v ∷ []) good r 0 v refl live whole p t)

  -- Their frames.

  abbrev frames_of : (ps : List Position) → AllByRecursion There ps → List ℕ
  frames_of [] all = []
  frames_of (p ∷ ps) all = (r.positions.all p all.0).0 ∷ frames_of ps all.1

  frames_length : (ps : List Position) (all : AllByRecursion There ps) → length (frames_of ps all) ≡ length ps
  frames_length [] all = refl
  frames_length (p ∷ ps) all = let rest = frames_length ps all.1 in omega arith

  -- a linked frame is that of its position, and a frame that isn't linked is none of them
  linked_times : (g : ℕ) → IsLinked n words (v ∷ []) g → (ps : List Position) (all : AllByRecursion There ps) → times g (frames_of ps all) ≡ places (placed_at (tag words g)) ps
  linked_times g a [] all = refl
  linked_times g a (p ∷ ps) all =
      let rest = linked_times g a ps all.1 in
      let q : Position = placed_at (tag words g) in
      let here : IsLinkedAt n words (v ∷ []) g q = record { is_linked = a; at = refl } in
      let c : (h : ℕ) × IsLinkedAt n words (v ∷ []) h p = r.positions.all p all.0 in
      let one : one_if (c.0 == g) ≡ one_if (is_same q p) = dite (ℕ_discrete c.0 g)
      (λ e.
      let same : q ≡ p = sym (ap (λ (z : ℕ). placed_at (tag words z)) e) ∙ c.1.at in
      bit_true (c.0 == g) (eq-eqb c.0 g e) ∙ sym (bit_true (is_same q p) (ap (is_same q) (sym same) ∙ is_same_self q q refl)))
      (λ ne. ⊎_elim
      (λ (e : q ≡ p). absurd (ne (one_frame f n l words (v ∷ []) good r c.0 g p c.1 (subst (IsLinkedAt n words (v ∷ []) g) e here))))
      (λ (no : is_same q p ≡ false). bit_false (c.0 == g) (ne_eqb c.0 g ne) ∙ sym (bit_false (is_same q p) no)) (same_cases q p)) in
      omega arith

  unlinked_times : (g : ℕ) → ¬ IsLinked n words (v ∷ []) g → (ps : List Position) (all : AllByRecursion There ps) → times g (frames_of ps all) ≡ 0
  unlinked_times g not_linked [] all = refl
  unlinked_times g not_linked (p ∷ ps) all =
      let rest = unlinked_times g not_linked ps all.1 in
      let c : (h : ℕ) × IsLinkedAt n words (v ∷ []) h p = r.positions.all p all.0 in
      let none = bit_false (c.0 == g) (ne_eqb c.0 g (λ e. not_linked (subst (IsLinked n words (v ∷ [])) e c.1.is_linked))) in
      omega arith

  -- All frames that aren't free.

  abbrev linked_frames : List ℕ
  linked_frames = frames_of positions all_there

  abbrev used : List ℕ
  used = v.purse ++ (prepared_frames v.prepared ++ linked_frames)

  used_times : (g : ℕ) → times g used ≡ times g v.purse + one_if (is_prepared g v.prepared) + times g linked_frames
  used_times g =
      let a = times_append g v.purse (prepared_frames v.prepared ++ linked_frames) in
      let b = times_append g (prepared_frames v.prepared) linked_frames in
      let c = prepared_times g v.prepared in omega arith

  used_length : length used ≡ linked_of v + held_count v
  used_length =
      let a = length-append v.purse (prepared_frames v.prepared ++ linked_frames) in
      let b = length-append (prepared_frames v.prepared) linked_frames in
      let c = prepared_length v.prepared in
      let d = frames_length positions all_there in
      let e = length-append v.tables spine in
      let g = length-map (levels_between (starting_top v.levels) v.top) spine_position in omega arith

  -- each frame is used once at most, and once where it isn't free
  linked_once : (g : ℕ) → g < n → IsLinked n words (v ∷ []) g → times g used ≡ 1
  linked_once g lt a =
      let q : Position = placed_at (tag words g) in
      let t = used_times g in
      let k = linked_times g a positions all_there in
      let some_one : 0 < places q positions = stands q (r.positions.in_tree g a) in
      let most = once q in
      let h = r.frames.held g lt in
      let no_held = held_or_placed (tag words g) in
      let yes = bit_true (is_placed (tag words g)) a.placed in
      let none = a.unprepared in omega arith

  unlinked_once : (g : ℕ) → g < n → ¬ IsLinked n words (v ∷ []) g → (times g used ≤ 1) × (tag words g ≢ 0 → times g used ≡ 1)
  unlinked_once g lt not_linked =
      let t = used_times g in
      let k = unlinked_times g not_linked positions all_there in
      let h = r.frames.held g lt in
      let p = r.frames.prepared g lt in
      let most = held_or_placed (tag words g) in
      let bit = bit_le (is_prepared g v.prepared) in (
        omega arith,
        λ some_tag. elim (r.frames.tags g lt) [
          | free e ↦ absurd (some_tag e)
          | held next e ↦ (let yes = bit_true (is_held (tag words g)) (ap is_held e ∙ held_word_held next) in omega arith)
          | placed q legal e ↦
              let yes : is_placed (tag words g) ≡ true = ap is_placed e ∙ placed_word_placed q in
              let one = bit_true (is_placed (tag words g)) yes in
              dite (dec_le (one_if (is_prepared g v.prepared)) 0)
              (λ none. absurd (not_linked (record { within = lt; placed = yes; unprepared = omega arith })))
              (λ some_one. omega arith)
        ],
      )
    where
      held_word_held : (next : Option ℕ) → is_held (held_word next) ≡ true
      held_word_held None = refl
      held_word_held (Some k) = let e : (1 + 4 * (k + 1)) % 4 ≡ 1 = omega arith in ap (λ (z : ℕ). z == 1) e

      placed_word_placed : (q : Position) → is_placed (placed_word q) ≡ true
      placed_word_placed q = let e : (2 + 4 * q.level + 32 * q.base) % 4 ≡ 2 = omega arith in ap (λ (z : ℕ). z == 2) e

  linked_or_not : (g : ℕ) → g < n → IsLinked n words (v ∷ []) g ⊎ (¬ IsLinked n words (v ∷ []) g)
  linked_or_not g lt = ⊎_elim
      (λ (yes : is_placed (tag words g) ≡ true). dite (dec_le (total (prepares g) (v ∷ [])) 0)
      (λ none. inl (record { within = lt; placed = yes; unprepared = omega arith }))
      (λ some_one. inr (λ a. some_one (let z = a.unprepared in omega arith))))
      (λ (no : is_placed (tag words g) ≡ false). inr (λ a. false≢true (sym no ∙ a.placed))) (cases_Bool (is_placed (tag words g)))

  used_once : (g : ℕ) → g < n → times g used ≤ 1
  used_once g lt = ⊎_elim (λ (a : IsLinked n words (v ∷ []) g). let e = linked_once g lt a in omega arith)
      (λ (no : ¬ IsLinked n words (v ∷ []) g). (unlinked_once g lt no).0) (linked_or_not g lt)

  used_all : (g : ℕ) → g < n → tag words g ≢ 0 → times g used ≡ 1
  used_all g lt some_tag = ⊎_elim (λ (a : IsLinked n words (v ∷ []) g). linked_once g lt a)
      (λ (no : ¬ IsLinked n words (v ∷ []) g). (unlinked_once g lt no).1 some_tag) (linked_or_not g lt)

  used_within : (g : ℕ) → n ≤ g → times g used ≡ 0
  used_within g le =
      let t = used_times g in
      let a = r.frames.none_held g le in
      let b = r.frames.none_prepared g le in
      let k = unlinked_times g (λ a. let lt = a.within in omega arith) positions all_there in omega arith

  few : linked_of v + held_count v ≤ n
  few = let a = distinct_few n used used_once used_within in let e = used_length in omega arith

  every : HasEveryFrame v → linked_of v + held_count v ≡ n
  every all =
      let frames : v.frames ≡ n = (r.sizes.live 0 v refl live).0 in
      let a = length_sum n used used_within in
      let b = sum_all (λ g. times g used) n (λ g lt. used_all g lt (r.busy 0 v refl whole g lt (all g (omega arith)))) in
      let e = used_length in omega arith

-- The frames of a view of the whole space.
pub counted : (f : Layout) → IsLayout f → (n l : ℕ) (words : List ℕ) (views : List View) (id : ℕ) (v : View) → Lawful f n l words views → get_elem? views id ≡ some v →
    v.count ≡ input_pages f → (linked_of v + held_count v ≤ n) × (HasEveryFrame v → linked_of v + held_count v ≡ n)
counted f good n l words views id v r at whole =
    let one : Lawful f n l words (v ∷ []) = alone f n l words views id v r at whole in
    (few f n l good words v one whole, every f n l good words v one whole)

-- The linked frames are as many as the linked positions.
module _ (f : Layout) (n l : ℕ) (good : IsLayout f) (words : List ℕ) (v : View) (r : Lawful f n l words (v ∷ [])) (whole : v.count ≡ input_pages f) where
  abbrev prepared : Option ℕ
  prepared = prepared_frame v.prepared

  abbrev linked : List ℕ
  linked = linked_frames f n l good words v r whole

  one_each : (g : ℕ) → g < n → times g linked ≡ one_if (is_linked_in prepared words g)
  one_each g lt = ⊎_elim
      (λ (a : IsLinked n words (v ∷ []) g).
      let q : Position = placed_at (tag words g) in
      let k = linked_times f n l good words v r whole g a (positions f n l good words v r whole) (all_there f n l good words v r whole) in
      let some_one : 0 < places q (positions f n l good words v r whole) = stands f n l good words v r whole q (r.positions.in_tree g a) in
      let most = once f n l good words v r whole q in
      let yes = bit_true (is_linked_in prepared words g) (reads_linked f n l words v good r (live f n l good words v r whole) g a) in omega arith)
      (λ (no : ¬ IsLinked n words (v ∷ []) g).
      let k = unlinked_times f n l good words v r whole g no (positions f n l good words v r whole) (all_there f n l good words v r whole) in
      let none = bit_false (is_linked_in prepared words g) (false_from_ne_true (is_linked_in prepared words g) (λ yes. no (is_linked f n l words v good r (live f n l good words v r whole) g lt yes))) in omega arith)
      (linked_or_not f n l good words v r whole g lt)

  all_below : (m : ℕ) → m ≤ n → linked_frames_in prepared words m ≡ sum_below (λ g. times g linked) m
  all_below zero le = refl
  all_below (suc g) le = let rest = all_below g (omega arith) in let one = one_each g (omega arith) in omega arith

  tags_counted : linked_of v ≡ linked_frames_in prepared words n
  tags_counted =
      let a = length_sum n linked (λ g le. unlinked_times f n l good words v r whole g (λ a. let lt = a.within in omega arith) (positions f n l good words v r whole) (all_there f n l good words v r whole)) in
      let b = all_below n (omega arith) in
      let c = frames_length f n l good words v r whole (positions f n l good words v r whole) (all_there f n l good words v r whole) in
      let d = length-append v.tables (spine f n l good words v r whole) in
      let e = length-map (levels_between (starting_top v.levels) v.top) spine_position in omega arith

pub tags_are_counted : TagsAreCounted
tags_are_counted f good n l words views id v r at whole = tags_counted f n l good words v (alone f n l words views id v r at whole) whole
