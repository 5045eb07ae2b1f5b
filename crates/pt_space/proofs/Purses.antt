-- A lease prepares the first frame of its purse, puts it back, and frees the first frame.
use Rattle.std.proofs.Common.{◌≡◌, ℕ, Bool, ◌+◌, ◌-◌, ◌<◌, ◌≤◌, ◌^◌, List, [], ◌∷◌, length, refl, ap, sym, ◌∙◌, subst, arith, eq-eqb}
use Rattle.std.specs.Prelude.{Option, None, Some, if◌then◌else◌}
use mathlib.Core.Option.{some}
use lib.ListN.{get_elem?}
use Rattle.pt_model.specs.declared.position.Position.{Position}
use Rattle.pt_model.specs.Layout.{Layout}
use Rattle.pt_model.specs.Tables.{IsPosition}
use Rattle.pt_model.specs.Words.{word_count}
use Rattle.pt_format.specs.Laws.{IsLayout, WordsDiffer}
use Rattle.pt_format.specs.Manual.{StepsAgree}
use Rattle.pt_view.specs.declared.view.View.{View}
use Rattle.pt_view.specs.declared.view.Node.{Node}
use Rattle.pt_view.specs.declared.view.Prepared.{Prepared}
use Rattle.pt_view.specs.Lists.{IsIn}
use Rattle.pt_view.specs.Calls.{IsFreed, IsPlaced, IsUnplaced, prepared_count}
use Rattle.pt_view.proofs.Members.{in_here, in_more}
use Rattle.pt_rule.specs.Tags.{IsEnd, first_or, held_word}
use Rattle.pt_rule.specs.Kinds.{follows, free, look_tag, place, unplace}
use Rattle.pt_rule.specs.Meets.{Always}
use Rattle.pt_rule.specs.WholeView.{prepared_frame}
use Rattle.pt_rule.proofs.Laws.{steps_meet}
use Rattle.pt_space.specs.Standing.{Fields, Shows, Stepped, cut_to}
use Rattle.pt_space.proofs.Showing.{cut_is, says, shows_purse, take_at, take_length}
use Rattle.pt_space.proofs.Takes.{frames_few}

-- a purse with a first frame
first_rest : (xs : List ℕ) (frame : ℕ) → first_or None xs ≡ Some frame → (rest : List ℕ) × (xs ≡ frame ∷ rest)
first_rest [] frame e = absurd (let w : ⊥ = cc in w)
first_rest (x ∷ xs) frame e = let same : x ≡ frame = cc in (xs, ap (λ (y : ℕ). y ∷ xs) same)

-- what the tag of the first frame names
follows_first : (frame : ℕ) (end : Option ℕ) (rest : List ℕ) → follows frame end (frame ∷ rest) ≡ first_or end rest
follows_first frame end rest = ap (λ (b : Bool). if b then first_or end rest else follows frame end rest) (eq-eqb frame frame refl)

-- the first frame and the rest of a purse are one way
same_first : (x y : ℕ) (xs ys : List ℕ) → x ∷ xs ≡ y ∷ ys → x ≡ y
same_first x y xs ys e = let q : x ≡ y = cc in q

pub same_rest : (x y : ℕ) (xs ys : List ℕ) → x ∷ xs ≡ y ∷ ys → xs ≡ ys
same_rest x y xs ys e = let q : xs ≡ ys = cc in q

module _ {f : Layout} (good : IsLayout f) (differ : WordsDiffer f) (agree : StepsAgree f) {n l : ℕ} {v : View} {o : Fields} (s : Shows f n l v o) where
  abbrev cut : View
  cut = cut_to o.depth v

  -- The first frame of the purse.
  module _ (frame : ℕ) (is : o.head ≡ Some frame) where
    purse_is : (rest : List ℕ) × (v.purse ≡ frame ∷ rest)
    purse_is = first_rest v.purse frame (s.head ∙ is)

    pub mine : IsIn v.purse frame
    mine = subst (λ (xs : List ℕ). IsIn xs frame) (sym purse_is.1) (in_here frame purse_is.0)

    pub tag_within : 1 + frame < word_count f n
    tag_within = let a = s.holds.purse_within frame mine in omega arith

    pub some_held : 1 ≤ o.held
    some_held = let a = ap length purse_is.1 in let b = s.held in omega arith

    module _ {w : View} {found : ℕ} (t : Stepped f n l (look_tag frame) cut found w) where
      next_end : (xs : List ℕ) → ((x : ℕ) → IsIn xs x → x < n) → IsEnd (2 ^ 32) (first_or None xs)
      next_end [] all = tt
      next_end (x ∷ xs) all = let a = all x (in_here x xs) in let b = s.holds.limit in let m = frames_few f good in omega arith

      tag_is : found ≡ held_word (first_or None purse_is.0)
      tag_is = t.tells ∙ ap (λ (xs : List ℕ). held_word (follows frame v.end xs)) purse_is.1 ∙ ap held_word (follows_first frame v.end purse_is.0) ∙ ap (λ (e : Option ℕ). held_word (first_or e purse_is.0)) s.end

      pub next_named : (next : Option ℕ) × (found ≡ held_word next) × IsEnd (2 ^ 32) next
      next_named = (
        first_or None purse_is.0,
        tag_is,
        next_end purse_is.0 (λ x m. s.holds.purse_within x (subst (λ (xs : List ℕ). IsIn xs x) (sym purse_is.1) (in_more x frame purse_is.0 m))),
      )

      module _ (next : Option ℕ) (reads : (next' : Option ℕ) → found ≡ held_word next' → next ≡ next') where
        next_is : next ≡ first_or None purse_is.0
        next_is = reads (first_or None purse_is.0) tag_is

        -- the frame is prepared
        module _ {q : Position} (none : cut.prepared ≡ None) (legal : IsPosition f q) where
          pub may_place : ((rest : List ℕ) × (w.purse ≡ frame ∷ rest)) × (w.prepared ≡ None) × IsPosition f q
          may_place = ((purse_is.0, ap (λ (u : View). u.purse) t.is ∙ purse_is.1), ap (λ (u : View). u.prepared) t.is ∙ none, legal)

          module _ {last : View} (t' : (found' : ℕ) × Stepped f n l (place frame q) w found' last) where
            pub placed_as : IsPlaced Always cut q last
            placed_as = subst (λ (u : View). IsPlaced Always u q last) t.is
                (subst (IsPlaced Always w q) (sym t'.1.is) (steps_meet f good differ agree n s.holds.limit w (place frame q) t'.0 may_place t'.1.tells))

            pub placed : IsPlaced Always cut q (cut_to o.depth last)
            placed = subst (IsPlaced Always cut q) (sym (cut_is o.depth v last placed_as.path)) placed_as

            rest_is : purse_is.0 ≡ last.purse
            rest_is = same_rest frame placed_as.purse.0 purse_is.0 last.purse (sym purse_is.1 ∙ placed_as.purse.1)

            prepared_now : last.prepared ≡ Some (record { frame = frame; position = q; bridge = None })
            prepared_now = placed_as.purse.2 ∙ ap (λ (x : ℕ). Some (let y : Prepared = record { frame = x; position = q; bridge = None } in y))
                (sym (same_first frame placed_as.purse.0 purse_is.0 last.purse (sym purse_is.1 ∙ placed_as.purse.1)))

            pub shows_placed : Shows f n l last (record o { head = next; held = o.held - 1; prepared = Some frame })
            shows_placed = let r = placed_as in record {
              holds = t'.1.holds;
              first = r.range.first ∙ s.first;
              count = r.range.count ∙ s.count;
              end = r.end ∙ s.end;
              head = ap (first_or None) (sym rest_is) ∙ sym next_is;
              held = let a = ap length purse_is.1 in let b = ap length rest_is in let m = s.held in omega arith;
              prepared = ap prepared_frame prepared_now;
              unbridged = λ x e. let y : Prepared = record { frame = frame; position = q; bridge = None } in let both : Some y ≡ Some x = sym prepared_now ∙ e in
                  let same : y ≡ x = cc in sym (ap (λ (z : Prepared). z.bridge) same);
              deep = let a = ap length r.path in let b = take_length o.depth v.path s.deep in omega arith;
              nodes = λ i x lt at. s.nodes i x lt (take_at o.depth i v.path x lt (subst (λ (xs : List Node). get_elem? xs i ≡ some x) r.path at));
            }

        -- the frame is freed
        pub may_free : (rest : List ℕ) × (w.purse ≡ frame ∷ rest)
        may_free = (purse_is.0, ap (λ (u : View). u.purse) t.is ∙ purse_is.1)

        module _ {last : View} (t' : (found' : ℕ) × Stepped f n l (free frame) w found' last) where
          freed_as : IsFreed Always (frame ∷ []) cut last
          freed_as = subst (λ (u : View). IsFreed Always (frame ∷ []) u last) t.is
              (subst (IsFreed Always (frame ∷ []) w) (sym t'.1.is) (steps_meet f good differ agree n s.holds.limit w (free frame) t'.0 may_free t'.1.tells))

          pub freed : IsFreed Always (frame ∷ []) cut (cut_to o.depth last)
          freed = subst (IsFreed Always (frame ∷ []) cut) (sym (cut_is o.depth v last freed_as.path)) freed_as

          freed_rest : purse_is.0 ≡ last.purse
          freed_rest = same_rest frame frame purse_is.0 last.purse (sym purse_is.1 ∙ freed_as.purse)

          pub shows_freed : Shows f n l last (record o { head = next; held = o.held - 1 })
          shows_freed = let r = freed_as in
              shows_purse s t'.1.holds r.range r.end r.path r.prepared (ap (first_or None) (sym freed_rest) ∙ sym next_is)
              (let a = ap length purse_is.1 in let b = ap length freed_rest in let m = s.held in omega arith)

  -- The prepared frame.
  module _ (frame : ℕ) (is : o.prepared ≡ Some frame) where
    named : (x : Option Prepared) → prepared_frame x ≡ Some frame → (y : Prepared) × (x ≡ Some y) × (y.frame ≡ frame)
    named None e = absurd (let w : ⊥ = cc in w)
    named (Some y) e = (y, refl, (let same : y.frame ≡ frame = cc in same))

    ready : (y : Prepared) × (v.prepared ≡ Some y) × (y.frame ≡ frame)
    ready = named v.prepared (s.prepared ∙ is)

    pub prepared_is : (p : Position) × (v.prepared ≡ Some (record { frame = frame; position = p; bridge = None }))
    prepared_is = (ready.0.position, ready.1 ∙ (λ i. Some (record { frame = ready.2 i; position = ready.0.position; bridge = s.unbridged ready.0 ready.1 i })))

    pub prepared_within : frame < n
    prepared_within = subst (λ (x : ℕ). x < n) ready.2 (s.holds.prepared_within ready.0 ready.1)

    pub prepared_tag : 1 + frame < word_count f n
    prepared_tag = let a = prepared_within in omega arith

    -- the count of the purse can grow
    pub prepared_room : o.held + 1 ≤ 2 ^ 15
    prepared_room = let a = s.holds.few in let b = s.held in let m = s.holds.limit in let c = frames_few f good in let one = ap prepared_count prepared_is.1 in omega arith

    module _ {w : View} (t : (found : ℕ) × Stepped f n l (unplace frame) cut found w) where
      unplaced_as : IsUnplaced Always cut w
      unplaced_as = says s good differ agree prepared_is t.1

      pub unplaced : IsUnplaced Always cut (cut_to o.depth w)
      unplaced = subst (IsUnplaced Always cut) (sym (cut_is o.depth v w unplaced_as.path)) unplaced_as

      purse_now : w.purse ≡ frame ∷ v.purse
      purse_now = unplaced_as.purse (record { frame = frame; position = prepared_is.0; bridge = None }) prepared_is.1

      pub shows_unplaced : Shows f n l w (record o { head = Some frame; held = o.held + 1; prepared = None })
      shows_unplaced = let r = unplaced_as in record {
        holds = t.1.holds;
        first = r.range.first ∙ s.first;
        count = r.range.count ∙ s.count;
        end = r.end ∙ s.end;
        head = ap (first_or None) purse_now;
        held = let a = ap length purse_now in let b = s.held in omega arith;
        prepared = ap prepared_frame r.none;
        unbridged = λ x e. absurd (let both : None ≡ Some x = sym r.none ∙ e in let q : ⊥ = cc in q);
        deep = let a = ap length r.path in let b = take_length o.depth v.path s.deep in omega arith;
        nodes = λ i x lt at. s.nodes i x lt (take_at o.depth i v.path x lt (subst (λ (xs : List Node). get_elem? xs i ≡ some x) r.path at));
      }
