-- A growth at small states: one holder's, one that is lost, and the states and views of wrong ones, which are refused.
use Rattle.std.proofs.Common.{◌≡◌, ℕ, zero, suc, true, false, ◌%◌, ◌≤◌, List, [], ◌∷◌, sym, refl, ap, ◌∙◌, arith, Option, Some, None}
use Rattle.std.specs.Prelude.{◌==◌, slice_index, slice_set}
use Rattle.std.proofs.lemmas.Bool.{eq-eqb}
use mathlib.Core.Option.{some, some-injective, some-ne-none}
use lib.ListN.{get_elem?}
use Rattle.pt_model.specs.declared.position.Position.{Position}
use Rattle.pt_view.specs.declared.view.View.{View}
use Rattle.pt_view.specs.declared.view.Node.{Node}
use Rattle.pt_view.specs.declared.view.Prepared.{Prepared}
use Rattle.pt_view.specs.Calls.{MayGrow}
use Rattle.pt_rule.specs.Linked.{IsLinkedAt}
use Rattle.pt_rule.specs.Lawful.{FramesPart, ParentsPart, RootPart}
use Rattle.pt_rule.specs.Kinds.{May, bridge, look, place, raise, unbridge, unplace}
use Rattle.pt_rule.proofs.StateMapped.{small, at, zeros, mapped_words, mapped_view}
use Rattle.pt_rule.proofs.StateSteps.{State, step, steps}

differ : (a b : ℕ) → (a == b) ≡ false → a ≡ b → ⊥
differ a b n e = let d : true ≡ false = sym (eq-eqb a b e) ∙ n in cc

-- the state with a mapped page, whose holder stands at the root
abbrev pub at_root : State
at_root = (mapped_words, record mapped_view { path = record { frame = 0; position = at 1 0 } ∷ [] })

abbrev pub ready : State
ready = steps (place 2 (at 2 0) ∷ []) at_root

abbrev pub bridged : State
bridged = steps (bridge 2 0 1 ∷ []) ready

abbrev pub grown : State
grown = steps (raise 2 0 1 ∷ []) bridged

-- frame 2 is the top, and its entry 0 is the pointer to frame 0
pub grown_words : grown.0 ≡ 18 ∷ 6 ∷ 130 ∷ 10 ∷ 0 ∷ (0 ∷ 4294971395 ∷ 0 ∷ 0 ∷ (0 ∷ 36865 ∷ 0 ∷ 0 ∷ (4294967299 ∷ zeros 7)))
grown_words = refl

pub grown_view : grown.1 ≡ record mapped_view {
  top = 2;
  purse = [];
  path = record { frame = 2; position = at 2 0 } ∷ [];
  known = at 1 0 ∷ at 2 0 ∷ at 0 4 ∷ at 1 0 ∷ [];
}
grown_view = refl

-- the way down goes over the old top
pub goes_down : (steps (look 2 0 ∷ look 0 1 ∷ []) grown).1.path
    ≡ record { frame = 2; position = at 2 0 } ∷ record { frame = 0; position = at 1 0 } ∷ record { frame = 1; position = at 0 4 } ∷ []
goes_down = refl

-- its steps may be made
pub may_grow : MayGrow ready.1
may_grow = record { root = 0; level = 1; path = refl; reaches = omega arith; frame = 2; prepared = refl }

pub may_bridge : May small 4 (bridge 2 0 1) ready.1
may_bridge = (refl, refl, omega arith)

pub may_raise : May small 4 (raise 2 0 1) bridged.1
may_raise = refl

-- The bridge that is taken away again leaves the words and the view as they were.
pub put_back : steps (bridge 2 0 1 ∷ unbridge 2 1 ∷ unplace 2 ∷ []) ready ≡ at_root
put_back = refl

-- An exchange that finds another root, here frame 3 at level 2, puts nothing, and the holder knows the spine up to there.
abbrev pub late : State
late = (slice_set bridged.0 0 26, bridged.1)

pub lost_words : (step (raise 2 0 1) late).0 ≡ late.0
lost_words = refl

pub lost_view : (steps (raise 2 0 1 ∷ unbridge 2 1 ∷ []) late).1 ≡ record ready.1 { path = []; known = at 1 0 ∷ at 2 0 ∷ at 0 4 ∷ at 1 0 ∷ [] }
lost_view = refl

-- Wrong steps. An exchange of the root with no bridge, or with a bridge that isn't the root that it expects.
abbrev number : Option ℕ → ℕ
number None = 0
number (Some frame) = suc frame

pub raise_unbridged : ¬ May small 4 (raise 2 0 1) ready.1
raise_unbridged e = let same : (let x : Prepared = record { frame = 2; position = at 2 0; bridge = None } in x) ≡ record { frame = 2; position = at 2 0; bridge = Some 0 } = cc in
    differ 0 1 refl (ap (λ (x : Prepared). number x.bridge) same)

abbrev other_bridge : View
other_bridge = record ready.1 { prepared = Some (record { frame = 2; position = at 2 0; bridge = Some 1 }) }

pub raise_other : ¬ May small 4 (raise 2 0 1) other_bridge
raise_other e = let same : (let x : Prepared = record { frame = 2; position = at 2 0; bridge = Some 1 } in x) ≡ record { frame = 2; position = at 2 0; bridge = Some 0 } = cc in
    differ 2 1 refl (ap (λ (x : Prepared). number x.bridge) same)

-- a bridge to a frame that isn't the path's last table, or at another level
pub bridge_other : ¬ May small 4 (bridge 2 1 1) ready.1
bridge_other e = let same : (let x : Node = record { frame = 0; position = at 1 0 } in x) ≡ record { frame = 1; position = at 1 0 } = cc in
    differ 0 1 refl (ap (λ (x : Node). x.frame) same)

pub bridge_low : ¬ May small 4 (bridge 2 0 0) ready.1
bridge_low e = let same : (let x : Node = record { frame = 0; position = at 1 0 } in x) ≡ record { frame = 0; position = at 0 0 } = cc in
    differ 1 0 refl (ap (λ (x : Node). x.position.level) same)

-- a bridge to a table below the holder's own top, which may be off the spine
pub bridge_under_top : ¬ May small 4 (bridge 2 0 1) (record ready.1 { top = 2 })
bridge_under_top may = let top : 2 ≤ 1 = may.2 in omega arith

-- a growth from a level below the holder's own top
pub grow_low : ¬ MayGrow (record ready.1 { top = 2 })
grow_low may = let e : 1 ≡ may.level = ap first (may.path) in let top = may.reaches in omega arith
  where
    first : List Node → ℕ
    first [] = 0
    first (x ∷ xs) = x.position.level

-- The states of wrong steps. A view that names a bridge, which isn't in entry 0 of its frame; a bridge that is there
-- and is named by no view; one that is another table than the old top; one in entry 1.
pub bridge_unwritten : ¬ FramesPart small 4 ready.0 (bridged.1 ∷ [])
bridge_unwritten part = differ 0 4294967299 refl (part.cleared 2 0 (omega arith) (λ a. let none = a.unprepared in omega arith) (omega arith))

pub bridge_unnamed : ¬ FramesPart small 4 bridged.0 (ready.1 ∷ [])
bridge_unnamed part = differ 4294967299 0 refl (part.cleared 2 0 (omega arith) (λ a. let none = a.unprepared in omega arith) (omega arith))

pub bridge_to_other : ¬ FramesPart small 4 (slice_set ready.0 13 4294971395) (other_bridge ∷ [])
bridge_to_other part = let b = part.bridges 0 other_bridge refl in
    differ 4 0 refl (ap (λ (p : Position). p.base) b.2.at)

pub bridge_beside : ¬ FramesPart small 4 (slice_set ready.0 14 4294967299) (bridged.1 ∷ [])
bridge_beside part = differ 0 4294967299 refl (part.cleared 2 0 (omega arith) (λ a. let none = a.unprepared in omega arith) (omega arith))

-- a top whose entry 0 is zero, or the pointer to another table than the old top
top_word : (words : List ℕ) → IsLinkedAt 4 words (grown.1 ∷ []) 0 (at 1 0) → IsLinkedAt 4 words (grown.1 ∷ []) 2 (at 2 0) → slice_index words 0 ≡ 18 →
    ParentsPart small 4 2 words (grown.1 ∷ []) → slice_index words 13 ≡ 4294967299
top_word words old top root part = part.named 2 0 (at 1 0) old (λ e. differ 1 2 refl (ap (λ (p : Position). p.level) e ∙ ap (λ (k : ℕ). k % 8) root)) top

pub top_over_none : ¬ ParentsPart small 4 2 (slice_set grown.0 13 0) (grown.1 ∷ [])
top_over_none part = differ 0 4294967299 refl (top_word _ (record { is_linked = record { within = omega arith; placed = refl; unprepared = refl }; at = refl })
    (record { is_linked = record { within = omega arith; placed = refl; unprepared = refl }; at = refl }) refl part)

pub top_over_other : ¬ ParentsPart small 4 2 (slice_set grown.0 13 4294971395) (grown.1 ∷ [])
top_over_other part = differ 4294971395 4294967299 refl (top_word _ (record { is_linked = record { within = omega arith; placed = refl; unprepared = refl }; at = refl })
    (record { is_linked = record { within = omega arith; placed = refl; unprepared = refl }; at = refl }) refl part)

-- a root that no view's top reaches: the exchange was won, and the view's top stayed
abbrev old_top : View
old_top = record grown.1 { top = 1 }

one_top : (j : ℕ) (v : View) → get_elem? (old_top ∷ []) j ≡ some v → v.top ≡ 2 → ⊥
one_top zero v e h = differ 1 2 refl (ap (λ (u : View). u.top) (some-injective old_top v e) ∙ h)
one_top (suc j) v e h = absurd (some-ne-none v (sym e))

pub top_stayed : ¬ RootPart 4 grown.0 (old_top ∷ [])
top_stayed part = let r = part.reached in one_top r.0 r.1 r.2 r.4
