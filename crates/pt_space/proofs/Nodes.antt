-- The path of a lease, by its fields.
use Rattle.std.proofs.Common.{◌≡◌, ℕ, zero, suc, ◌+◌, ◌-◌, ◌<◌, ◌≤◌, List, [], ◌∷◌, ◌++◌, length, take, refl, ap, sym, ◌∙◌, subst, arith, get_or-set_same, get_or-set_other, length-append}
use Rattle.std.specs.Prelude.{Option, Some, None, slice_index, slice_set}
use mathlib.Core.Option.{some, some-injective}
use mathlib.Core.Logic.{dite}
use native.Mathlib.Decide.{ℕ_discrete}
use lib.ListN.{get_elem?}
use Rattle.pt_model.specs.declared.position.Position.{Position}
use Rattle.pt_model.specs.Layout.{Layout}
use Rattle.pt_model.specs.Tables.{child_at}
use Rattle.pt_format.specs.Laws.{IsLayout}
use Rattle.pt_view.specs.declared.view.View.{View}
use Rattle.pt_view.specs.declared.view.Node.{Node}
use Rattle.pt_view.specs.declared.view.Prepared.{Prepared}
use Rattle.pt_view.specs.Views.{SamePurse, SameRange}
use Rattle.pt_view.specs.Calls.{IsEntryAt, all_but_last, left, lowest}
use Rattle.pt_rule.specs.Tags.{first_or}
use Rattle.pt_rule.specs.Holds.{Holds}
use Rattle.pt_rule.specs.Kinds.{IsLowestIn}
use Rattle.pt_rule.specs.Meets.{GoesInto}
use Rattle.pt_rule.specs.WholeView.{prepared_frame}
use Rattle.pt_space.specs.Standing.{Fields, Shows, cut_to}
use Rattle.pt_space.proofs.Showing.{take_at, take_length, whole_path}

-- the path has one last table
pub same_place : {f : Layout} {v : View} {p q : Position} {i j : ℕ} → IsEntryAt f v p i → IsEntryAt f v q j → p ≡ q
same_place a b =
    let both : Some a.node ≡ Some b.node = sym a.is_lowest ∙ b.is_lowest in
    let node : a.node ≡ b.node = cc in
    sym a.at ∙ ap (λ (x : Node). x.position) node ∙ b.at

-- the lowest node is the last
lowest_at : (xs : List Node) (x : Node) → lowest xs ≡ Some x → (i : ℕ) × (length xs ≡ suc i) × (get_elem? xs i ≡ some x)
lowest_at [] x e = absurd (let w : ⊥ = cc in w)
lowest_at (y ∷ []) x e = (0, refl, (let same : y ≡ x = cc in ap (λ (z : Node). some z) same))
lowest_at (y ∷ z ∷ zs) x e = let r = lowest_at (z ∷ zs) x e in (suc r.0, ap suc r.1, r.2)

front_of : {A : Type 0} → (xs : List A) → 0 < length xs → (x : A) × (get_elem? xs 0 ≡ some x)
front_of [] h = absurd (omega arith)
front_of (x ∷ xs) h = (x, refl)

-- the path without its last node
above_take : (d : ℕ) (xs : List Node) → suc d ≤ length xs → all_but_last (take (suc d) xs) ≡ take d xs
above_take zero [] le = absurd (omega arith)
above_take zero (x ∷ xs) le = refl
above_take (suc d) [] le = absurd (omega arith)
above_take (suc d) (x ∷ []) le = absurd (omega arith)
above_take (suc d) (x ∷ y ∷ ys) le = ap (λ (zs : List Node). x ∷ zs) (above_take d (y ∷ ys) (omega arith))

-- what stands in a list with one node more
snoc_at : {A : Type 0} → (xs : List A) (y x : A) (i : ℕ) → get_elem? (xs ++ y ∷ []) i ≡ some x → i < length xs → get_elem? xs i ≡ some x
snoc_at [] y x i e lt = absurd (omega arith)
snoc_at (z ∷ zs) y x zero e lt = e
snoc_at (z ∷ zs) y x (suc i) e lt = snoc_at zs y x i e (omega arith)

snoc_last : {A : Type 0} → (xs : List A) (y x : A) → get_elem? (xs ++ y ∷ []) (length xs) ≡ some x → y ≡ x
snoc_last [] y x e = some-injective y x e
snoc_last (z ∷ zs) y x e = snoc_last zs y x e

module _ {f : Layout} (good : IsLayout f) {n l : ℕ} {v : View} {o : Fields} (s : Shows f n l v o) where
  -- a path has at most six nodes, and goes down one level at a time
  depth_low : 0 < o.depth → o.level + o.depth ≤ 6
  depth_low some_node =
      let x : (x : Node) × (get_elem? v.path 0 ≡ some x) = front_of v.path (let deep = s.deep in omega arith) in
      let level = (s.holds.path_within 0 x.0 x.1).1 in
      let sum = (s.nodes 0 x.0 some_node x.1).1 in
      let b = good.levels_high in omega arith

  -- the last table is left
  module _ (some_node : 0 < length (cut_to o.depth v).path) where
    pub some_left : 0 < o.depth
    some_left = let a = take_length o.depth v.path s.deep in omega arith

    pub left_room : o.level + o.depth ≤ 6
    left_room = depth_low some_left

    pub shows_left : Shows f n l v (record o { depth = o.depth - 1; level = o.level + 1 })
    shows_left = record {
      holds = s.holds;
      first = s.first;
      count = s.count;
      end = s.end;
      head = s.head;
      held = s.held;
      prepared = s.prepared;
      unbridged = s.unbridged;
      deep = let a = s.deep in omega arith;
      nodes = λ i x lt at. let a = s.nodes i x (omega arith) at in let p = some_left in (a.0, (let b = a.1 in omega arith));
    }

    pub left_is : cut_to (o.depth - 1) v ≡ left (cut_to o.depth v)
    left_is = λ i. record v { path = sym (one_less o.depth some_left s.deep) i }
      where
        one_less : (m : ℕ) → 0 < m → m ≤ length v.path → all_but_last (take m v.path) ≡ take (m - 1) v.path
        one_less zero lt le = absurd (omega arith)
        one_less (suc m) lt le = above_take m v.path le ∙ ap (λ (j : ℕ). take j v.path) (let a : m ≡ suc m - 1 = omega arith in a)

  module _ {number : ℕ} {q : Position} (entry : IsEntryAt f (cut_to o.depth v) q number) where
    last : (i : ℕ) × (length (take o.depth v.path) ≡ suc i) × (get_elem? (take o.depth v.path) i ≡ some entry.node)
    last = lowest_at (take o.depth v.path) entry.node entry.is_lowest

    deep_is : o.depth ≡ suc last.0
    deep_is = sym (take_length o.depth v.path s.deep) ∙ last.1

    pub some_depth : 1 ≤ o.depth
    some_depth = let a = deep_is in omega arith

    here : get_elem? v.path last.0 ≡ some entry.node
    here = take_at o.depth last.0 v.path entry.node (let a = deep_is in omega arith) last.2

    abbrev pub frame : ℕ
    frame = slice_index o.path (o.depth - 1)

    frame_is : entry.node.frame ≡ frame
    frame_is = (s.nodes last.0 entry.node (let a = deep_is in omega arith) here).0 ∙ ap (slice_index o.path) (let a = deep_is in omega arith)

    pub level_is : q.level ≡ o.level
    level_is = ap (λ (p : Position). p.level) (sym entry.at) ∙ (let a = (s.nodes last.0 entry.node (let a = deep_is in omega arith) here).1 in let b = deep_is in omega arith)

    pub frame_within : frame < n
    frame_within = let a = (s.holds.path_within last.0 entry.node here).0 in subst (λ (x : ℕ). x < n) frame_is a

    pub level_below : o.level < f.levels
    level_below = let a = (s.holds.path_within last.0 entry.node here).1 in let b = level_is in let c = ap (λ (p : Position). p.level) entry.at in omega arith

    pub lowest_in : IsLowestIn (cut_to o.depth v) frame
    lowest_in = (entry.node.position, entry.is_lowest ∙ (λ i. Some (record { frame = frame_is i; position = entry.node.position })))

    pub six : o.level + o.depth ≤ 6
    six = depth_low some_depth

    -- The path goes into the child.
    module _ (w : View) (child : ℕ) (goes : GoesInto f q number child (cut_to o.depth v) w) where
      abbrev node : Node
      node = record { frame = child; position = child_at f q number }

      long : length w.path ≡ o.depth + 1
      long = let a = ap length goes in let b = length-append (take o.depth v.path) (node ∷ []) in let c = take_length o.depth v.path s.deep in omega arith

      pub deeper_is : cut_to (o.depth + 1) w ≡ w
      deeper_is = whole_path w (o.depth + 1) long

      pub shows_deeper : Holds f n l w → SameRange (cut_to o.depth v) w → SamePurse (cut_to o.depth v) w → {prepared : Option ℕ} → prepared_frame w.prepared ≡ prepared → ((x : Prepared) → w.prepared ≡ Some x → x.bridge ≡ None) →
          0 < o.level → length o.path ≡ 8 → (x : ℕ) → child ≡ x →
          Shows f n l w (record o { path = slice_set o.path o.depth x; depth = o.depth + 1; level = o.level - 1; prepared = prepared })
      shows_deeper holds range purse prepared unbridged high eight x is = record {
        holds = holds;
        first = range.first ∙ s.first;
        count = range.count ∙ s.count;
        end = purse.end ∙ s.end;
        head = ap (first_or None) purse.purse ∙ s.head;
        held = ap length purse.purse ∙ s.held;
        prepared = prepared;
        unbridged = unbridged;
        deep = let a = long in omega arith;
        nodes = λ i y lt at. dite (ℕ_discrete i o.depth)
            (λ same. new_node i y same at)
            (λ ne. let old : get_elem? v.path i ≡ some y = take_at o.depth i v.path y (omega arith) (old_node i y (omega arith) at) in
            let a = s.nodes i y (omega arith) old in
            (a.0 ∙ sym (get_or-set_other o.path o.depth i x 0 (λ q. ne (omega arith))), (let z = a.1 in omega arith)));
      }
        where
          fronts : length (take o.depth v.path) ≡ o.depth
          fronts = take_length o.depth v.path s.deep

          old_node : (i : ℕ) (y : Node) → i < o.depth → get_elem? w.path i ≡ some y → get_elem? (take o.depth v.path) i ≡ some y
          old_node i y lt at = snoc_at (take o.depth v.path) node y i (ap (λ (xs : List Node). get_elem? xs i) (sym goes) ∙ at) (let a = fronts in omega arith)

          new_node : (i : ℕ) (y : Node) → i ≡ o.depth → get_elem? w.path i ≡ some y → (y.frame ≡ slice_index (slice_set o.path o.depth x) i) × (y.position.level + i + 1 ≡ o.level - 1 + (o.depth + 1))
          new_node i y same at =
              let there : get_elem? (take o.depth v.path ++ node ∷ []) (length (take o.depth v.path)) ≡ some y =
              ap (λ (xs : List Node). get_elem? xs (length (take o.depth v.path))) (sym goes) ∙ ap (get_elem? w.path) (fronts ∙ sym same) ∙ at in
              let is_child : node ≡ y = snoc_last (take o.depth v.path) node y there in
              let y_level : y.position.level ≡ q.level - 1 = ap (λ (z : Node). z.position.level) (sym is_child) in
              let level = level_is in
              let sum = six in (
                ap (λ (z : Node). z.frame) (sym is_child) ∙ is ∙ sym (get_or-set_same o.path o.depth x 0 (let a = some_depth in omega arith)) ∙ ap (slice_index (slice_set o.path o.depth x)) (sym same),
                omega arith,
              )
