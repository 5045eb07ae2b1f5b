use Rattle.std.proofs.Common.{◌≡◌, ℕ, ◌+◌, ◌-◌, ◌*◌, ◌<◌, ◌≤◌, List, [], ◌∷◌, ◌++◌, length, refl, ap, sym, ◌∙◌, subst, arith}
use Rattle.std.specs.Prelude.{None, Some, nat_lt}
use Rattle.std.proofs.lemmas.Bool.{and_from, lt-ltb}
use Rattle.std.proofs.lemmas.Nat.{pow_pos}
use Rattle.pt_model.specs.declared.position.Position.{Position}
use Rattle.pt_model.specs.Layout.{Layout, input_pages, pages_of_entry}
use Rattle.pt_model.specs.Tables.{child_at, spine_position}
use Rattle.pt_view.specs.declared.view.View.{View}
use Rattle.pt_view.specs.declared.view.Node.{Node}
use Rattle.pt_view.specs.declared.view.Prepared.{Prepared}
use Rattle.pt_view.specs.declared.holder.Won.{Won}
use Rattle.pt_view.specs.Calls.{IsInstalled, IsPlaced, MayInstall, Prepares, Rooted, all_but_last, left, entry_end, entry_first, lowest, pieces_at}
use Rattle.pt_plain.specs.Owner.{IsOpened}
use Rattle.table_cases.proofs.owned.a_table_is_linked_once.Goals as goal

abbrev root_node : (frame : ℕ) → Node
root_node frame = record { frame = frame; position = spine_position 2 }

-- a view of a whole space without pieces, whose path is the root's table and whose prepared frame is its first child
record IsReady (f : Layout) (v : View) : Type 0 where
  frame : ℕ
  path : v.path ≡ root_node frame ∷ []
  first : v.first ≡ 0
  count : v.count ≡ input_pages f
  pieces : v.pieces ≡ []
  own : ℕ
  prepared : v.prepared ≡ Some (record { frame = own; position = record { level = 1; base = 0 }; bridge = None })

may_link : (f : Layout) (v : View) → IsReady f v → MayInstall f v 0
may_link f v r =
    let some_page = pow_pos (f.input - f.granule) in
    let some_entry = pow_pos (f.index * 2) in
    let first = r.first in
    let count = r.count in
    let base : 0 ≡ 0 + 0 * pages_of_entry f 2 = omega arith in record {
      position = spine_position 2;
      entry = record { node = root_node r.frame; is_lowest = ap lowest r.path; at = refl; within = pow_pos f.index };
      meets = and_from (nat_lt (entry_first f (spine_position 2) 0) (v.first + v.count)) (nat_lt v.first (entry_end f (spine_position 2) 0))
          (lt-ltb (entry_first f (spine_position 2) 0) (v.first + v.count) (omega arith)) (lt-ltb v.first (entry_end f (spine_position 2) 0) (omega arith));
      high = omega arith;
      frame = r.own;
      prepared = r.prepared ∙ (λ i. Some (record { frame = r.own; position = record { level = 1; base = base i }; bridge = None }));
      no_piece = ap (pieces_at f (spine_position 2) 0) r.pieces;
    }

-- after an install there the path is two tables
record IsBelow (v w : View) (frame : ℕ) : Type 0 where
  child : Node
  path : w.path ≡ root_node frame ∷ child ∷ []

below : (f : Layout) (v w : View) (r : IsReady f v) (won : Won) → IsInstalled f ⊥ 0 v won w → IsBelow v w r.frame
unfolding may_link
below f v w r won i =
    let p = i.path (spine_position 2) (may_link f v r).entry in
    record { child = record { frame = p.0; position = child_at f (spine_position 2) 0 }; path = p.1 ∙ ap (λ (xs : List Node). xs ++ record { frame = p.0; position = child_at f (spine_position 2) 0 } ∷ []) r.path }

not_empty : (f : Layout) (v w : View) (r : IsReady f v) (won : Won) → IsInstalled f ⊥ 0 v won w → 0 < length w.path
not_empty f v w r won i = let two : length w.path ≡ 2 = ap length (below f v w r won i).path in omega arith

abbrev first_child : Position
first_child = record { level = 1; base = 0 }

-- a new space whose root was loaded, and whose first frame is prepared
ready : (f : Layout) (made rooted placed : View) (level : ℕ) → IsOpened f 8 3 3 made → Rooted f ⊥ (Unit {0}) made level rooted → IsPlaced ⊥ rooted first_child placed → IsReady f placed
ready f made rooted placed level o r p =
    let two : level ≡ 2 = r.exact tt ∙ o.top in record {
      frame = r.path.0;
      path = p.path ∙ r.path.1 ∙ ap (λ (l : ℕ). let x : Node = record { frame = r.path.0; position = spine_position l } in x ∷ []) two;
      first = p.range.first ∙ r.range.first ∙ o.first;
      count = p.range.count ∙ r.range.count ∙ o.count;
      pieces = p.book.pieces ∙ r.book.pieces ∙ o.rest.pieces;
      own = p.purse.0;
      prepared = p.purse.2;
    }

-- an install, a way back, and another frame is prepared
again : (f : Layout) (v w x y : View) (won : Won) → IsReady f v → IsInstalled f ⊥ 0 v won w → x ≡ left w → IsPlaced ⊥ x first_child y → IsReady f y
again f v w x y won r i e p = record {
  frame = r.frame;
  path = p.path ∙ ap (λ (u : View). u.path) e ∙ ap all_but_last (below f v w r won i).path;
  first = p.range.first ∙ ap (λ (u : View). u.first) e ∙ i.range.first ∙ r.first;
  count = p.range.count ∙ ap (λ (u : View). u.count) e ∙ i.range.count ∙ r.count;
  pieces = p.book.pieces ∙ ap (λ (u : View). u.pieces) e ∙ i.pieces ∙ r.pieces;
  own = p.purse.0;
  prepared = p.purse.2;
}

pub install-first-requires : goal.install-first-requires
install-first-requires g c = may_link _ c.place.new.self.view (ready _ c.in-Ok.owner.view c.root-level.new.self.view c.place.new.self.view c.root-level.result c.in-Ok.ensures.opened c.root-level.ensures.rooted c.place.ensures.placed)

pub leave-requires : goal.leave-requires
leave-requires g c =
    not_empty _ c.place.new.self.view c.install-first.new.self.view
    (ready _ c.in-Ok.owner.view c.root-level.new.self.view c.place.new.self.view c.root-level.result c.in-Ok.ensures.opened c.root-level.ensures.rooted c.place.ensures.placed) c.install-first.result c.install-first.ensures.installed

pub install-second-requires : goal.install-second-requires
install-second-requires g c =
    may_link _ c.place-2.new.self.view (again _ c.place.new.self.view c.install-first.new.self.view c.leave.new.self.view c.place-2.new.self.view c.install-first.result
    (ready _ c.in-Ok.owner.view c.root-level.new.self.view c.place.new.self.view c.root-level.result c.in-Ok.ensures.opened c.root-level.ensures.rooted c.place.ensures.placed)
    c.install-first.ensures.installed c.leave.ensures.left c.place-2.ensures.placed)

pub leave-requires-2 : goal.leave-requires-2
leave-requires-2 g c =
    not_empty _ c.place-2.new.self.view c.install-second.new.self.view (again _ c.place.new.self.view c.install-first.new.self.view c.leave.new.self.view c.place-2.new.self.view c.install-first.result
    (ready _ c.in-Ok.owner.view c.root-level.new.self.view c.place.new.self.view c.root-level.result c.in-Ok.ensures.opened c.root-level.ensures.rooted c.place.ensures.placed)
    c.install-first.ensures.installed c.leave.ensures.left c.place-2.ensures.placed) c.install-second.result c.install-second.ensures.installed

pub unplace-requires : goal.unplace-requires
unplace-requires g c =
    let same : c.install-second.new.self.view.prepared ≡ c.place-2.new.self.view.prepared =
    subst (λ (won : Won). Prepares won c.place-2.new.self.view c.install-second.new.self.view) c.in-Met.is c.install-second.ensures.installed.prepares in
    (_, ap (λ (u : View). u.prepared) c.leave-2.ensures.left ∙ same ∙ c.place-2.ensures.placed.purse.2, refl)
