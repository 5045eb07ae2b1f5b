-- A lease loads the root.
use Rattle.std.proofs.Common.{◌≡◌, ℕ, zero, suc, ◌+◌, ◌/◌, ◌%◌, ◌<◌, List, [], ◌∷◌, length, ap, sym, ◌∙◌, subst, arith, get_or-set_same}
use Rattle.std.specs.Prelude.{None, false, slice_index, slice_set}
use mathlib.Core.Option.{some, some-injective}
use lib.ListN.{get_elem?}
use Rattle.pt_model.specs.Layout.{Layout}
use Rattle.pt_model.specs.Tables.{spine_position}
use Rattle.pt_format.specs.Laws.{IsLayout, WordsDiffer}
use Rattle.pt_format.specs.Manual.{StepsAgree}
use Rattle.pt_view.specs.declared.view.View.{View}
use Rattle.pt_view.specs.declared.view.Node.{Node}
use Rattle.pt_view.specs.Calls.{Rooted}
use Rattle.pt_rule.specs.Holds.{Holds}
use Rattle.pt_rule.specs.Kinds.{load_root, retrace}
use Rattle.pt_rule.specs.Meets.{Always, IsWhole}
use Rattle.pt_rule.specs.Tags.{first_or}
use Rattle.pt_rule.specs.WholeView.{prepared_frame}
use Rattle.pt_space.specs.Standing.{Fields, Shows, Stepped, cut_to}
use Rattle.pt_space.proofs.Showing.{says, whole_path}

-- in a format that doesn't grow, the root's level is that of its levels
pub fixed_level : {f : Layout} → IsLayout f → f.grows ≡ false → {n l : ℕ} {v w : View} {path : List Node} {found : ℕ} → Holds f n l v → Stepped f n l load_root (retrace path v) found w → found % 8 + 1 ≡ f.levels
fixed_level good fixed holds t =
    let start = good.fixed fixed in
    let low = holds.low in
    let high = holds.high in
    let levels = holds.levels in
    let top = holds.book.top_low in
    let reaches = t.tells.reaches in
    let within = t.tells.a_level in omega arith

module _ {f : Layout} (good : IsLayout f) (differ : WordsDiffer f) (agree : StepsAgree f) {n l : ℕ} {v w : View} {o : Fields} (s : Shows f n l v o) (eight : length o.path ≡ 8)
    (none : (cut_to o.depth v).path ≡ []) {found : ℕ} (t : Stepped f n l load_root (cut_to o.depth v) found w) where
  abbrev node : Node
  node = record { frame = found / 8; position = spine_position (found % 8) }

  path_is : w.path ≡ node ∷ []
  path_is = ap (λ (u : View). u.path) t.is

  said : Rooted f Always (IsWhole f (cut_to o.depth v)) (cut_to o.depth v) (found % 8) w
  said = says s good differ agree none t

  pub root_within : found / 8 < n
  root_within = t.tells.a_frame

  pub shows_rooted : Shows f n l w (record o { path = slice_set o.path 0 (found / 8); depth = 1; level = found % 8 })
  shows_rooted = record {
    holds = t.holds;
    first = said.range.first ∙ s.first;
    count = said.range.count ∙ s.count;
    end = said.purse.end ∙ s.end;
    head = ap (first_or None) said.purse.purse ∙ s.head;
    held = ap length said.purse.purse ∙ s.held;
    prepared = ap prepared_frame said.prepared ∙ s.prepared;
    unbridged = λ x is. s.unbridged x (sym said.prepared ∙ is);
    deep = let a = ap length path_is in omega arith;
    nodes = λ i x lt at. one i x lt (ap (λ (xs : List Node). get_elem? xs i) (sym path_is) ∙ at);
  }
    where
      one : (i : ℕ) (x : Node) → i < 1 → get_elem? (node ∷ []) i ≡ some x → (x.frame ≡ slice_index (slice_set o.path 0 (found / 8)) i) × (x.position.level + i + 1 ≡ found % 8 + 1)
      one zero x lt at = let same : node ≡ x = some-injective node x at in (
        ap (λ (y : Node). y.frame) (sym same) ∙ sym (get_or-set_same o.path 0 (found / 8) 0 (omega arith)),
        (let a : x.position.level ≡ found % 8 = ap (λ (y : Node). y.position.level) (sym same) in omega arith),
      )
      one (suc i) x lt at = absurd (omega arith)

  pub rooted : Rooted f Always (IsWhole f (cut_to o.depth v)) (cut_to o.depth v) (found % 8) (cut_to 1 w)
  rooted = subst (Rooted f Always (IsWhole f (cut_to o.depth v)) (cut_to o.depth v) (found % 8)) (sym (whole_path w 1 (ap length path_is))) said
