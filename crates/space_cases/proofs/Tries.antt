-- What a try to link a table or to raise the root leaves.
use Rattle.std.proofs.Common.{◌≡◌, ℕ, ◌+◌, ◌-◌, ◌*◌, ◌^◌, ◌<◌, ◌≤◌, List, [], ◌∷◌, ◌++◌, length, refl, ap, sym, ◌∙◌, subst, arith}
use Rattle.std.specs.Prelude.{None, Some, nat_lt}
use Rattle.std.proofs.lemmas.Bool.{and_from, lt-ltb}
use Rattle.std.proofs.lemmas.Nat.{pow_pos}
use Rattle.std.proofs.lemmas.List.{nil_from_length}
use Rattle.std.proofs.Math.Pow.{pow_mono}
use Rattle.std.proofs.Math.Nat.{le-mul_of_pos_right}
use Rattle.pt_model.specs.declared.position.Position.{Position}
use Rattle.pt_model.specs.Layout.{Layout, pages_of_entry}
use Rattle.pt_model.specs.Tables.{child_at, spine_position}
use Rattle.pt_view.specs.declared.view.View.{View}
use Rattle.pt_view.specs.declared.view.Node.{Node}
use Rattle.pt_view.specs.declared.view.Prepared.{Prepared}
use Rattle.pt_view.specs.declared.holder.Won.{Won}
use Rattle.pt_view.specs.declared.holder.Won.TheVariants.{Yes, Met}
use Rattle.pt_view.specs.Calls.{Grows, IsEntryAt, IsGrown, IsInstalled, IsRootAt, MayInstall, Prepares, all_but_last, left, entry_end, entry_first, lowest, pieces_at}
use Rattle.space_cases.specs.Racing.{IsBlank, IsIdle, IsReady, IsTold, IsTried, depth_after, root_at}

-- the path is shorter by one
pub shorter : (xs : List Node) → length (all_but_last xs) ≡ length xs - 1
shorter [] = refl
shorter (x ∷ []) = refl
shorter (x ∷ y ∷ xs) = let rest = shorter (y ∷ xs) in omega arith

entry_of : (f : Layout) (v : View) (level at : ℕ) → IsReady f level at v → IsEntryAt f v (spine_position level) 0
entry_of f v level at r = record { node = root_at r.root.frame level; is_lowest = ap lowest r.root.path; at = refl; within = pow_pos f.index }

pub may_link : (f : Layout) (v : View) (level : ℕ) → 0 < level → IsReady f level (level - 1) v → v.first < 2 ^ f.index → 0 < v.count → MayInstall f v 0
may_link f v level high r near some =
    let p = spine_position level in
    let wide : f.index ≤ f.index * level = le-mul_of_pos_right f.index high in
    let far : 2 ^ f.index ≤ pages_of_entry f level = pow_mono wide in
    let base : 0 ≡ 0 + 0 * pages_of_entry f level = omega arith in record {
      position = p;
      entry = entry_of f v level (level - 1) r;
      meets = and_from (nat_lt (entry_first f p 0) (v.first + v.count)) (nat_lt v.first (entry_end f p 0))
          (lt-ltb (entry_first f p 0) (v.first + v.count) (omega arith)) (lt-ltb v.first (entry_end f p 0) (omega arith));
      high = high;
      frame = r.own;
      prepared = r.prepared ∙ (λ i. Some (record { frame = r.own; position = record { level = level - 1; base = base i }; bridge = None }));
      no_piece = ap (pieces_at f p 0) r.root.blank.pieces;
    }

pub told : (v w : View) (own : ℕ) (at : Position) (won : Won) → v.prepared ≡ Some (record { frame = own; position = at; bridge = None }) → Prepares won v w → IsTold won w
told v w own at Yes is p = p
told v w own at Met is p = (record { frame = own; position = at; bridge = None }, p ∙ is, refl)

pub linked : (f : Layout) (v w : View) (level : ℕ) (tells : Type 0) (won : Won) → IsReady f level (level - 1) v → IsInstalled f tells 0 v won w → IsTried won 2 w
linked f v w level tells won r i =
    let p = spine_position level in
    let went = i.path p (entry_of f v level (level - 1) r) in record {
      blank = record { pieces = i.pieces ∙ r.root.blank.pieces; end = i.purse.end ∙ r.root.blank.end };
      depth_is = ap length (went.1 ∙ ap (λ (xs : List Node). xs ++ record { frame = went.0; position = child_at f p 0 } ∷ []) r.root.path);
      told = told v w r.own (spine_position (level - 1)) won r.prepared i.prepares;
    }

raised_by : (f : Layout) (v w : View) (level : ℕ) (won : Won) → IsReady f level (level + 1) v → IsBlank w → Grows f won level v w → IsTried won (depth_after won) w
raised_by f v w level Yes r blank g = record { blank = blank; depth_is = ap length g.path.1; told = g.prepared }
raised_by f v w level Met r blank g = record {
  blank = blank;
  depth_is = ap length g.path;
  told = told v w r.own (spine_position (level + 1)) Met r.prepared g.prepared;
}

pub raised : (f : Layout) (v w : View) (level : ℕ) (tells alone : Type 0) (won : Won) → IsReady f level (level + 1) v → IsGrown f tells alone v won w → IsTried won (depth_after won) w
raised f v w level tells alone won r g =
    raised_by f v w level won r (record { pieces = g.pieces ∙ r.root.blank.pieces; end = g.purse.end ∙ r.root.blank.end }) (g.grows level (r.root.frame, r.root.path))

-- after the way back from one table there is no path
pub idle_above : (v w : View) → IsBlank v → v.prepared ≡ None → length v.path ≡ 1 → w ≡ left v → IsIdle w
idle_above v w blank none one is =
    let short = shorter v.path in record {
      blank = record { pieces = ap (λ (u : View). u.pieces) is ∙ blank.pieces; end = ap (λ (u : View). u.end) is ∙ blank.end };
      path = ap (λ (u : View). u.path) is ∙ nil_from_length (all_but_last v.path) (omega arith);
      prepared = ap (λ (u : View). u.prepared) is ∙ none;
    }

-- after the way back from one of two tables the path is one
pub one_above : (v w : View) → length v.path ≡ 2 → w ≡ left v → length w.path ≡ 1
one_above v w two is = let short = shorter v.path in ap (λ (u : View). length u.path) is ∙ (let h : length (all_but_last v.path) ≡ 1 = omega arith in h)

pub blank_above : (v w : View) → IsBlank v → w ≡ left v → IsBlank w
blank_above v w blank is = record { pieces = ap (λ (u : View). u.pieces) is ∙ blank.pieces; end = ap (λ (u : View). u.end) is ∙ blank.end }
