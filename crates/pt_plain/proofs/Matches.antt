-- When the fields of an owner are those of a view: by its purse, its path and its prepared frame.
use Rattle.std.proofs.Common.{◌≡◌, ℕ, ◌+◌, ◌-◌, ◌<◌, ◌≤◌, List, [], ◌∷◌, ◌++◌, length, ap, sym, ◌∙◌, subst, arith, length-append, length-set}
use Rattle.std.specs.Prelude.{Option, None, Some, slice_set}
use Rattle.pt_model.specs.Words.{root_level}
use Rattle.pt_view.specs.declared.view.View.{View}
use Rattle.pt_view.specs.declared.view.Node.{Node}
use Rattle.pt_view.specs.declared.view.Prepared.{Prepared}
use Rattle.pt_view.specs.Views.{SamePurse}
use Rattle.pt_rule.specs.Tags.{first_or}
use Rattle.pt_rule.specs.WholeView.{prepared_frame}
use Rattle.pt_plain.specs.Owner.{Fields}
use Rattle.pt_plain.proofs.Paths.{Follows, follows_more}

-- the purse ends without a mark
pub record PurseIs (head : Option ℕ) (held : ℕ) (u : View) : Type 0 where
  pub first_is : first_or None u.purse ≡ head
  pub held_is : length u.purse ≡ held
  pub end : u.end ≡ None

-- the path goes from the root's level down to `level`
pub record PathIs (top : ℕ) (path : List ℕ) (level : ℕ) (u : View) : Type 0 where
  pub follows : Follows path (top + 1) u.path
  pub depth : length u.path + level ≡ top + 1
  pub eight : length path ≡ 8

-- a prepared frame has no bridge, and is for a level that a tag can say
abbrev pub IsPlain : Option Prepared → Type 0
IsPlain None = Unit {0}
IsPlain (Some x) = (x.bridge ≡ None) × (x.position.level < 8)

pub record PreparedIs (prepared : Option ℕ) (u : View) : Type 0 where
  pub is : prepared_frame u.prepared ≡ prepared
  pub plain : IsPlain u.prepared

pub record Matches (o : Fields) (u : View) : Type 0 where
  pub purse : PurseIs o.head o.held u
  pub path : PathIs (root_level o.words) o.path o.level u
  pub prepared : PreparedIs o.prepared u

pub purse_kept : {head : Option ℕ} {held : ℕ} {v u : View} → SamePurse v u → PurseIs head held v → PurseIs head held u
purse_kept same m = record { first_is = ap (first_or None) same.purse ∙ m.first_is; held_is = ap length same.purse ∙ m.held_is; end = same.end ∙ m.end }

-- one frame more, as the first
pub purse_more : {head : Option ℕ} {held : ℕ} {v u : View} {frame : ℕ} → u.purse ≡ frame ∷ v.purse → u.end ≡ v.end → PurseIs head held v → PurseIs (Some frame) (held + 1) u
purse_more purse end m = record { first_is = ap (first_or None) purse; held_is = (let a = ap length purse in let b = m.held_is in omega arith); end = end ∙ m.end }

pub path_kept : {top top' : ℕ} {path : List ℕ} {level : ℕ} {v u : View} → u.path ≡ v.path → top' ≡ top → PathIs top path level v → PathIs top' path level u
path_kept {path = path} same tops m = record {
  follows = subst (λ (t : ℕ × List Node). Follows path (t.0 + 1) t.1) (λ i. (sym tops i, sym same i)) m.follows;
  depth = (let a = ap length same in let b = m.depth in omega arith);
  eight = m.eight;
}

pub prepared_kept : {prepared : Option ℕ} {v u : View} → u.prepared ≡ v.prepared → PreparedIs prepared v → PreparedIs prepared u
prepared_kept same m = record { is = ap prepared_frame same ∙ m.is; plain = subst IsPlain (sym same) m.plain }

pub prepared_none : {u : View} → u.prepared ≡ None → PreparedIs None u
prepared_none e = record { is = ap prepared_frame e; plain = subst IsPlain (sym e) tt }

-- the path goes one table deeper
pub path_deeper : {top top' : ℕ} {path : List ℕ} {level : ℕ} {v u : View} (x : Node) → u.path ≡ v.path ++ x ∷ [] → top' ≡ top → x.position.level + 1 ≡ level → PathIs top path level v →
    level ≤ top → level < 9 → PathIs top' (slice_set path (level - 1) x.frame) (level - 1) u
path_deeper {top = top} {path = path} {level = level} {v = v} x deeper tops below m low few =
    let longer : length (v.path ++ x ∷ []) ≡ length v.path + 1 = length-append v.path (x ∷ []) in
    let depth = m.depth in let eight = m.eight in let long = ap length deeper in
    record {
      follows = subst (λ (t : ℕ × List Node). Follows (slice_set path (level - 1) x.frame) (t.0 + 1) t.1) (λ i. (sym tops i, sym deeper i))
          (follows_more path (top + 1) (level - 1) v.path x m.follows (omega arith) (omega arith) (omega arith));
      depth = omega arith;
      eight = length-set path (level - 1) x.frame ∙ m.eight;
    }
