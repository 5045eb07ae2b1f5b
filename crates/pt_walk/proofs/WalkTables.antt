-- The tables of a walk's way, as the path of a holder shows them.
use Rattle.std.proofs.Common.{◌≡◌, ℕ, ◌+◌, ◌-◌, ◌*◌, ◌/◌, ◌^◌, ◌<◌, ◌≤◌, List, [], ◌∷◌, ◌++◌, refl, ap, sym, ◌∙◌, subst, arith, length-append}
use Rattle.std.specs.Prelude.{Some, length}
use Rattle.std.proofs.lemmas.Nat.{shr_split, shr_high, pow_pos, mod_below}
use Rattle.pt_model.specs.declared.position.Position.{Position}
use Rattle.pt_model.specs.Layout.{Layout, pages_of_table}
use Rattle.pt_model.specs.Tables.{end_of_table, position_over}
use Rattle.pt_view.specs.declared.view.View.{View}
use Rattle.pt_view.specs.declared.view.Node.{Node}
use Rattle.pt_view.specs.Views.{SameBook}
use Rattle.pt_view.specs.Calls.{lowest}
use Rattle.pt_view.specs.Loads.{IsOver}
use Rattle.pt_view.proofs.Paths.{lowest_snoc}
use Rattle.pt_walk.specs.RangeWalks.{Begins, HasTable, HasTables}
use Rattle.pt_model.proofs.Positions.{same_position}
use Rattle.pt_walk.proofs.Ranges.{clear_from, clear_on}

-- One table.

module _ (f : Layout) (v : View) (at end level to : ℕ) (x : Node) (t : HasTable f v at end level to x) (less : at < to) where
  same_chunk : at / pages_of_table f level ≡ (to - 1) / pages_of_table f level
  same_chunk =
      let k : ℕ = f.index * (level + 1) in
      let q : ℕ = (to - 1) / 2 ^ k * 2 ^ k in
      let from = t.from in
      let s = shr_split (to - 1) k in
      let r = mod_below (to - 1) (2 ^ k) (pow_pos k) in
      let split : at ≡ (to - 1) / 2 ^ k * 2 ^ k + (at - q) = omega arith in
      ap (λ n. n / 2 ^ k) split ∙ shr_high ((to - 1) / 2 ^ k) k (at - q) (omega arith)

  same_place : x.position ≡ position_over f at level
  same_place = t.is ∙ same_position (position_over f (to - 1) level) (position_over f at level) refl (ap (λ q. q * pages_of_table f level) (sym same_chunk))

  -- it is over the next page
  pub table_over : (xs : List Node) → v.path ≡ xs ++ x ∷ [] → IsOver f v at level
  table_over xs path = record { frame = x.frame; is = ap lowest path ∙ lowest_snoc xs x ∙ ap (λ (p : Position). Some (record { frame = x.frame; position = p })) same_place }

  -- what is left there lies under it
  pub table_end : to ≤ end_of_table f (position_over f at level)
  table_end =
      let e : at / pages_of_table f level * pages_of_table f level ≡ (to - 1) / pages_of_table f level * pages_of_table f level = ap (λ q. q * pages_of_table f level) same_chunk in
      let s = shr_split (to - 1) (f.index * (level + 1)) in
      let r = mod_below (to - 1) (pages_of_table f level) (pow_pos (f.index * (level + 1))) in
      omega arith

pub table_on : (f : Layout) (v w : View) (at next end level to : ℕ) (x : Node) → SameBook v w → at ≤ next → HasTable f v at end level to x → HasTable f w next end level to x
table_on f v w at next end level to x book on t = record {
  is = t.is;
  from = let a = t.from in omega arith;
  within = t.within;
  clear = clear_on f next to level book (clear_from f v at to next to level t.clear on (omega arith));
}

-- All tables.

pub tables_on : (f : Layout) (v w : View) (at next end level : ℕ) → SameBook v w → at ≤ next → (tos : List ℕ) (xs : List Node) → HasTables f v at end level tos xs → HasTables f w next end level tos xs
tables_on f v w at next end level book on [] [] h = tt
tables_on f v w at next end level book on [] (x ∷ xs) h = absurd h
tables_on f v w at next end level book on (to ∷ tos) [] h = absurd h
tables_on f v w at next end level book on (to ∷ tos) (x ∷ xs) h = (table_on f v w at next end (level + length tos) to x book on h.0, tables_on f v w at next end level book on tos xs h.1)

pub tables_length : (f : Layout) (v : View) (at end level : ℕ) (tos : List ℕ) (xs : List Node) → HasTables f v at end level tos xs → length xs ≡ length tos
tables_length f v at end level [] [] h = refl
tables_length f v at end level [] (x ∷ xs) h = absurd h
tables_length f v at end level (to ∷ tos) [] h = absurd h
tables_length f v at end level (to ∷ tos) (x ∷ xs) h = let e = tables_length f v at end level tos xs h.1 in omega arith

pub tables_snoc : (f : Layout) (v : View) (at end level : ℕ) (to : ℕ) (x : Node) (tos : List ℕ) (xs : List Node) → HasTables f v at end (level + 1) tos xs → HasTable f v at end level to x →
    HasTables f v at end level (tos ++ to ∷ []) (xs ++ x ∷ [])
tables_snoc f v at end level to x [] [] h t = (subst (λ (k : ℕ). HasTable f v at end k to x) (let z : level ≡ level + 0 = omega arith in z) t, tt)
tables_snoc f v at end level to x [] (y ∷ ys) h t = absurd h
tables_snoc f v at end level to x (s ∷ tos) [] h t = absurd h
tables_snoc f v at end level to x (s ∷ tos) (y ∷ ys) h t =
    let more = length-append tos (to ∷ []) in
    let k : level + 1 + length tos ≡ level + length (tos ++ to ∷ []) = omega arith in
    (subst (λ (n : ℕ). HasTable f v at end n s y) k h.0, tables_snoc f v at end level to x tos ys h.1 t)

-- the last table of the way, and those above it
pub record Last (f : Layout) (v : View) (at end level : ℕ) (tos : List ℕ) (to : ℕ) (path : List Node) : Type 0 where
  pub nodes : List Node
  pub node : Node
  pub path_is : path ≡ nodes ++ node ∷ []
  pub above : HasTables f v at end (level + 1) tos nodes
  pub table : HasTable f v at end level to node

pub tables_last : (f : Layout) (v : View) (at end level : ℕ) (to : ℕ) (tos : List ℕ) (path : List Node) → HasTables f v at end level (tos ++ to ∷ []) path → Last f v at end level tos to path
tables_last f v at end level to [] [] h = absurd h
tables_last f v at end level to [] (x ∷ []) h = record {
  nodes = [];
  node = x;
  path_is = refl;
  above = tt;
  table = subst (λ (k : ℕ). HasTable f v at end k to x) (let z : level + 0 ≡ level = omega arith in z) h.0;
}
tables_last f v at end level to [] (x ∷ y ∷ ys) h = absurd h.1
tables_last f v at end level to (s ∷ tos) [] h = absurd h
tables_last f v at end level to (s ∷ tos) (y ∷ ys) h =
    let r : Last f v at end level tos to ys = tables_last f v at end level to tos ys h.1 in
    let more = length-append tos (to ∷ []) in
    let k : level + length (tos ++ to ∷ []) ≡ level + 1 + length tos = omega arith in
    record {
      nodes = y ∷ r.nodes;
      node = r.node;
      path_is = ap (λ (zs : List Node). y ∷ zs) r.path_is;
      above = (subst (λ (n : ℕ). HasTable f v at end n s y) k h.0, r.above);
      table = r.table;
    }

-- The root's table is the first.

pub begins_more : (end to next : ℕ) (tos : List ℕ) → Begins end (tos ++ to ∷ []) → Begins end ((tos ++ to ∷ []) ++ next ∷ [])
begins_more end to next [] h = h
begins_more end to next (s ∷ tos) h = h

pub begins_less : (end to next : ℕ) (tos : List ℕ) → Begins end ((tos ++ to ∷ []) ++ next ∷ []) → Begins end (tos ++ to ∷ [])
begins_less end to next [] h = h
begins_less end to next (s ∷ tos) h = h
