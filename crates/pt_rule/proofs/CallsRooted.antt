-- What a load of the root tells meets the clauses of a holder's call.
use Rattle.std.proofs.Common.{◌≡◌, inl, inr, ℕ, ◌+◌, ◌-◌, ◌/◌, ◌%◌, ◌<◌, ◌≤◌, List, ◌∷◌, ◌++◌, sym, refl, ap, subst, arith, ⊎_elim}
use Rattle.std.specs.Prelude.{IsTrue, map}
use Rattle.pt_model.proofs.Positions.{among_append, among_cases, among_here, among_left, among_levels, among_more, among_right, levels_among}
use Rattle.pt_model.specs.declared.position.Position.{Position}
use Rattle.pt_model.specs.Layout.{Layout, input_pages}
use Rattle.pt_model.specs.Tables.{is_spine, levels_between, spine_position, starting_top}
use Rattle.pt_view.specs.declared.view.View.{View}
use Rattle.pt_model.specs.Sets.{AddsPositions, IsAmong, SamePositions}
use Rattle.pt_view.specs.Lists.{SameFrames}
use Rattle.pt_view.specs.Views.{SameHistory, SamePurse}
use Rattle.pt_view.specs.Calls.{Rooted}
use Rattle.pt_rule.proofs.TablesAdded.{spine_back}
use Rattle.pt_rule.specs.Kinds.{RootTells, after, load_root}
use Rattle.pt_rule.proofs.RootKept.{spine_is}

pub same_frames : (xs : List ℕ) → SameFrames xs xs
same_frames xs x = (λ h. h, λ h. h)

pub same_positions : (ps : List Position) → SamePositions ps ps
same_positions ps p = (λ h. h, λ h. h)

pub same_purse : (v : View) → SamePurse v v
same_purse v = record { purse = refl; end = refl }

pub same_history : (v : View) → SameHistory v v
same_history v = record { taken = refl; absent = refl; stores = refl }

-- one position joins the list
pub one_more : (q : Position) (ps : List Position) → AddsPositions ps (q ∷ ps) (λ p. p ≡ q)
one_more q ps p = (
  λ h. among_cases p q ps h,
  λ h. ⊎_elim (λ (e : p ≡ q). subst (IsAmong (q ∷ ps)) (sym e) (among_here q ps)) (λ (old : IsAmong ps p). among_more p q ps old) h,
)

-- the spine's positions from the starting top to a level join the list
pub spine_adds : (levels level : ℕ) (old : List Position) →
    AddsPositions old (map spine_position (levels_between (starting_top levels) level) ++ old) (λ p. IsTrue (is_spine levels p) × (p.level ≤ level))
spine_adds levels level old p = (
  λ h. ⊎_elim
      (λ (new : IsAmong spine p).
      let t : (k : ℕ) × (starting_top levels ≤ k) × (k < starting_top levels + (level + 1 - starting_top levels)) × (p ≡ spine_position k) =
      among_levels spine_position (level + 1 - starting_top levels) (starting_top levels) p new in
      let from = t.1 in let to = t.2 in let is : p.level ≡ t.0 = ap (λ (q : Position). q.level) t.3 in
      inl (subst (λ (q : Position). IsTrue (is_spine levels q)) (sym t.3) (spine_is levels t.0 from), omega arith))
      (λ (rest : IsAmong old p). inr rest)
      (among_append p spine old h),
  λ h. ⊎_elim
      (λ (new : IsTrue (is_spine levels p) × (p.level ≤ level)).
      let b : (starting_top levels ≤ p.level) × (p ≡ spine_position p.level) = spine_back levels p new.0 in
      let low = b.0 in let up = new.1 in
      among_left p spine old (subst (IsAmong spine) (sym b.1) (levels_among spine_position (level + 1 - starting_top levels) (starting_top levels) p.level low (omega arith))))
      (λ (rest : IsAmong old p). among_right p spine old rest) h,
)
  where
    spine : List Position
    spine = map spine_position (levels_between (starting_top levels) level)

pub rooted : (f : Layout) (n : ℕ) (tells alone : Type 0) (v : View) (found : ℕ) → (alone → v.count ≡ input_pages f) → RootTells f n v found →
    Rooted f tells alone v (found % 8) (after f load_root found v)
rooted f n tells alone v found whole t = record {
  range = record { frames = refl; levels = refl; first = refl; count = refl };
  book = record { pieces = refl; tables = refl; top = refl };
  purse = record { purse = refl; end = refl };
  prepared = refl;
  path = (found / 8, refl);
  busy = same_frames v.busy;
  known = spine_adds v.levels (found % 8) v.known;
  told = λ _. (refl, refl, refl);
  legal = t.a_level;
  reaches = t.reaches;
  over_tables = t.over_tables;
  over_known = t.over_known;
  exact = λ a. t.exact (whole a);
}
