-- The root is raised by one level, or was raised by another holder, and so on level by level.
use Rattle.std.proofs.Common.{◌≡◌, ℕ, ◌+◌, ◌*◌, ◌<◌, ◌≤◌, List, [], ◌∷◌, ◌++◌, length, inl, inr, refl, ap, sym, subst, ◌∙◌, arith, append_assoc, length-append}
use Rattle.std.specs.Prelude.{IsTrue, None, Some, min, nat_le}
use Rattle.std.proofs.lemmas.Bool.{and_from, cases_lt, le-leb}
use Rattle.std.proofs.lemmas.List.{append-nil}
use Rattle.std.proofs.lemmas.Nat.{mul-le, pow_below}
use Rattle.pt_model.specs.Layout.{Layout, pages_of_table}
use Rattle.pt_model.specs.Sets.{IsAmong}
use Rattle.pt_model.specs.Tables.{is_spine, spine_position, starting_top}
use Rattle.pt_view.specs.declared.view.View.{View}
use Rattle.pt_view.specs.declared.view.Absence.{Absence}
use Rattle.pt_view.specs.declared.view.Absence.TheVariants.{Top}
use Rattle.pt_view.specs.declared.holder.Won.TheVariants.{Yes, Met}
use Rattle.pt_view.specs.Calls.{IsGrown, IsOutgrown, IsPlaced, IsRaised, IsRootAt, IsUnplaced, Rooted}
use Rattle.pt_view.specs.Lists.{SameFrames}
use Rattle.pt_view.proofs.Loads.{absences_on}
use Rattle.pt_view.proofs.Stays.{range_here, range_on}
use Rattle.pt_sweep.specs.Raises.{AtRoot, MayRaise, MayRaiseOne, Raises, RaisesAlone}

spine_is : (levels level : ℕ) → starting_top levels ≤ level → IsTrue (is_spine levels (spine_position level))
spine_is levels level low = and_from (nat_le (starting_top levels) level) _ (le-leb (starting_top levels) level low) refl

frames_on : (xs ys zs : List ℕ) → SameFrames xs ys → SameFrames ys zs → SameFrames xs zs
frames_on xs ys zs a b = λ x. (λ h. (a x).0 ((b x).0 h), λ h. (b x).1 ((a x).1 h))

-- a lower table of the spine is smaller
lower : (f : Layout) → 0 < f.index → (low high : ℕ) → pages_of_table f low ≤ pages_of_table f high → low ≤ high
lower f some low high fits = elim (cases_lt high low) [
  | inr within ↦ within
  | inl less ↦ absurd (
      let step = mul-le f.index (high + 2) f.index (low + 1) (omega arith) (omega arith) in
      let wide = pow_below (f.index * (high + 1)) (f.index * (low + 1)) (omega arith) in omega arith)
]

-- One level more.
module _ {f : Layout} {tells : Type 0} {v u : View} {root : ℕ} (may : MayRaiseOne f v root) (placed : IsPlaced tells v (record { level = root + 1; base = 0 }) u) where
  at_root : IsRootAt u root
  at_root = (may.at.path.0, placed.path ∙ may.at.path.1)

  low_after : (levels : ℕ) → levels ≡ u.levels → (level : ℕ) → root ≤ level → starting_top levels ≤ level
  low_after levels is level up = let low = may.at.low in let same = placed.range.levels in omega arith

  module _ {alone' : Type 0} {w : View} where
    -- where it was raised before, the frame is prepared still, and the path is left
    pub ready_after : IsGrown f tells alone' u Met w → w.prepared ≡ Some (record { frame = placed.purse.0; position = record { level = root + 1; base = 0 }; bridge = None })
    ready_after g = let o : IsOutgrown f root u w = g.grows root at_root in o.prepared ∙ placed.purse.2

    pub left_after : IsGrown f tells alone' u Met w → w.path ≡ []
    left_after g = let o : IsOutgrown f root u w = g.grows root at_root in o.path

  module _ {alone alone' : Type 0} {w : View} where
    -- it was raised
    pub raised : IsGrown f tells alone' u Yes w → Raises f tells alone v w root (root + 1) (root + 1)
    raised g =
        let r : IsRaised f root u w = g.grows root at_root in
        let top = r.top in let reach = may.at.reaches in
        record {
          range = range_on placed.range g.range;
          pieces = g.pieces ∙ placed.book.pieces;
          tables = g.tables ∙ placed.book.tables;
          at = record {
            path = r.path;
            reaches = omega arith;
            low = low_after w.levels g.range.levels (root + 1) (omega arith);
            legal = r.legal;
            spine = λ level from to. (r.known (spine_position level)).1 (inl (spine_is u.levels level (let e = g.range.levels in omega arith), to));
            none = r.prepared;
          };
          high = omega arith;
          top_from = omega arith;
          top_to = omega arith;
          end = g.purse.end ∙ placed.end;
          used = placed.purse.0 ∷ [];
          purse = placed.purse.1 ∙ ap (λ (xs : List ℕ). placed.purse.0 ∷ xs) (sym g.purse.purse);
          few = omega arith;
          busy = frames_on _ _ _ placed.busy g.busy;
          known = λ p h. (r.known p).1 (inr ((placed.known p).1 h));
          taken = λ t. (g.told t).taken ∙ (placed.told t).taken;
          stores = λ t. (g.told t).stores ∙ (placed.told t).stores;
          absent = λ t. record { facts = []; are = (g.told t).absent ∙ (placed.told t).absent ∙ sym (append-nil v.absent) };
          lone = λ a. record { level_is = omega arith; top_is = λ e. top; used_is = omega arith };
        }

    -- another holder raised it before
    module _ (some : 0 < f.index) (still : alone → alone') (g : IsGrown f tells alone' u Met w) {x y : View} (unplaced : IsUnplaced tells w x) {lone : Type 0} {level : ℕ} (rooted : Rooted f tells lone x level y) where
      o : IsOutgrown f root u w
      o = g.grows root at_root

      levels_are : x.levels ≡ u.levels
      levels_are = unplaced.range.levels ∙ g.range.levels

      spine_known : IsAmong x.known (spine_position o.found)
      spine_known = (unplaced.known (spine_position o.found)).1 ((o.known (spine_position o.found)).1
          (inl (spine_is u.levels o.found (let up = o.higher in low_after u.levels refl o.found (omega arith)), omega arith)))

      above : root < level
      above =
          let up = o.higher in
          let within : o.found ≤ level = lower f some o.found level (let ends = rooted.over_known (spine_position o.found) spine_known in omega arith) in omega arith

      pub outgrown : Raises f tells alone v y root (root + 1) level
      outgrown =
          let up = above in let reach = rooted.reaches in let top = rooted.book.top in let at = may.at.reaches in
          let low : starting_top x.levels ≤ level = low_after x.levels levels_are level (omega arith) in
          let same : y.top ≡ v.top = rooted.book.top ∙ unplaced.book.top ∙ o.top ∙ placed.book.top in
          record {
            range = range_on (range_on placed.range g.range) (range_on unplaced.range rooted.range);
            pieces = rooted.book.pieces ∙ unplaced.book.pieces ∙ g.pieces ∙ placed.book.pieces;
            tables = rooted.book.tables ∙ unplaced.book.tables ∙ g.tables ∙ placed.book.tables;
            at = record {
              path = rooted.path;
              reaches = omega arith;
              low = (let e = rooted.range.levels in omega arith);
              legal = rooted.legal;
              spine = λ l from to. (rooted.known (spine_position l)).1 (inl (spine_is x.levels l (let e = rooted.range.levels in omega arith), to));
              none = rooted.prepared ∙ unplaced.none;
            };
            high = omega arith;
            top_from = omega arith;
            top_to = omega arith;
            end = rooted.purse.end ∙ unplaced.end ∙ g.purse.end ∙ placed.end;
            used = [];
            purse = placed.purse.1 ∙ ap (λ (xs : List ℕ). placed.purse.0 ∷ xs) (sym g.purse.purse)
                ∙ sym (unplaced.purse _ (ready_after g)) ∙ sym rooted.purse.purse;
            few = omega arith;
            busy = frames_on _ _ _ (frames_on _ _ _ placed.busy g.busy) (frames_on _ _ _ unplaced.busy rooted.busy);
            known = λ p h. (rooted.known p).1 (inr ((unplaced.known p).1 ((o.known p).1 (inr ((placed.known p).1 h)))));
            taken = λ t. (rooted.told t).0 ∙ (unplaced.told t).taken ∙ (g.told t).taken ∙ (placed.told t).taken;
            stores = λ t. (rooted.told t).2 ∙ (unplaced.told t).stores ∙ (g.told t).stores ∙ (placed.told t).stores;
            absent = λ t. record {
              facts = Top level ∷ [];
              are = (rooted.told t).1 ∙ ap (λ (xs : List Absence). xs ++ Top level ∷ []) ((unplaced.told t).absent ∙ (g.told t).absent ∙ (placed.told t).absent);
            };
            lone = λ a. absurd (let e : Met ≡ Yes = g.wins (still a) in cc);
          }

-- Level by level: the root is at a level, and what was done is as for that one, or for the one asked for where it is lower.

abbrev pub RaisesTo : (f : Layout) → (tells alone : Type 0) → (v w : View) → (root top level : ℕ) → Type 0
RaisesTo f tells alone v w root top level = Raises f tells alone v w root (min level top) level

pub raises_none : {f : Layout} {tells alone : Type 0} {v : View} {root : ℕ} (top : ℕ) → AtRoot f v root → RaisesTo f tells alone v v root top root
raises_none {v = v} top at = record {
  range = range_here;
  pieces = refl;
  tables = refl;
  at = at;
  high = omega arith;
  top_from = omega arith;
  top_to = omega arith;
  end = refl;
  used = [];
  purse = refl;
  few = omega arith;
  busy = λ x. ((λ h. h), (λ h. h));
  known = λ p h. h;
  taken = λ t. refl;
  stores = λ t. refl;
  absent = λ t. record { facts = []; are = sym (append-nil v.absent) };
  lone = λ a. record { level_is = omega arith; top_is = λ e. e; used_is = omega arith };
}

module _ {f : Layout} {tells alone : Type 0} {u v : View} {root top level : ℕ} (a : RaisesTo f tells alone u v root top level) (more : level < top) where
  -- there is a frame for one level more
  pub may_raise : MayRaise f u root top → MayRaiseOne f v level
  may_raise may =
      let frames = may.frames in let legal = may.legal in let few = a.few in let high = a.high in
      let all : length u.purse ≡ length a.used + length v.purse = ap length a.purse ∙ length-append a.used v.purse in
      record { at = a.at; legal = omega arith; frames = omega arith }

  pub raises_on : {alone' : Type 0} {w : View} {next : ℕ} → (alone → alone') → Raises f tells alone' v w level (level + 1) next → RaisesTo f tells alone u w root top next
  raises_on {w = w} {next = next} still b =
      let high = a.high in let up = b.high in let few = a.few in let fewer = b.few in
      let from = a.top_from in let to = a.top_to in let from' = b.top_from in let to' = b.top_to in
      let sum = length-append a.used b.used in
      record {
        range = range_on a.range b.range;
        pieces = b.pieces ∙ a.pieces;
        tables = b.tables ∙ a.tables;
        at = b.at;
        high = omega arith;
        top_from = omega arith;
        top_to = omega arith;
        end = b.end ∙ a.end;
        used = a.used ++ b.used;
        purse = a.purse ∙ ap (λ (xs : List ℕ). a.used ++ xs) b.purse ∙ sym (append_assoc a.used b.used w.purse);
        few = omega arith;
        busy = frames_on _ _ _ a.busy b.busy;
        known = λ p h. b.known p (a.known p h);
        taken = λ t. b.taken t ∙ a.taken t;
        stores = λ t. b.stores t ∙ a.stores t;
        absent = λ t. absences_on (a.absent t) (b.absent t);
        lone = λ h.
            let x : RaisesAlone u v root (min level top) level (length a.used) = a.lone h in
            let y : RaisesAlone v w level (level + 1) next (length b.used) = b.lone (still h) in
            let i = x.level_is in let j = y.level_is in let k = x.used_is in let l = y.used_is in
            record { level_is = omega arith; top_is = λ e. y.top_is (x.top_is e); used_is = omega arith };
      }

-- in the end the level is no lower
pub raises_all : {f : Layout} {tells alone : Type 0} {v w : View} {root top level : ℕ} → top ≤ level → RaisesTo f tells alone v w root top level → Raises f tells alone v w root top level
raises_all {f} {tells} {alone} {v} {w} {root} {top} {level} stopped r =
    let all : min level top ≡ top = omega arith in
    subst (λ (k : ℕ). Raises f tells alone v w root k level) all r
