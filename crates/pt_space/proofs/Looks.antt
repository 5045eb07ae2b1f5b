-- A lease looks at a run of entries.
use Rattle.std.proofs.Common.{◌≡◌, inl, inr, ℕ, ◌+◌, ◌<◌, ◌≤◌, List, ◌∷◌, [], refl, ap, sym, ◌∙◌, subst, arith, length, length-append}
use Rattle.std.specs.Prelude.{IsTrue, ◌&&◌, nat_lt, true, false}
use Rattle.std.proofs.lemmas.Bool.{cases_lt, false≢true}
use Rattle.pt_model.specs.declared.position.Position.{Position}
use Rattle.pt_model.specs.Layout.{Layout}
use Rattle.pt_model.specs.Sets.{IsAmong}
use Rattle.pt_model.specs.Tables.{child_at, starting_top}
use Rattle.pt_view.specs.declared.view.View.{View}
use Rattle.pt_view.specs.declared.holder.Seen.TheVariants.{Empty, Leaf, Entered}
use Rattle.pt_view.specs.Calls.{IsEntryAt, IsVacant, MeetsEntry, Went, all_but_last, entry_end, entry_first, left, lowest, pieces_at}
use Rattle.pt_view.specs.Loads.{ByLoads}
use Rattle.pt_view.specs.Runs.{LooksAtRun, MeetsRun}
use Rattle.pt_view.proofs.Loads as loads
use Rattle.pt_view.proofs.Paths.{front_snoc}
use Rattle.pt_rule.specs.Meets.{Always, IsWhole}
use Rattle.pt_space.proofs.Nodes.{same_place}

-- what loads found to be vacant was so before
vacant_before : {f : Layout} {v w : View} {p : Position} {number : ℕ} → ByLoads Always v w → IsVacant f w p number → IsVacant f v p number
vacant_before {f} {v} {w} {p} {number} b vacant = record {
  no_piece = ap (pieces_at f p number) (sym b.book.pieces) ∙ vacant.no_piece;
  no_table = λ q h. vacant.no_table q (subst (λ (ps : List Position). IsAmong ps q) (sym b.book.tables) h);
  none_known = λ q h. vacant.none_known q (b.known q h);
  no_spine = λ level low high. vacant.no_spine level (subst (λ (l : ℕ). starting_top l ≤ level) (sym b.range.levels) low) (let t = b.book.top in omega arith);
}

-- so many entries of the run were found empty
pub record Looked (f : Layout) (first count : ℕ) (v w : View) : Type 0 where
  pub loads : ByLoads Always v w
  pub path : w.path ≡ v.path
  pub vacant : (p : Position) → IsEntryAt f v p first → (i : ℕ) → i < count → IsVacant f v p (first + i)

pub looked_none : {f : Layout} {first : ℕ} {v : View} → Looked f first 0 v v
looked_none = record { loads = loads.loads_here; path = refl; vacant = λ p e i lt. absurd (omega arith) }

module _ {f : Layout} {first count : ℕ} {v w : View} (may : MeetsRun f v first count) {i : ℕ} (so_far : Looked f first i v w) (less : i < count) where
  abbrev place : Position
  place = may.position

  pub at_entry : IsEntryAt f w place (first + i)
  at_entry = let e = may.entry i less in record { node = e.node; is_lowest = ap lowest so_far.path ∙ e.is_lowest; at = e.at; within = e.within }

  pub meets : MeetsEntry f w (first + i)
  meets = let r = so_far.loads.range in record {
    position = place;
    entry = at_entry;
    meets = subst (λ (s : ℕ × ℕ). IsTrue (nat_lt (entry_first f place (first + i)) (s.0 + s.1) && nat_lt s.0 (entry_end f place (first + i)))) (λ j. (sym r.first j, sym r.count j)) (may.meets i less);
  }

  -- one entry more
  module _ {u : View} where
    pub looked_more : Went f Always (IsWhole f w) (first + i) w Empty u → Looked f first (i + 1) v u
    looked_more went =
        let n = loads.found f Always (IsWhole f w) w place (first + i) Empty u (went.looked place at_entry) in
        let one : ByLoads Always w u = record {
          range = went.range;
          book = went.book;
          purse = went.purse;
          prepared = went.prepared;
          busy = went.busy;
          known = λ q h. (n.known q).1 h;
          taken = λ t. (n.told t).taken;
          stores = λ t. (n.told t).stores;
          absent = λ t. (n.told t).absent;
        } in record {
          loads = loads.loads_on so_far.loads one;
          path = n.path ∙ so_far.path;
          vacant = λ p e j lt. elim (cases_lt j i) [
            | inl before ↦ so_far.vacant p e j before
            | inr last ↦
                let same : j ≡ i = omega arith in
                let q : place ≡ p = same_place (may.entry i less) e in
                subst (λ (z : Position × ℕ). IsVacant f v z.0 (first + z.1)) (λ k. (q k, sym same k)) (vacant_before so_far.loads n.vacant)
          ];
        }

    -- an entry that isn't empty ends the run
    pub found_leaf : {word : ℕ} → Went f Always (IsWhole f w) (first + i) w (Leaf word) u → LooksAtRun f Always first count v false u
    found_leaf {word} went =
        let n = loads.found f Always (IsWhole f w) w place (first + i) (Leaf word) u (went.looked place at_entry) in record {
          loads = loads.loads_on so_far.loads (record {
            range = went.range;
            book = went.book;
            purse = went.purse;
            prepared = went.prepared;
            busy = went.busy;
            known = λ q h. (n.known q).1 h;
            taken = λ t. (n.told t).taken;
            stores = λ t. (n.told t).stores;
            absent = λ t. (n.told t).absent;
          });
          path = n.path ∙ so_far.path;
          vacant = λ yes. absurd (false≢true yes);
        }

    pub some_path : Went f Always (IsWhole f w) (first + i) w Entered u → 0 < length u.path
    some_path went =
        let n = loads.found f Always (IsWhole f w) w place (first + i) Entered u (went.looked place at_entry) in
        let long = ap length n.path in
        let more = length-append w.path (record { frame = n.frame; position = child_at f place (first + i) } ∷ []) in omega arith

    pub found_table : {u' : View} → Went f Always (IsWhole f w) (first + i) w Entered u → u' ≡ left u → LooksAtRun f Always first count v false u'
    found_table {u'} went is =
        let n = loads.found f Always (IsWhole f w) w place (first + i) Entered u (went.looked place at_entry) in
        let one : ByLoads Always w u = record {
          range = went.range;
          book = went.book;
          purse = went.purse;
          prepared = went.prepared;
          busy = went.busy;
          known = λ q h. (n.known q).1 (inr h);
          taken = λ t. (n.told t).taken;
          stores = λ t. (n.told t).stores;
          absent = λ t. (n.told t).absent;
        } in record {
          loads = loads.loads_on (loads.loads_on so_far.loads one) (loads.loads_left is);
          path = ap (λ (z : View). z.path) is ∙ ap all_but_last n.path ∙ front_snoc w.path (record { frame = n.frame; position = child_at f place (first + i) }) ∙ so_far.path;
          vacant = λ yes. absurd (false≢true yes);
        }

-- the whole run
pub all_looked : {f : Layout} {first count i : ℕ} {v w : View} → Looked f first i v w → i ≡ count → LooksAtRun f Always first count v true w
all_looked r is = record { loads = r.loads; path = r.path; vacant = λ yes p e j lt. r.vacant p e j (omega arith) }
