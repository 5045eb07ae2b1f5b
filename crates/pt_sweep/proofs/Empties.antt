-- Tables that are unlinked one after another.
use Rattle.std.proofs.Common.{◌≡◌, ℕ, Bool, false, List, [], ◌∷◌, ◌++◌, length, inl, inr, refl, ap, sym, subst, ◌∙◌, append_assoc}
use Rattle.std.specs.Prelude.{◌||◌, not, filter}
use Rattle.std.proofs.lemmas.Bool.{cases_Bool}
use Rattle.pt_model.specs.declared.position.Position.{Position}
use Rattle.pt_model.specs.Layout.{Layout}
use Rattle.pt_model.specs.Sets.{IsAmong}
use Rattle.pt_model.proofs.Positions.{among_here, among_more, filter_in, filter_members, filter_out}
use Rattle.pt_view.specs.declared.view.View.{View}
use Rattle.pt_view.specs.Loads.{ByLoads}
use Rattle.pt_view.specs.Calls.{all_but_last, left}
use Rattle.pt_view.proofs.Loads.{absences_on}
use Rattle.pt_view.proofs.Stays.{range_on}
use Rattle.pt_sweep.specs.Empties.{Unlinks}
use Rattle.pt_sweep.proofs.GoneTables.{filter_twice, frees_behind, frees_none, frees_on}

-- Unlinkings, one after another.

module _ {f : Layout} {tells alone : Type 0} where
  pub unlinks_on : {alone' : Type 0} {u v w : View} (p q r : Position → Bool) → ((x : Position) → r x ≡ false → p x ≡ false) → ((x : Position) → r x ≡ false → q x ≡ false) →
      ((x : Position) → IsAmong u.tables x → r x ≡ (p x || q x)) → (alone → alone') → Unlinks f tells alone p u v → Unlinks f tells alone' q v w → Unlinks f tells alone r u w
  unlinks_on {u = u} p q r first second cover still a b = record {
    range = range_on a.range b.range;
    pieces = b.pieces ∙ a.pieces;
    top = b.top ∙ a.top;
    tables = b.tables ∙ ap (filter (λ x. not (q x))) a.tables ∙ filter_twice p q r u.tables cover;
    path = b.path ∙ a.path;
    prepared = b.prepared ∙ a.prepared;
    end = b.end ∙ a.end;
    busy = λ x. ((λ h. (a.busy x).0 ((b.busy x).0 h)), (λ h. (b.busy x).1 ((a.busy x).1 h)));
    known = λ x h none. b.known x (a.known x h (first x none)) (second x none);
    purse = (b.purse.0 ++ a.purse.0, b.purse.1 ∙ ap (λ (xs : List ℕ). b.purse.0 ++ xs) a.purse.1 ∙ sym (append_assoc b.purse.0 a.purse.0 u.purse));
    frees = frees_on still a.frees b.frees;
    taken = λ t. b.taken t ∙ a.taken t;
    stores = λ t. b.stores t ∙ a.stores t;
    absent = λ t. absences_on (a.absent t) (b.absent t);
  }

  -- the same by another test
  pub unlinks_as : {v w : View} (p r : Position → Bool) → ((x : Position) → r x ≡ false → p x ≡ false) → ((x : Position) → IsAmong v.tables x → r x ≡ p x) →
      Unlinks f tells alone p v w → Unlinks f tells alone r v w
  unlinks_as {v} p r less cover a = record {
    range = a.range;
    pieces = a.pieces;
    top = a.top;
    tables = a.tables ∙ same v.tables cover;
    path = a.path;
    prepared = a.prepared;
    end = a.end;
    busy = a.busy;
    known = λ x h none. a.known x h (less x none);
    purse = a.purse;
    frees = a.frees;
    taken = a.taken;
    stores = a.stores;
    absent = a.absent;
  }
    where
      same : (ts : List Position) → ((x : Position) → IsAmong ts x → r x ≡ p x) → filter (λ x. not (p x)) ts ≡ filter (λ x. not (r x)) ts
      same [] h = refl
      same (x ∷ xs) h =
          let rest : filter (λ y. not (p y)) xs ≡ filter (λ y. not (r y)) xs = same xs (λ y m. h y (among_more y x xs m)) in
          let here : r x ≡ p x = h x (among_here x xs) in
          elim (cases_Bool (p x)) [
            | inl a ↦ filter_out (λ y. not (p y)) x xs (ap not a) ∙ rest ∙ sym (filter_out (λ y. not (r y)) x xs (ap not (here ∙ a)))
            | inr a ↦ filter_in (λ y. not (p y)) x xs (ap not a) ∙ ap (λ (ys : List Position). x ∷ ys) rest ∙ sym (filter_in (λ y. not (r y)) x xs (ap not (here ∙ a)))
          ]

  -- loads unlink nothing
  pub loads_unlink : {v w : View} (p : Position → Bool) → ByLoads tells v w → w.path ≡ v.path → ((x : Position) → IsAmong v.tables x → p x ≡ false) → Unlinks f tells alone p v w
  loads_unlink {v} {w} p k path none = record {
    range = k.range;
    pieces = k.book.pieces;
    top = k.book.top;
    tables = k.book.tables ∙ sym (filter_members (λ x. not (p x)) v.tables (λ x m. ap not (none x m)));
    path = path;
    prepared = k.prepared;
    end = k.purse.end;
    busy = k.busy;
    known = λ x h no. k.known x h;
    purse = ([], k.purse.purse);
    frees = frees_none (ap length k.purse.purse) (ap length k.book.tables);
    taken = k.taken;
    stores = k.stores;
    absent = k.absent;
  }

  -- loads, then an unlinking, and then the path's last table is left
  pub back_unlinks : {alone' : Type 0} {v w u z : View} (p : Position → Bool) → ByLoads tells v w → (alone → alone') → Unlinks f tells alone' p w u → z ≡ left u → all_but_last w.path ≡ v.path →
      Unlinks f tells alone p v z
  back_unlinks {v = v} {w = w} {u = u} p k still d back path = subst (λ (y : View). Unlinks f tells alone p v y) (sym back) (record {
    range = record {
      frames = d.range.frames ∙ k.range.frames;
      levels = d.range.levels ∙ k.range.levels;
      first = d.range.first ∙ k.range.first;
      count = d.range.count ∙ k.range.count;
    };
    pieces = d.pieces ∙ k.book.pieces;
    top = d.top ∙ k.book.top;
    tables = d.tables ∙ ap (filter (λ x. not (p x))) k.book.tables;
    path = ap all_but_last d.path ∙ path;
    prepared = d.prepared ∙ k.prepared;
    end = d.end ∙ k.purse.end;
    busy = λ x. ((λ h. (k.busy x).0 ((d.busy x).0 h)), (λ h. (d.busy x).1 ((k.busy x).1 h)));
    known = λ x h none. d.known x (k.known x h) none;
    purse = (d.purse.0, d.purse.1 ∙ ap (λ (xs : List ℕ). d.purse.0 ++ xs) k.purse.purse);
    frees = let here = frees_behind k still d.frees in record { each = here.each; only = here.only };
    taken = λ t. d.taken t ∙ k.taken t;
    stores = λ t. d.stores t ∙ k.stores t;
    absent = λ t. let a = absences_on (k.absent t) (d.absent t) in record { facts = a.facts; are = a.are };
  })
