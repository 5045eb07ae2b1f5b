-- Sweeps, one after another.
use Rattle.std.proofs.Common.{◌≡◌, ℕ, ◌+◌, Bool, false, List, [], ◌∷◌, ◌++◌, length, inl, inr, refl, ap, sym, subst, ◌∙◌, arith, append_assoc}
use Rattle.std.specs.Prelude.{◌||◌, not, filter, map}
use Rattle.std.proofs.lemmas.List.{append-nil, map-append}
use Rattle.std.proofs.lemmas.Bool.{cases_Bool}
use Rattle.pt_model.specs.declared.position.Position.{Position}
use Rattle.pt_model.specs.Layout.{Layout}
use Rattle.pt_model.specs.Sets.{IsAmong}
use Rattle.pt_model.proofs.Positions.{among_here, among_more, filter_in, filter_members, filter_out}
use Rattle.pt_view.specs.declared.view.View.{View}
use Rattle.pt_view.specs.declared.view.Node.{Node}
use Rattle.pt_view.specs.declared.view.Piece.{Piece}
use Rattle.pt_view.specs.declared.view.Change.{Change}
use Rattle.pt_view.specs.declared.view.Change.TheVariants.{Cleared}
use Rattle.pt_view.specs.Loads.{ByLoads}
use Rattle.pt_view.specs.Pieces.{IsOneOf}
use Rattle.pt_view.specs.Calls.{all_but_last, left}
use Rattle.pt_view.proofs.Loads.{absences_on}
use Rattle.pt_view.proofs.Stays.{range_on}
use Rattle.pt_sweep.specs.Empties.{Unlinks}
use Rattle.pt_sweep.specs.Sweeps.{Sweeps, pages_under}
use Rattle.pt_sweep.proofs.GoneTables.{filter_twice, frees_behind, frees_none, frees_on}
use Rattle.pt_sweep.proofs.Apart.{GoesOn, filter_all, filter_none, filter_same, pages_append}

module _ {f : Layout} {tells alone : Type 0} where
  pub sweeps_on : {alone' : Type 0} {u v w : View} {m n : ℕ} (p q r : Position → Bool) (a b c : Piece → Bool) → ((x : Position) → r x ≡ false → p x ≡ false) →
      ((x : Position) → r x ≡ false → q x ≡ false) → ((x : Position) → IsAmong u.tables x → r x ≡ (p x || q x)) → GoesOn a b c u.pieces → (alone → alone') →
      Sweeps f tells alone p a u v m → Sweeps f tells alone' q b v w n → Sweeps f tells alone r c u w (m + n)
  sweeps_on {u = u} {v = v} p q r a b c first second cover goes still s t = record {
    range = range_on s.range t.range;
    pieces = t.pieces ∙ ap (filter (λ x. not (b x))) s.pieces ∙ goes.stay;
    top = t.top ∙ s.top;
    tables = t.tables ∙ ap (filter (λ x. not (q x))) s.tables ∙ filter_twice p q r u.tables cover;
    path = t.path ∙ s.path;
    prepared = t.prepared ∙ s.prepared;
    end = t.end ∙ s.end;
    busy = λ x. ((λ h. (s.busy x).0 ((t.busy x).0 h)), (λ h. (t.busy x).1 ((s.busy x).1 h)));
    known = λ x h none. t.known x (s.known x h (first x none)) (second x none);
    purse = (t.purse.0 ++ s.purse.0, t.purse.1 ∙ ap (λ (xs : List ℕ). t.purse.0 ++ xs) s.purse.1 ∙ sym (append_assoc t.purse.0 s.purse.0 u.purse));
    frees = frees_on still s.frees t.frees;
    taken = λ h. t.taken h ∙ s.taken h;
    stores = λ h.
        t.stores h ∙ ap (λ (xs : List Change). xs ++ map Cleared (filter b v.pieces)) (s.stores h)
        ∙ append_assoc u.stores (map Cleared (filter a u.pieces)) (map Cleared (filter b v.pieces))
        ∙ ap (λ (xs : List Change). u.stores ++ xs) (sym (map-append Cleared (filter a u.pieces) (filter b v.pieces)) ∙ ap (map Cleared) (sym gone));
    absent = λ h. absences_on (s.absent h) (t.absent h);
    pages = let x = s.pages in let y = t.pages in let z = pages_append f (filter a u.pieces) (filter b v.pieces) in let g = ap (pages_under f) gone in omega arith;
  }
    where
      gone : filter c u.pieces ≡ filter a u.pieces ++ filter b v.pieces
      gone = goes.go ∙ ap (λ (xs : List Piece). filter a u.pieces ++ filter b xs) (sym s.pieces)

  -- the same by other tests
  pub sweeps_as : {v w : View} {n : ℕ} (p r : Position → Bool) (a c : Piece → Bool) → ((x : Position) → r x ≡ false → p x ≡ false) →
      ((x : Position) → IsAmong v.tables x → r x ≡ p x) → ((x : Piece) → IsOneOf v.pieces x → c x ≡ a x) → Sweeps f tells alone p a v w n → Sweeps f tells alone r c v w n
  sweeps_as {v} p r a c less cover goes s = record {
    range = s.range;
    pieces = s.pieces ∙ others v.pieces goes;
    top = s.top;
    tables = s.tables ∙ same v.tables cover;
    path = s.path;
    prepared = s.prepared;
    end = s.end;
    busy = s.busy;
    known = λ x h none. s.known x h (less x none);
    purse = s.purse;
    frees = s.frees;
    taken = s.taken;
    stores = λ h. s.stores h ∙ ap (λ (xs : List Piece). v.stores ++ map Cleared xs) (gone v.pieces goes);
    absent = s.absent;
    pages = s.pages ∙ ap (pages_under f) (gone v.pieces goes);
  }
    where
      same : (ts : List Position) → ((x : Position) → IsAmong ts x → r x ≡ p x) → filter (λ x. not (p x)) ts ≡ filter (λ x. not (r x)) ts
      same [] h = refl
      same (x ∷ xs) h =
          let rest : filter (λ y. not (p y)) xs ≡ filter (λ y. not (r y)) xs = same xs (λ y m. h y (among_more y x xs m)) in
          let here : r x ≡ p x = h x (among_here x xs) in
          elim (cases_Bool (p x)) [
            | inl a ↦ filter_out (λ y. not (p y)) x xs (ap not a) ∙ rest ∙ sym (filter_out (λ y. not (r y)) x xs (ap not (here ∙ a)))
            | inr a ↦ filter_in (λ y. not (p y)) x xs (ap not a) ∙ ap (λ (ys : List Position). x ∷ ys) rest ∙ sym (filter_in (λ y. not (r y)) x xs (ap not (here ∙ a)))
          ]

      gone : (xs : List Piece) → ((x : Piece) → IsOneOf xs x → c x ≡ a x) → filter a xs ≡ filter c xs
      gone xs h = sym (filter_same c a xs h)

      others : (xs : List Piece) → ((x : Piece) → IsOneOf xs x → c x ≡ a x) → filter (λ x. not (a x)) xs ≡ filter (λ x. not (c x)) xs
      others xs h = sym (filter_same (λ x. not (c x)) (λ x. not (a x)) xs (λ x m. ap not (h x m)))

  -- loads let nothing go
  pub loads_sweep : {v w : View} (p : Position → Bool) (a : Piece → Bool) → ByLoads tells v w → w.path ≡ v.path → ((x : Position) → IsAmong v.tables x → p x ≡ false) →
      ((x : Piece) → IsOneOf v.pieces x → a x ≡ false) → Sweeps f tells alone p a v w 0
  loads_sweep {v} {w} p a k path none stay =
      let gone : filter a v.pieces ≡ [] = filter_none a v.pieces stay in
      record {
        range = k.range;
        pieces = k.book.pieces ∙ sym (filter_all (λ x. not (a x)) v.pieces (λ x m. ap not (stay x m)));
        top = k.book.top;
        tables = k.book.tables ∙ sym (filter_members (λ x. not (p x)) v.tables (λ x m. ap not (none x m)));
        path = path;
        prepared = k.prepared;
        end = k.purse.end;
        busy = k.busy;
        known = λ x h no. k.known x h;
        purse = ([], k.purse.purse);
        frees = frees_none (ap length k.purse.purse) (ap length k.book.tables);
        taken = k.taken;
        stores = λ h. k.stores h ∙ sym (ap (λ (xs : List Piece). v.stores ++ map Cleared xs) gone ∙ append-nil v.stores);
        absent = k.absent;
        pages = sym (ap (pages_under f) gone);
      }

  -- loads, then a sweep, and then the path is the first one again
  pub around_sweeps : {alone' : Type 0} {v w u z : View} {n : ℕ} (p : Position → Bool) (a : Piece → Bool) → ByLoads tells v w → (alone → alone') → Sweeps f tells alone' p a w u n →
      z ≡ record u { path = v.path } → Sweeps f tells alone p a v z n
  around_sweeps {v = v} {w = w} {u = u} {n = n} p a k still d back = subst (λ (y : View). Sweeps f tells alone p a v y n) (sym back) (record {
    range = record {
      frames = d.range.frames ∙ k.range.frames;
      levels = d.range.levels ∙ k.range.levels;
      first = d.range.first ∙ k.range.first;
      count = d.range.count ∙ k.range.count;
    };
    pieces = d.pieces ∙ ap (filter (λ x. not (a x))) k.book.pieces;
    top = d.top ∙ k.book.top;
    tables = d.tables ∙ ap (filter (λ x. not (p x))) k.book.tables;
    path = refl;
    prepared = d.prepared ∙ k.prepared;
    end = d.end ∙ k.purse.end;
    busy = λ x. ((λ h. (k.busy x).0 ((d.busy x).0 h)), (λ h. (d.busy x).1 ((k.busy x).1 h)));
    known = λ x h none. d.known x (k.known x h) none;
    purse = (d.purse.0, d.purse.1 ∙ ap (λ (xs : List ℕ). d.purse.0 ++ xs) k.purse.purse);
    frees = let here = frees_behind k still d.frees in record { each = here.each; only = here.only };
    taken = λ t. d.taken t ∙ k.taken t;
    stores = λ t. d.stores t ∙ (λ i. k.stores t i ++ map Cleared (filter a (k.book.pieces i)));
    absent = λ t. let x = absences_on (k.absent t) (d.absent t) in record { facts = x.facts; are = x.are };
    pages = d.pages ∙ ap (λ (xs : List Piece). pages_under f (filter a xs)) k.book.pieces;
  })

  -- the same, where the path's last table is left
  pub back_sweeps : {alone' : Type 0} {v w u z : View} {n : ℕ} (p : Position → Bool) (a : Piece → Bool) → ByLoads tells v w → (alone → alone') → Sweeps f tells alone' p a w u n → z ≡ left u →
      all_but_last w.path ≡ v.path → Sweeps f tells alone p a v z n
  back_sweeps {u = u} p a k still d back path = around_sweeps p a k still d (back ∙ ap (λ (xs : List Node). record u { path = xs }) (ap all_but_last d.path ∙ path))

  -- where no piece goes, tables are unlinked and no more
  pub only_unlinks : {v w : View} {n : ℕ} (p : Position → Bool) (a : Piece → Bool) → ((x : Piece) → IsOneOf v.pieces x → a x ≡ false) → Sweeps f tells alone p a v w n → Unlinks f tells alone p v w
  only_unlinks {v} p a stay s = record {
    range = s.range;
    pieces = s.pieces ∙ filter_all (λ x. not (a x)) v.pieces (λ x m. ap not (stay x m));
    top = s.top;
    tables = s.tables;
    path = s.path;
    prepared = s.prepared;
    end = s.end;
    busy = s.busy;
    known = s.known;
    purse = s.purse;
    frees = s.frees;
    taken = s.taken;
    stores = λ h. s.stores h ∙ ap (λ (xs : List Piece). v.stores ++ map Cleared xs) (filter_none a v.pieces stay) ∙ append-nil v.stores;
    absent = s.absent;
  }
