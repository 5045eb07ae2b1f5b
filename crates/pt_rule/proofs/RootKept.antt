-- A load of the root keeps the rule, and tells a level that reaches over all that the view knows.
use Rattle.std.proofs.Common.{◌≡◌, inl, ℕ, ◌+◌, ◌-◌, ◌<◌, ◌≤◌, List, sym, refl, ap, ◌∙◌, subst, arith, ⊎_elim}
use Rattle.std.specs.Prelude.{IsTrue, nat_le, map, slice_index}
use Rattle.std.proofs.lemmas.Bool.{and_from, le-leb}
use mathlib.Core.Option.{some}
use lib.ListN.{get_elem?}
use Rattle.pt_model.proofs.Positions.{among_append, among_levels}
use Rattle.pt_model.specs.declared.position.Position.{Position}
use Rattle.pt_model.specs.Layout.{Layout, input_pages}
use Rattle.pt_model.specs.Tables.{is_spine, levels_between, spine_position, starting_top}
use Rattle.pt_model.specs.Words.{root_level}
use Rattle.pt_format.specs.Laws.{IsLayout}
use Rattle.pt_view.specs.declared.view.View.{View}
use Rattle.pt_model.specs.Sets.{IsAmong}
use Rattle.pt_rule.specs.Lawful.{Lawful}
use Rattle.pt_rule.specs.Kinds.{Keeps, RootTells, after, load_root}
use Rattle.pt_rule.proofs.TreeFacts.{IsThere, ends_in_root, spine_there, table_there, whole_alone}
use Rattle.pt_rule.proofs.FindsKept.{Finds, finds_at, finds_of}
use Rattle.pt_rule.proofs.TotalsKept.{own_in_tree}

pub spine_is : (levels level : ℕ) → starting_top levels ≤ level → IsTrue (is_spine levels (spine_position level))
spine_is levels level low = and_from (nat_le (starting_top levels) level) _ (le-leb (starting_top levels) level low) refl

module _ (f : Layout) (n l : ℕ) (good : IsLayout f) where
  pub root_tells : (words : List ℕ) (views : List View) (id : ℕ) (v : View) → Lawful f n l words views → get_elem? views id ≡ some v → 0 < v.count →
      RootTells f n v (slice_index words 0)
  root_tells words views id v r at live = record {
    a_frame = r.root.is_linked.is_linked.within;
    a_level = high r.root.reached;
    reaches = r.root.greatest id v at;
    exact = λ all. top all r.root.reached;
    over_tables = λ p a. ends_in_root f n l words views good r p (table_there f n l words views good r id v at p a);
    over_known = λ p a. ends_in_root f n l words views good r p (r.known id v at p a).0;
  }
    where
      high : ((j : ℕ) × (u : View) × (get_elem? views j ≡ some u) × (0 < u.count) × (u.top ≡ root_level words)) → root_level words < f.levels
      high (j, u, here, some_page, is) = let h = (r.books j u here some_page).top_high in omega arith

      top : v.count ≡ input_pages f → ((j : ℕ) × (u : View) × (get_elem? views j ≡ some u) × (0 < u.count) × (u.top ≡ root_level words)) → root_level words ≡ v.top
      top all (j, u, here, some_page, is) = sym is ∙ ap (λ (w : View). w.top) (whole_alone f n l words views good r id v at live all j u here some_page)

  root_finds : (words : List ℕ) (views : List View) (id : ℕ) (v : View) → Lawful f n l words views → get_elem? views id ≡ some v → 0 < v.count →
      Finds f n l words views v (after f load_root (slice_index words 0) v)
  root_finds words views id v r at live =
      let w : View = after f load_root (slice_index words 0) v in
      let book = r.books id v at live in
      let levels = (r.sizes.live id v at live).1 in
      let low = book.top_low in
      let most = r.root.greatest id v at in
      finds_of f n l words views id v r at v.tables w.known w.path w.absent (λ p a. a) (own_in_tree l words views id v at) book.tables book.in_order
      (record {
        nodes = (record { at = r.root.is_linked; near = inl (spine_is v.levels (root_level words) (omega arith)) }, tt);
        begins = spine_is v.levels (root_level words) (omega arith);
        descends = tt;
      })
      (λ p a. ⊎_elim
      (λ (new : IsAmong (map spine_position (levels_between (starting_top v.levels) (root_level words))) p).
      let t : (level : ℕ) × (starting_top v.levels ≤ level) × (level < starting_top v.levels + (root_level words + 1 - starting_top v.levels)) × (p ≡ spine_position level) =
      among_levels spine_position (root_level words + 1 - starting_top v.levels) (starting_top v.levels) p new in
      let from = t.1 in let to = t.2 in (
        subst (IsThere f n l words views good r) (sym t.3)
            (spine_there f n l words views good r t.0 (subst (λ (k : ℕ). starting_top k ≤ t.0) levels from) (omega arith)),
        inl (subst (λ (q : Position). IsTrue (is_spine v.levels q)) (sym t.3) (spine_is v.levels t.0 from)),
      ))
      (λ (old : IsAmong v.known p). r.known id v at p old)
      (among_append p (map spine_position (levels_between (starting_top v.levels) (root_level words))) v.known a))

  pub root_loaded : Keeps f n l load_root
  root_loaded words views id v r at live may = (
    finds_at f n l words views id 0 v (after f load_root (slice_index words 0) v) r at live (root_finds words views id v r at live),
    root_tells words views id v r at live,
  )
