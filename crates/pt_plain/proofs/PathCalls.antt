-- The calls that change the path alone: leave and root.
use Rattle.std.proofs.Common.{◌≡◌, ℕ, suc, ◌+◌, ◌-◌, ◌<◌, List, [], ◌∷◌, ◌++◌, ◌/◌, ◌%◌, inl, inr, length, refl, ap, sym, ◌∙◌, subst, arith, add-one, length-set, get_or-set_same}
use Rattle.std.specs.Prelude.{slice_index, slice_set, false}
use Rattle.pt_model.specs.Layout.{Layout}
use Rattle.pt_format.specs.Laws.{IsLayout}
use Rattle.pt_model.specs.Words.{root_frame, root_level}
use Rattle.pt_view.specs.declared.view.View.{View}
use Rattle.pt_view.specs.declared.view.Node.{Node}
use Rattle.pt_view.specs.Calls.{Rooted, left, all_but_last}
use Rattle.pt_view.specs.Lists.{IsIn}
use Rattle.pt_view.proofs.Paths.{front_snoc}
use Rattle.pt_rule.specs.Lawful.{Lawful}
use Rattle.pt_rule.specs.Kinds.{after, load_root}
use Rattle.pt_rule.proofs.Laws.{views_note}
use Rattle.pt_plain.specs.Owner.{Fields, IsOwner, node_at, nodes_down, span_view, whole_view}
use Rattle.pt_plain.proofs.Carried.{rooted_on}
use Rattle.pt_plain.proofs.Laws.{Laws}
use Rattle.pt_plain.proofs.Matches.{prepared_kept, purse_kept}
use Rattle.pt_plain.proofs.Owners.{Does, book, does, given, live, matches, shown, whole}
use Rattle.pt_plain.proofs.Paths.{Follows, nodes_down_more, nodes_length}
use Rattle.pt_plain.proofs.Steps.{loaded, noted_after, read_back, says}

-- What the calls do.
module _ {f : Layout} {o : Fields} (own : IsOwner f o) where
  abbrev pub Left : Type 0
  Left = Does f o (record o { level = o.level + 1 }) (λ v w. w ≡ left v)

  abbrev pub RootedAt : (frame level : ℕ) → Type 0
  RootedAt frame level = Does f o (record o { path = slice_set o.path level frame; level = level }) (λ v w. Rooted f ⊥ (Unit {0}) v level w)

-- Leave.
module _ {f : Layout} {o : Fields} (own : IsOwner f o) (some : 0 < length (whole_view f o).path) where
  abbrev v : View
  v = whole_view f o

  abbrev rest : ℕ
  rest = root_level o.words - o.level

  count_is : root_level o.words + 1 - o.level ≡ suc rest
  count_is =
      let e : length v.path ≡ root_level o.words + 1 - o.level = ap length (shown f o).path_is ∙ nodes_length o.words o.path o.level (root_level o.words + 1 - o.level) in
      omega arith

  whole_path : v.path ≡ nodes_down o.words o.path (o.level + 1) rest ++ node_at o.words o.path o.level ∷ []
  whole_path = (shown f o).path_is ∙ ap (nodes_down o.words o.path o.level) count_is ∙ nodes_down_more o.words o.path o.level rest

  front_is : all_but_last v.path ≡ nodes_down o.words o.path (o.level + 1) rest
  front_is = ap all_but_last whole_path ∙ front_snoc (nodes_down o.words o.path (o.level + 1) rest) (node_at o.words o.path o.level)

  path_now : nodes_down o.words o.path (o.level + 1) (root_level o.words + 1 - (o.level + 1)) ≡ all_but_last v.path
  path_now = ap (nodes_down o.words o.path (o.level + 1)) (let e = count_is in let less : root_level o.words + 1 - (o.level + 1) ≡ rest = omega arith in less) ∙ sym front_is

  -- the path loses its last table
  leaves : whole_view f (record o { level = o.level + 1 }) ≡ left v
  unfolding whole_view
  leaves = ap (λ (xs : List Node). record v { path = xs }) path_now

  lawful_left : Lawful f o.frames o.levels o.words (left v ∷ [])
  lawful_left = views_note f o.frames o.levels o.words (v ∷ []) 0 v (left v) own.lawful refl (live f o) (record {
    range = record { frames = refl; levels = refl; first = refl; count = refl };
    book = record { pieces = refl; tables = refl; top = refl };
    purse = record { purse = refl; end = refl };
    prepared = refl;
    rest = node_at o.words o.path o.level ∷ [];
    path = whole_path ∙ ap (λ (xs : List Node). xs ++ node_at o.words o.path o.level ∷ []) (sym front_is);
    busy = own.lawful.busy 0 v refl;
    known = own.lawful.known 0 v refl;
  })

  owner_left : IsOwner f (record o { level = o.level + 1 })
  owner_left = record {
    lawful = subst (λ (w : View). Lawful f o.frames o.levels o.words (w ∷ [])) (sym leaves) lawful_left;
    span = own.span;
    first_is = own.first_is;
    held_is = own.held_is;
    low = let e = count_is in omega arith;
    levels_are = λ at low up. own.levels_are at (omega arith) up;
    eight = own.eight;
    taken = λ g h. subst (λ (w : View). IsIn w.busy g) (sym leaves) (own.taken g h);
  }

pub leave : {f : Layout} {o : Fields} (own : IsOwner f o) → 0 < length (span_view f o).path → Left own
leave own some = let s = given own (λ v. 0 < length v.path) some in does (λ v w. w ≡ left v) own (owner_left own s) (leaves own s)

-- Root.

-- in a format that doesn't grow the root is always of the highest level
pub fixed_root : {f : Layout} → IsLayout f → {o : Fields} → IsOwner f o → f.grows ≡ false → root_level o.words + 1 ≡ f.levels
fixed_root {f} good {o} own fixed =
    let s = shown f o in let low = (book own).top_low in let high = (book own).top_high in
    let start = own.lawful.sizes.levels_low in let same = good.fixed fixed in
    omega (arith, low, high, start, same, s.levels_are, s.top_is)

module _ {f : Layout} (laws : Laws f) {o : Fields} (own : IsOwner f o) (none : (whole_view f o).path ≡ []) where
  abbrev before : View
  before = whole_view f o

  abbrev u : View
  u = after f load_root (slice_index o.words 0) before

  abbrev path' : List ℕ
  path' = slice_set o.path (root_level o.words) (root_frame o.words)

  follows_root : Follows path' (root_level o.words + 1) u.path
  follows_root =
      let eight = own.eight in
      let few : root_level o.words < length o.path = omega arith in
      subst (λ (k : ℕ). Follows path' k u.path) (sym (add-one (root_level o.words))) (get_or-set_same o.path (root_level o.words) (root_frame o.words) 0 few, refl, tt)

  does_root : Does f o (record o { path = path'; level = root_level o.words }) (λ v w. Rooted f ⊥ (Unit {0}) v (root_level o.words) w)
  does_root =
      let r = says laws own load_root none in
      let m = matches own in
      read_back laws own u (record o { path = path'; level = root_level o.words }) (loaded laws own load_root none refl) r.range own.span
      (record {
        purse = purse_kept r.purse m.purse;
        path = record { follows = follows_root; depth = (let e : 1 + root_level o.words ≡ root_level o.words + 1 = omega arith in e); eight = length-set o.path (root_level o.words) (root_frame o.words) ∙ own.eight };
        prepared = prepared_kept r.prepared m.prepared;
      })
      (noted_after own u r.busy (λ g lt some. some) (λ p h. (r.known p).1 (inr h)) (λ p h. inl h) refl)
      (λ v w. Rooted f ⊥ (Unit {0}) v (root_level o.words) w) (λ a. rooted_on a (whole own) r)

pub root : {f : Layout} (laws : Laws f) {o : Fields} (own : IsOwner f o) → (span_view f o).path ≡ [] → (word frame level : ℕ) → word ≡ slice_index o.words 0 → frame ≡ word / 8 → level ≡ word % 8 →
    RootedAt own frame level
root {f} laws {o} own none word frame level is frame_is level_is =
    subst (λ (t : ℕ × ℕ). Does f o (record o { path = slice_set o.path t.1 t.0; level = t.1 }) (λ v w. Rooted f ⊥ (Unit {0}) v t.1 w))
    (λ i. (sym (frame_is ∙ ap (λ (z : ℕ). z / 8) is) i, sym (level_is ∙ ap (λ (z : ℕ). z % 8) is) i)) (does_root laws own (given own (λ v. v.path ≡ []) none))
