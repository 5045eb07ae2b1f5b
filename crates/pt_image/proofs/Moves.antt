-- The copy goes from entry to entry.
use Rattle.std.proofs.Common.{◌≡◌, ◌≢◌, ◌⊎◌, ⊎_elim, ℕ, true, false, ◌+◌, ◌-◌, ◌*◌, ◌<◌, ◌≤◌, ◌^◌, List, [], ◌∷◌, ◌++◌, refl, sym, ap, ◌∙◌, subst, arith}
use Rattle.std.specs.Prelude.{Option, Some, IsTrue, nat_le, nat_lt, ◌&&◌, slice_set}
use Rattle.std.specs.List.{AllByRecursion}
use Rattle.std.proofs.lemmas.Bool.{and_parts, ltb-true, leb-true, cases_Bool, false≢true}
use Rattle.std.proofs.lemmas.List.{append-nil}
use Rattle.std.proofs.lemmas.Nat.{pow_pos}
use mathlib.Core.Logic.{dite}
use native.Mathlib.Decide.{dec_le}
use Rattle.pt_model.specs.declared.block.Block.{Block}
use Rattle.pt_model.specs.declared.position.Position.{Position}
use Rattle.pt_model.specs.Layout.{Layout, IsLegalBlock, input_pages, level_of_size}
use Rattle.pt_model.specs.Sets.{IsAmong}
use Rattle.pt_model.specs.Tables.{IsPosition, child_at, is_spine, starting_top}
use Rattle.pt_model.specs.Words.{entry_of, frame_address, placed_word, tag}
use Rattle.pt_model.proofs.Places.{entry_after_tag, entry_else}
use Rattle.pt_format.specs.Laws.{IsLayout, WordsDiffer}
use Rattle.pt_format.specs.Manual.{StepsAgree}
use Rattle.pt_view.specs.declared.view.View.{View}
use Rattle.pt_view.specs.declared.view.Piece.{Piece}
use Rattle.pt_view.specs.declared.view.Prepared.{Prepared}
use Rattle.pt_view.specs.Pieces.{IsOneOf, all_pieces, first_of, pieces_of, words_of}
use Rattle.pt_view.specs.Calls.{entry_end, entry_first, is_under, lowest, pieces_at}
use Rattle.pt_view.proofs.Members.{all_have, all_map, all_pieces_append, one_has}
use Rattle.pt_view.proofs.Paths.{lowest_has, lowest_snoc}
use Rattle.pt_view.proofs.Pieces.{first_is_entry's, one_here}
use Rattle.pt_rule.specs.Kinds.{retrace}
use Rattle.pt_rule.specs.Lawful.{IsOnPath, IsOwnPiece}
use Rattle.pt_rule.specs.Linked.{IsLinked}
use Rattle.pt_rule.specs.Tags.{is_placed}
use Rattle.pt_rule.specs.Totals.{bridge_in}
use Rattle.pt_rule.proofs.HolderFacts.{front_lawful}
use Rattle.pt_rule.proofs.PieceFacts.{some_at}
use Rattle.pt_rule.proofs.TablesAdded.{spine_back, with_cases, with_kept, with_new}
use Rattle.pt_image.specs.Drafts.{Stands, group_words, linked_words}
use Rattle.pt_image.proofs.Entries.{child_aligned, child_end, later_first, next_first}
use Rattle.pt_image.proofs.Groups.{fits, group_written}
use Rattle.pt_image.proofs.Rebuild.{IsUnused, links}

-- Where the copy stands.
module _ {f : Layout} {n l : ℕ} {words : List ℕ} {v : View} {blocks : List Block} {g number : ℕ} {p : Position} (s : Stands f n l words v blocks g number p) where
  abbrev here_page : ℕ
  here_page = entry_first f p number

  live : 0 < v.count
  live = let some_page = pow_pos (f.input - f.granule) in let whole = s.draft.whole in omega arith

  none_at : IsLayout f → (i : ℕ) → number ≤ i → pieces_at f p i v.pieces ≡ 0
  none_at good i le = dite (dec_le (pieces_at f p i v.pieces) 0)
      (λ none. omega arith)
      (λ some. absurd (
      let x = some_at f p i (IsOneOf v.pieces) v.pieces (all_have (IsOneOf v.pieces) v.pieces (λ y m. m)) (omega arith) in
      let own = one_has (IsOwnPiece f v) v.pieces x.0 (s.draft.lawful.books 0 v refl live).pieces x.1 in
      let at = one_here f p i x.0 x.2 in
      let first : entry_first f p i ≡ first_of f x.0 =
      (λ k. entry_first f (at.0 k) (sym at.1 k)) ∙ first_is_entry's good (record { a_part = own.a_part; legal = own.legal; stated = own.stated }) in
      let behind = one_has (λ y. first_of f y < here_page) v.pieces x.0 s.behind x.1 in
      let order = later_first f p number i le in omega arith))

  no_table_at : (i : ℕ) → number ≤ i → (q : Position) → IsAmong v.tables q → is_under f p i q ≡ false
  no_table_at i le q a = ⊎_elim
      (λ (e : is_under f p i q ≡ true). absurd
      (let both = and_parts (nat_lt q.level p.level && nat_le (entry_first f p i) q.base) (nat_lt q.base (entry_end f p i)) e in
      let parts = and_parts (nat_lt q.level p.level) (nat_le (entry_first f p i) q.base) both.0 in
      let low = ltb-true q.level p.level parts.0 in
      let first = leb-true (entry_first f p i) q.base parts.1 in
      let behind = (s.tables q a).1 low in let order = later_first f p number i le in omega arith))
      (λ (e : is_under f p i q ≡ false). e)
      (cases_Bool (is_under f p i q))

  pub on_path : IsOnPath f n words (v ∷ []) v (record { frame = g; position = p })
  on_path = lowest_has (IsOnPath f n words (v ∷ []) v) v.path (record { frame = g; position = p }) s.here (s.draft.lawful.paths 0 v refl).nodes

  -- an entry that is zero is passed
  pub passes : number < 2 ^ f.index → Stands f n l words v blocks g (number + 1) p
  passes below = record {
    draft = s.draft;
    pieces = s.pieces;
    here = s.here;
    position = s.position;
    low = s.low;
    top = s.top;
    some = omega arith;
    zero_from = λ i le lt. s.zero_from i (omega arith) lt;
    behind = all_map (λ (y : Piece). first_of f y < here_page) (λ (y : Piece). first_of f y < entry_first f p (number + 1)) v.pieces (λ y h. let z = next_first f p number in omega arith) s.behind;
    tables = λ q a. let t = s.tables q a in let z = next_first f p number in (omega arith, λ low. let u = t.1 low in omega arith);
  }

  module _ (good : IsLayout f) (differ : WordsDiffer f) (agree : StepsAgree f) where
    -- a block that begins at the entry is copied
    pub copies : (b : Block) → number < 2 ^ f.index → level_of_size f b.log2 ≡ p.level → b.first ≡ entry_first f p number → IsLegalBlock f b → IsTrue (f.states b.prot) →
        (w : View) × Stands f n l (group_words f n words g number b (words_of f b)) w (blocks ++ b ∷ []) g (number + words_of f b) p
        × (w.path ≡ v.path) × (w.tables ≡ v.tables)
    copies b below level first legal stated =
        let t = group_written f good differ agree n l words v g number p b s.draft (record {
          here = s.here;
          aligned = s.position.aligned;
          below = below;
          level = level;
          first = first;
          legal = legal;
          stated = stated;
          zero_from = s.zero_from;
          no_piece = λ i le lt. none_at good i le;
          no_table = λ i le lt q a. no_table_at i le q a;
          behind = subst (λ (m : ℕ). AllByRecursion (λ (y : Piece). first_of f y < m) v.pieces) (sym first) s.behind;
        }) in (
          t.0,
          record {
            draft = t.1;
            pieces = t.2 ∙ ap (λ xs. xs ++ pieces_of f b) s.pieces ∙ ap (λ ys. all_pieces f blocks ++ ys) (sym (append-nil (pieces_of f b))) ∙ sym (all_pieces_append f blocks (b ∷ []));
            here = ap (λ path. lowest path) t.5 ∙ s.here;
            position = s.position;
            low = s.low;
            top = t.4 ∙ s.top;
            some = fits f good number p s.position.aligned below b level first legal stated;
            zero_from = t.7;
            behind = t.6;
            tables = λ q a. let u = s.tables q (subst (λ (ps : List Position). IsAmong ps q) t.3 a) in let o = later_first f p number (number + words_of f b) (omega arith) in
                (omega arith, λ low. let w = u.1 low in omega arith);
          },
          t.5,
          t.3,
        )

    -- a free frame is linked at the entry, and the copy is before its first entry
    pub descends : (c : ℕ) → number < 2 ^ f.index → 0 < p.level → entry_first f p number < input_pages f → c < n → tag words c ≡ 0 →
        (w : View) × Stands f n l (linked_words f n words g number p c) w blocks c 0 (child_at f p number)
        × (w.path ≡ v.path ++ record { frame = c; position = child_at f p number } ∷ [])
        × ((q : Position) → IsAmong w.tables q → IsAmong v.tables q ⊎ (q ≡ child_at f p number))
        × ((q : Position) → IsAmong v.tables q → IsAmong w.tables q) × IsAmong w.tables (child_at f p number)
    descends c below high inside few free =
        let q : Position = child_at f p number in
        let position : IsPosition f q = record {
          a_level = let a = s.position.a_level in omega arith;
          a_page = inside;
          aligned = child_aligned f p number high s.position.aligned;
        } in
        let unused : IsUnused f n words v g number p = record {
          here = s.here;
          within = below;
          zero = s.zero_from number (omega arith) below;
          no_piece = none_at good number (omega arith);
          no_table = no_table_at number (omega arith);
        } in
        let t = links f good differ agree n l words v g number p s.draft unused c high position few free in
        let other : c ≢ g = (λ e. false≢true (ap is_placed (sym free ∙ ap (tag words) e) ∙ on_path.at.is_linked.placed)) in
        let unlinked : ¬ IsLinked n words (v ∷ []) c = (λ a. false≢true (ap is_placed (sym free) ∙ a.placed)) in
        let same : entry_first f q 0 ≡ entry_first f p number = omega arith in
        let levels = (s.draft.lawful.sizes.live 0 v refl live).1 in
        let off : is_spine v.levels q ≡ false = ⊎_elim
        (λ (yes : is_spine v.levels q ≡ true). absurd (let a = (spine_back v.levels q yes).0 in let b = s.low in omega arith))
        (λ (no : is_spine v.levels q ≡ false). no) (cases_Bool (is_spine v.levels q)) in
        let among : (r : Position) → IsAmong t.0.tables r → IsAmong v.tables r ⊎ (r ≡ q) =
        (λ r a. with_cases v.levels v.tables q r (subst (λ (ps : List Position). IsAmong ps r) t.2.tables a)) in (
          t.0,
          record {
            draft = t.1;
            pieces = t.2.pieces ∙ s.pieces;
            here = ap (λ path. lowest path) t.2.path ∙ lowest_snoc v.path (record { frame = c; position = q });
            position = position;
            low = let a = s.low in omega arith;
            top = t.2.top ∙ s.top;
            some = omega arith;
            zero_from = λ i le lt.
                entry_else f n (slice_set words (1 + c) (placed_word q)) g number (f.pointer p.level (frame_address f c)) c i below lt (λ e _. other e)
                ∙ entry_after_tag f n words c (placed_word q) c i few
                ∙ s.draft.lawful.frames.cleared c i few unlinked lt ∙ ap (λ (o : Option Prepared). bridge_in f c i o + 0) s.draft.none_prepared;
            behind = subst (λ (xs : List Piece). AllByRecursion (λ (y : Piece). first_of f y < entry_first f q 0) xs) (sym t.2.pieces)
                (subst (λ (m : ℕ). AllByRecursion (λ (y : Piece). first_of f y < m) v.pieces) (sym same) s.behind);
            tables = λ r a. ⊎_elim
                (λ (old : IsAmong v.tables r). let u = s.tables r old in (omega arith, λ low. let w = u.1 (omega arith) in omega arith))
                (λ (is : r ≡ q). let base = ap (λ (z : Position). z.base) is in let level = ap (λ (z : Position). z.level) is in (omega arith, λ low. absurd (omega arith)))
                (among r a);
          },
          t.2.path,
          among,
          (λ r a. subst (λ (ps : List Position). IsAmong ps r) (sym t.2.tables) (with_kept v.levels v.tables q r a)),
          subst (λ (ps : List Position). IsAmong ps q) (sym t.2.tables) (with_new v.levels v.tables q off),
        )

-- After a child's last entry the copy is in the parent again, behind the child's entry, where the parent's entries are as they
-- were and only tables below the child's level came since.
pub ascends : {f : Layout} {n l : ℕ} {words : List ℕ} {v : View} {blocks : List Block} (u : View) (g number c : ℕ) (p : Position) →
    Stands f n l words v blocks c (2 ^ f.index) (child_at f p number) → v.path ≡ u.path ++ record { frame = c; position = child_at f p number } ∷ [] →
    lowest u.path ≡ Some (record { frame = g; position = p }) → IsPosition f p → p.level ≤ starting_top l → number < 2 ^ f.index → 0 < p.level →
    ((i : ℕ) → number + 1 ≤ i → i < 2 ^ f.index → entry_of f n words g i ≡ 0) →
    ((q : Position) → IsAmong v.tables q → (q.base ≤ entry_first f p number) ⊎ (q.level < p.level - 1)) →
    Stands f n l words (retrace u.path v) blocks g (number + 1) p
ascends {f} {n} {l} {words} {v} {blocks} u g number c p s path here position low below high zeros tables =
    let q : Position = child_at f p number in
    let end = child_end f p number high in
    let some_page = pow_pos (f.index * p.level) in
    let next = next_first f p number in
    record {
      draft = record {
        lawful = front_lawful 0 v u.path (record { frame = c; position = q } ∷ []) s.draft.lawful refl (let all = pow_pos (f.input - f.granule) in let whole = s.draft.whole in omega arith) path;
        whole = s.draft.whole;
        none_held = s.draft.none_held;
        end = s.draft.end;
        none_prepared = s.draft.none_prepared;
      };
      pieces = s.pieces;
      here = here;
      position = position;
      low = low;
      top = s.top;
      some = omega arith;
      zero_from = zeros;
      behind = subst (λ (m : ℕ). AllByRecursion (λ (y : Piece). first_of f y < m) v.pieces) end s.behind;
      tables = λ r a. let t = s.tables r a in
          (omega arith, λ low. ⊎_elim (λ old. omega arith) (λ deep. let b = t.1 deep in omega arith) (tables r a));
    }
