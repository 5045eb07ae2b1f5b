-- Copies of entries put together.
use Rattle.std.proofs.Common.{◌≡◌, ◌≢◌, ◌⊎◌, inl, inr, ⊎_elim, ℕ, zero, suc, ◌+◌, ◌-◌, ◌*◌, ◌%◌, ◌<◌, ◌≤◌, ◌^◌, List, [], ◌∷◌, ◌++◌, refl, sym, ap, ◌∙◌, subst, arith}
use Rattle.std.specs.Prelude.{IsTrue, slice_set}
use Rattle.std.proofs.lemmas.Bool.{false≢true}
use Rattle.std.proofs.lemmas.Nat.{pow_pos}
use mathlib.Core.Logic.{dite}
use native.Mathlib.Decide.{ℕ_discrete}
use Rattle.pt_model.specs.declared.block.Block.{Block}
use Rattle.pt_model.specs.declared.position.Position.{Position}
use Rattle.pt_model.specs.Layout.{Layout, IsLegalBlock, input_pages, level_of_size, pages_of_entry, pages_of_table}
use Rattle.pt_model.specs.Sets.{IsAmong}
use Rattle.pt_model.specs.Tables.{child_at, spine_position}
use Rattle.pt_model.specs.Words.{entry_of, frame_address, placed_word, tag}
use Rattle.pt_model.proofs.Places.{entry_after_tag, entry_else, tag_after_entry, tag_else}
use Rattle.pt_model.proofs.Positions.{same_position}
use Rattle.pt_format.specs.Laws.{IsLayout, WordsDiffer}
use Rattle.pt_format.specs.Manual.{StepsAgree}
use Rattle.pt_view.specs.declared.view.View.{View}
use Rattle.pt_view.specs.Pieces.{word_of, words_of}
use Rattle.pt_view.specs.Calls.{entry_first}
use Rattle.pt_rule.specs.Kinds.{retrace}
use Rattle.pt_rule.specs.Tags.{is_placed}
use Rattle.pt_image.specs.Drafts.{Copies, HasSpine, Reaches, Stands, group_words, linked_words, part_of}
use Rattle.pt_image.proofs.Groups.{fits}
use Rattle.pt_image.proofs.Moves.{ascends, copies, descends, on_path, passes}

-- an entry 0 without a pointer isn't one of the spine above its lowest level
abbrev pub IsNoBridge : (low : ℕ) → Position → (number : ℕ) → Type 0
IsNoBridge low p number = number ≡ 0 → p.base ≡ 0 → p.level ≤ low

-- before the first entry
pub copy_begins : (f : Layout) (n low : ℕ) (words : List ℕ) (g : ℕ) (p : Position) → Copies f n low words words g 0 p
copy_begins f n low words g p = record {
  goes = λ l v blocks s. record { view = v; blocks = blocks; stands = s; path = refl; tables = λ q a. inl a; kept = λ q a. a; spine = λ some. absurd (omega arith) };
  tags = λ h lt some. refl;
  entries = λ h i lt small some ne. refl;
}

-- the tables of the spine under an entry that is no bridge, and under those after it
still_spine : {low : ℕ} {p : Position} (v w : View) (number more : ℕ) → IsNoBridge low p number → (0 < number → HasSpine low p v) → ((q : Position) → IsAmong v.tables q → IsAmong w.tables q) →
    0 < number + more → HasSpine low p w
still_spine v w number more no_bridge old kept some base k from below = dite (ℕ_discrete number 0)
    (λ zero. absurd (let b = no_bridge zero base in omega arith))
    (λ ne. kept (spine_position k) (old (omega arith) base k from below))

module _ {f : Layout} {n low : ℕ} {words words' : List ℕ} {g number : ℕ} {p : Position} (t : Copies f n low words words' g number p) (below : number < 2 ^ f.index) where
  -- past a zero entry
  pub copy_passes : IsNoBridge low p number → Copies f n low words words' g (number + 1) p
  copy_passes no_bridge = record {
    goes = λ l v blocks s. let r = t.goes l v blocks s in record {
      view = r.view;
      blocks = r.blocks;
      stands = passes r.stands below;
      path = r.path;
      tables = r.tables;
      kept = r.kept;
      spine = still_spine r.view r.view number 1 no_bridge r.spine (λ q a. a);
    };
    tags = t.tags;
    entries = t.entries;
  }

  group_tags : (b : Block) (k h : ℕ) → h < n → tag (group_words f n words' g number b k) h ≡ tag words' h
  group_tags b zero h lt = refl
  group_tags b (suc k) h lt = tag_after_entry f n (group_words f n words' g number b k) g (number + k) (word_of f (part_of b k)) h lt ∙ group_tags b k h lt

  group_entries : (b : Block) (k h i : ℕ) → number + k ≤ 2 ^ f.index → i < 2 ^ f.index → h ≢ g → entry_of f n (group_words f n words' g number b k) h i ≡ entry_of f n words' h i
  group_entries b zero h i fits lt ne = refl
  group_entries b (suc k) h i fits lt ne =
      entry_else f n (group_words f n words' g number b k) g (number + k) (word_of f (part_of b k)) h i (omega arith) lt (λ e _. ne e) ∙ group_entries b k h i (omega arith) lt ne

  module _ (good : IsLayout f) (differ : WordsDiffer f) (agree : StepsAgree f) where
    -- past a block
    pub copy_copies : (b : Block) → IsNoBridge low p number → level_of_size f b.log2 ≡ p.level → b.first ≡ entry_first f p number → p.base % pages_of_table f p.level ≡ 0 →
        IsLegalBlock f b → IsTrue (f.states b.prot) →
        Copies f n low words (group_words f n words' g number b (words_of f b)) g (number + words_of f b) p
    copy_copies b no_bridge level first aligned legal stated = record {
      goes = λ l v blocks s. let r = t.goes l v blocks s in let c = copies r.stands good differ agree b below level first legal stated in record {
        view = c.0;
        blocks = r.blocks ++ b ∷ [];
        stands = c.1;
        path = c.2 ∙ r.path;
        tables = λ q a. r.tables q (subst (λ (ps : List Position). IsAmong ps q) c.3 a);
        kept = λ q a. subst (λ (ps : List Position). IsAmong ps q) (sym c.3) (r.kept q a);
        spine = still_spine r.view c.0 number (words_of f b) no_bridge r.spine (λ q a. subst (λ (ps : List Position). IsAmong ps q) (sym c.3) a);
      };
      tags = λ h lt some. group_tags b (words_of f b) h lt ∙ t.tags h lt some;
      entries = λ h i lt small some ne. group_entries b (words_of f b) h i (fits f good number p aligned below b level first legal stated) small ne ∙ t.entries h i lt small some ne;
    }

-- Linking a free frame changes its tag and one entry.
module _ (f : Layout) (n : ℕ) (words : List ℕ) (g number c : ℕ) (p : Position) (below : number < 2 ^ f.index) (few : c < n) where
  abbrev linked : List ℕ
  linked = linked_words f n words g number p c

  pub linked_tag : (h : ℕ) → h < n → h ≢ c → tag linked h ≡ tag words h
  linked_tag h lt ne =
      tag_after_entry f n (slice_set words (1 + c) (placed_word (child_at f p number))) g number (f.pointer p.level (frame_address f c)) h lt ∙ tag_else words c (placed_word (child_at f p number)) h ne

  pub linked_entry : (h i : ℕ) → i < 2 ^ f.index → (h ≡ g → i ≡ number → ⊥) → entry_of f n linked h i ≡ entry_of f n words h i
  linked_entry h i lt other =
      entry_else f n (slice_set words (1 + c) (placed_word (child_at f p number))) g number (f.pointer p.level (frame_address f c)) h i below lt other
      ∙ entry_after_tag f n words c (placed_word (child_at f p number)) h i few

-- past a table, by a copy of all of it
module _ {f : Layout} (good : IsLayout f) (differ : WordsDiffer f) (agree : StepsAgree f) {n low : ℕ} {words words' words'' : List ℕ} {g number : ℕ} (c : ℕ) {p : Position}
    (t : Copies f n low words words' g number p) (below : number < 2 ^ f.index) (high : 0 < p.level) (inside : entry_first f p number < input_pages f)
    (few : c < n) (free : tag words' c ≡ 0) (inner : Copies f n low (linked_words f n words' g number p c) words'' c (2 ^ f.index) (child_at f p number)) where
  abbrev q : Position
  q = child_at f p number

  abbrev linked_now : List ℕ
  linked_now = linked_words f n words' g number p c

  kept : (h : ℕ) → h < n → tag words h ≢ 0 → h ≢ c
  kept h lt some e = some (sym (t.tags h lt some) ∙ ap (tag words') e ∙ free)

  now : (h : ℕ) → h < n → tag words h ≢ 0 → tag linked_now h ≡ tag words h
  now h lt some = linked_tag f n words' g number c p below few h lt (kept h lt some) ∙ t.tags h lt some

  still : (h : ℕ) → h < n → tag words h ≢ 0 → tag linked_now h ≢ 0
  still h lt some e = some (sym (now h lt some) ∙ e)

  module _ (l : ℕ) (v : View) (blocks : List Block) (s : Stands f n l words v blocks g 0 p) where
    r : Reaches f n l low words' v g number p
    r = t.goes l v blocks s

    d : (w : View) × Stands f n l linked_now w r.blocks c 0 q × (w.path ≡ r.view.path ++ record { frame = c; position = q } ∷ [])
        × ((x : Position) → IsAmong w.tables x → IsAmong r.view.tables x ⊎ (x ≡ q))
        × ((x : Position) → IsAmong r.view.tables x → IsAmong w.tables x) × IsAmong w.tables q
    d = descends r.stands good differ agree c below high inside few free

    i : Reaches f n l low words'' d.0 c (2 ^ f.index) q
    i = inner.goes l d.0 r.blocks d.1

    other : g ≢ c
    other e = false≢true (ap is_placed (sym free ∙ ap (tag words') (sym e)) ∙ (on_path r.stands).at.is_linked.placed)

    some_tag : tag linked_now g ≢ 0
    some_tag e = false≢true (ap is_placed (sym e ∙ linked_tag f n words' g number c p below few g (on_path r.stands).at.is_linked.within other) ∙ (on_path r.stands).at.is_linked.placed)

    since : (x : Position) → IsAmong i.view.tables x → (IsAmong r.view.tables x ⊎ (x ≡ q)) ⊎ (x.level < p.level - 1)
    since x a = ⊎_elim (λ old. inl (d.3 x old)) (λ deep. inr deep) (i.tables x a)

    spine : HasSpine low p i.view
    spine base k from under = dite (ℕ_discrete number 0)
        (λ zero.
        let first : q.base ≡ 0 = (let z : number * pages_of_entry f p.level ≡ 0 * pages_of_entry f p.level = ap (λ (j : ℕ). j * pages_of_entry f p.level) zero in omega arith) in
        dite (ℕ_discrete k (p.level - 1))
        (λ last. subst (IsAmong i.view.tables) (same_position q (spine_position k) (sym last) first) (i.kept q d.5))
        (λ lower. i.spine (pow_pos f.index) first k from (omega arith)))
        (λ ne. i.kept (spine_position k) (d.4 (spine_position k) (r.spine (omega arith) base k from under)))

    entered : Reaches f n l low words'' v g (number + 1) p
    entered = record {
      view = retrace r.view.path i.view;
      blocks = i.blocks;
      stands = ascends r.view g number c p i.stands (i.path ∙ d.2) r.stands.here r.stands.position r.stands.low below high
          (λ j le lt. inner.entries g j (on_path r.stands).at.is_linked.within lt some_tag other ∙ linked_entry f n words' g number c p below few g j lt (λ _ e. omega arith) ∙ r.stands.zero_from j (omega arith) lt)
          (λ x a. ⊎_elim (λ near. ⊎_elim (λ old. inl (r.stands.tables x old).0) (λ (is : x ≡ q). let base = ap (λ (z : Position). z.base) is in inl (omega arith)) near) (λ deep. inr deep) (since x a));
      path = r.path;
      tables = λ x a. ⊎_elim (λ near. ⊎_elim (λ old. r.tables x old) (λ (is : x ≡ q). let level = ap (λ (z : Position). z.level) is in inr (omega arith)) near) (λ deep. inr (omega arith)) (since x a);
      kept = λ x a. i.kept x (d.4 x (r.kept x a));
      spine = λ some. spine;
    }

  pub copy_enters : Copies f n low words words'' g (number + 1) p
  copy_enters = record {
    goes = entered;
    tags = λ h lt some. inner.tags h lt (still h lt some) ∙ now h lt some;
    entries = λ h i lt small some ne.
        inner.entries h i lt small (still h lt some) (kept h lt some) ∙ linked_entry f n words' g number c p below few h i small (λ e _. ne e) ∙ t.entries h i lt small some ne;
  }
