-- What the checker copies stays lawful.
use Rattle.std.proofs.Common.{◌≡◌, ℕ, false, ◌+◌, ◌-◌, ◌*◌, ◌<◌, ◌≤◌, ◌^◌, List, [], ◌∷◌, ◌++◌, refl, sym, ap, ◌∙◌, subst, arith, get_or-set_other}
use Rattle.std.proofs.lemmas.List.{set-set}
use Rattle.std.specs.Prelude.{Option, None, Some, slice_index, slice_set, IsTrue, nat_lt, nat_le}
use Rattle.std.proofs.lemmas.Bool.{and_from, lt-ltb, le-leb}
use Rattle.std.proofs.lemmas.Nat.{pow_pos}
use Rattle.pt_model.specs.declared.position.Position.{Position}
use Rattle.pt_model.specs.Layout.{Layout, IsLegalBlock, end_of, input_pages}
use Rattle.pt_model.specs.Tables.{IsPosition, child_at}
use Rattle.pt_model.specs.Words.{entry_of, entry_place, frame_address, placed_word, tag}
use Rattle.pt_format.specs.Laws.{IsLayout, WordsDiffer}
use Rattle.pt_format.specs.Manual.{StepsAgree}
use Rattle.pt_view.specs.declared.view.View.{View}
use Rattle.pt_view.specs.declared.view.Node.{Node}
use Rattle.pt_view.specs.declared.view.Piece.{Piece}
use Rattle.pt_view.specs.Pieces.{add_piece, word_of, words_of}
use Rattle.pt_model.specs.Sets.{IsAmong}
use Rattle.pt_view.specs.Calls.{entry_end, entry_first, is_under, lowest, pieces_at, with_table}
use Rattle.pt_rule.specs.Lawful.{Lawful}
use Rattle.pt_rule.specs.Kinds.{Keeps, Kind, May, after, put, place_of, take, place, install, write, written, WriteTells, deeper, with_child, level_at}
use Rattle.pt_rule.proofs.Laws.{steps_keep, whole_is_read}
use Rattle.pt_image.specs.Drafts.{IsDraft, linked_words}

-- the path's last table is in frame g, at position p, and nothing is at or under its entry `number`
pub record IsUnused (f : Layout) (n : ℕ) (words : List ℕ) (v : View) (g number : ℕ) (p : Position) : Type 0 where
  pub here : lowest v.path ≡ Some (record { frame = g; position = p })
  pub within : number < 2 ^ f.index
  pub zero : entry_of f n words g number ≡ 0
  pub no_piece : pieces_at f p number v.pieces ≡ 0
  pub no_table : (q : Position) → IsAmong v.tables q → is_under f p number q ≡ false

pub record IsLinkedIn (f : Layout) (v : View) (number : ℕ) (p : Position) (c : ℕ) (w : View) : Type 0 where
  pub pieces : w.pieces ≡ v.pieces
  pub tables : w.tables ≡ with_table v.levels v.tables (child_at f p number)
  pub top : w.top ≡ v.top
  pub path : w.path ≡ v.path ++ record { frame = c; position = child_at f p number } ∷ []

pub record IsWrittenIn (f : Layout) (v : View) (x : Piece) (w : View) : Type 0 where
  pub pieces : w.pieces ≡ add_piece f v.pieces x
  pub tables : w.tables ≡ v.tables
  pub top : w.top ≡ v.top
  pub path : w.path ≡ v.path

record IsRestOf (v w : View) : Type 0 where
  pub count : w.count ≡ v.count
  pub purse : w.purse ≡ []
  pub end : w.end ≡ v.end
  pub prepared : w.prepared ≡ None

module _ (f : Layout) (good : IsLayout f) (differ : WordsDiffer f) (agree : StepsAgree f) (n l : ℕ) where
  -- a step of the one view, where this number is found
  step : (k : Kind) → Keeps f n l k → (words : List ℕ) (v : View) → Lawful f n l words (v ∷ []) → 0 < v.count → May f n k v → (found : ℕ) → slice_index words (place_of f n k) ≡ found →
      Lawful f n l (slice_set words (place_of f n k) (put f k v found)) (after f k found v ∷ [])
  step k kept words v r live may found e =
      subst (λ (x : ℕ). Lawful f n l (slice_set words (place_of f n k) (put f k v x)) (after f k x v ∷ [])) e
      (kept words (v ∷ []) 0 v r refl live may).0

  module _ (words : List ℕ) (v : View) (g number : ℕ) (p : Position) (d : IsDraft f n l words v) (b : IsUnused f n words v g number p) where
    live : 0 < v.count
    live = subst (λ (k : ℕ). 0 < k) (sym d.whole) (pow_pos (f.input - f.granule))

    first : v.first ≡ 0
    first = (whole_is_read f good differ agree n l words (v ∷ []) 0 v d.lawful refl d.whole).3

    module _ (c : ℕ) (high : 0 < p.level) (child : IsPosition f (child_at f p number)) (few : c < n) (free : tag words c ≡ 0) where
      abbrev q : Position
      q = child_at f p number

      abbrev v1 : View
      v1 = after f (take c) 0 v

      abbrev v2 : View
      v2 = after f (place c q) 0 v1

      -- the view after the exchange, by the path's last table
      abbrev linked_view : Option Node → View
      linked_view o = record (deeper f c number o (with_child f number o v2)) { prepared = None }

      abbrev v3 : View
      v3 = linked_view (lowest v.path)

      abbrev words1 : List ℕ
      words1 = slice_set words (1 + c) (put f (take c) v 0)

      abbrev words2 : List ℕ
      words2 = slice_set words1 (1 + c) (placed_word q)

      one : Lawful f n l words1 (v1 ∷ [])
      one = step (take c) (steps_keep f good differ agree n l (take c)) words v d.lawful live few 0 free

      two : Lawful f n l words2 (v2 ∷ [])
      two = (steps_keep f good differ agree n l (place c q) words1 (v1 ∷ []) 0 v1 one refl live (([], ap (λ xs. c ∷ xs) d.none_held), d.none_prepared, child)).0

      zero_now : slice_index words2 (entry_place f n g number) ≡ 0
      zero_now =
          get_or-set_other words1 (1 + c) (entry_place f n g number) (placed_word q) 0 (λ e. omega arith)
          ∙ get_or-set_other words (1 + c) (entry_place f n g number) (put f (take c) v 0) 0 (λ e. omega arith)
          ∙ b.zero

      three : Lawful f n l (slice_set words2 (entry_place f n g number) (f.pointer (level_at (lowest v.path)) (frame_address f c))) (v3 ∷ [])
      three = step (install g number) (steps_keep f good differ agree n l (install g number)) words2 v2 two live (
        (p, b.here),
        record {
          position = p;
          entry = record { node = record { frame = g; position = p }; is_lowest = b.here; at = refl; within = b.within };
          meets =
              let some_page = pow_pos (f.index * p.level) in
              let whole = d.whole in
              let page = child.a_page in
              let zero = first in
              and_from (nat_lt (entry_first f p number) (v.first + v.count)) _
              (lt-ltb (entry_first f p number) (v.first + v.count) (omega arith))
              (lt-ltb v.first (entry_end f p number) (omega arith));
          high = high;
          frame = c;
          prepared = refl;
          no_piece = b.no_piece;
        },
      )
          0 zero_now

      words_are : slice_set words2 (entry_place f n g number) (f.pointer (level_at (lowest v.path)) (frame_address f c)) ≡ linked_words f n words g number p c
      words_are =
          ap (λ ws. slice_set ws (entry_place f n g number) (f.pointer (level_at (lowest v.path)) (frame_address f c))) (set-set words (1 + c) (put f (take c) v 0) (placed_word q))
          ∙ ap (λ o. slice_set (slice_set words (1 + c) (placed_word q)) (entry_place f n g number) (f.pointer (level_at o) (frame_address f c))) b.here

      node : Option Node
      node = Some (record { frame = g; position = p })

      linked_in : IsLinkedIn f v number p c v3
      linked_in = subst (λ (o : Option Node). IsLinkedIn f v number p c (linked_view o)) (sym b.here) (record { pieces = refl; tables = refl; top = refl; path = refl })

      rests : IsRestOf v v3
      rests = subst (λ (o : Option Node). IsRestOf v (linked_view o)) (sym b.here) (record { count = refl; purse = d.none_held; end = refl; prepared = refl })

      pub links : (w : View) × IsDraft f n l (linked_words f n words g number p c) w × IsLinkedIn f v number p c w
      links = (
        v3,
        record {
          lawful = subst (λ (ws : List ℕ). Lawful f n l ws (v3 ∷ [])) words_are three;
          whole = rests.count ∙ d.whole;
          none_held = rests.purse;
          end = rests.end ∙ d.end;
          none_prepared = rests.prepared;
        },
        linked_in,
      )

    module _ (x : Piece) (here : pieces_at f p number (x ∷ []) ≡ 1) (part : x.part < words_of f x.block) (legal : IsLegalBlock f x.block) (stated : IsTrue (f.states x.block.prot)) (inside : entry_end f p number ≤ input_pages f) where
      law : Lawful f n l (slice_set words (entry_place f n g number) (word_of f x)) (written f x v ∷ []) × WriteTells f v x (entry_of f n words g number)
      law = steps_keep f good differ agree n l (write g number x) words (v ∷ []) 0 v d.lawful refl live (
        (p, b.here),
        record {
          position = p;
          entry = record { node = record { frame = g; position = p }; is_lowest = b.here; at = refl; within = b.within };
          inside = (let zero = first in let whole = d.whole in
              and_from (nat_le v.first (entry_first f p number)) _
              (le-leb v.first (entry_first f p number) (omega arith))
              (le-leb (entry_end f p number) (v.first + v.count) (omega arith)));
          no_piece = b.no_piece;
          no_table = b.no_table;
          here = here;
          a_part = part;
          legal = legal;
          stated = stated;
          in_span = (let zero = first in let whole = d.whole in let last = legal.in_input in
              and_from (nat_le v.first x.block.first) _
              (le-leb v.first x.block.first (omega arith))
              (le-leb (end_of x.block) (v.first + v.count) (omega arith)));
        },
      )

      pub writes : (w : View) × IsDraft f n l (slice_set words (entry_place f n g number) (word_of f x)) w × IsWrittenIn f v x w
      writes = (
        written f x v,
        record {
          lawful = law.0;
          whole = d.whole;
          none_held = d.none_held;
          end = d.end;
          none_prepared = d.none_prepared;
        },
        record { pieces = refl; tables = law.1.same_tables d.whole; top = law.1.same_top d.whole; path = refl },
      )
