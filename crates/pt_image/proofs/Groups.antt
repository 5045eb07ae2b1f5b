-- The words of a block are written entry by entry.
use Rattle.std.proofs.Common.{◌≡◌, ◌≢◌, inl, inr, ◌⊎◌, ℕ, zero, suc, true, false, Bool, ◌+◌, ◌-◌, ◌*◌, ◌%◌, ◌<◌, ◌≤◌, ◌^◌, List, [], ◌∷◌, ◌++◌, refl, sym, ap, ◌∙◌, subst, arith, append_assoc}
use Rattle.std.specs.Prelude.{Some, IsTrue, ◌&&◌, ◌==◌, map, if◌then◌else◌}
use Rattle.std.specs.List.{AllByRecursion, range_with_len}
use Rattle.std.proofs.lemmas.Bool.{le-leb, cases_Bool}
use Rattle.std.proofs.lemmas.List.{append-nil}
use Rattle.std.proofs.lemmas.List.FromFn.{map-range_with_len_more}
use Rattle.std.proofs.lemmas.Nat.{mul-le, pow_pos}
use Rattle.pt_model.specs.declared.block.Block.{Block}
use Rattle.pt_model.specs.declared.position.Position.{Position}
use Rattle.pt_model.specs.Layout.{Layout, IsLegalBlock, input_pages, level_of_size, pages_of_entry, pages_of_table}
use Rattle.pt_model.specs.Sets.{IsAmong, one_if}
use Rattle.pt_model.specs.Tables.{is_same, position_over}
use Rattle.pt_model.specs.Words.{entry_of}
use Rattle.pt_model.proofs.Places.{entry_else}
use Rattle.pt_model.proofs.Positions.{same_position}
use Rattle.pt_model.proofs.Quotients.{one_multiple, over_from, table_is_entries, whole}
use Rattle.pt_format.specs.Laws.{IsLayout, WordsDiffer}
use Rattle.pt_format.specs.Manual.{StepsAgree}
use Rattle.pt_view.specs.declared.view.View.{View}
use Rattle.pt_view.specs.declared.view.Piece.{Piece}
use Rattle.pt_view.specs.Pieces.{IsLegalPiece, add_piece, first_of, number_of, pieces_of, table_of, word_of, words_of}
use Rattle.pt_view.specs.Calls.{entry_first, is_under, lowest, pieces_at}
use Rattle.pt_view.proofs.Members.{all_append, all_map}
use Rattle.pt_view.proofs.Pieces.{ends_in_block, first_is_entry's, here_one, number_below, one_here, pieces_append, table_of_block}
use Rattle.pt_image.specs.Drafts.{IsDraft, group_words, part_of}
use Rattle.pt_image.proofs.Rebuild.{IsUnused, writes}

-- a legal block begins at an entry of the path's last table, at or under whose entries from there on nothing is yet
pub record IsRoom (f : Layout) (n : ℕ) (words : List ℕ) (v : View) (g number : ℕ) (p : Position) (b : Block) : Type 0 where
  pub here : lowest v.path ≡ Some (record { frame = g; position = p })
  pub aligned : p.base % pages_of_table f p.level ≡ 0
  pub below : number < 2 ^ f.index
  pub level : level_of_size f b.log2 ≡ p.level
  pub first : b.first ≡ entry_first f p number
  pub legal : IsLegalBlock f b
  pub stated : IsTrue (f.states b.prot)
  pub zero_from : (i : ℕ) → number ≤ i → i < 2 ^ f.index → entry_of f n words g i ≡ 0
  pub no_piece : (i : ℕ) → number ≤ i → i < 2 ^ f.index → pieces_at f p i v.pieces ≡ 0
  pub no_table : (i : ℕ) → number ≤ i → i < 2 ^ f.index → (q : Position) → IsAmong v.tables q → is_under f p i q ≡ false
  pub behind : AllByRecursion (λ y. first_of f y < b.first) v.pieces

-- a piece behind all others is put last
add_last : (f : Layout) (xs : List Piece) (x : Piece) → AllByRecursion (λ y. first_of f y ≤ first_of f x) xs → add_piece f xs x ≡ xs ++ x ∷ []
add_last f [] x h = refl
add_last f (y ∷ ys) x h =
    ap (λ (b : Bool). if b then y ∷ add_piece f ys x else x ∷ (y ∷ ys)) (le-leb (first_of f y) (first_of f x) h.0) ∙ ap (λ zs. y ∷ zs) (add_last f ys x h.1)

-- Where the parts of a block stand that begins at an entry.
module _ (f : Layout) (good : IsLayout f) (number : ℕ) (p : Position) (aligned : p.base % pages_of_table f p.level ≡ 0) (below : number < 2 ^ f.index)
    (b : Block) (level : level_of_size f b.log2 ≡ p.level) (first : b.first ≡ entry_first f p number) (legal : IsLegalBlock f b) (stated : IsTrue (f.states b.prot)) where
  abbrev e : ℕ
  e = pages_of_entry f p.level

  pub legal_part : (k : ℕ) → k < words_of f b → IsLegalPiece f (part_of b k)
  legal_part k short = record { a_part = short; legal = legal; stated = stated }

  pub part_first : (k : ℕ) → first_of f (part_of b k) ≡ entry_first f p (number + k)
  part_first k =
      ap (λ (j : ℕ). b.first + k * pages_of_entry f j) level ∙ ap (λ (j : ℕ). j + k * e) first ∙ (let s : p.base + number * e + k * e ≡ p.base + (number + k) * e = omega arith in s)

  pub part_table : (k : ℕ) → k < words_of f b → table_of f (part_of b k) ≡ p
  part_table k short =
      let self : position_over f p.base p.level ≡ p =
      same_position (position_over f p.base p.level) p refl (sym (whole p.base (f.index * (p.level + 1)) aligned)) in
      let base = ap (λ (q : Position). q.base) self in
      let fits = mul-le (number + 1) e (2 ^ f.index) e (omega arith) (omega arith) in
      let pages = table_is_entries f p.level in
      let flip : 2 ^ f.index * e ≡ e * 2 ^ f.index = omega arith in
      table_of_block good (legal_part k short) ∙ ap (position_over f b.first) level
      ∙ over_from f p.base b.first p.level (omega arith) (let some = pow_pos (f.index * p.level) in omega arith) ∙ self

  pub part_number : (k : ℕ) → k < words_of f b → number_of f (part_of b k) ≡ number + k
  part_number k short =
      let at : p.base + number_of f (part_of b k) * e ≡ p.base + (number + k) * e =
      ap (λ (q : Position). entry_first f q (number_of f (part_of b k))) (sym (part_table k short)) ∙ first_is_entry's good (legal_part k short) ∙ part_first k in
      one_multiple (number + k) (number_of f (part_of b k)) e (omega arith) (let some = pow_pos (f.index * p.level) in omega arith)

  pub part_below : (k : ℕ) → k < words_of f b → number + k < 2 ^ f.index
  part_below k short = let a = part_number k short in let c = number_below f (part_of b k) in omega arith

  pub fits : number + words_of f b ≤ 2 ^ f.index
  fits = let some = pow_pos (b.log2 - f.index * level_of_size f b.log2) in
      let last = part_below (words_of f b - 1) (omega arith) in omega arith

  pub part_here : (k : ℕ) → k < words_of f b → pieces_at f p (number + k) (part_of b k ∷ []) ≡ 1
  part_here k short =
      subst (λ (z : Position × ℕ). pieces_at f z.0 z.1 (part_of b k ∷ []) ≡ 1) (λ j. (part_table k short j, part_number k short j)) (here_one f (part_of b k))

  pub part_else : (k i : ℕ) → k < words_of f b → number + k ≢ i → pieces_at f p i (part_of b k ∷ []) ≡ 0
  part_else k i short ne = away (cases_Bool (is_same p (table_of f (part_of b k)) && (number_of f (part_of b k) == i)))
    where
      away : ((is_same p (table_of f (part_of b k)) && (number_of f (part_of b k) == i)) ≡ true) ⊎ ((is_same p (table_of f (part_of b k)) && (number_of f (part_of b k) == i)) ≡ false) →
          pieces_at f p i (part_of b k ∷ []) ≡ 0
      away (inl here) = absurd (ne (sym (part_number k short) ∙ (one_here f p i (part_of b k) (ap (λ (z : Bool). one_if z + 0) here)).1))
      away (inr other) = ap (λ (z : Bool). one_if z + 0) other

module _ (f : Layout) (good : IsLayout f) (differ : WordsDiffer f) (agree : StepsAgree f) (n l : ℕ) (words : List ℕ) (v : View) (g number : ℕ) (p : Position) (b : Block)
    (d : IsDraft f n l words v) (r : IsRoom f n words v g number p b) where
  abbrev parts : ℕ → List Piece
  parts k = map (part_of b) (range_with_len 0 k)

  abbrev now : ℕ → List ℕ
  now k = group_words f n words g number b k

  first_at : (k : ℕ) → first_of f (part_of b k) ≡ entry_first f p (number + k)
  first_at k = part_first f good number p r.aligned r.below b r.level r.first r.legal r.stated k

  record Partly (k : ℕ) : Type 0 where
    w : View
    draft : IsDraft f n l (now k) w
    pieces : w.pieces ≡ v.pieces ++ parts k
    tables : w.tables ≡ v.tables
    top : w.top ≡ v.top
    path : w.path ≡ v.path
    zeros : (i : ℕ) → number + k ≤ i → i < 2 ^ f.index → entry_of f n (now k) g i ≡ 0
    none : (i : ℕ) → number + k ≤ i → i < 2 ^ f.index → pieces_at f p i (parts k) ≡ 0
    behind : AllByRecursion (λ y. first_of f y < entry_first f p (number + k)) (v.pieces ++ parts k)

  begin : Partly 0
  begin = record {
    w = v;
    draft = d;
    pieces = sym (append-nil v.pieces);
    tables = refl;
    top = refl;
    path = refl;
    zeros = λ i le lt. r.zero_from i (omega arith) lt;
    none = λ i le lt. refl;
    behind = let zero = (let z : number + 0 ≡ number = omega arith in ap (λ (j : ℕ). entry_first f p j) z) in let first = r.first in
        all_append (λ (y : Piece). first_of f y < entry_first f p (number + 0)) v.pieces []
        (all_map (λ (y : Piece). first_of f y < b.first) (λ (y : Piece). first_of f y < entry_first f p (number + 0)) v.pieces (λ y h. subst (λ (m : ℕ). first_of f y < m) (first ∙ sym zero) h) r.behind) tt;
  }

  more : (k : ℕ) → k < words_of f b → Partly k → Partly (suc k)
  more k short s =
      let x : Piece = part_of b k in
      let below : number + k < 2 ^ f.index = part_below f good number p r.aligned r.below b r.level r.first r.legal r.stated k short in
      let at = first_at k in
      let bare : IsUnused f n (now k) s.w g (number + k) p = record {
        here = ap (λ path. lowest path) s.path ∙ r.here;
        within = below;
        zero = s.zeros (number + k) (omega arith) below;
        no_piece = ap (pieces_at f p (number + k)) s.pieces ∙ pieces_append f p (number + k) v.pieces (parts k)
            ∙ (let a = r.no_piece (number + k) (omega arith) below in let c = s.none (number + k) (omega arith) below in omega arith);
        no_table = λ q a. r.no_table (number + k) (omega arith) below q (subst (λ (ps : List Position). IsAmong ps q) s.tables a);
      } in
      let end : entry_first f p (number + k) + pages_of_entry f p.level ≤ input_pages f =
      (let within = ends_in_block good (legal_part f good number p r.aligned r.below b r.level r.first r.legal r.stated k short) in let last = r.legal.in_input in
      subst (λ (z : ℕ × ℕ). z.0 + pages_of_entry f z.1 ≤ input_pages f) (λ j. (at j, r.level j)) (omega arith)) in
      let step = writes f good differ agree n l (now k) s.w g (number + k) p s.draft bare x
      (part_here f good number p r.aligned r.below b r.level r.first r.legal r.stated k short) short r.legal r.stated end in
      let list : parts (suc k) ≡ parts k ++ x ∷ [] = (let one : suc k ≡ k + 1 = omega arith in ap (λ (j : ℕ). parts j) one ∙ map-range_with_len_more (part_of b) 0 k k (omega arith)) in
      let with_last : v.pieces ++ (parts k ++ x ∷ []) ≡ v.pieces ++ parts (suc k) = ap (λ zs. v.pieces ++ zs) (sym list) in
      let e : ℕ = pages_of_entry f p.level in
      let next : entry_first f p (number + suc k) ≡ entry_first f p (number + k) + e = (let z : (number + suc k) * e ≡ (number + k) * e + e = omega arith in omega arith) in
      let some_page = pow_pos (f.index * p.level) in
      record {
        w = step.0;
        draft = step.1;
        pieces = step.2.pieces ∙ ap (λ ys. add_piece f ys x) s.pieces
            ∙ add_last f (v.pieces ++ parts k) x (all_map (λ (y : Piece). first_of f y < entry_first f p (number + k)) (λ (y : Piece). first_of f y ≤ first_of f x) (v.pieces ++ parts k) (λ y h. omega arith) s.behind)
            ∙ append_assoc v.pieces (parts k) (x ∷ []) ∙ with_last;
        tables = step.2.tables ∙ s.tables;
        top = step.2.top ∙ s.top;
        path = step.2.path ∙ s.path;
        zeros = λ i le lt. entry_else f n (now k) g (number + k) (word_of f x) g i below lt (λ e a. omega arith) ∙ s.zeros i (omega arith) lt;
        none = λ i le lt. ap (pieces_at f p i) list ∙ pieces_append f p i (parts k) (x ∷ [])
            ∙ (let a = s.none i (omega arith) lt in
            let c = part_else f good number p r.aligned r.below b r.level r.first r.legal r.stated k i short (λ e. omega arith) in omega arith);
        behind =
            subst (λ (ys : List Piece). AllByRecursion (λ (y : Piece). first_of f y < entry_first f p (number + suc k)) ys)
            (append_assoc v.pieces (parts k) (x ∷ []) ∙ with_last)
            (all_append (λ (y : Piece). first_of f y < entry_first f p (number + suc k)) (v.pieces ++ parts k) (x ∷ [])
            (all_map (λ (y : Piece). first_of f y < entry_first f p (number + k)) (λ (y : Piece). first_of f y < entry_first f p (number + suc k)) (v.pieces ++ parts k) (λ y h. omega arith) s.behind)
            (omega arith, tt));
      }

  partly : (k : ℕ) → k ≤ words_of f b → Partly k
  partly zero le = begin
  partly (suc k) le = more k (omega arith) (partly k (omega arith))

  -- all of them are written: the view has the block's pieces behind the others
  pub group_written : (w : View) × IsDraft f n l (now (words_of f b)) w × (w.pieces ≡ v.pieces ++ pieces_of f b) × (w.tables ≡ v.tables) × (w.top ≡ v.top) × (w.path ≡ v.path)
      × AllByRecursion (λ y. first_of f y < entry_first f p (number + words_of f b)) w.pieces
      × ((i : ℕ) → number + words_of f b ≤ i → i < 2 ^ f.index → entry_of f n (now (words_of f b)) g i ≡ 0)
  group_written = let s = partly (words_of f b) (omega arith) in
      (s.w, s.draft, s.pieces, s.tables, s.top, s.path, subst (AllByRecursion (λ (y : Piece). first_of f y < entry_first f p (number + words_of f b))) (sym s.pieces) s.behind, s.zeros)
