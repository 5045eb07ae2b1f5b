-- Parts of an extent are filled one after the other, and each under an entry from the table below.
use Rattle.std.proofs.Common.{◌≡◌, ℕ, ◌+◌, ◌-◌, ◌*◌, ◌/◌, ◌<◌, ◌≤◌, List, [], ◌∷◌, ◌++◌, length, false, inl, inr, refl, ap, sym, ◌∙◌, subst, arith, append_assoc, length-append}
use Rattle.std.specs.Prelude.{◌⊎◌, ◌↔◌, map, max}
use Rattle.std.proofs.lemmas.Bool.{cases_Bool, cases_eq, false≢true}
use Rattle.std.proofs.lemmas.List.{append-nil, map-append}
use Rattle.std.proofs.Math.Nat.{div-mul-le_self}
use Rattle.pt_model.specs.declared.position.Position.{Position}
use Rattle.std.proofs.lemmas.List.Sums.{fold-append}
use Rattle.pt_model.specs.declared.block.Block.{Block}
use Rattle.pt_model.specs.Layout.{end_of, Layout, level_of_size, pages_of_table}
use Rattle.pt_model.specs.Sets.{IsSorted, IsAmong}
use Rattle.pt_model.specs.Tables.{all_needed, end_of_table, is_spine, least_top, position_over, spine_position}
use Rattle.pt_model.proofs.Positions.{sorted_add, added_are, among_one}
use Rattle.pt_model.proofs.Quotients.{entry_is_table}
use Rattle.pt_format.specs.Laws.{IsLayout}
use Rattle.pt_view.specs.declared.view.View.{View}
use Rattle.pt_view.specs.declared.view.Node.{Node}
use Rattle.pt_view.specs.declared.view.Piece.{Piece}
use Rattle.pt_view.specs.declared.view.Change.{Change}
use Rattle.pt_view.specs.declared.view.Change.TheVariants.{Written}
use Rattle.pt_view.specs.Pieces.{IsOneOf, add_pieces, all_pieces, pieces_of, words_of, entry_number}
use Rattle.pt_view.proofs.Stays.{range_on}
use Rattle.pt_view.proofs.Loads.{absences_on, absences_here}
use Rattle.pt_view.proofs.Paths.{front_snoc}
use Rattle.pt_view.proofs.Members.{all_pieces_append, in_block, one_of_either}
use Rattle.pt_view.specs.Calls.{left, pieces_at, with_table, all_but_last}
use Rattle.pt_tile.specs.declared.extent.Extent.{Extent}
use Rattle.pt_map.specs.Filled.{Filled, HasNoPiece, HasRoom, IsDeeper, IsTableIn, MayStore, MayGoInto, next_table, top_with}
use Rattle.pt_tile.proofs.FirstParts.{block_left, block_right, cut_part, cut_step, first_block, first_from, first_level, first_split, first_to, low_after, rest_part, tile_of}
use Rattle.pt_map.proofs.NeededTables.{needs_append, needs_over, needs_page, over_needed, below_has, has_below}
use Rattle.pt_map.proofs.PiecesAdded.{add_append, at_adds}
use Rattle.pt_map.proofs.FramesSpent.{room_part}
use Rattle.pt_map.proofs.BlockWords.{past_elsewhere, more}
use Rattle.pt_map.specs.Stands.{IsEntryExtent}
use Rattle.pt_tile.specs.Extents.{IsExtent, IsFirstTo, IsOneBlock, first_size, tables_below, tables_of, tiles, up_to, from}
use Rattle.pt_map.proofs.TopsOver.{top_below_root}
use Rattle.pt_map.proofs.StandAfter.{Keeps, keeps_here, stands_inside, stands_moves}

-- What blocks need, of which those of a part come last.
module _ (f : Layout) (x z : Extent) (xs : List Block) (split : tiles f x ≡ xs ++ tiles f z) where
  pub needs_parts : (p : Position) → IsAmong (tables_of f x) p ↔ (IsAmong (all_needed f f.levels xs) p ⊎ IsAmong (tables_of f z) p)
  needs_parts p = subst (λ (bs : List Block). IsAmong (all_needed f f.levels bs) p ↔ (IsAmong (all_needed f f.levels xs) p ⊎ IsAmong (tables_of f z) p)) (sym split) (needs_append f f.levels xs (tiles f z) p)

  pub below_rest : (level : ℕ) (p : Position) → IsAmong (tables_below f z level) p → IsAmong (tables_below f x level) p
  below_rest level p h = let r = has_below f level z p h in below_has f level x p ((needs_parts p).1 (inr r.0)) r.1

-- what was filled is kept
pub filled_keeps : {f : Layout} {tells : Type 0} {v w : View} {blocks : List Block} {needed : List Position} → Filled f tells v w blocks needed → Keeps v w
filled_keeps filled = record { range = filled.range; prepared = filled.prepared; known = λ l low h. filled.known (spine_position l) h }

-- Filling goes on.
pub filled_none : (f : Layout) (tells : Type 0) (v : View) → Filled f tells v v [] []
filled_none f tells v = record {
  range = record { frames = refl; levels = refl; first = refl; count = refl };
  path = refl;
  prepared = refl;
  end = refl;
  top = refl;
  pieces = refl;
  tables = λ p. ((λ h. inl h), (λ h. elim h [ inl old ↦ old | inr new ↦ absurd (let n = new.0 in omega arith) ]));
  in_order = λ s. s;
  busy = λ x. ((λ h. h), (λ h. h));
  known = λ p h. h;
  told = λ t. (refl, sym (append-nil v.stores));
  absent = λ t. absences_here refl;
}

pub filled_on : (f : Layout) (tells : Type 0) (u v w : View) (xs ys : List Block) (ps qs all : List Position) → ((p : Position) → IsAmong all p ↔ (IsAmong ps p ⊎ IsAmong qs p)) →
    Filled f tells u v xs ps → Filled f tells v w ys qs → Filled f tells u w (xs ++ ys) all
filled_on f tells u v w xs ys ps qs all join a b = record {
  range = range_on a.range b.range;
  path = b.path ∙ a.path;
  prepared = b.prepared ∙ a.prepared;
  end = b.end ∙ a.end;
  top = b.top ∙ (λ i. top_with f (a.range.levels i) (a.top i) ys) ∙ sym (fold-append (λ (t : ℕ) (b : Block). max t (least_top f u.levels (end_of b))) u.top xs ys);
  pieces = b.pieces ∙ ap (λ (old : List Piece). add_pieces f old (all_pieces f ys)) a.pieces ∙ sym (add_append f u.pieces (all_pieces f xs) (all_pieces f ys))
      ∙ ap (add_pieces f u.pieces) (sym (all_pieces_append f xs ys));
  tables = λ p.
      let spine : is_spine v.levels p ≡ is_spine u.levels p = ap (λ (n : ℕ). is_spine n p) a.range.levels in (
        (λ h. elim ((b.tables p).0 h) [
          | inl before ↦ elim ((a.tables p).0 before) [ inl old ↦ inl old | inr one ↦ inr ((join p).1 (inl one.0), one.1) ]
          | inr two ↦ inr ((join p).1 (inr two.0), sym spine ∙ two.1)
        ]),
        (λ h. elim h [
          | inl old ↦ (b.tables p).1 (inl ((a.tables p).1 (inl old)))
          | inr new ↦ elim ((join p).0 new.0) [
            | inl one ↦ (b.tables p).1 (inl ((a.tables p).1 (inr (one, new.1))))
            | inr two ↦ (b.tables p).1 (inr (two, spine ∙ new.1))
          ]
        ]),
      );
  in_order = λ s. b.in_order (a.in_order s);
  busy = λ x. ((λ h. (a.busy x).0 ((b.busy x).0 h)), (λ h. (b.busy x).1 ((a.busy x).1 h)));
  known = λ p h. b.known p (a.known p h);
  told = λ t. (
    (b.told t).0 ∙ (a.told t).0,
    (b.told t).1 ∙ ap (λ (cs : List Change). cs ++ map Written (all_pieces f ys)) (a.told t).1 ∙ append_assoc u.stores (map Written (all_pieces f xs)) (map Written (all_pieces f ys))
        ∙ ap (λ (cs : List Change). u.stores ++ cs) (sym (map-append Written (all_pieces f xs) (all_pieces f ys)) ∙ ap (map Written) (sym (all_pieces_append f xs ys))),
  );
  absent = λ t. absences_on (a.absent t) (b.absent t);
}

-- a piece of a list's is one of a block of it
in_pieces : (f : Layout) (bs : List Block) (x : Piece) → IsOneOf (all_pieces f bs) x → IsOneBlock bs x.block × (x.part < words_of f x.block)
in_pieces f [] x h = absurd h
in_pieces f (b ∷ bs) x h = elim (one_of_either (pieces_of f b) (all_pieces f bs) x h) [
  | inl here ↦ (let r = in_block f b x here in (inl r.0, r.1))
  | inr later ↦ (let r = in_pieces f bs x later in (inr r.0, r.1))
]

-- a page is not below the first page of the table over it
base_low : (f : Layout) (page level : ℕ) → (position_over f page level).base ≤ page
base_low f page level = div-mul-le_self page (pages_of_table f level)

-- A part of what may be stored, whose blocks are among those of the whole.
module _ {f : Layout} (good : IsLayout f) {v : View} {x : Extent} {level : ℕ} (may : MayStore f v x level) {y : Extent} (part : IsExtent f y) (from_it : x.first ≤ y.first) (to_it : y.end ≤ x.end)
    (low : first_size f y < f.index * (level + 1)) (among : (b : Block) → IsOneBlock (tiles f y) b → IsOneBlock (tiles f x) b) where
  pub may_part : MayStore f v y level
  may_part = record {
    stands = stands_moves good may.stands part from_it to_it low (keeps_here v) refl may.stands.high;
    no_piece = λ page high after before. may.no_piece page high (omega arith) (omega arith);
    no_table = λ p h c m. may.no_table p h c (among c m);
  }

-- The first part of what may be stored, and what is left of it then.
module _ {f : Layout} (good : IsLayout f) {v : View} {x : Extent} {level : ℕ} (may : MayStore f v x level) (to : ℕ) (is : IsFirstTo f level x to) where
  abbrev first : Extent
  first = up_to x to

  starts : x.first < to
  starts = first_from good may.stands.at.extent level to is

  ends : to ≤ x.end
  ends = first_to good may.stands.at.extent level to is

  split : tiles f x ≡ tiles f first ++ tiles f (from x to)
  split = first_split good may.stands.at.extent level to is

  pub may_first : MayStore f v first level
  may_first =
      let a = starts in
      let b = ends in
      may_part good may (cut_part good may.stands.at.extent to a b) (omega arith) b
      (let s = cut_step good may.stands.at.extent to a b in let l = may.stands.at.low in omega arith)
      (λ c m. subst (λ (bs : List Block). IsOneBlock bs c) (sym split) (block_left (tiles f first) (tiles f (from x to)) c m))

  module _ {tells : Type 0} {w : View} (filled : Filled f tells v w (tiles f first) (tables_of f first)) (after : to < x.end) where
    no_piece_rest : HasNoPiece f w to x.end
    no_piece_rest page high low before =
        let a = starts in
        ap (pieces_at f (position_over f page high) (entry_number f high page)) filled.pieces
        ∙ at_adds f (position_over f page high) (entry_number f high page) (all_pieces f (tiles f first)) v.pieces (λ y m.
        let r = in_pieces f (tiles f first) y m in
        let t = tile_of good may_first.stands.at.extent y.block r.0 in
        past_elsewhere good y.block t.legal (level_of_size f y.block.log2) refl y.part page high r.1 (let e = t.to in omega arith))
        ∙ may.no_piece page high (omega arith) before

    no_table_rest : (p : Position) → IsAmong w.tables p → (c : Block) → IsOneBlock (tiles f (from x to)) c → ¬ IsTableIn f c p
    no_table_rest p h c m = λ inside. elim ((filled.tables p).0 h) [
      | inl old ↦ may.no_table p old c (subst (λ (bs : List Block). IsOneBlock bs c) (sym split) (block_right (tiles f first) (tiles f (from x to)) c m)) inside
      | inr new ↦
          let a = starts in
          let r = needs_page good may_first.stands.at.extent p new.0 in
          let base : p.base ≤ r.0 = subst (λ (q : Position). q.base ≤ r.0) r.4 (base_low f r.0 p.level) in
          let t = tile_of good (rest_part good may.stands.at.extent to (omega arith) after) c m in
          (let b = r.2 in let e = t.from in let i = inside.1 in omega arith)
    ]

    pub may_rest : MayStore f w (from x to) level
    may_rest =
        let a = starts in
        let extent = may.stands.at.extent in
        record {
          stands = stands_moves good may.stands (rest_part good extent to (omega arith) after) (omega arith) (let z : x.end ≤ x.end = omega arith in z)
              (low_after good extent level to may.stands.at.range.under a after) (filled_keeps filled) filled.path
              (let low = top_below_root f v.levels v.top (length v.path + level) x.end (tiles f first) may.stands.high may.stands.reach
              (λ b m. let t = (tile_of good may_first.stands.at.extent b m).to in let e = ends in omega arith) in let top = filled.top in omega arith);
          no_piece = no_piece_rest;
          no_table = no_table_rest;
        }

-- a table that was linked is one of the tables, unless it is of the spine
with_are : (levels : ℕ) (tables : List Position) (q p : Position) → IsAmong (with_table levels tables q) p ↔ (IsAmong tables p ⊎ ((p ≡ q) × (is_spine levels p ≡ false)))
with_are levels tables q p = elim (cases_Bool (is_spine levels q)) [
  | inl spine ↦ rw spine ((λ h. inl h), (λ h. elim h [ inl old ↦ old | inr new ↦ absurd (false≢true (sym new.1 ∙ ap (is_spine levels) new.0 ∙ spine)) ]))
  | inr off ↦ rw off (let a = added_are tables q p in (
    (λ h. elim (a.0 h) [ inl old ↦ inl old | inr same ↦ inr (same, ap (is_spine levels) same ∙ off) ]),
    (λ h. a.1 (elim h [ inl old ↦ inl old | inr new ↦ inr new.0 ])),
  ))
]

with_sorted : (levels : ℕ) (tables : List Position) (q : Position) → IsSorted tables → IsSorted (with_table levels tables q)
with_sorted levels tables q s = elim (cases_Bool (is_spine levels q)) [ inl spine ↦ rw spine s | inr off ↦ rw off (sorted_add tables q s) ]

-- An extent under one entry is filled from the table below.
module _ {f : Layout} (good : IsLayout f) {v : View} {x : Extent} {level : ℕ} (may : MayStore f v x level) (entry : IsEntryExtent f x level) where
  pub some_level : 0 < level
  some_level = let h = first_level good may.stands.at.extent level entry.lower in omega arith

  pub may_into : MayGoInto f v x.first level
  may_into =
      let r = may.stands.at.range in
      let some = r.some in
      record {
        high = some_level;
        below = r.below;
        a_page = let input = r.in_space in omega arith;
        in_span = (r.from, let to = r.to in omega arith);
        over = r.over;
        no_piece = may.no_piece x.first level (omega arith) some;
        none = may.stands.none;
      }

  abbrev next : Position
  next = next_table f x.first level

  next_needed : IsAmong (tables_of f x) next
  next_needed = over_needed good may.stands.at.extent (level - 1) (let some = some_level in let e : level ≡ level - 1 + 1 = omega arith in subst (λ (k : ℕ). first_size f x < f.index * k) e entry.lower) (let b = may.stands.at.range.below in omega arith)

  pub next_below : IsAmong (tables_below f x level) next
  next_below = below_has f level x next next_needed (let some = some_level in omega arith)

  pub room_into : (lacking : List Position) → HasRoom v (tables_below f x level) lacking → HasRoom v (next ∷ []) lacking
  room_into lacking room = room_part v (tables_below f x level) (next ∷ []) lacking (λ p h. subst (IsAmong (tables_below f x level)) (sym (among_one p next h)) next_below) room

  pub below_inside : (p : Position) → IsAmong (tables_below f x (level - 1)) p → IsAmong (tables_below f x level) p
  below_inside p h = let r = has_below f (level - 1) x p h in below_has f level x p r.0 (let low = r.1 in omega arith)

  under_next : x.end ≤ end_of_table f next
  under_next =
      let one = subst (λ (t : ℕ). x.end ≤ (x.first / t + 1) * t) (entry_is_table f level some_level) entry.one in
      omega arith

  pub below_cases : (p : Position) → IsAmong (tables_below f x level) p → (p ≡ next) ⊎ IsAmong (tables_below f x (level - 1)) p
  below_cases p h =
      let r = has_below f level x p h in
      elim (cases_eq p.level (level - 1)) [
        | inl at ↦ inl (sym (needs_over good may.stands.at.extent (level - 1) under_next p r.0 (omega arith)) ∙ ap (position_over f x.first) at)
        | inr lower ↦ inr (below_has f (level - 1) x p r.0 (let low = r.1 in omega arith))
      ]

  -- no block of it has words in a table above the next one
  next_outside : (b : Block) → IsOneBlock (tiles f x) b → ¬ IsTableIn f b next
  next_outside b m = λ inside.
      let t = tile_of good may.stands.at.extent b m in
      let from = t.from in
      let low = base_low f x.first (level - 1) in
      let base = inside.1 in
      let size = first_block good may.stands.at.extent b m (omega arith) in
      let small = first_level good may.stands.at.extent level entry.lower in
      let same : level_of_size f b.log2 ≡ level_of_size f (first_size f x) = ap (level_of_size f) size in
      let high = inside.0 in omega arith

  module _ {tells : Type 0} {w : View} (deeper : IsDeeper f tells v w x.first level) where
    tables_deeper : (p : Position) → IsAmong w.tables p → IsAmong v.tables p ⊎ ((p ≡ next) × (is_spine v.levels p ≡ false))
    tables_deeper p h = elim deeper.tables [
      | inl same ↦ inl (subst (λ (ps : List Position). IsAmong ps p) same h)
      | inr more ↦ (with_are v.levels v.tables next p).0 (subst (λ (ps : List Position). IsAmong ps p) more h)
    ]

    pub tables_old : (p : Position) → IsAmong v.tables p → IsAmong w.tables p
    tables_old p h = elim deeper.tables [
      | inl same ↦ subst (λ (ps : List Position). IsAmong ps p) (sym same) h
      | inr more ↦ subst (λ (ps : List Position). IsAmong ps p) (sym more) ((with_are v.levels v.tables next p).1 (inl h))
    ]

    pub tables_sorted : IsSorted v.tables → IsSorted w.tables
    tables_sorted s = elim deeper.tables [ inl same ↦ subst IsSorted (sym same) s | inr more ↦ subst IsSorted (sym more) (with_sorted v.levels v.tables next s) ]

    abbrev node : Node
    node = record { frame = deeper.path.0; position = next }

    pub may_inside : MayStore f w x (level - 1)
    may_inside = record {
      stands = stands_inside good may.stands entry (record { range = deeper.range; prepared = deeper.prepared; known = λ l low h. (deeper.known (spine_position l)).1 (inr h) })
          node refl deeper.path.1 (let high = may.stands.high in let top = deeper.top in omega arith);
      no_piece = λ page higher low before. ap (pieces_at f (position_over f page higher) (entry_number f higher page)) deeper.pieces ∙ may.no_piece page higher low before;
      no_table = λ p h c m. elim (tables_deeper p h) [
        | inl old ↦ may.no_table p old c m
        | inr new ↦ (λ inside. next_outside c m (subst (IsTableIn f c) new.0 inside))
      ];
    }

    -- the table below was filled, and is left
    module _ {u : View} (filled : Filled f tells w u (tiles f x) (tables_of f x)) where
      pub may_leave : 0 < length u.path
      may_leave =
          let e : length u.path ≡ length (v.path ++ node ∷ []) = ap length (filled.path ∙ deeper.path.1) in
          let a = length-append v.path (node ∷ []) in omega arith

      pub filled_left : Filled f tells v (left u) (tiles f x) (tables_of f x)
      filled_left = record {
        range = (let r = range_on deeper.range filled.range in record { frames = r.frames; levels = r.levels; first = r.first; count = r.count });
        path = ap all_but_last (filled.path ∙ deeper.path.1) ∙ front_snoc v.path node;
        prepared = filled.prepared ∙ deeper.prepared;
        end = filled.end ∙ deeper.end;
        top = filled.top ∙ (λ i. top_with f (deeper.range.levels i) (deeper.top i) (tiles f x));
        pieces = filled.pieces ∙ ap (λ (old : List Piece). add_pieces f old (all_pieces f (tiles f x))) deeper.pieces;
        tables = λ p.
            let spine : is_spine w.levels p ≡ is_spine v.levels p = ap (λ (n : ℕ). is_spine n p) deeper.range.levels in (
              (λ h. elim ((filled.tables p).0 h) [
                | inl before ↦ elim (tables_deeper p before) [
                  | inl old ↦ inl old
                  | inr new ↦ inr (subst (IsAmong (tables_of f x)) (sym new.0) next_needed, new.1)
                ]
                | inr now ↦ inr (now.0, sym spine ∙ now.1)
              ]),
              (λ h. elim h [
                | inl old ↦ (filled.tables p).1 (inl (tables_old p old))
                | inr now ↦ (filled.tables p).1 (inr (now.0, spine ∙ now.1))
              ]),
            );
        in_order = λ s. filled.in_order (tables_sorted s);
        busy = λ y. ((λ h. (deeper.busy y).0 ((filled.busy y).0 h)), (λ h. (filled.busy y).1 ((deeper.busy y).1 h)));
        known = λ p h. filled.known p ((deeper.known p).1 (inr h));
        told = λ t. (
          (filled.told t).0 ∙ (deeper.told t).0,
          (filled.told t).1 ∙ ap (λ (cs : List Change). cs ++ map Written (all_pieces f (tiles f x))) (deeper.told t).1,
        );
        absent = λ t. let a = absences_on (deeper.absent t) (filled.absent t) in record { facts = a.facts; are = a.are };
      }

      pub knows_left : ((p : Position) → IsAmong (tables_below f x (level - 1)) p → IsAmong u.known p) → (p : Position) → IsAmong (tables_below f x level) p → IsAmong u.known p
      knows_left knows p h = elim (below_cases p h) [
        | inl same ↦ subst (IsAmong u.known) (sym same) (filled.known next ((deeper.known next).1 (inl refl)))
        | inr lower ↦ knows p lower
      ]
