-- The way of a walk, step by step.
use Rattle.std.proofs.Common.{◌≡◌, ℕ, ◌+◌, ◌-◌, ◌*◌, ◌/◌, ◌^◌, ◌<◌, ◌≤◌, min, List, [], ◌∷◌, ◌++◌, refl, ap, sym, ◌∙◌, subst, arith, length-append}
use Rattle.std.specs.Prelude.{length, filter, Contains}
use Rattle.std.proofs.lemmas.Nat.{pow_pos, shr_split}
use Rattle.arrayvec.specs.ArrayVec.{ArrayVec}
use Rattle.pt_model.specs.declared.position.Position.{Position}
use Rattle.pt_model.specs.declared.block.Block.{Block}
use Rattle.pt_model.specs.Layout.{Layout, end_of, input_pages, pages_of_entry, pages_of_table}
use Rattle.pt_model.specs.Tables.{position_over, spine_position}
use Rattle.pt_model.specs.Book.{Book, IsLawful}
use Rattle.pt_format.specs.Laws.{IsLayout}
use Rattle.pt_view.specs.declared.view.View.{View}
use Rattle.pt_view.specs.declared.view.Node.{Node}
use Rattle.pt_view.specs.declared.view.Piece.{Piece}
use Rattle.pt_view.specs.declared.holder.Seen.{Seen}
use Rattle.pt_view.specs.declared.holder.Seen.TheVariants.{Empty, Leaf, Entered}
use Rattle.pt_view.specs.Pieces.{IsOneOf, words_of}
use Rattle.pt_view.specs.Loads.{ByLoads}
use Rattle.pt_view.proofs.Loads.{IsLoad, leaf_loads, load_leaf, load_none, loads_left, none_loads, root_loads, table_high, table_loads, table_path}
use Rattle.pt_view.proofs.Paths.{front_snoc}
use Rattle.pt_view.proofs.Members.{in_blocks}
use Rattle.pt_view.specs.Views.{IsAtRest, book_of}
use Rattle.pt_view.specs.Calls.{Rooted, left, all_but_last}
use Rattle.pt_walk.specs.declared.way.Way.{Way}
use Rattle.pt_walk.specs.Walks.{IsClear, IsFound, IsOverRange, OwnsAll, Rests}
use Rattle.pt_walk.specs.RangeWalks.{Begins, HasBook, HasTable, HasTables, IsBlockOf, IsOnWay, IsWalking, is_left, left_of, rested}
use Rattle.pt_model.proofs.Quotients.{entry_is_table, root_over, same_quotient}
use Rattle.pt_model.proofs.Positions.{same_position}
use Rattle.pt_view.proofs.Pieces.{page_in_block}
use Rattle.pt_walk.proofs.Cuts.{next_stop, pages_few}
use Rattle.pt_walk.proofs.Descent.{leaf_found, own_piece, owns_on}
use Rattle.pt_walk.proofs.Ranges.{clear_below, clear_from, clear_root, free_here}
use Rattle.pt_walk.proofs.Books.{block_found, owns_all}
use Rattle.pt_walk.proofs.LeftBlocks.{found_left, free_left}
use Rattle.pt_walk.proofs.WalkTables.{Last, begins_less, begins_more, table_end, table_over, tables_last, tables_on, tables_snoc}

-- The book of a view on the way.

pub rest_on : (f : Layout) (tells : Type 0) (v w : View) (blocks : List Block) → ByLoads tells v w → IsAtRest f (rested v) blocks → IsAtRest f (rested w) blocks
rest_on f tells v w blocks k r = record { path = refl; prepared = k.prepared ∙ r.prepared; end = k.purse.end ∙ r.end; pieces = k.book.pieces ∙ r.pieces }

pub rest_here : (f : Layout) (v : View) (blocks : List Block) → IsAtRest f v blocks → IsAtRest f (rested v) blocks
rest_here f v blocks r = record { path = refl; prepared = r.prepared; end = r.end; pieces = r.pieces }

rest_back : (f : Layout) (tells : Type 0) (v w : View) (blocks : List Block) → ByLoads tells v w → IsAtRest f (rested w) blocks → IsAtRest f (rested v) blocks
rest_back f tells v w blocks k r = record { path = refl; prepared = sym k.prepared ∙ r.prepared; end = sym k.purse.end ∙ r.end; pieces = sym k.book.pieces ∙ r.pieces }

pub book_on : (f : Layout) (tells : Type 0) (v w : View) → ByLoads tells v w → HasBook f v → HasBook f w
book_on f tells v w k b = record {
  levels = let a = b.levels in let e = k.range.levels in omega arith;
  rests = (b.rests.0, rest_on f tells v w b.rests.0 k b.rests.1);
  lawful = λ blocks r.
      let same : book_of v blocks ≡ book_of w blocks = λ i. record { first = sym k.range.first i; count = sym k.range.count i; blocks = blocks; tables = sym k.book.tables i; top = sym k.book.top i } in
      subst (λ (l : ℕ). IsLawful f l (book_of w blocks)) (sym k.range.levels)
      (subst (λ (b' : Book). IsLawful f v.levels b') same (b.lawful blocks (rest_back f tells v w blocks k r)));
}

-- at rest
pub book_here : (f : Layout) (v : View) → f.start ≤ v.levels → Rests f v → ((blocks : List Block) → IsAtRest f v blocks → IsLawful f v.levels (book_of v blocks)) → HasBook f v
book_here f v levels rests lawful = record {
  levels = levels;
  rests = (rests.0, rest_here f v rests.0 rests.1);
  lawful = λ blocks r. lawful blocks (record { path = rests.1.path; prepared = r.prepared; end = r.end; pieces = r.pieces });
}

pub owns_of : (f : Layout) → IsLayout f → (v : View) → HasBook f v → OwnsAll f v
owns_of f good v b =
    owns_on f {v = rested v} {w = v} (record { frames = refl; levels = refl; first = refl; count = refl }) (record { pieces = refl; tables = refl; top = refl })
    (owns_all f good (rested v) b.rests.0 b.levels b.rests.1 (b.lawful b.rests.0 b.rests.1))

-- Steps of the way.

-- a load that kept the path, and then pages that are gone through
pub way_on : (f : Layout) (tells : Type 0) (v w : View) (way : Way) (next : ℕ) → ByLoads tells v w → w.path ≡ v.path → way.at ≤ next → IsOnWay f v way → IsOnWay f w (record way { at = next })
way_on f tells v w way next k path on o = record {
  few = o.few;
  begins = o.begins;
  tables = subst (λ (xs : List Node). HasTables f w next way.end way.level (way.above.items ++ way.to ∷ []) xs) (sym path)
      (tables_on f v w way.at next way.end way.level k.book on (way.above.items ++ way.to ∷ []) v.path o.tables);
  in_space = o.in_space;
  from = let a = o.from in let e = k.range.first in omega arith;
  inside = let a = o.inside in let e = k.range.first in let c = k.range.count in omega arith;
  book = book_on f tells v w k o.book;
}

-- the last table is left
pub way_up : (f : Layout) (tells : Type 0) (v w : View) (way : Way) (rest : ArrayVec ℕ) (to : ℕ) → w ≡ left v → way.above.items ≡ rest.items ++ to ∷ [] → IsOnWay f v way →
    IsOnWay f w (record way { level = way.level + 1; to = to; above = rest })
way_up f tells v w way rest to e items o =
    let l : Last f v way.at way.end way.level way.above.items way.to v.path = tables_last f v way.at way.end way.level way.to way.above.items v.path o.tables in
    let k : ByLoads tells v w = loads_left e in
    let path : w.path ≡ l.nodes = ap (λ (y : View). y.path) e ∙ ap all_but_last l.path_is ∙ front_snoc l.nodes l.node in
    let many : length way.above.items ≡ length (rest.items ++ to ∷ []) = ap length items in
    let more = length-append rest.items (to ∷ []) in
    let few = o.few in
    record {
      few = omega arith;
      begins = begins_less way.end to way.to rest.items (subst (λ (xs : List ℕ). Begins way.end (xs ++ way.to ∷ [])) items o.begins);
      tables = subst (λ (xs : List Node). HasTables f w way.at way.end (way.level + 1) (rest.items ++ to ∷ []) xs) (sym path)
          (tables_on f v w way.at way.at way.end (way.level + 1) k.book (omega arith) (rest.items ++ to ∷ []) l.nodes
          (subst (λ (xs : List ℕ). HasTables f v way.at way.end (way.level + 1) xs l.nodes) items l.above));
      in_space = o.in_space;
      from = let a = o.from in let x = k.range.first in omega arith;
      inside = let a = o.inside in let x = k.range.first in let c = k.range.count in omega arith;
      book = book_on f tells v w k o.book;
    }

-- the range under the entry over the next page
pub next_range : {f : Layout} {v : View} {way : Way} → IsLayout f → IsWalking f v way → way.at < way.end → (stop next : ℕ) →
    stop ≡ min ((way.at / pages_of_entry f way.level + 1) * pages_of_entry f way.level) (2 ^ 63) → next ≡ min stop way.to →
    IsOverRange f v way.at next way.level × (next ≤ way.to) × (next ≤ (way.at / pages_of_entry f way.level + 1) * pages_of_entry f way.level)
next_range {f} {v} {way} good walking more stop next stops is =
    let on : IsOnWay f v way = walking.way in
    let last : Last f v way.at way.end way.level way.above.items way.to v.path = tables_last f v way.at way.end way.level way.to way.above.items v.path on.tables in
    let here : way.at < way.to = walking.here more in
    let ahead = next_stop f good way.at way.to way.level stop next stops is here (let a = on.in_space in let b = last.table.within in omega arith) in
    let few = on.few in
    let end = table_end f v way.at way.end way.level way.to last.node last.table here in
    let within = last.table.within in
    let space = on.in_space in let from = on.from in let inside = on.inside in (
      record {
        below = omega arith;
        over = table_over f v way.at way.end way.level way.to last.node last.table here last.nodes last.path_is;
        some = ahead.0;
        under = let high = ahead.1 in omega arith;
        in_space = let high = ahead.1 in omega arith;
        from = from;
        to = let high = ahead.1 in omega arith;
      },
      ahead.1,
      ahead.2,
    )

-- the load of the entry over the next page; the pages to before `next` are under it
pub record IsStep (f : Layout) (tells alone : Type 0) (v : View) (way : Way) (next : ℕ) (seen : Seen) (w : View) : Type 0 where
  pub walking : IsWalking f v way
  pub more : way.at < way.end
  pub range : IsOverRange f v way.at next way.level
  pub to : next ≤ way.to
  pub one : next ≤ (way.at / pages_of_entry f way.level + 1) * pages_of_entry f way.level
  pub load : IsLoad f tells alone v way.at way.level seen w

module _ {f : Layout} (good : IsLayout f) {tells alone : Type 0} {v : View} {way : Way} {next : ℕ} {seen : Seen} {w : View} (s : IsStep f tells alone v way next seen w) where
  on : IsOnWay f v way
  on = s.walking.way

  last : Last f v way.at way.end way.level way.above.items way.to v.path
  last = tables_last f v way.at way.end way.level way.to way.above.items v.path on.tables

  owns : OwnsAll f v
  owns = owns_of f good v on.book

  clear : IsClear f v way.at next way.level
  clear = clear_from f v way.at way.to way.at next way.level last.table.clear (omega arith) s.to

  -- it was zero
  pub way_empty : seen ≡ Empty → IsOnWay f w (record way { at = next })
  way_empty e = way_on f tells v w way next (none_loads s.load e) (load_none s.load e).path (let a = s.range.some in omega arith) on

  pub left_empty : seen ≡ Empty → (blocks : List Block) → IsAtRest f (rested v) blocks → left_of way blocks ≡ filter (is_left next way.end) blocks
  left_empty e blocks rest =
      free_left f good v blocks rest way.at next way.end (free_here good s.range s.one s.load e owns clear) (let a = s.range.some in omega arith)

  -- it was the word of a block
  module _ {word : ℕ} (e : seen ≡ Leaf word) where
    pub found : IsFound f v way.at way.level word
    found = leaf_found good owns s.load e

    abbrev pub the_block : Block
    the_block = found.piece.block

    pub is_block : IsBlockOf f way.level word way.at the_block
    is_block = block_found f good v way.at way.level word owns found

    pub block_low : the_block.first ≤ way.at
    block_low = let a = found.has_page.0 in omega arith

    pub block_high : way.at < end_of the_block
    block_high = page_in_block good (own_piece (owns found.piece found.own)) found.has_page

    pub block_few : end_of the_block ≤ 2 ^ 52
    block_few = let a = (owns found.piece found.own).legal.in_input in let b = pages_few f good in omega arith

    pub way_leaf : (block : Block) → block ≡ the_block → IsOnWay f w (record way { at = end_of block })
    way_leaf block same = subst (λ (b : Block). IsOnWay f w (record way { at = end_of b })) (sym same)
        (way_on f tells v w way (end_of the_block) (leaf_loads s.load e) (load_leaf s.load e).path (let a = block_high in omega arith) on)

    pub left_leaf : (block : Block) → block ≡ the_block → (blocks : List Block) → IsAtRest f (rested v) blocks → left_of way blocks ≡ block ∷ filter (is_left (end_of block) way.end) blocks
    left_leaf block same blocks rest =
        let i : Contains blocks the_block × (found.piece.part < words_of f the_block) = in_blocks f blocks found.piece (subst (λ (xs : List Piece). IsOneOf xs found.piece) rest.pieces found.own) in
        subst (λ (b : Block). left_of way blocks ≡ b ∷ filter (is_left (end_of b) way.end) blocks) (sym same)
        (found_left way.at way.end blocks the_block i.0.0 (on.book.lawful blocks rest).in_order i.0.1 i.0.2 block_low block_high s.more)

  -- it was a pointer
  module _ (e : seen ≡ Entered) where
    step_high : 0 < way.level
    step_high = table_high s.load e

    step_entered : ByLoads tells v w
    step_entered = table_loads s.load e

    down : (frame : ℕ) × (w.path ≡ v.path ++ record { frame = frame; position = position_over f way.at (way.level - 1) } ∷ [])
    down = table_path s.load e

    new_table : HasTable f w way.at way.end (way.level - 1) next (record { frame = down.0; position = position_over f way.at (way.level - 1) })
    new_table =
        let some = s.range.some in let high = s.to in let one = s.one in
        let within = last.table.within in
        let size : pages_of_entry f way.level ≡ pages_of_table f (way.level - 1) = entry_is_table f way.level step_high in
        let stop' : (way.at / pages_of_entry f way.level + 1) * pages_of_entry f way.level ≡ (way.at / pages_of_table f (way.level - 1) + 1) * pages_of_table f (way.level - 1) = ap (λ x. (way.at / x + 1) * x) size in
        let same : (next - 1) / pages_of_table f (way.level - 1) ≡ way.at / pages_of_table f (way.level - 1) = same_quotient way.at (next - 1) (f.index * (way.level - 1 + 1)) (omega arith) (omega arith) in
        let base : (next - 1) / pages_of_table f (way.level - 1) * pages_of_table f (way.level - 1) ≡ way.at / pages_of_table f (way.level - 1) * pages_of_table f (way.level - 1) = ap (λ q. q * pages_of_table f (way.level - 1)) same in
        let split = shr_split way.at (f.index * (way.level - 1 + 1)) in
        record {
          is = same_position (position_over f way.at (way.level - 1)) (position_over f (next - 1) (way.level - 1)) refl (sym base);
          from = omega arith;
          within = omega arith;
          clear = clear_below good s.range s.one s.load e owns clear;
        }

    pub way_entered : (above : ArrayVec ℕ) → above.items ≡ way.above.items ++ way.to ∷ [] → IsWalking f w (record way { level = way.level - 1; to = next; above = above })
    way_entered above items =
        let k = step_entered in
        let few = on.few in
        let high = step_high in
        let many : length above.items ≡ length (way.above.items ++ way.to ∷ []) = ap length items in
        let more' = length-append way.above.items (way.to ∷ []) in
        let up : way.level ≡ way.level - 1 + 1 = omega arith in
        let old : HasTables f w way.at way.end (way.level - 1 + 1) (way.above.items ++ way.to ∷ []) v.path =
        subst (λ (l : ℕ). HasTables f w way.at way.end l (way.above.items ++ way.to ∷ []) v.path) up
        (tables_on f v w way.at way.at way.end way.level k.book (omega arith) (way.above.items ++ way.to ∷ []) v.path on.tables) in
        let all : HasTables f w way.at way.end (way.level - 1) ((way.above.items ++ way.to ∷ []) ++ next ∷ []) (v.path ++ record { frame = down.0; position = position_over f way.at (way.level - 1) } ∷ []) =
        tables_snoc f w way.at way.end (way.level - 1) next _ (way.above.items ++ way.to ∷ []) v.path old new_table in
        record {
          way = record {
            few = omega arith;
            begins = subst (λ (xs : List ℕ). Begins way.end (xs ++ next ∷ [])) (sym items) (begins_more way.end way.to next way.above.items on.begins);
            tables = subst (λ (xs : List Node). HasTables f w way.at way.end (way.level - 1) (above.items ++ next ∷ []) xs) (sym down.1)
                (subst (λ (xs : List ℕ). HasTables f w way.at way.end (way.level - 1) (xs ++ next ∷ []) (v.path ++ record { frame = down.0; position = position_over f way.at (way.level - 1) } ∷ [])) (sym items) all);
            in_space = on.in_space;
            from = let a = on.from in let x = k.range.first in omega arith;
            inside = let a = on.inside in let x = k.range.first in let c = k.range.count in omega arith;
            book = book_on f tells v w k on.book;
          };
          here = λ _. s.range.some;
        }

-- The way begins at the root.
pub begun : (f : Layout) → IsLayout f → (tells alone : Type 0) (v w : View) (way : Way) → Rooted f tells alone v way.level w → HasBook f v →
    way.above.items ≡ [] → way.to ≡ way.end → way.end ≤ pages_of_table f way.level → v.first ≤ way.at → way.end ≤ v.first + v.count → way.end ≤ input_pages f → IsWalking f w way
begun f good tells alone v w way rooted book none same under from inside in_space =
    let k : ByLoads tells v w = root_loads rooted in
    let b : HasBook f w = book_on f tells v w k book in
    let top : w.top ≤ way.level = (let r = rooted.reaches in let e = rooted.book.top in omega arith) in
    let owns : OwnsAll f w = owns_of f good w b in
    let last : way.to - 1 < pages_of_table f way.level = (let p = pow_pos (f.index * (way.level + 1)) in omega arith) in
    let place : spine_position way.level ≡ position_over f (way.to - 1) way.level = root_over f (way.to - 1) way.level last in
    let level : way.level ≡ way.level + 0 = omega arith in
    let table : HasTable f w way.at way.end way.level way.to (record { frame = rooted.path.0; position = spine_position way.level }) = record {
      is = place;
      from = (let e : 0 ≡ (position_over f (way.to - 1) way.level).base = ap (λ (p : Position). p.base) place in omega arith);
      within = omega arith;
      clear = clear_root f w way.at way.to way.level owns top;
    } in
    let tables : HasTables f w way.at way.end way.level (way.to ∷ []) w.path = subst (λ (xs : List Node). HasTables f w way.at way.end way.level (way.to ∷ []) xs) (sym rooted.path.1)
    (subst (λ (l : ℕ). HasTable f w way.at way.end l way.to (record { frame = rooted.path.0; position = spine_position way.level })) level table, tt) in
    record {
      way = record {
        few = (let a = rooted.legal in let e : length way.above.items ≡ 0 = ap length none in omega arith);
        begins = subst (λ (xs : List ℕ). Begins way.end (xs ++ way.to ∷ [])) (sym none) same;
        tables = subst (λ (xs : List ℕ). HasTables f w way.at way.end way.level (xs ++ way.to ∷ []) w.path) (sym none) tables;
        in_space = in_space;
        from = let e = k.range.first in omega arith;
        inside = let e = k.range.first in let c = k.range.count in omega arith;
        book = b;
      };
      here = λ less. omega arith;
    }
