-- The blocks of a view at rest are read from its pieces.
use Rattle.std.proofs.Common.{◌≡◌, ◌<◌, ℕ, suc, zero, ◌+◌, ◌∷◌, ◌++◌, [], List, Bool, true, false, refl, ap, sym, ◌∙◌, subst, arith}
use Rattle.std.specs.Prelude.{map, ◌==◌, if◌then◌else◌}
use Rattle.std.specs.List.{range_with_len}
use Rattle.std.proofs.lemmas.Bool.{ne_eqb}
use Rattle.std.proofs.lemmas.Nat.{pow_pos}
use Rattle.pt_model.specs.declared.block.Block.{Block}
use Rattle.pt_model.specs.Layout.{Layout}
use Rattle.pt_view.specs.declared.view.View.{View}
use Rattle.pt_view.specs.declared.view.Piece.{Piece}
use Rattle.pt_view.specs.Pieces.{all_pieces, pieces_of, words_of}
use Rattle.pt_view.specs.Views.{IsAtRest}
use Rattle.pt_view.specs.Calls.{IsReleased}
use Rattle.pt_model.specs.declared.command.What.TheVariants.{Release}
use Rattle.pt_model.specs.declared.reply.Answer.TheVariants as answering
use Rattle.pt_reply.specs.Built.{machine}
use Rattle.pt_reply.specs.Running.{AnswersAs, IsReady, blocks_of}

-- a piece's block is put before others, where the piece is its block's first word
put_block : (b : Bool) (x : Piece) (old new all : List Block) → all ≡ old ++ new → (if b then x.block ∷ all else all) ≡ (if b then x.block ∷ old else old) ++ new
put_block true x old new all e = ap (λ (bs : List Block). x.block ∷ bs) e
put_block false x old new all e = e

blocks_of_append : (xs ys : List Piece) → blocks_of (xs ++ ys) ≡ blocks_of xs ++ blocks_of ys
blocks_of_append [] ys = refl
blocks_of_append (x ∷ xs) ys = put_block (x.part == 0) x (blocks_of xs) (blocks_of ys) (blocks_of (xs ++ ys)) (blocks_of_append xs ys)

skip_block : (t : Bool) (b : Block) (rest : List Block) → t ≡ false → rest ≡ [] → (if t then b ∷ rest else rest) ≡ []
skip_block t b rest e none = ap (λ (u : Bool). if u then b ∷ rest else rest) e ∙ none

-- the words of a block but the first have no block of their own
none_of_later : (b : Block) (from count : ℕ) → 0 < from → blocks_of (map (λ part. record { block = b; part = part }) (range_with_len from count)) ≡ []
none_of_later b from zero some = refl
none_of_later b from (suc count) some =
    skip_block (from == 0) b _ (ne_eqb from 0 (λ e. let x = e in omega arith)) (none_of_later b (from + 1) count (omega arith))

one_of_words : (b : Block) (count : ℕ) → 0 < count → blocks_of (map (λ part. record { block = b; part = part }) (range_with_len 0 count)) ≡ b ∷ []
one_of_words b zero some = absurd (omega arith)
one_of_words b (suc count) some = ap (λ (bs : List Block). b ∷ bs) (none_of_later b 1 count (omega arith))

blocks_back : (f : Layout) (bs : List Block) → blocks_of (all_pieces f bs) ≡ bs
blocks_back f [] = refl
blocks_back f (b ∷ bs) =
    blocks_of_append (pieces_of f b) (all_pieces f bs)
    ∙ ap (λ (xs : List Block). xs ++ blocks_of (all_pieces f bs)) (one_of_words b (words_of f b) (pow_pos _))
    ∙ ap (λ (xs : List Block). b ∷ xs) (blocks_back f bs)

pub blocks_are : (f : Layout) (v : View) (bs : List Block) → IsAtRest f v bs → blocks_of v.pieces ≡ bs
blocks_are f v bs rest = ap blocks_of rest.pieces ∙ blocks_back f bs

-- a holder at rest with some blocks is at rest with those that are read
pub ready_at : (f : Layout) (v : View) {bs : List Block} → IsAtRest f v bs → IsReady f v
ready_at f v {bs} rest = subst (IsAtRest f v) (sym (blocks_are f v bs rest)) rest

-- a release leaves the holder at rest, with the book that it had
pub released : (f : Layout) {tells : Type 0} (v w : View) → IsReady f v → IsReleased tells v w → AnswersAs f v w Release answering.Release
released f v w ready r =
    let e = r.freed in
    record {
      ready = ready_at f w {bs = blocks_of v.pieces} (record {
        path = e.path ∙ ready.path;
        prepared = e.prepared ∙ ready.prepared;
        end = e.end ∙ ready.end;
        pieces = e.book.pieces ∙ ready.pieces;
      });
      machine = λ i. machine f (e.range.levels i) (e.range.frames i);
      answers = refl;
      book = λ i. record {
        first = e.range.first i;
        count = e.range.count i;
        blocks = blocks_of (e.book.pieces i);
        tables = e.book.tables i;
        top = e.book.top i;
      };
    }
