-- The numbers of a block's line: its addresses, its bytes and its words.
use Rattle.std.proofs.Common.{◌≡◌, ℕ, ◌+◌, ◌-◌, ◌*◌, ◌%◌, ◌^◌, ◌<◌, Bool, List, [], ◌∷◌, inl, inr, refl, subst, arith}
use Rattle.std.specs.Prelude.{◌==◌, nat_lt, IsTrue}
use Rattle.std.specs.List.{list_all, list_any}
use Rattle.std.proofs.lemmas.Bool.{and_parts, cases_Bool, eqb-true, false≢true, ltb-true}
use Rattle.std.proofs.lemmas.Nat.{pow_pos, shl_whole}
use Rattle.pt_model.specs.declared.block.Block.{Block}
use Rattle.pt_model.specs.Layout.{Layout, input_pages, level_of_size, output_pages}
use Rattle.pt_model.specs.Text.{words_of}
use Rattle.pt_format.specs.Laws.{IsLayout}
use Rattle.pt_format.specs.Words.{MayBeLeaf}
use Rattle.pt_reply.specs.Telling.{IsListable, IsNameable}

-- what all of a list pass, one that is there passes
any_of_all : (p : ℕ → Bool) (ks : List ℕ) (k : ℕ) → IsTrue (list_any (λ j. j == k) ks) → IsTrue (list_all p ks) → IsTrue (p k)
any_of_all p [] k any all = absurd (false≢true any)
any_of_all p (j ∷ js) k any all = elim (cases_Bool (j == k)) [
  | inl same ↦ subst (λ n. IsTrue (p n)) (eqb-true j k same) (and_parts (p j) (list_all p js) all).0
  | inr other ↦ any_of_all p js k (rw other at any) (and_parts (p j) (list_all p js) all).1
]

-- the size of such a block is less than the space's
pub size_below : (f : Layout) (b : Block) → IsNameable f b → b.log2 + f.granule < f.input
size_below f b h = ltb-true (b.log2 + f.granule) f.input (any_of_all (λ k. nat_lt (k + f.granule) f.input) f.sizes b.log2 h.legal.a_size h.small)

-- it begins at a page of the space
pub begins_inside : (f : Layout) (b : Block) → IsNameable f b → b.first < input_pages f
begins_inside f b h = omega (arith, h.legal.in_input, pow_pos b.log2)

-- the bytes before its first output page fit 64 bits
pub output_fits : (f : Layout) → IsLayout f → (b : Block) → IsNameable f b → b.out * 2 ^ f.granule % 2 ^ 64 ≡ b.out * 2 ^ f.granule
output_fits f l b h =
    let within : b.out < output_pages f = omega (arith, h.legal.in_output, pow_pos b.log2) in
    shl_whole b.out (f.output - f.granule) f.granule 64 within (omega (arith, l.output_low, l.output_high, l.granule_high))

-- each of its words may be written
pub may_be_leaf : (f : Layout) → IsLayout f → (b : Block) → IsListable f b → (part : ℕ) → part < words_of f b → MayBeLeaf f (level_of_size f b.log2) b.log2 b.out b.prot part
may_be_leaf f l b h part within =
    let legal = h.nameable.legal in
    record {
      below = omega (arith, l.sizes_low b.log2 legal.a_size, l.start_high);
      a_size = legal.a_size;
      at_level = refl;
      aligned = legal.out_aligned;
      within = legal.in_output;
      stated = h.stated;
      a_part = within;
    }
