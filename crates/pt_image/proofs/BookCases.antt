-- Cases of the book of an image, in the small format of the other cases.
use Rattle.std.proofs.Common.{◌≡◌, ◌⊎◌, inl, inr, ℕ, zero, suc, ◌+◌, ◌-◌, ◌*◌, ◌/◌, ◌<◌, List, [], ◌∷◌, refl, sym, ap, ◌∙◌, subst, arith}
use Rattle.std.specs.Prelude.{Some, slice_index_or}
use Rattle.std.proofs.lemmas.Bool.{false≢true}
use Rattle.std.proofs.lemmas.Nat.{pow_pos}
use Rattle.pt_model.specs.declared.block.Block.{Block}
use Rattle.pt_model.specs.declared.position.Position.{Position}
use Rattle.pt_model.specs.Book.{Book}
use Rattle.pt_model.specs.Tables.{child_at}
use Rattle.pt_image.specs.Books.{BeginsBlock, HasTable, IsImageBook, IsVisited}
use Rattle.pt_image.specs.Bytes.{entry_at, number_at}
use Rattle.pt_image.specs.Faults.{all_visits, target}
use Rattle.pt_image.specs.Order.{Visit}
use Rattle.pt_image.proofs.ImageCases.{at, has_pair, leaf_of_pair, none_some, one_pointer, pair_at, pair_in, small, to}

-- a block of two words begins at the first of them, and so is one of the book
begins : BeginsBlock small 2 2 (pair_in leaf_of_pair) (pair_at 2 4)
unfolding number_at
begins = record { entry = at 1 0 0 2; visited = inr (inr (inr (inl refl))); has = has_pair }

abbrev lowest_table : Position
lowest_table = record { level = 0; base = 0 }

-- the root's entry 0 points to a table: it is one of the book, unless the space started with a table of that level at page 0
tables : HasTable small 2 2 one_pointer lowest_table × ¬ HasTable small 2 1 one_pointer lowest_table
unfolding number_at
tables = (
  record { entry = at 0 1 0 0; visited = inl refl; frame = 1; points = refl; at = refl; off_spine = refl },
  (λ h. false≢true (sym h.off_spine)),
)

-- THE WHOLE BOOK of that image: no block, and the one table

abbrev seen : List Visit
seen = all_visits small 2 2 one_pointer

-- the entries are zero but for the pointer
abbrev IsWord : Visit → Type 0
IsWord v = (entry_at small one_pointer v.frame v.number ≡ 0) ⊎ (entry_at small one_pointer v.frame v.number ≡ to 1)

words_are : (v : Visit) → IsVisited seen v → IsWord v
unfolding number_at
words_are v (inl e) = subst IsWord e (inr refl)
words_are v (inr (inl e)) = subst IsWord e (inl refl)
words_are v (inr (inr (inl e))) = subst IsWord e (inl refl)
words_are v (inr (inr (inr (inl e)))) = subst IsWord e (inl refl)
words_are v (inr (inr (inr (inr (inl e))))) = subst IsWord e (inl refl)
words_are v (inr (inr (inr (inr (inr (inl e)))))) = subst IsWord e (inl refl)
words_are v (inr (inr (inr (inr (inr (inr (inl e))))))) = subst IsWord e (inl refl)
words_are v (inr (inr (inr (inr (inr (inr (inr (inl e)))))))) = subst IsWord e (inl refl)
words_are v (inr (inr (inr (inr (inr (inr (inr (inr nowhere)))))))) = absurd nowhere

no_block : (b : Block) → ¬ BeginsBlock small 2 2 one_pointer b
no_block b h =
    let v = h.entry in
    let here : v.number + 0 ≡ v.number = omega arith in
    let word : entry_at small one_pointer v.frame v.number ≡ b.out * 64 + b.log2 * 8 + 2 =
    ap (entry_at small one_pointer v.frame) (sym here) ∙ h.has.words 0 (pow_pos (b.log2 - 2 * (b.log2 / 2))) in
    elim (words_are v h.visited) [
      | inl none ↦ (let e : 0 ≡ b.out * 64 + b.log2 * 8 + 2 = sym none ∙ word in omega arith)
      | inr pointer ↦ (let e : to 1 ≡ b.out * 64 + b.log2 * 8 + 2 = sym pointer ∙ word in omega arith)
    ]

-- what an entry points to is that table
abbrev PointsThere : Visit → Type 0
PointsThere v = (frame : ℕ) → target small 2 2 one_pointer v ≡ Some frame → child_at small v.position v.number ≡ lowest_table

points_there : (v : Visit) → IsVisited seen v → PointsThere v
unfolding number_at
points_there v (inl e) = subst PointsThere e (λ frame is. refl)
points_there v (inr (inl e)) = subst PointsThere e (λ frame is. absurd (none_some is))
points_there v (inr (inr (inl e))) = subst PointsThere e (λ frame is. absurd (none_some is))
points_there v (inr (inr (inr (inl e)))) = subst PointsThere e (λ frame is. absurd (none_some is))
points_there v (inr (inr (inr (inr (inl e))))) = subst PointsThere e (λ frame is. absurd (none_some is))
points_there v (inr (inr (inr (inr (inr (inl e)))))) = subst PointsThere e (λ frame is. absurd (none_some is))
points_there v (inr (inr (inr (inr (inr (inr (inl e))))))) = subst PointsThere e (λ frame is. absurd (none_some is))
points_there v (inr (inr (inr (inr (inr (inr (inr (inl e)))))))) = subst PointsThere e (λ frame is. absurd (none_some is))
points_there v (inr (inr (inr (inr (inr (inr (inr (inr nowhere)))))))) = absurd nowhere

the_one : (p : Position) (k : ℕ) → k < 1 → slice_index_or (lowest_table ∷ []) k p ≡ p → lowest_table ≡ p
the_one p zero lt e = e
the_one p (suc k) lt e = absurd (omega arith)

abbrev book_with : (tables : List Position) → (top : ℕ) → Book
book_with tables top = record { first = 0; count = 16; blocks = []; tables = tables; top = top }

one_table : IsImageBook small 2 2 one_pointer (book_with (lowest_table ∷ []) 1)
unfolding number_at
one_table = record {
  first_is = refl;
  count_is = refl;
  blocks_are = λ b. ((λ c. let lt = c.1 in absurd (omega arith)), (λ h. absurd (no_block b h)));
  blocks_in_order = λ i j d less inside. absurd (omega arith);
  tables_are = λ p. (
    (λ c. subst (HasTable small 2 2 one_pointer) (the_one p c.0 c.1 c.2) tables.0),
    (λ h. (0, omega arith, sym (points_there h.entry h.visited h.frame h.points) ∙ h.at)),
  );
  tables_in_order = λ i j d less inside. absurd (omega arith);
  top_is = refl;
}

-- another top, or no table, is no book of it
others : ¬ IsImageBook small 2 2 one_pointer (book_with (lowest_table ∷ []) 2) × ¬ IsImageBook small 2 2 one_pointer (book_with [] 1)
unfolding number_at
others = ((λ x. let e : 2 ≡ 1 = x.top_is in omega arith), (λ x. let c = (x.tables_are lowest_table).1 tables.0 in let lt = c.1 in absurd (omega arith)))
