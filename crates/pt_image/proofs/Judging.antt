-- The walk finds entries good or bad, one after the other.
use Rattle.std.proofs.Common.{◌≡◌, ◌≢◌, inl, ⊎_elim, ℕ, ◌+◌, ◌-◌, ◌*◌, ◌^◌, ◌<◌, ◌≤◌, List, [], ◌∷◌, ◌++◌, refl, sym, ap, ◌∙◌, subst, arith, append_assoc}
use Rattle.std.specs.Prelude.{None, Some}
use Rattle.std.proofs.lemmas.List.{append-nil}
use Rattle.std.proofs.lemmas.Nat.{pow_pos}
use mathlib.Core.Logic.{dite}
use native.Mathlib.Decide.{ℕ_discrete}
use Rattle.pt_model.specs.declared.block.Block.{Block}
use Rattle.pt_model.specs.Layout.{Layout, input_pages, level_of_size, pages_of_entry}
use Rattle.pt_model.specs.Words.{frame_address, frame_limit, tag}
use Rattle.pt_format.specs.Laws.{IsLayout, WordsDiffer}
use Rattle.pt_format.specs.Manual.{StepsAgree}
use Rattle.pt_format.specs.Words.{IsTableLevel}
use Rattle.pt_view.specs.Calls.{entry_first}
use Rattle.pt_view.specs.Pieces.{words_of}
use Rattle.pt_image.specs.Bytes.{entry_at}
use Rattle.pt_image.specs.Checks.{EndBefore, FindsGood, LeavesGood, RefusesFor, Sees, position_of, visits_of}
use Rattle.pt_image.specs.Order.{Visit, pointed, under}
use Rattle.pt_image.specs.Faults.{AreGood, HasBlockAt, HasFault, IsNamed, IsOfSpine, IsReached, NamesFirstBad}
use Rattle.pt_image.specs.declared.fault.EntryFault.{EntryFault}
use Rattle.pt_image.specs.declared.fault.ImageFault.{ImageFault}
use Rattle.pt_image.specs.declared.fault.ImageFault.TheVariants.{Entry}
use Rattle.pt_image.specs.declared.header.Header.{Header}
use Rattle.pt_image.specs.declared.table.Table.{Table}
use Rattle.pt_image.proofs.Firsts.{below, good_append, names_left, names_right, own_alone, own_table, reached_more, reached_now, reached_parts, visits_append, visits_none, visits_one}
use Rattle.pt_image.proofs.Goodness.{block_good, block_names, good_pointer, good_zero, leaf_apart, leaf_some, none_some, zero_points}
use Rattle.pt_image.proofs.OneBlock.{ends_begin, ends_copy, ends_pass, part_leaf}
use Rattle.pt_image.proofs.Pointing.{is_address}

some_same : {a b : ℕ} → Some a ≡ Some b → a ≡ b
some_same e = cc

module _ (f : Layout) (h : Header) (image : List ℕ) (t : Table) where
  abbrev pub visit_at : ℕ → Visit
  visit_at number = record { frame = t.frame; position = position_of t; number = number }

  abbrev vs : (number count : ℕ) → List Visit
  vs number count = visits_of f h image t number count

  -- an entry with a fault is the first bad one from it on
  pub bad_here : (before : List Visit) (number : ℕ) (e : EntryFault) → HasFault f h.frames h.levels image before (visit_at number) e →
      NamesFirstBad f h.frames h.levels image before (visits_of f h image t number 1) (Entry t.level t.base number e)
  bad_here before number e bad = (
    t.frame,
    record {
      done = [];
      rest = under (λ child. below f h.frames image t.level child (t.base + number * pages_of_entry f t.level)) (pointed f t.level h.frames (entry_at f image t.frame number));
      list_is = visits_one f h.frames image t.level t.frame t.base number;
      good = tt;
      bad = subst (λ (zs : List Visit). HasFault f h.frames h.levels image zs (visit_at number) e) (sym (append-nil before)) bad;
    },
  )

  parts_of : (number k : ℕ) → vs 0 (number + k) ≡ vs 0 number ++ vs number k
  parts_of number k = visits_append f h.frames image t.level t.frame t.base 0 number k ∙ ap (λ (j : ℕ). vs 0 number ++ vs j k) (let z : 0 + number ≡ number = omega arith in z)

  -- the first bad entry, behind good ones, is the first of the table
  pub bad_whole : (before : List Visit) (number : ℕ) (x : ImageFault) → number < 2 ^ f.index → AreGood f h.frames h.levels image before (visits_of f h image t 0 number) →
      NamesFirstBad f h.frames h.levels image (before ++ visits_of f h image t 0 number) (visits_of f h image t number 1) x →
      NamesFirstBad f h.frames h.levels image before (visits_of f h image t 0 (2 ^ f.index)) x
  bad_whole before number x lt good bad =
      let rest : ℕ = 2 ^ f.index - number - 1 in
      let all : 2 ^ f.index ≡ number + (1 + rest) = omega arith in
      let is : vs 0 (2 ^ f.index) ≡ vs 0 number ++ (vs number 1 ++ vs (number + 1) rest) =
      ap (vs 0) all ∙ parts_of number (1 + rest) ∙ ap (λ ys. vs 0 number ++ ys) (visits_append f h.frames image t.level t.frame t.base number 1 rest) in
      subst (λ (zs : List Visit). NamesFirstBad f h.frames h.levels image before zs x) (sym is)
      (names_right f h.frames h.levels image before (vs 0 number) (vs number 1 ++ vs (number + 1) rest) x good
      (names_left f h.frames h.levels image (before ++ vs 0 number) (vs number 1) (vs (number + 1) rest) x bad))

  pub leaves_begin : (words : List ℕ) → LeavesGood f h image words words t 0 0
  leaves_begin words before s =
      let none : vs 0 0 ≡ [] = visits_none f h.frames image t.level t.frame t.base 0 in
      record {
        good = subst (AreGood f h.frames h.levels image before) (sym none) tt;
        sees = subst (λ (zs : List Visit). Sees f h image words zs t 0) (sym (append-nil before) ∙ ap (λ zs. before ++ zs) (sym none)) s;
      }

  -- good entries behind good ones
  pub leaves_more : (words words' words'' : List ℕ) (number k : ℕ) → LeavesGood f h image words words' t 0 number → LeavesGood f h image words' words'' t number k →
      LeavesGood f h image words words'' t 0 (number + k)
  leaves_more words words' words'' number k a b before s =
      let x : FindsGood f h image words' before t 0 number = a before s in
      let from : 0 + number ≡ number = omega arith in
      let y : FindsGood f h image words'' (before ++ vs 0 number) t number k =
      b (before ++ vs 0 number) (subst (λ (j : ℕ). Sees f h image words' (before ++ vs 0 number) t j) from x.sees) in
      let all : number + k ≡ 0 + (number + k) = omega arith in
      let list : (before ++ vs 0 number) ++ vs number k ≡ before ++ vs 0 (number + k) = append_assoc before (vs 0 number) (vs number k) ∙ ap (λ zs. before ++ zs) (sym (parts_of number k)) in
      record {
        good = subst (AreGood f h.frames h.levels image before) (sym (parts_of number k)) (good_append f h.frames h.levels image before (vs 0 number) (vs number k) x.good y.good);
        sees = subst (λ (z : List Visit × ℕ). Sees f h image words'' z.0 t z.1) (λ i. (list i, all i)) y.sees;
      }

  -- entries that point nowhere, under which tags stay
  sees_alone : (words words' : List ℕ) (before xs : List Visit) (number number' : ℕ) → Sees f h image words before t number →
      ((g : ℕ) → g < h.frames → tag words' g ≡ tag words g) → ((g : ℕ) → ¬ IsNamed f h.frames h.levels image xs g) → EndBefore f image t.frame (position_of t) number' →
      Sees f h image words' (before ++ xs) t number'
  sees_alone words words' before xs number number' s same none ends = record {
    tagged = λ g lt some. reached_more f h.frames h.levels image before xs g (s.tagged g lt (λ e. some (same g lt ∙ e)));
    reached = λ g lt r e. ⊎_elim (λ a. s.reached g lt a (sym (same g lt) ∙ e)) (λ b. none g b) (reached_parts f h.frames h.levels image before xs g r);
    ends = ends;
  }

  module _ (good : IsLayout f) (differ : WordsDiffer f) (few : h.frames ≤ frame_limit f) where
    -- no block begins at an entry that is no leaf
    none_begins : (number : ℕ) → ((b : Block) → HasBlockAt f image t.frame (position_of t) number b → entry_at f image t.frame (number + 0) ≢ entry_at f image t.frame number) →
        (b : Block) → ¬ HasBlockAt f image t.frame (position_of t) number b
    none_begins number apart b x = apart b x (ap (entry_at f image t.frame) (let z : number + 0 ≡ number = omega arith in z))

    -- a zero entry that needn't be a pointer
    pub leaves_zero : (words : List ℕ) (number : ℕ) → t.level < f.levels → entry_at f image t.frame number ≡ 0 → ¬ IsOfSpine f h.frames h.levels image (visit_at number) →
        LeavesGood f h image words words t number 1
    leaves_zero words number below none off before s =
        let points : pointed f t.level h.frames (entry_at f image t.frame number) ≡ None = zero_points f differ h.frames few t.level (entry_at f image t.frame number) below none in
        let alone : vs number 1 ≡ visit_at number ∷ [] = visits_one f h.frames image t.level t.frame t.base number ∙ own_alone f h.frames image t.level t.frame t.base number points in
        let unnamed : (g : ℕ) → ¬ IsNamed f h.frames h.levels image (vs number 1) g =
        (λ g a. ⊎_elim (λ e. none_some (sym points ∙ e)) (λ x. x) (subst (λ (zs : List Visit). IsNamed f h.frames h.levels image zs g) alone a)) in
        let free : (b : Block) → ¬ HasBlockAt f image t.frame (position_of t) number b = none_begins number
        (λ b x e. leaf_some f differ h.frames few t.level (entry_at f image t.frame (number + 0)) b.log2 b.prot
        (part_leaf f good image t.frame (position_of t) number b x 0 (pow_pos (b.log2 - f.index * level_of_size f b.log2))) (e ∙ none)) in
        record {
          good = subst (AreGood f h.frames h.levels image before) (sym alone) (good_zero f differ h.frames few good h.levels image before (visit_at number) below none off, tt);
          sees = sees_alone words words before (vs number 1) number (number + 1) s (λ g lt. refl) unnamed (ends_pass f image t.frame (position_of t) number free s.ends);
        }

    -- the words of a block
    pub leaves_block : (agree : StepsAgree f) (words words' : List ℕ) (number count : ℕ) (b : Block) → f.start ≤ h.levels → HasBlockAt f image t.frame (position_of t) number b → words_of f b ≡ count →
        ((g : ℕ) → g < h.frames → tag words' g ≡ tag words g) → LeavesGood f h image words words' t number count
    leaves_block agree words words' number count b low x is same before s =
        let ends : EndBefore f image t.frame (position_of t) (number + count) =
        subst (λ (k : ℕ). EndBefore f image t.frame (position_of t) (number + k)) is (ends_copy f image t.frame (position_of t) good differ agree number b x s.ends) in
        record {
          good = block_good f differ h.frames few good h.levels image t.level t.frame t.base number b low x before count (omega arith);
          sees = sees_alone words words' before (vs number count) number (number + count) s same
              (block_names f differ h.frames few good h.levels image t.level t.frame t.base number b low x count (omega arith)) ends;
        }

    -- a pointer to a frame without a tag, which is linked then
    module _ (words linked : List ℕ) (number child : ℕ) (inside : entry_first f (position_of t) number < input_pages f) (high : IsTableLevel f t.level) (lt : child < h.frames)
        (is : entry_at f image t.frame number ≡ f.pointer t.level (frame_address f child)) (points : pointed f t.level h.frames (entry_at f image t.frame number) ≡ Some child)
        (free : tag words child ≡ 0) (new : tag linked child ≢ 0) (old : (g : ℕ) → g < h.frames → g ≢ child → tag linked g ≡ tag words g) where
      abbrev child_table : Table
      child_table = record { frame = child; level = t.level - 1; base = entry_first f (position_of t) number }

      abbrev inner : List Visit
      inner = visits_of f h image child_table 0 (2 ^ f.index)

      list_is : vs number 1 ≡ visit_at number ∷ inner
      list_is = visits_one f h.frames image t.level t.frame t.base number ∙ own_table f h.frames image t.level t.frame t.base number child (let a = high.above in omega arith) points

      module _ (before : List Visit) (s : Sees f h image words before t number) where
        unreached : ¬ IsReached f h.frames h.levels image before child
        unreached r = s.reached child lt r free

        sees_child : Sees f h image linked (before ++ visit_at number ∷ []) child_table 0
        sees_child = record {
          tagged = λ g few some. dite (ℕ_discrete g child)
              (λ e. reached_now f h.frames h.levels image before (visit_at number ∷ []) g (inl (points ∙ ap Some (sym e))))
              (λ ne. reached_more f h.frames h.levels image before (visit_at number ∷ []) g (s.tagged g few (λ e. some (old g few ne ∙ e))));
          reached = λ g few r e. ⊎_elim
              (λ a. s.reached g few a (sym (old g few (λ (z : g ≡ child). s.reached g few a (ap (tag words) z ∙ free))) ∙ e))
              (λ b. ⊎_elim (λ p. new (ap (tag linked) (some_same (sym points ∙ p)) ∙ e)) (λ x. x) b)
              (reached_parts f h.frames h.levels image before (visit_at number ∷ []) g r);
          ends = ends_begin f image child (position_of child_table);
        }

        entry_good : AreGood f h.frames h.levels image before (visit_at number ∷ [])
        entry_good = (good_pointer f differ h.frames few good h.levels image before (visit_at number) child inside high lt is points unreached, tt)

      pub refuses_table : (x : ImageFault) → RefusesFor f h image linked (record { frame = child; level = t.level - 1; base = entry_first f (position_of t) number }) 0 (2 ^ f.index) x →
          RefusesFor f h image words t number 1 x
      refuses_table x bad before s = subst (λ (zs : List Visit). NamesFirstBad f h.frames h.levels image before zs x) (sym list_is)
          (names_right f h.frames h.levels image before (visit_at number ∷ []) inner x (entry_good before s) (bad (before ++ visit_at number ∷ []) (sees_child before s)))

      pub leaves_table : (words'' : List ℕ) → LeavesGood f h image linked words'' (record { frame = child; level = t.level - 1; base = entry_first f (position_of t) number }) 0 (2 ^ f.index) →
          LeavesGood f h image words words'' t number 1
      leaves_table words'' leaves before s =
          let x : FindsGood f h image words'' (before ++ visit_at number ∷ []) child_table 0 (2 ^ f.index) = leaves (before ++ visit_at number ∷ []) (sees_child before s) in
          let list : (before ++ visit_at number ∷ []) ++ inner ≡ before ++ vs number 1 = append_assoc before (visit_at number ∷ []) inner ∙ ap (λ zs. before ++ zs) (sym list_is) in
          let bare : (b : Block) → ¬ HasBlockAt f image t.frame (position_of t) number b = none_begins number
          (λ b y e. leaf_apart f differ h.frames few t.level (entry_at f image t.frame (number + 0)) b.log2 (frame_address f child) b.prot
          (part_leaf f good image t.frame (position_of t) number b y 0 (pow_pos (b.log2 - f.index * level_of_size f b.log2)))
          (record { at_level = high; a_frame = is_address f child (omega arith); word_is = e ∙ is })) in
          record {
            good = subst (AreGood f h.frames h.levels image before) (sym list_is) ((entry_good before s).0, x.good);
            sees = record {
              tagged = λ g lt some. subst (λ (zs : List Visit). IsReached f h.frames h.levels image zs g) list (x.sees.tagged g lt some);
              reached = λ g lt r. x.sees.reached g lt (subst (λ (zs : List Visit). IsReached f h.frames h.levels image zs g) (sym list) r);
              ends = ends_pass f image t.frame (position_of t) number bare s.ends;
            };
          }
