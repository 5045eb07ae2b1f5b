-- Lists of entries: the first bad one of two lists behind each other, and the frames to which the entries of both point.
use Rattle.std.proofs.Common.{◌≡◌, ◌⊎◌, inl, inr, ⊎_elim, ℕ, zero, suc, ◌+◌, ◌-◌, ◌*◌, ◌^◌, ◌<◌, List, [], ◌∷◌, ◌++◌, refl, sym, ap, ◌∙◌, subst, arith, append_assoc}
use Rattle.std.specs.Prelude.{flat_map, Option, None, Some}
use Rattle.std.specs.List.{range_with_len}
use Rattle.std.proofs.lemmas.Grind.{flat_map-append}
use Rattle.std.proofs.lemmas.List.{append-nil}
use Rattle.pt_model.specs.Layout.{Layout, pages_of_entry}
use Rattle.pt_image.specs.Bytes.{entry_at}
use Rattle.pt_image.specs.Order.{Visit, pointed, under, visits, with_table}
use Rattle.pt_image.specs.Faults.{AreGood, HasFault, IsFirstBad, IsNamed, IsReached, NamesFirstBad}
use Rattle.pt_image.specs.declared.fault.EntryFault.{EntryFault}
use Rattle.pt_image.specs.declared.fault.ImageFault.{ImageFault}
use Rattle.pt_image.specs.declared.fault.ImageFault.TheVariants.{Truncated, Header, Root, Entry, Stray}

module _ (f : Layout) (n l : ℕ) (image : List ℕ) where
  pub good_append : (before xs ys : List Visit) → AreGood f n l image before xs → AreGood f n l image (before ++ xs) ys → AreGood f n l image before (xs ++ ys)
  good_append before [] ys a b = subst (λ (zs : List Visit). AreGood f n l image zs ys) (append-nil before) b
  good_append before (x ∷ xs) ys a b =
      (a.0, good_append (before ++ x ∷ []) xs ys a.1 (subst (λ (zs : List Visit). AreGood f n l image zs ys) (sym (append_assoc before (x ∷ []) xs)) b))

  first_right : (before xs ys : List Visit) (v : Visit) (e : EntryFault) → AreGood f n l image before xs → IsFirstBad f n l image (before ++ xs) ys v e →
      IsFirstBad f n l image before (xs ++ ys) v e
  first_right before xs ys v e a r = record {
    done = xs ++ r.done;
    rest = r.rest;
    list_is = ap (λ zs. xs ++ zs) r.list_is ∙ sym (append_assoc xs r.done (v ∷ r.rest));
    good = good_append before xs r.done a r.good;
    bad = subst (λ (zs : List Visit). HasFault f n l image zs v e) (append_assoc before xs r.done) r.bad;
  }

  first_left : (before xs ys : List Visit) (v : Visit) (e : EntryFault) → IsFirstBad f n l image before xs v e → IsFirstBad f n l image before (xs ++ ys) v e
  first_left before xs ys v e r = record {
    done = r.done;
    rest = r.rest ++ ys;
    list_is = ap (λ zs. zs ++ ys) r.list_is ∙ append_assoc r.done (v ∷ r.rest) ys;
    good = r.good;
    bad = r.bad;
  }

  -- the first bad entry of the later list, behind a good one
  pub names_right : (before xs ys : List Visit) (x : ImageFault) → AreGood f n l image before xs → NamesFirstBad f n l image (before ++ xs) ys x → NamesFirstBad f n l image before (xs ++ ys) x
  names_right before xs ys (Truncated have want) a r = r
  names_right before xs ys (Header offset) a r = r
  names_right before xs ys Root a r = r
  names_right before xs ys (Entry level base index e) a r =
      (r.0, first_right before xs ys (record { frame = r.0; position = record { level = level; base = base }; number = index }) e a r.1)
  names_right before xs ys (Stray frame index) a r = r

  -- the first bad entry of the earlier list
  pub names_left : (before xs ys : List Visit) (x : ImageFault) → NamesFirstBad f n l image before xs x → NamesFirstBad f n l image before (xs ++ ys) x
  names_left before xs ys (Truncated have want) r = r
  names_left before xs ys (Header offset) r = r
  names_left before xs ys Root r = r
  names_left before xs ys (Entry level base index e) r =
      (r.0, first_left before xs ys (record { frame = r.0; position = record { level = level; base = base }; number = index }) e r.1)
  names_left before xs ys (Stray frame index) r = r

  named_left : (xs ys : List Visit) (g : ℕ) → IsNamed f n l image xs g → IsNamed f n l image (xs ++ ys) g
  named_left [] ys g a = absurd a
  named_left (x ∷ xs) ys g (inl here) = inl here
  named_left (x ∷ xs) ys g (inr more) = inr (named_left xs ys g more)

  named_right : (xs ys : List Visit) (g : ℕ) → IsNamed f n l image ys g → IsNamed f n l image (xs ++ ys) g
  named_right [] ys g a = a
  named_right (x ∷ xs) ys g a = inr (named_right xs ys g a)

  pub named_parts : (xs ys : List Visit) (g : ℕ) → IsNamed f n l image (xs ++ ys) g → IsNamed f n l image xs g ⊎ IsNamed f n l image ys g
  named_parts [] ys g a = inr a
  named_parts (x ∷ xs) ys g (inl here) = inl (inl here)
  named_parts (x ∷ xs) ys g (inr more) = ⊎_elim (λ a. inl (inr a)) (λ b. inr b) (named_parts xs ys g more)

  pub reached_more : (before xs : List Visit) (g : ℕ) → IsReached f n l image before g → IsReached f n l image (before ++ xs) g
  reached_more before xs g (inl root) = inl root
  reached_more before xs g (inr a) = inr (named_left before xs g a)

  pub reached_now : (before xs : List Visit) (g : ℕ) → IsNamed f n l image xs g → IsReached f n l image (before ++ xs) g
  reached_now before xs g a = inr (named_right before xs g a)

  pub reached_parts : (before xs : List Visit) (g : ℕ) → IsReached f n l image (before ++ xs) g → IsReached f n l image before g ⊎ IsNamed f n l image xs g
  reached_parts before xs g (inl root) = inl (inl root)
  reached_parts before xs g (inr a) = ⊎_elim (λ b. inl (inr b)) (λ c. inr c) (named_parts before xs g a)

-- The visits of a table in parts.
module _ (f : Layout) (n : ℕ) (image : List ℕ) where
  -- the entries of a table one level down
  abbrev pub below : (level child first : ℕ) → List Visit
  below zero child first = []
  below (suc level) child first = visits f n image level child first 0 (2 ^ f.index)

  -- the visits that an entry makes
  abbrev pub own : (level frame base number : ℕ) → List Visit
  own level frame base number = with_table f n image (below level) level frame base number

  all_own : (level frame base number count : ℕ) → visits f n image level frame base number count ≡ flat_map (own level frame base) (range_with_len number count)
  all_own zero frame base number count = refl
  all_own (suc level) frame base number count = refl

  range_append : (a m k : ℕ) → range_with_len a (m + k) ≡ range_with_len a m ++ range_with_len (a + m) k
  range_append a zero k = (λ i. range_with_len ((let z : a ≡ a + 0 = omega arith in z) i) ((let z : 0 + k ≡ k = omega arith in z) i))
  range_append a (suc m) k =
      ap (range_with_len a) (let z : suc m + k ≡ suc (m + k) = omega arith in z) ∙ ap (λ xs. a ∷ xs) (range_append (a + 1) m k)
      ∙ ap (λ j. a ∷ (range_with_len (a + 1) m ++ range_with_len j k)) (let z : a + 1 + m ≡ a + suc m = omega arith in z)

  pub visits_append : (level frame base number m k : ℕ) →
      visits f n image level frame base number (m + k) ≡ visits f n image level frame base number m ++ visits f n image level frame base (number + m) k
  visits_append level frame base number m k =
      all_own level frame base number (m + k) ∙ ap (flat_map (own level frame base)) (range_append number m k)
      ∙ flat_map-append (own level frame base) (range_with_len number m) (range_with_len (number + m) k)
      ∙ (λ i. sym (all_own level frame base number m) i ++ sym (all_own level frame base (number + m) k) i)

  pub visits_one : (level frame base number : ℕ) → visits f n image level frame base number 1 ≡ own level frame base number
  visits_one level frame base number = all_own level frame base number 1 ∙ append-nil (own level frame base number)

  pub visits_none : (level frame base number : ℕ) → visits f n image level frame base number 0 ≡ []
  visits_none level frame base number = all_own level frame base number 0

  -- an entry that points nowhere is visited alone
  pub own_alone : (level frame base number : ℕ) → pointed f level n (entry_at f image frame number) ≡ None →
      own level frame base number ≡ record { frame = frame; position = record { level = level; base = base }; number = number } ∷ []
  own_alone level frame base number none =
      ap (λ (o : Option ℕ). record { frame = frame; position = record { level = level; base = base }; number = number } ∷ under (λ child. below level child (base + number * pages_of_entry f level)) o) none

  below_is : (level child first : ℕ) → 0 < level → below level child first ≡ visits f n image (level - 1) child first 0 (2 ^ f.index)
  below_is zero child first some = absurd (omega arith)
  below_is (suc level) child first some = ap (λ (k : ℕ). visits f n image k child first 0 (2 ^ f.index)) (let z : level ≡ suc level - 1 = omega arith in z)

  -- a pointer is visited, and then its table
  pub own_table : (level frame base number child : ℕ) → 0 < level → pointed f level n (entry_at f image frame number) ≡ Some child →
      own level frame base number ≡ record { frame = frame; position = record { level = level; base = base }; number = number }
      ∷ visits f n image (level - 1) child (base + number * pages_of_entry f level) 0 (2 ^ f.index)
  own_table level frame base number child some is =
      ap (λ (o : Option ℕ). record { frame = frame; position = record { level = level; base = base }; number = number } ∷ under (λ child. below level child (base + number * pages_of_entry f level)) o) is
      ∙ ap (λ xs. record { frame = frame; position = record { level = level; base = base }; number = number } ∷ xs) (below_is level child (base + number * pages_of_entry f level) some)
