-- A lease unlinks a table: it loads the entry, stores zero there, and puts the child's frame into its purse.
use Rattle.std.proofs.Common.{◌≡◌, ℕ, ◌+◌, ◌<◌, ◌≤◌, ◌^◌, List, ◌∷◌, length, ap, sym, ◌∙◌, subst, arith, ⊎_elim}
use Rattle.std.specs.Prelude.{Option, None, Some, IsTrue}
use Rattle.std.proofs.lemmas.Bool.{false≢true}
use Rattle.pt_model.specs.declared.position.Position.{Position}
use Rattle.pt_model.specs.Layout.{Layout}
use Rattle.pt_model.specs.Sets.{IsAmong}
use Rattle.pt_model.specs.Tables.{child_at, is_spine}
use Rattle.pt_model.specs.Words.{frame_address, frame_named}
use Rattle.pt_format.specs.Words.{IsPointer}
use Rattle.pt_format.specs.Laws.{IsLayout, WordsDiffer}
use Rattle.pt_format.specs.Manual.{StepsAgree}
use Rattle.pt_view.specs.declared.view.View.{View}
use Rattle.pt_view.specs.declared.holder.Seen.TheVariants.{Entered}
use Rattle.pt_view.specs.Calls.{IsUnlinked, MayUnlink, UnlinkFinds}
use Rattle.pt_view.proofs.Loads as loads
use Rattle.pt_rule.specs.Tags.{first_or, held_word}
use Rattle.pt_rule.specs.Kinds.{IsLowestIn, May, after, look, unlink, unplace}
use Rattle.pt_rule.specs.Meets.{Always, Enters, IsWhole, Unlinks, out_of_child}
use Rattle.pt_rule.proofs.HolderFacts.{frame_back}
use Rattle.pt_rule.proofs.Laws.{unlink_meets}
use Rattle.pt_space.specs.Standing.{Fields, Shows, Stepped, cut_to}
use Rattle.pt_space.proofs.Showing.{cut_is, says, shows_purse}
use Rattle.pt_space.proofs.Nodes as nodes
use Rattle.pt_space.proofs.Purses.{same_rest}
use Rattle.pt_space.proofs.Takes.{frames_few}

module _ {f : Layout} (good : IsLayout f) (differ : WordsDiffer f) (agree : StepsAgree f) {n l : ℕ} {v : View} {o : Fields} (s : Shows f n l v o)
    {number frame : ℕ} (may : MayUnlink f (cut_to o.depth v) number) (low : IsLowestIn (cut_to o.depth v) frame) where
  abbrev cut : View
  cut = cut_to o.depth v

  pub may_look : May f n (look frame number) cut
  may_look = (unlink_meets f good differ agree n s.holds.limit cut frame number low may).0

  module _ {w : View} {found : ℕ} (t : Stepped f n l (look frame number) cut found w) where
    abbrev meets : Unlinks f n cut frame number found
    meets = (unlink_meets f good differ agree n s.holds.limit cut frame number low may).1 found t.tells

    abbrev pub pointer : (address : ℕ) × IsPointer f o.level found address
    pointer = (frame_address f meets.child, subst (λ (j : ℕ). IsPointer f j found (frame_address f meets.child)) (nodes.level_is good s may.entry) (meets.pointer may.position may.entry))

    pub may_unlink : May f n (unlink frame number) w
    may_unlink = subst (May f n (unlink frame number)) (sym t.is) meets.may_unlink

    -- over a lone holder it is one of the book's tables
    pub found_own : UnlinkFinds f (IsWhole f cut) number cut
    found_own = λ alone p entry.
        let e : Enters f may.position number cut found w = says s good differ agree may_look t may.position may.entry in
        let read : IsPointer f may.position.level found (frame_address f meets.child) = meets.pointer may.position may.entry in
        let looked = loads.found f Always (IsWhole f cut) cut may.position number Entered w ((e.pointer (frame_address f meets.child) read).0.looked may.position may.entry) in
        ⊎_elim (λ (there : IsAmong cut.tables (child_at f may.position number)). subst (λ (q : Position). IsAmong cut.tables (child_at f q number)) (nodes.same_place may.entry entry) there)
        (λ (spine : IsTrue (is_spine cut.levels (child_at f may.position number))). absurd (false≢true (sym may.bare.off_spine ∙ spine))) (looked.owned alone)

    -- The entry is zero, and the child is prepared.
    module _ {w' : View} (t' : (zeroed : ℕ) × Stepped f n l (unlink frame number) w zeroed w') (x : ℕ) (x_is : x ≡ frame_named f pointer.0) where
      abbrev out : View
      out = out_of_child f frame number found t'.0 cut

      out_is : w' ≡ out
      out_is = t'.1.is ∙ ap (after f (unlink frame number) t'.0) t.is

      child_is : x ≡ meets.child
      child_is = x_is ∙ frame_back f meets.child

      pub may_unplace : May f n (unplace x) w'
      may_unplace = subst (λ (y : ℕ). May f n (unplace y) w') (sym child_is) (subst (May f n (unplace meets.child)) (sym out_is) (meets.may_unplace t'.0))

      pub child_within : x < n
      child_within = t'.1.holds.prepared_within (record { frame = x; position = may_unplace.0; bridge = None }) may_unplace.1

      first_said : IsUnlinked f Always number cut (after f (unplace meets.child) 0 out)
      first_said = meets.unlinked t'.0 0

      purse_kept : w'.purse ≡ v.purse
      purse_kept = ap (λ (u : View). u.purse) out_is ∙ same_rest meets.child first_said.purse.0 out.purse cut.purse first_said.purse.1

      pub puts : held_word (first_or w'.end w'.purse) ≡ held_word o.head
      puts = ap held_word ((λ i. first_or (ap (λ (u : View). u.end) out_is i) (purse_kept i)) ∙ ap (λ (e : Option ℕ). first_or e v.purse) (first_said.end ∙ s.end) ∙ s.head)

      -- The child's frame is the first of the purse.
      module _ {last : View} (t'' : (was : ℕ) × Stepped f n l (unplace x) w' was last) where
        said : IsUnlinked f Always number cut last
        said = subst (IsUnlinked f Always number cut) (sym (t''.1.is ∙ (λ i. after f (unplace (child_is i)) t''.0 (out_is i)))) (meets.unlinked t'.0 t''.0)

        purse_now : last.purse ≡ x ∷ v.purse
        purse_now = ap (λ (u : View). u.purse) t''.1.is ∙ ap (λ (xs : List ℕ). x ∷ xs) purse_kept

        pub unlinked_room : o.held + 1 ≤ 2 ^ 15
        unlinked_room = let a = t''.1.holds.few in let b = ap length purse_now in let m = s.holds.limit in let q = frames_few f good in let h = s.held in omega arith

        pub shows_unlinked : Shows f n l last (record o { head = Some x; held = o.held + 1 })
        shows_unlinked = shows_purse s t''.1.holds said.range said.end said.path (said.prepared ∙ sym may.none) (ap (first_or None) purse_now) (let b = ap length purse_now in let h = s.held in omega arith)

        pub unlinked : IsUnlinked f Always number cut (cut_to o.depth last)
        unlinked = subst (IsUnlinked f Always number cut) (sym (cut_is o.depth v last said.path)) said
