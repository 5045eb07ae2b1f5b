-- A growth of the words of one owner: it is won, and the two words that it writes keep the rule.
use Rattle.std.proofs.Common.{◌≡◌, ℕ, ◌+◌, ◌<◌, List, [], ◌∷◌, sym, refl, ◌∙◌, subst}
use Rattle.std.specs.Prelude.{slice_index, slice_set}
use Rattle.pt_model.specs.Layout.{Layout, input_pages}
use Rattle.pt_model.specs.Words.{entry_place, frame_address, root_word}
use Rattle.pt_format.specs.Laws.{IsLayout}
use Rattle.pt_view.specs.declared.view.View.{View}
use Rattle.pt_view.specs.Calls.{IsGrown, MayGrow}
use Rattle.pt_view.specs.declared.holder.Won.TheVariants.{Yes}
use Rattle.pt_rule.specs.Lawful.{Lawful}
use Rattle.pt_rule.specs.Kinds.{RaiseTells, after, put, raise}
use Rattle.pt_model.proofs.Places.{root_after_entry}
use Rattle.pt_rule.proofs.BridgeKept.{bridge_kept}
use Rattle.pt_rule.proofs.RaiseKept.{put_won, raise_kept}
use Rattle.pt_rule.specs.Meets.{Always, IsWhole}
use Rattle.pt_rule.proofs.CallsGrown.{bridged, grown, lone_wins, may_bridge, may_raise, topped, topped_is}

module _ (f : Layout) (n l : ℕ) (good : IsLayout f) (words : List ℕ) (v : View) (r : Lawful f n l words (v ∷ [])) (live : 0 < v.count) (whole : v.count ≡ input_pages f) (may : MayGrow v) where
  abbrev pub bridged_words : List ℕ
  bridged_words = slice_set words (entry_place f n may.frame 0) (f.pointer (may.level + 1) (frame_address f may.root))

  abbrev pub grown_words : List ℕ
  grown_words = slice_set bridged_words 0 (root_word may.frame (may.level + 1))

  -- the view after it
  abbrev pub grown_view : View
  grown_view = topped f n v may

  bridged_lawful : Lawful f n l bridged_words (bridged f n v may ∷ [])
  bridged_lawful = (bridge_kept f n l may.frame may.root may.level words (v ∷ []) 0 v r refl live (may_bridge f n v may)).0

  raised_lawful :
      (let found = slice_index bridged_words 0 in
      Lawful f n l (slice_set bridged_words 0 (put f (raise may.frame may.root may.level) (bridged f n v may) found)) (after f (raise may.frame may.root may.level) found (bridged f n v may) ∷ [])
      × RaiseTells f n (bridged f n v may) may.root may.level found)
  raised_lawful = raise_kept f n l good may.frame may.root may.level bridged_words (bridged f n v may ∷ []) 0 (bridged f n v may) bridged_lawful refl live (may_raise f n v may)

  -- what the exchange finds tells that it is won
  pub found_tells : RaiseTells f n (bridged f n v may) may.root may.level (slice_index bridged_words 0)
  found_tells = raised_lawful.1

  root_found : slice_index bridged_words 0 ≡ root_word may.root may.level
  root_found = lone_wins f n v may ℕ (v.count ≡ input_pages f) (λ e. e) (slice_index bridged_words 0) found_tells whole

  -- the root is the old top, before the first step too
  pub root_is : slice_index words 0 ≡ root_word may.root may.level
  root_is = sym (root_after_entry f n words may.frame 0 (f.pointer (may.level + 1) (frame_address f may.root))) ∙ root_found

  pub grown_lawful : Lawful f n l grown_words (grown_view ∷ [])
  grown_lawful = subst (λ (t : ℕ × View). Lawful f n l (slice_set bridged_words 0 t.0) (t.1 ∷ []))
      (λ k. (put_won f (bridged f n v may) may.frame may.root may.level (slice_index bridged_words 0) root_found k, topped_is f n v may (slice_index bridged_words 0) root_found k)) raised_lawful.0

  -- and it is what the call of growth says
  pub lone_grown : IsGrown f Always (IsWhole f v) v Yes grown_view
  lone_grown = grown f n v may Always (IsWhole f v) (λ e. e) (slice_index bridged_words 0) found_tells root_found
