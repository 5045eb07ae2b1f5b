-- A lease makes its prepared frame the top: it stores the pointer to the old top there, exchanges the root's word, and where
-- another holder raised the root before, stores zero over the pointer.
use Rattle.std.proofs.Common.{◌≡◌, ◌≢◌, ℕ, Bool, true, zero, suc, ◌+◌, ◌-◌, ◌/◌, ◌%◌, ◌<◌, List, [], ◌∷◌, length, ap, sym, ◌∙◌, subst, arith, eq-eqb, get_or-set_same}
use Rattle.std.specs.Prelude.{Option, None, Some, slice_index, slice_set, ◌==◌, if◌then◌else◌}
use prog.Atomic.{either}
use mathlib.Core.Option.{some, some-injective}
use lib.ListN.{get_elem?}
use Rattle.pt_model.specs.Layout.{Layout}
use Rattle.pt_model.specs.Tables.{spine_position}
use Rattle.pt_model.specs.Words.{entry_place, frame_address, frame_limit, root_word}
use Rattle.pt_format.specs.Words.{IsTableLevel}
use Rattle.pt_format.specs.Laws.{IsLayout}
use Rattle.pt_view.specs.declared.view.View.{View}
use Rattle.pt_view.specs.declared.view.Node.{Node}
use Rattle.pt_view.specs.declared.view.Prepared.{Prepared}
use Rattle.pt_view.specs.declared.holder.Won.TheVariants.{Yes, Met}
use Rattle.pt_view.specs.Calls.{IsGrown, MayGrow}
use Rattle.pt_rule.specs.Tags.{first_or}
use Rattle.pt_rule.specs.Kinds.{Kind, May, after, bridge, over_top, place_of, put, raise, raised, unbridge}
use Rattle.pt_rule.specs.WholeView.{prepared_frame}
use Rattle.pt_rule.specs.Meets.{Always, Grows, IsWhole, with_bridge, with_raise}
use Rattle.pt_rule.proofs.Laws.{grow_meets}
use Rattle.pt_space.specs.Standing.{Fields, Shows, Stepped, cut_to}
use Rattle.pt_space.proofs.Showing.{puts_if, take_at, take_length, whole_path}

-- The kinds of its steps: the first by the path, the exchange by its words, and the last by what is prepared.
abbrev pub bridging : (frame : ℕ) → List Node → Kind
bridging frame [] = bridge frame 0 0
bridging frame (root ∷ rest) = bridge frame root.frame root.position.level

abbrev pub raising : (old new : ℕ) → Kind
raising old new = raise (new / 8) (old / 8) (old % 8)

abbrev pub unbridging : (frame : ℕ) → Option Prepared → Kind
unbridging frame None = unbridge frame 0
unbridging frame (Some x) = unbridge frame (x.position.level - 1)

-- a root's word names its frame and its level
root_read : (frame level : ℕ) → level < 8 → (root_word frame level / 8 ≡ frame) × (root_word frame level % 8 ≡ level)
root_read frame level low = (omega arith, omega arith)

-- the path after an exchange that was won
won_path : (frame old level found : ℕ) (v : View) → found ≡ root_word old level → (raised frame old level found v).path ≡ record { frame = frame; position = spine_position (level + 1) } ∷ []
won_path frame old level found v e = bit (found == root_word old level) _ _ (eq-eqb found (root_word old level) e)
  where
    bit : (b : Bool) (x y : View) → b ≡ true → (if b then x else y).path ≡ x.path
    bit b x y e = ap (λ (c : Bool). (if c then x else y).path) e

module _ {f : Layout} (good : IsLayout f) {n l : ℕ} {v : View} {o : Fields} (s : Shows f n l v o) (may : MayGrow (cut_to o.depth v)) where
  abbrev cut : View
  cut = cut_to o.depth v

  abbrev root : Node
  root = record { frame = may.root; position = spine_position may.level }

  pub one : o.depth ≡ 1
  one = let a = take_length o.depth v.path s.deep in let b = ap length may.path in omega arith

  root_at : get_elem? v.path 0 ≡ some root
  root_at = take_at o.depth 0 v.path root (let a = one in omega arith) (ap (λ (xs : List Node). get_elem? xs 0) may.path)

  root_is : may.root ≡ slice_index o.path 0
  root_is = (s.nodes 0 root (let a = one in omega arith) root_at).0

  level_is : may.level ≡ o.level
  level_is = let a = (s.nodes 0 root (let a = one in omega arith) root_at).1 in let b = one in omega arith

  pub root_within : slice_index o.path 0 < frame_limit f
  root_within = let a = (s.holds.path_within 0 root root_at).0 in let b = root_is in let m = s.holds.limit in omega arith

  -- the new top is of a level of the format
  pub table_level : IsTableLevel f (o.level + 1)
  table_level = record { above = omega arith; below = (let a = (s.holds.prepared_legal _ may.prepared).a_level in let b = level_is in omega arith) }

  pub few_levels : o.level + 1 < 8
  few_levels = let a = table_level.below in let b = good.levels_high in omega arith

  pub some_prepared : o.prepared ≡ None → ⊥
  some_prepared none = let both : None ≡ Some may.frame = sym none ∙ sym s.prepared ∙ ap prepared_frame may.prepared in let q : ⊥ = cc in q

  module _ (own : ℕ) (own_is : o.prepared ≡ Some own) where
    frame_is : may.frame ≡ own
    frame_is = let both : Some may.frame ≡ Some own = sym (ap prepared_frame may.prepared) ∙ s.prepared ∙ own_is in let q : may.frame ≡ own = cc in q

    pub own_within : own < n
    own_within = let a = s.holds.prepared_within _ may.prepared in let b = frame_is in omega arith

    abbrev old_word : ℕ
    old_word = root_word (slice_index o.path 0) o.level

    abbrev new_word : ℕ
    new_word = root_word own (o.level + 1)

    old_is : root_word may.root may.level ≡ old_word
    old_is = λ i. root_word (root_is i) (level_is i)

    -- The store of the pointer.
    bridging_is : bridge may.frame may.root may.level ≡ bridging own cut.path
    bridging_is = λ i. bridging (frame_is i) (sym may.path i)

    pub may_bridge : May f n (bridging own cut.path) cut
    may_bridge = subst (λ (k : Kind). May f n k cut) bridging_is (grow_meets f n cut may).0

    pub bridge_place : place_of f n (bridging own cut.path) ≡ entry_place f n own 0
    bridge_place = ap (place_of f n) (sym bridging_is) ∙ ap (λ (x : ℕ). entry_place f n x 0) frame_is

    pub puts_bridge : (found : ℕ) → put f (bridging own cut.path) cut found ≡ f.pointer (o.level + 1) (frame_address f (slice_index o.path 0))
    puts_bridge found = ap (λ (k : Kind). put f k cut found) (sym bridging_is) ∙ (λ i. f.pointer (level_is i + 1) (frame_address f (root_is i)))

    module _ {w : View} (t : (was : ℕ) × Stepped f n l (bridging own cut.path) cut was w) where
      meets : Grows f n cut may t.0
      meets = (grow_meets f n cut may).1 t.0

      bridged_is : w ≡ with_bridge f cut may t.0
      bridged_is = t.1.is ∙ ap (λ (k : Kind). after f k t.0 cut) (sym bridging_is)

      -- The exchange.
      raising_is : raise may.frame may.root may.level ≡ raising old_word new_word
      raising_is =
          let few = few_levels in
          let a = root_read (slice_index o.path 0) o.level (omega arith) in
          let b = root_read own (o.level + 1) few in
          λ i. raise ((frame_is ∙ sym b.0) i) ((root_is ∙ sym a.0) i) ((level_is ∙ sym a.1) i)

      pub may_raise : May f n (raising old_word new_word) w
      may_raise = subst (λ (k : Kind). May f n k w) raising_is (subst (May f n (raise may.frame may.root may.level)) (sym bridged_is) meets.may_raise)

      pub puts_raise : (found : ℕ) → put f (raising old_word new_word) w found ≡ either (found == old_word) new_word found
      puts_raise found =
          ap (λ (k : Kind). put f k w found) (sym raising_is)
          ∙ puts_if (found == root_word may.root may.level) (root_word may.frame (may.level + 1)) found
          ∙ (λ i. either (found == old_is i) (root_word (frame_is i) (level_is i + 1)) found)

      module _ {w' : View} {found : ℕ} (t' : Stepped f n l (raising old_word new_word) w found w') where
        told : Stepped f n l (raise may.frame may.root may.level) (with_bridge f cut may t.0) found w'
        told = subst (λ (u : View). Stepped f n l (raise may.frame may.root may.level) u found w') bridged_is (subst (λ (k : Kind). Stepped f n l k w found w') (sym raising_is) t')

        module _ (z : found ≡ old_word) where
          was_old : found ≡ root_word may.root may.level
          was_old = z ∙ sym old_is

          said : IsGrown f Always (IsWhole f cut) cut Yes w'
          said = subst (IsGrown f Always (IsWhole f cut) cut Yes) (sym told.is) (meets.won found told.tells was_old)

          abbrev top : Node
          top = record { frame = may.frame; position = spine_position (may.level + 1) }

          path_is : w'.path ≡ top ∷ []
          path_is = ap (λ (u : View). u.path) told.is ∙ won_path may.frame may.root may.level found (with_bridge f cut may t.0) was_old

          none_now : w'.prepared ≡ None
          none_now = (said.grows may.level (may.root, may.path)).prepared

          pub shows_won : length o.path ≡ 8 → Shows f n l w' (record o { path = slice_set o.path 0 own; level = o.level + 1; prepared = None })
          shows_won eight = record {
            holds = t'.holds;
            first = said.range.first ∙ s.first;
            count = said.range.count ∙ s.count;
            end = said.purse.end ∙ s.end;
            head = ap (first_or None) said.purse.purse ∙ s.head;
            held = ap length said.purse.purse ∙ s.held;
            prepared = ap prepared_frame none_now;
            unbridged = λ x e. absurd (let both : None ≡ Some x = sym none_now ∙ e in let q : ⊥ = cc in q);
            deep = let a = ap length path_is in let b = one in omega arith;
            nodes = λ i x lt at. at_top i x lt (ap (λ (xs : List Node). get_elem? xs i) (sym path_is) ∙ at);
          }
            where
              at_top : (i : ℕ) (x : Node) → i < o.depth → get_elem? (top ∷ []) i ≡ some x → (x.frame ≡ slice_index (slice_set o.path 0 own) i) × (x.position.level + i + 1 ≡ o.level + 1 + o.depth)
              at_top zero x lt at = let same : top ≡ x = some-injective top x at in (
                ap (λ (y : Node). y.frame) (sym same) ∙ frame_is ∙ sym (get_or-set_same o.path 0 own 0 (omega arith)),
                (let a : x.position.level ≡ may.level + 1 = ap (λ (y : Node). y.position.level) (sym same) in let b = level_is in let c = one in omega arith),
              )
              at_top (suc i) x lt at = absurd (let a = one in omega arith)

          pub grown : IsGrown f Always (IsWhole f cut) cut Yes (cut_to o.depth w')
          grown = subst (IsGrown f Always (IsWhole f cut) cut Yes) (sym (whole_path w' o.depth (ap length path_is ∙ sym one))) said

        module _ (lost : found ≢ old_word) where
          was_other : found ≢ root_word may.root may.level
          was_other e = lost (e ∙ old_is)

          -- The store of zero.
          may_lose : May f n (unbridge may.frame may.level) w'
          may_lose = subst (May f n (unbridge may.frame may.level)) (sym told.is) (meets.may_unbridge found was_other)

          prepared_is : w'.prepared ≡ Some (over_top may.frame may.level (Some may_lose.0))
          prepared_is = may_lose.1

          unbridging_is : unbridge may.frame may.level ≡ unbridging own w'.prepared
          unbridging_is = (λ i. unbridge (frame_is i) ((let e : may.level ≡ may.level + 1 - 1 = omega arith in e) i)) ∙ ap (unbridging own) (sym prepared_is)

          pub unbridge_place : place_of f n (unbridging own w'.prepared) ≡ entry_place f n own 0
          unbridge_place = ap (place_of f n) (sym unbridging_is) ∙ ap (λ (x : ℕ). entry_place f n x 0) frame_is

          pub puts_zero : (found : ℕ) → put f (unbridging own w'.prepared) w' found ≡ 0
          puts_zero found = ap (λ (k : Kind). put f k w' found) (sym unbridging_is)

          pub may_unbridge : May f n (unbridging own w'.prepared) w'
          may_unbridge = subst (λ (k : Kind). May f n k w') unbridging_is may_lose

          module _ {w'' : View} (t'' : (last : ℕ) × Stepped f n l (unbridging own w'.prepared) w' last w'') where
            lost_is : w'' ≡ after f (unbridge may.frame may.level) t''.0 (with_raise f cut may t.0 found)
            lost_is = t''.1.is ∙ (λ i. after f (sym unbridging_is i) t''.0 (told.is i))

            not_said : IsGrown f Always (IsWhole f cut) cut Met w''
            not_said = subst (IsGrown f Always (IsWhole f cut) cut Met) (sym lost_is) (meets.lost found t''.0 told.tells was_other)

            pub shows_lost : Shows f n l w'' (record o { depth = 0 })
            shows_lost =
                let r = not_said in
                let same : w''.prepared ≡ v.prepared = (r.grows may.level (may.root, may.path)).prepared in record {
                  holds = t''.1.holds;
                  first = r.range.first ∙ s.first;
                  count = r.range.count ∙ s.count;
                  end = r.purse.end ∙ s.end;
                  head = ap (first_or None) r.purse.purse ∙ s.head;
                  held = ap length r.purse.purse ∙ s.held;
                  prepared = ap prepared_frame same ∙ s.prepared;
                  unbridged = λ x e. s.unbridged x (sym same ∙ e);
                  deep = omega arith;
                  nodes = λ i x lt at. absurd (omega arith);
                }

            pub not_grown : IsGrown f Always (IsWhole f cut) cut Met (cut_to 0 w'')
            not_grown = subst (IsGrown f Always (IsWhole f cut) cut Met) (sym (whole_path w'' 0 (ap length (not_said.grows may.level (may.root, may.path)).path))) not_said
