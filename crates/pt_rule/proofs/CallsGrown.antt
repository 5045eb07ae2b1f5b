-- The steps of a growth, a store of the bridge, the exchange of the root and, where that was lost, a store of zero,
-- are what a holder's call of grow says.
use Rattle.std.proofs.Common.{◌≡◌, ◌≢◌, ℕ, ◌+◌, ◌%◌, List, [], ◌∷◌, sym, refl, ap, ◌∙◌, subst, arith}
use Rattle.std.specs.Prelude.{None, Option, Some}
use mathlib.Core.Logic.{dite}
use native.Mathlib.Decide.{ℕ_discrete}
use Rattle.pt_model.specs.declared.position.Position.{Position}
use Rattle.pt_model.specs.Layout.{Layout, input_pages}
use Rattle.pt_model.specs.Tables.{spine_position}
use Rattle.pt_model.specs.Words.{root_word}
use Rattle.pt_view.specs.declared.view.View.{View}
use Rattle.pt_view.specs.declared.view.Node.{Node}
use Rattle.pt_view.specs.declared.view.Prepared.{Prepared}
use Rattle.pt_view.specs.declared.holder.Won.{Won}
use Rattle.pt_view.specs.declared.holder.Won.TheVariants.{Yes, Met}
use Rattle.pt_view.specs.Calls.{Grows, IsGrown, IsOutgrown, IsRaised, IsRootAt, MayGrow, lowest}
use Rattle.pt_rule.specs.Kinds.{May, RaiseTells, after, bridge, over_top, raise, unbridge, with_spine}
use Rattle.pt_rule.proofs.CallsRooted.{same_frames, spine_adds}
use Rattle.pt_rule.proofs.RaiseKept.{raised_lost, raised_won}

abbrev first_level : List Node → ℕ
first_level [] = 0
first_level (x ∷ xs) = x.position.level

module _ (f : Layout) (n : ℕ) (v : View) (may : MayGrow v) where
  -- the views after the store of the bridge, after the exchange, and after the store of zero
  abbrev pub bridged : View
  bridged = record v { prepared = Some (over_top may.frame may.level (Some may.root)) }

  abbrev pub topped : View
  topped = record v {
    top = may.level + 1;
    prepared = None;
    path = record { frame = may.frame; position = spine_position (may.level + 1) } ∷ [];
    known = with_spine v.levels (may.level + 1) v.known;
  }

  abbrev pub outgrown : (found : ℕ) → View
  outgrown found = record v { prepared = Some (over_top may.frame may.level None); path = []; known = with_spine v.levels (found % 8) v.known }

  pub may_bridge : May f n (bridge may.frame may.root may.level) v
  may_bridge = (may.prepared, ap lowest may.path, may.reaches)

  pub bridged_is : (found : ℕ) → after f (bridge may.frame may.root may.level) found v ≡ bridged
  bridged_is found = refl

  pub may_raise : May f n (raise may.frame may.root may.level) bridged
  may_raise = refl

  pub topped_is : (found : ℕ) → found ≡ root_word may.root may.level → after f (raise may.frame may.root may.level) found bridged ≡ topped
  topped_is found e = raised_won may.frame may.root may.level found bridged e

  pub may_unbridge : (found : ℕ) → found ≢ root_word may.root may.level → May f n (unbridge may.frame may.level) (after f (raise may.frame may.root may.level) found bridged)
  may_unbridge found ne = (may.root, ap (λ (w : View). w.prepared) (raised_lost may.frame may.root may.level found bridged ne))

  pub outgrown_is : (found last : ℕ) → found ≢ root_word may.root may.level →
      after f (unbridge may.frame may.level) last (after f (raise may.frame may.root may.level) found bridged) ≡ outgrown found
  outgrown_is found last ne = ap (λ (w : View). after f (unbridge may.frame may.level) last w) (raised_lost may.frame may.root may.level found bridged ne)

  -- the view's root is at one level
  one_level : (level : ℕ) → IsRootAt v level → may.level ≡ level
  one_level level root = ap first_level (sym may.path ∙ root.1)

  module _ (tells alone : Type 0) (whole : alone → v.count ≡ input_pages f) (found : ℕ) (told : RaiseTells f n bridged may.root may.level found) where
    -- over a lone holder the exchange is won
    pub lone_wins : alone → found ≡ root_word may.root may.level
    lone_wins a = dite (ℕ_discrete found (root_word may.root may.level)) (λ e. e)
        (λ ne. absurd (let top = told.root.exact (whole a) in let up = told.lost ne in let low = may.reaches in omega arith))

    -- what a growth keeps, whether it was won or lost
    grown_as : (won : Won) (top : ℕ) (prepared : Option Prepared) (path : List Node) (known : List Position) →
        (let w : View = record v { top = top; prepared = prepared; path = path; known = known } in Grows f won may.level v w → (alone → won ≡ Yes) → IsGrown f tells alone v won w)
    grown_as won top prepared path known grows wins = record {
      range = record { frames = refl; levels = refl; first = refl; count = refl };
      pieces = refl;
      tables = refl;
      purse = record { purse = refl; end = refl };
      busy = same_frames v.busy;
      grows = λ level root. subst (λ (k : ℕ). Grows f won k v (record v { top = top; prepared = prepared; path = path; known = known })) (one_level level root) grows;
      told = λ _. record { taken = refl; absent = refl; stores = refl };
      wins = wins;
    }

    pub grown : found ≡ root_word may.root may.level → IsGrown f tells alone v Yes topped
    grown e = grown_as Yes topped.top topped.prepared topped.path topped.known raised_here (λ _. refl)
      where
        raised_here : IsRaised f may.level v topped
        raised_here = record {
          prepared = refl;
          top = refl;
          path = (may.frame, refl);
          known = spine_adds v.levels (may.level + 1) v.known;
          legal = told.legal;
        }

    pub not_grown : found ≢ root_word may.root may.level → IsGrown f tells alone v Met (outgrown found)
    not_grown ne = let w : View = outgrown found in grown_as Met w.top w.prepared w.path w.known outgrown_here (λ a. absurd (ne (lone_wins a)))
      where
        outgrown_here : IsOutgrown f may.level v (outgrown found)
        outgrown_here = record {
          prepared = sym may.prepared;
          top = refl;
          path = refl;
          found = found % 8;
          higher = told.lost ne;
          legal = told.root.a_level;
          known = spine_adds v.levels (found % 8) v.known;
        }
