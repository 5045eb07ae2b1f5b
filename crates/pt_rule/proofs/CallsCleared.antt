-- A store of zero over a piece is what a holder's call of clear says: one piece stands at the entry.
use Rattle.std.proofs.Common.{◌≡◌, ℕ, ◌≤◌, [], ◌∷◌, ◌++◌, refl, ap, sym, ◌∙◌, arith}
use Rattle.pt_model.specs.declared.position.Position.{Position}
use Rattle.pt_model.specs.Layout.{Layout}
use Rattle.pt_view.specs.declared.view.View.{View}
use Rattle.pt_view.specs.declared.view.Piece.{Piece}
use Rattle.pt_view.specs.declared.view.Change.TheVariants.{Cleared}
use Rattle.pt_view.specs.Pieces.{table_of, number_of}
use Rattle.pt_view.specs.Calls.{drop_at, pieces_at, IsCleared, MayDrop}
use Rattle.pt_rule.specs.Kinds.{ClearTells, cleared}
use Rattle.pt_view.proofs.Pieces.{one_here}
use Rattle.pt_rule.proofs.ListsWithout.{one_member}
use Rattle.pt_rule.proofs.CallsWritten.{one_entry_at}

module _ (f : Layout) (v : View) (number found : ℕ) (x : Piece) (may : MayDrop f v number x) (told : ClearTells f v x found) where
  here_is : (may.position ≡ table_of f x) × (number_of f x ≡ number)
  here_is = one_here f may.position number x may.here

  once : pieces_at f may.position number v.pieces ≤ 1
  once = let e : pieces_at f may.position number v.pieces ≡ 1 = (λ k. pieces_at f (here_is.0 k) (sym here_is.1 k) v.pieces) ∙ told.alone in omega arith

  -- the entry tells the piece
  pub one_dropped : (y : Piece) → MayDrop f v number y → x ≡ y
  one_dropped y other =
      let same : other.position ≡ may.position = one_entry_at f v other.position may.position number number other.entry may.entry in
      one_member f may.position number v.pieces x y may.member other.member may.here (ap (λ (p : Position). pieces_at f p number (y ∷ [])) (sym same) ∙ other.here) once

  pub cleared_is : (tells : Type 0) → IsCleared f tells number v (cleared f x v)
  cleared_is tells = record {
    range = record { frames = refl; levels = refl; first = refl; count = refl };
    purse = record { purse = refl; end = refl };
    path = refl;
    prepared = refl;
    busy = λ g. (λ h. h, λ h. h);
    known = λ p. (λ h. h, λ h. h);
    tables = refl;
    top = refl;
    pieces = λ p entry. (λ k. drop_at f (sym here_is.0 k) (here_is.1 k) v.pieces) ∙ ap (λ (q : Position). drop_at f q number v.pieces) (one_entry_at f v may.position p number number may.entry entry);
    stores = λ told y other. ap (λ (z : Piece). v.stores ++ Cleared z ∷ []) (one_dropped y other);
    told = λ told. (refl, refl);
  }
