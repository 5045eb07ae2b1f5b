-- The entries of a view of the whole space, and what a number of each of its pieces adds up to.
use Rattle.std.proofs.Common.{◌≡◌, inl, inr, Bool, ℕ, zero, suc, ◌+◌, ◌^◌, ◌<◌, List, [], ◌∷◌, sym, refl, ap, ◌∙◌, subst, arith}
use Rattle.std.specs.Prelude.{nat_lt, nat_le, Option, None, Some, if◌then◌else◌}
use Rattle.std.proofs.lemmas.Bool.{and_from, cases_Bool, lt-ltb}
use Rattle.pt_model.specs.declared.position.Position.{Position}
use Rattle.pt_model.specs.Layout.{Layout}
use Rattle.pt_model.specs.Tables.{IsPosition, child_at}
use Rattle.pt_model.specs.Words.{tag, placed_at, entry_of}
use Rattle.pt_view.specs.declared.view.View.{View}
use Rattle.pt_view.specs.declared.view.Piece.{Piece}
use Rattle.pt_view.specs.Pieces.{IsOneOf, add_piece, first_of}
use Rattle.pt_rule.specs.Totals.{total, has_piece}
use Rattle.pt_rule.specs.Linked.{IsLinkedAt}
use Rattle.pt_rule.specs.Lawful.{Lawful}
use Rattle.pt_rule.specs.WholeView.{is_linked_in, piece_in, pieces_in, pieces_with_frame, prepared_frame, with_piece}
use Rattle.pt_rule.specs.WholeCounts.{EntriesAreRead, PiecesAreAdded, nothing, a_part, a_table, added_in, added_in_frame, if_any}
use Rattle.pt_rule.proofs.AloneKept.{alone}
use Rattle.pt_rule.proofs.OrderedPieces.{either_has}
use Rattle.pt_rule.proofs.ReadPieces.{only_view}
use Rattle.pt_rule.proofs.ReadTables.{is_linked}
use Rattle.pt_rule.proofs.ReadWhole.{whole_read}
use Rattle.pt_rule.proofs.SpansFacts.{some_page}
use Rattle.pt_rule.proofs.TreeFacts.{an_empty, a_piece, a_child, entry_is, is_position, linked_there}

pub entries_are_read : EntriesAreRead
entries_are_read f good n l words views id v r at whole frame number within small is =
    let one : Lawful f n l words (v ∷ []) = alone f n l words views id v r at whole in
    let live : 0 < v.count = subst (λ (k : ℕ). 0 < k) (sym whole) (some_page f) in
    let p : Position = placed_at (tag words frame) in
    let here : IsLinkedAt n words (v ∷ []) frame p = record { is_linked = is_linked f n l words v good one live frame within is; at = refl } in
    let pos : IsPosition f p = (is_position f n l words (v ∷ []) good one frame p here).0 in
    elim (entry_is f n l words (v ∷ []) good one frame p number here small) [
      | an_empty z none childless ↦ nothing z (omega arith)
      | a_piece piece word ↦
          let mine : piece.view ≡ v = only_view v piece.index piece.view piece.at in
          let own = piece.own in
          a_part piece.piece (subst (λ (u : View). IsOneOf u.pieces piece.piece) mine piece.member) (record { a_part = own.a_part; legal = own.legal; stated = own.stated })
          piece.here (let most = ap (λ (u : View). total (has_piece f p number) (u ∷ [])) mine in let alone = piece.alone in omega arith) word
      | a_child child linked high word ↦
          let there = linked_there f n l words (v ∷ []) good one child (child_at f p number) linked in
          let none : total (has_piece f p number) (v ∷ []) ≡ 0 = one.entries.apart number p (and_from (nat_lt 0 p.level) _ (lt-ltb 0 p.level high) there) in
          a_table child linked (record { above = high; below = pos.a_level }) word (omega arith)
    ]

-- What a number of each piece adds up to.

added_one : (f : Layout) (number : Piece → ℕ) (ys : List Piece) (x : Piece) → total number (add_piece f ys x) ≡ number x + total number ys
added_one f number [] x = refl
added_one f number (y ∷ ys) x = either_has (λ zs. total number zs ≡ number x + (number y + total number ys)) (nat_le (first_of f y) (first_of f x))
    (y ∷ add_piece f ys x) (x ∷ (y ∷ ys)) (λ e. let rest = added_one f number ys x in omega arith) (λ e. refl)

added_any : (f : Layout) (number : Piece → ℕ) (ys : List Piece) (o : Option Piece) → total number (with_piece f ys o) ≡ total number ys + if_any number o
added_any f number ys None = omega arith
added_any f number ys (Some x) = let e = added_one f number ys x in omega arith

module _ (f : Layout) (n : ℕ) (words : List ℕ) (number : Piece → ℕ) where
  added_with_frame : (frame : ℕ) (ys : List Piece) (count : ℕ) → total number (pieces_with_frame f n words frame ys count) ≡ total number ys + added_in_frame f n words number frame count
  added_with_frame frame ys zero = omega arith
  added_with_frame frame ys (suc entry) =
      let rest = added_with_frame frame ys entry in
      let one = added_any f number (pieces_with_frame f n words frame ys entry) (piece_in f (placed_at (tag words frame)) entry (entry_of f n words frame entry)) in
      omega arith

  added_with_frames : (prepared : Option ℕ) (frames : ℕ) → total number (pieces_in f n prepared words frames) ≡ added_in f n prepared words number frames
  added_with_frames prepared zero = refl
  added_with_frames prepared (suc frame) =
      let old : List Piece = pieces_in f n prepared words frame in
      let rest : total number old ≡ added_in f n prepared words number frame = added_with_frames prepared frame in
      let b = is_linked_in prepared words frame in
      let both : Bool → Type 0 = λ b. total number (if b then pieces_with_frame f n words frame old (2 ^ f.index) else old)
      ≡ added_in f n prepared words number frame + (if b then added_in_frame f n words number frame (2 ^ f.index) else 0) in
      elim (cases_Bool b) [
        | inl e ↦ subst both (sym e) (let more = added_with_frame frame old (2 ^ f.index) in omega arith)
        | inr e ↦ subst both (sym e) (omega arith)
      ]

pub pieces_are_added : PiecesAreAdded
pieces_are_added f good d a n l words views id v r at whole number =
    ap (total number) (whole_read f good d a n l words views id v r at whole).0 ∙ added_with_frames f n words number (prepared_frame v.prepared) n
