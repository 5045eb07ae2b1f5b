-- What a load of an entry tells meets the clauses of a holder's call, by what the word reads as.
use Rattle.std.proofs.Common.{◌≡◌, ◌≢◌, ℕ, Bool, true, false, ◌<◌, ◌≤◌, List, [], ◌∷◌, ◌++◌, sym, refl, ap, ◌∙◌, subst, arith, eq-eqb}
use Rattle.std.specs.Prelude.{nat_lt, if◌then◌else◌, Option, Some}
use Rattle.std.proofs.lemmas.List.{append-nil}
use Rattle.pt_model.specs.declared.position.Position.{Position}
use Rattle.pt_model.specs.declared.block.Prot.{Prot}
use Rattle.pt_model.specs.Layout.{Layout, table, input_pages}
use Rattle.pt_model.specs.Tables.{child_at}
use Rattle.pt_model.specs.Words.{frame_address, frame_limit, frame_named}
use Rattle.pt_format.specs.Words.{IsLeaf, IsPointer, IsTableAddress, IsTableLevel}
use Rattle.pt_format.specs.Laws.{IsLayout, WordsDiffer}
use Rattle.pt_format.specs.Manual.{StepsAgree}
use Rattle.pt_view.specs.declared.view.View.{View}
use Rattle.pt_view.specs.declared.view.Node.{Node}
use Rattle.pt_view.specs.declared.view.Absence.{Absence}
use Rattle.pt_view.specs.declared.view.Absence.TheVariants.{Zero}
use Rattle.pt_view.specs.declared.holder.Seen.TheVariants.{Empty, Leaf, Entered}
use Rattle.pt_view.specs.Pieces.{level_of}
use Rattle.pt_view.specs.Calls.{Went, Looked, zero as looked_zero, leaf as looked_leaf, table as looked_table, IsEntryAt, MeetsEntry, entry_first, lowest}
use Rattle.pt_rule.specs.Kinds.{EntryTells, zero as tells_zero, own, pointer, deeper, first_page, level_at, met, met_word, met_zero}
use Rattle.pt_rule.proofs.PieceFacts.{may_be_leaf, word_some}
use Rattle.pt_rule.proofs.TreeFacts.{frame_back, is_address, level_of_piece, step_of_piece}
use Rattle.pt_rule.proofs.LookKept.{after_some, entered, entry_position}
use Rattle.pt_rule.proofs.CallsRooted.{one_more, same_frames, same_history, same_positions}

-- the child at an entry of a table above the lowest is absent
abbrev absence_at : Layout → Position → (number : ℕ) → List Absence
absence_at f p number = if nat_lt 0 p.level then Zero (child_at f p number) ∷ [] else []

-- a view that met zero
zero_met : (f : Layout) (v : View) (x : Node) (number found : ℕ) → lowest v.path ≡ Some x → found ≡ 0 →
    met f number found v ≡ record v { absent = v.absent ++ absence_at f x.position number }
zero_met f v x number found e z =
    ap (λ (c : Bool). if c then met_zero f number (lowest v.path) v else met_word f number (f.step (level_at (lowest v.path)) found (first_page f number (lowest v.path))) v) (eq-eqb found 0 z)
    ∙ ap (λ (o : Option Node). met_zero f number o v) e ∙ either (nat_lt 0 x.position.level) (Zero (child_at f x.position number) ∷ [])
  where
    either : (c : Bool) (more : List Absence) → (if c then record v { absent = v.absent ++ more } else v) ≡ record v { absent = v.absent ++ (if c then more else []) }
    either true more = refl
    either false more = λ i. record v { absent = sym (append-nil v.absent) i }

module _ (f : Layout) (n : ℕ) (good : IsLayout f) (d : WordsDiffer f) (a : StepsAgree f) (few : n ≤ frame_limit f) (tells alone : Type 0) (v : View) (whole : alone → v.count ≡ input_pages f)
    (number found : ℕ) (may : MeetsEntry f v number) (told : (p : Position) → IsEntryAt f v p number → EntryTells f n v p number found) where
  abbrev node : Node
  node = may.entry.node

  abbrev place : Position
  place = node.position

  -- each entry that is spoken of is the one at the path's last table
  here : IsEntryAt f v place number
  here = record { node = node; is_lowest = may.entry.is_lowest; at = refl; within = may.entry.within }

  one_place : (p : Position) → IsEntryAt f v p number → place ≡ p
  one_place p entry = sym (entry_position f v node number may.entry.is_lowest p entry)

  address_is : (frame : ℕ) → frame < n → IsTableAddress f (frame_address f frame)
  address_is frame within = is_address f frame (omega arith)

  -- it is zero
  pub went_empty : found ≡ 0 → Went f tells alone number v Empty (met f number found v)
  went_empty z = subst (Went f tells alone number v Empty) (sym (zero_met f v node number found may.entry.is_lowest z)) (record {
    range = record { frames = refl; levels = refl; first = refl; count = refl };
    book = record { pieces = refl; tables = refl; top = refl };
    purse = record { purse = refl; end = refl };
    prepared = refl;
    busy = same_frames v.busy;
    looked = λ p entry. elim (told p entry) [
      | tells_zero none vacant ↦ looked_zero w refl (same_positions v.known) vacant (λ _. (refl, ap (λ (q : Position). v.absent ++ absence_at f q number) (one_place p entry), refl))
      | own x member legal at_it alone_there is under ↦ absurd (word_some f good v x legal d (sym is ∙ z))
      | pointer frame within level is owned none ↦ absurd (d.pointer_some p.level (frame_address f frame) level (address_is frame within) (sym is ∙ z))
    ];
  })
    where
      w : View
      w = record v { absent = v.absent ++ absence_at f place number }

  -- it is the word of an own piece, and the view stays
  pub went_leaf : (log2 : ℕ) (prot : Prot) → IsLeaf f place.level found log2 prot → (met f number found v ≡ v) × Went f tells alone number v (Leaf found) (met f number found v)
  went_leaf log2 prot read = elim (told place here) [
    | tells_zero none vacant ↦ absurd (d.leaf_some place.level log2 read.out read.part prot read.may (sym read.word_is ∙ none))
    | own x member legal at_it alone_there is under ↦
        let nonzero : found ≢ 0 = (λ z. word_some f good v x legal d (sym is ∙ z)) in
        let stays : met f number found v ≡ v =
        after_some f v node number found _ may.entry.is_lowest nonzero (ap (λ (k : ℕ). f.step place.level k (entry_first f place number)) is ∙ step_of_piece f good a v x legal place number at_it) in (
          stays,
          subst (Went f tells alone number v (Leaf found)) (sym stays) (record {
            range = record { frames = refl; levels = refl; first = refl; count = refl };
            book = record { pieces = refl; tables = refl; top = refl };
            purse = record { purse = refl; end = refl };
            prepared = refl;
            busy = same_frames v.busy;
            looked = λ p entry. subst (λ (q : Position). Looked f tells alone v q number (Leaf found) v) (one_place p entry)
                (looked_leaf v found x refl (same_positions v.known) (λ _. same_history v) member at_it alone_there is under);
          }),
        )
    | pointer frame within level is owned none ↦
        absurd (d.apart place.level log2 read.out read.part (frame_address f frame) prot read.may level (address_is frame within) (sym read.word_is ∙ is))
  ]

  -- it is a pointer, and the path goes into the table that it names
  pub went_entered : (address : ℕ) → IsPointer f place.level found address →
      (frame : ℕ) × (frame < n) × (frame_named f address ≡ frame) × (met f number found v ≡ entered f v frame number place v.tables) × Went f tells alone number v Entered (met f number found v)
  went_entered address read = elim (told place here) [
    | tells_zero none vacant ↦ absurd (d.pointer_some place.level address read.at_level read.a_frame (sym read.word_is ∙ none))
    | own x member legal at_it alone_there is under ↦
        let level : place.level ≡ level_of f x = level_of_piece f place number x at_it in
        absurd (d.apart (level_of f x) x.block.log2 x.block.out x.part address x.block.prot (may_be_leaf f good v x legal) (subst (IsTableLevel f) level read.at_level) read.a_frame
        (sym is ∙ read.word_is ∙ ap (λ (k : ℕ). f.pointer k address) level))
    | pointer frame within level is owned none ↦
        let nonzero : found ≢ 0 = (λ z. d.pointer_some place.level (frame_address f frame) level (address_is frame within) (sym is ∙ z)) in
        let step : f.step place.level found (entry_first f place number) ≡ table (frame_address f frame) =
        ap (λ (k : ℕ). f.step place.level k (entry_first f place number)) is ∙ a.pointer place.level (frame_address f frame) (entry_first f place number) level (address_is frame within) in
        let goes : met f number found v ≡ entered f v frame number place v.tables =
        after_some f v node number found _ may.entry.is_lowest nonzero step ∙ ap (λ (o : Option Node). deeper f (frame_named f (frame_address f frame)) number o v) may.entry.is_lowest
        ∙ ap (λ (k : ℕ). entered f v k number place v.tables) (frame_back f frame) in
        let same : address ≡ frame_address f frame = d.one_address place.level address (frame_address f frame) level read.a_frame (address_is frame within) (sym read.word_is ∙ is) in (
          frame,
          within,
          ap (frame_named f) same ∙ frame_back f frame,
          goes,
          subst (Went f tells alone number v Entered) (sym goes) (record {
            range = record { frames = refl; levels = refl; first = refl; count = refl };
            book = record { pieces = refl; tables = refl; top = refl };
            purse = record { purse = refl; end = refl };
            prepared = refl;
            busy = same_frames v.busy;
            looked = λ p entry. subst (λ (q : Position). Looked f tells alone v q number Entered (entered f v frame number place v.tables)) (one_place p entry)
                (looked_table (entered f v frame number place v.tables) frame refl (one_more (child_at f place number) v.known) (λ _. record { taken = refl; absent = refl; stores = refl })
                level.above none (λ whole_space. owned (whole whole_space)));
          }),
        )
  ]
