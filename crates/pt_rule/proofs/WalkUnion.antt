-- The manual's walk of lawful words, table by table.
use Rattle.std.proofs.Common.{◌≡◌, ◌⊎◌, inl, inr, ℕ, zero, suc, ◌+◌, ◌-◌, ◌*◌, ◌/◌, ◌%◌, ◌^◌, ◌<◌, ◌≤◌, List, [], ◌∷◌, refl, ap, sym, ◌∙◌, subst, arith, true, length}
use Rattle.std.specs.Prelude.{nat_lt, Some}
use Rattle.std.proofs.lemmas.Bool.{and_from, cases_lt, lt-ltb, false≢true}
use Rattle.std.proofs.lemmas.Nat.{pow_pos, mod_below, mod-mul-add, div-mul-add, shr_split}
use mathlib.Core.Option.{some, some-injective, some-ne-none}
use mathlib.Core.Logic.{dite}
use native.Mathlib.Decide.{ℕ_discrete}
use lib.ListN.{get_elem?}
use Rattle.pt_model.proofs.Positions.{same_position}
use Rattle.pt_model.proofs.Quotients.{base_lemma, quotient, table_is_entries}
use Rattle.pt_view.proofs.Members.{one_has}
use Rattle.pt_view.proofs.Pieces.{counted, here_one}
use Rattle.pt_model.specs.declared.block.Prot.{Prot}
use Rattle.pt_model.specs.declared.position.Position.{Position}
use Rattle.pt_model.specs.Layout.{Layout, Found, Reached, nothing, page, table, nowhere, at_byte, strange, pages_of_entry, pages_of_table}
use Rattle.pt_model.specs.Pages.{page_at}
use Rattle.pt_model.specs.Tables.{child_at, parent_of, position_over, spine_position}
use Rattle.pt_model.specs.Words.{entry_of, frames_in, frame_address, root_frame, root_level}
use Rattle.pt_format.specs.Words.{IsUnder}
use Rattle.pt_format.specs.Laws.{IsLayout}
use Rattle.pt_format.specs.Manual.{IsRead, an_empty, a_leaf, a_table, IsRooted, IsWalk, OnWay, Onward, StepsAgree, by_steps, entry_for, follow}
use Rattle.pt_view.specs.declared.view.View.{View}
use Rattle.pt_view.specs.declared.view.Piece.{Piece}
use Rattle.pt_view.specs.Pieces.{IsOneOf, first_of, table_of, number_of, level_of, word_of}
use Rattle.pt_view.specs.Calls.{entry_first, pieces_at}
use Rattle.pt_rule.specs.Totals.{total, has_piece}
use Rattle.pt_rule.specs.Linked.{IsLinkedAt}
use Rattle.pt_rule.specs.Lawful.{Lawful, IsOwnPiece, has_child}
use Rattle.pt_rule.specs.Union.{IsCovered, byte_of_piece, IsUnion, WalkIsUnion}
use Rattle.pt_rule.proofs.TotalsKept.{total_at, total_two}
use Rattle.pt_rule.proofs.PositionFacts.{parent_of_child}
use Rattle.pt_rule.proofs.PieceFacts.{first_whole, may_be_leaf}
use Rattle.pt_rule.proofs.PiecesApart.{IsHome, all_home, stands}
use Rattle.pt_rule.proofs.TreeFacts as tree
use Rattle.pt_rule.proofs.TreeFacts.{IsEntry, IsOnePiece, IsThere, entry_is, entry_of_piece, level_of_piece, frame_back, is_address, linked_there, live_piece, parent_there}

-- Pieces of lists.

-- where one piece stands at an entry, two that do are one
only_one : (f : Layout) (p : Position) (i : ℕ) (xs : List Piece) (x y : Piece) → pieces_at f p i xs ≤ 1 → IsOneOf xs x → IsOneOf xs y →
    pieces_at f p i (x ∷ []) ≡ 1 → pieces_at f p i (y ∷ []) ≡ 1 → x ≡ y
only_one f p i [] x y few h k one two = absurd h
only_one f p i (z ∷ zs) x y few (inl e) (inl g) one two = sym e ∙ g
only_one f p i (z ∷ zs) x y few (inl e) (inr k) one two =
    let same : pieces_at f p i (z ∷ []) ≡ pieces_at f p i (x ∷ []) = ap (λ (w : Piece). pieces_at f p i (w ∷ [])) e in
    let more = counted f p i zs y k two in absurd (omega arith)
only_one f p i (z ∷ zs) x y few (inr h) (inl g) one two =
    let same : pieces_at f p i (z ∷ []) ≡ pieces_at f p i (y ∷ []) = ap (λ (w : Piece). pieces_at f p i (w ∷ [])) g in
    let more = counted f p i zs x h one in absurd (omega arith)
only_one f p i (z ∷ zs) x y few (inr h) (inr k) one two = only_one f p i zs x y (omega arith) h k one two

-- Whether a page is covered is decided.

abbrev Has : Layout → Piece → ℕ → Type 0
Has f x here = (first_of f x ≤ here) × (here < first_of f x + pages_of_entry f (level_of f x))

has_or_not : (f : Layout) (x : Piece) (here : ℕ) → Has f x here ⊎ ¬ Has f x here
has_or_not f x here = elim (cases_lt here (first_of f x)) [
  | inl before ↦ inr (λ h. let low = h.0 in omega arith)
  | inr from ↦ elim (cases_lt here (first_of f x + pages_of_entry f (level_of f x))) [
    | inl to ↦ inl (from, to)
    | inr behind ↦ inr (λ h. let high = h.1 in omega arith)
  ]
]

any_piece : (f : Layout) (xs : List Piece) (here : ℕ) → ((x : Piece) × IsOneOf xs x × Has f x here) ⊎ ((x : Piece) → IsOneOf xs x → ¬ Has f x here)
any_piece f [] here = inr (λ x h. absurd h)
any_piece f (x ∷ xs) here = elim (has_or_not f x here) [
  | inl has ↦ inl (x, inl refl, has)
  | inr hasnt ↦ elim (any_piece f xs here) [
    | inl later ↦ inl (later.0, inr later.1, later.2)
    | inr none ↦ inr (λ y h. elim h [ inl e ↦ subst (λ (z : Piece). ¬ Has f z here) e hasnt | inr k ↦ none y k ])
  ]
]

covered_or_not : (f : Layout) (views : List View) (here : ℕ) → IsCovered f views here ⊎ ¬ IsCovered f views here
covered_or_not f [] here = inr (λ c. some-ne-none c.view (sym c.at))
covered_or_not f (v ∷ vs) here = elim (any_piece f v.pieces here) [
  | inl has ↦ inl (record { index = 0; view = v; at = refl; piece = has.0; own = has.1; from = has.2.0; to = has.2.1 })
  | inr none ↦ elim (covered_or_not f vs here) [
    | inl c ↦ inl (record { index = suc c.index; view = c.view; at = c.at; piece = c.piece; own = c.own; from = c.from; to = c.to })
    | inr rest ↦ inr (λ c. not_here v vs here none rest c.index c refl)
  ]
]
  where
    not_here : (v : View) (vs : List View) (here : ℕ) → ((x : Piece) → IsOneOf v.pieces x → ¬ Has f x here) → ¬ IsCovered f vs here → (j : ℕ) (c : IsCovered f (v ∷ vs) here) → c.index ≡ j → ⊥
    not_here v vs here none rest zero c e =
        let at : get_elem? (v ∷ vs) 0 ≡ some c.view = subst (λ (j : ℕ). get_elem? (v ∷ vs) j ≡ some c.view) e c.at in
        none c.piece (subst (λ (w : View). IsOneOf w.pieces c.piece) (sym (some-injective v c.view at)) c.own) (c.from, c.to)
    not_here v vs here none rest (suc j) c e =
        let at : get_elem? (v ∷ vs) (suc j) ≡ some c.view = subst (λ (j : ℕ). get_elem? (v ∷ vs) j ≡ some c.view) e c.at in
        rest (record { index = j; view = c.view; at = at; piece = c.piece; own = c.own; from = c.from; to = c.to })

not_strange : (out : ℕ) (prot : Prot) → at_byte out prot ≡ strange → ⊥
not_strange out prot e = cc

nowhere_is : nowhere ≡ strange → ⊥
nowhere_is e = cc

-- The tables over a page.

module _ (f : Layout) (here : ℕ) where
  abbrev over : ℕ → Position
  over level = position_over f here level

  abbrev slot : ℕ → ℕ
  slot level = here / pages_of_entry f level % 2 ^ f.index

  slot_low : (level : ℕ) → slot level < 2 ^ f.index
  slot_low level = mod_below (here / pages_of_entry f level) (2 ^ f.index) (pow_pos f.index)

  over_aligned : (level : ℕ) → (over level).base % pages_of_table f (over level).level ≡ 0
  over_aligned level =
      let t : ℕ = pages_of_table f level in let b : ℕ = here / t in
      (let e : b * t ≡ b * t + 0 = omega arith in ap (λ y. y % t) e) ∙ mod-mul-add b t 0 (pow_pos (f.index * (level + 1)))

  -- the entry over the page begins at the whole number of entries before it
  slot_first : (level : ℕ) → entry_first f (over level) (slot level) ≡ here / pages_of_entry f level * pages_of_entry f level
  slot_first level =
      base_lemma (here / pages_of_table f level) (pages_of_table f level) (pages_of_entry f level) (2 ^ f.index) (slot level) (here / pages_of_entry f level)
      (table_is_entries f level) (ap (λ y. y * 2 ^ f.index + slot level) (sym (quotient f here level)) ∙ shr_split (here / pages_of_entry f level) f.index)

  child_over : (level : ℕ) → child_at f (over (suc level)) (slot (suc level)) ≡ over level
  child_over level =
      let e : pages_of_entry f (suc level) ≡ pages_of_table f level = (let next : suc level ≡ level + 1 = omega arith in ap (λ (k : ℕ). 2 ^ (f.index * k)) next) in
      same_position (child_at f (over (suc level)) (slot (suc level))) (over level) (omega arith)
      (slot_first (suc level) ∙ ap (λ (k : ℕ). here / k * k) e)

  parent_over : (level : ℕ) → parent_of f (over level) ≡ over (suc level)
  parent_over level =
      ap (parent_of f) (sym (child_over level)) ∙ parent_of_child f (over (suc level)) (slot (suc level)) (omega arith) (slot_low (suc level)) (over_aligned (suc level))

  in_entry : (level : ℕ) → (here / pages_of_entry f level * pages_of_entry f level ≤ here) × (here < here / pages_of_entry f level * pages_of_entry f level + pages_of_entry f level)
  in_entry level =
      let split = shr_split here (f.index * level) in let rest = mod_below here (pages_of_entry f level) (pow_pos (f.index * level)) in
      (omega arith, omega arith)

  -- a piece that has the page stands at the entry over it
  module _ (good : IsLayout f) (u : View) (x : Piece) (own : IsOwnPiece f u x) (has : Has f x here) where
    quotients : first_of f x / pages_of_entry f (level_of f x) ≡ here / pages_of_entry f (level_of f x)
    quotients =
        let e : ℕ = pages_of_entry f (level_of f x) in
        let m : ℕ = first_of f x / pages_of_entry f (level_of f x) in
        let w = first_whole f good u x own in
        let low = has.0 in let high = has.1 in
        let s : here ≡ m * e + (here - m * e) = omega arith in
        sym (ap (λ (k : ℕ). k / e) s ∙ div-mul-add m e (here - m * e) (omega arith))

    table_is : table_of f x ≡ over (level_of f x)
    table_is = same_position (table_of f x) (over (level_of f x)) refl
        (ap (λ (k : ℕ). k * pages_of_table f (level_of f x))
        (sym (quotient f (first_of f x) (level_of f x)) ∙ ap (λ (k : ℕ). k / 2 ^ f.index) quotients ∙ quotient f here (level_of f x)))

    number_is : number_of f x ≡ slot (level_of f x)
    number_is = ap (λ (k : ℕ). k % 2 ^ f.index) quotients

    stands_over : pieces_at f (over (level_of f x)) (slot (level_of f x)) (x ∷ []) ≡ 1
    stands_over = subst (λ (p : Position). pieces_at f p (slot (level_of f x)) (x ∷ []) ≡ 1) table_is
        (subst (λ (i : ℕ). pieces_at f (table_of f x) i (x ∷ []) ≡ 1) number_is (here_one f x))

module _ (f : Layout) (good : IsLayout f) (agree : StepsAgree f) (walk : IsWalk f) (n l : ℕ) (words : List ℕ) (views : List View) (r : Lawful f n l words views) where
  frames_are : frames_in f words ≡ n
  frames_are =
      let k : ℕ = 2 ^ f.index + 1 in
      let e = r.sizes.words_are in
      let s : length words - 1 ≡ n * (2 ^ f.index + 1) + 0 = omega arith in
      ap (λ (x : ℕ). x / (2 ^ f.index + 1)) s ∙ div-mul-add n (2 ^ f.index + 1) 0 (omega arith)

  rooted : IsRooted f words
  rooted =
      let e = r.sizes.words_are in let some = r.sizes.some_frame in let frames = frames_are in
      let top = r.root.reached in
      let book = r.books top.0 top.1 top.2 top.3 in
      let live = r.sizes.live top.0 top.1 top.2 top.3 in
      let levels = live.1 in let is = top.4 in let low = book.top_low in let high = book.top_high in let start = r.sizes.levels_low in
      let within = r.root.is_linked.is_linked.within in
      let whole : length words ≡ 1 + n * (2 ^ f.index + 1) = omega arith in
      record {
        space = record { whole = subst (λ (k : ℕ). length words ≡ 1 + k * (2 ^ f.index + 1)) (sym frames_are) whole; some = omega arith };
        a_frame = omega arith;
        high = omega arith;
        low = omega arith;
      }

  module _ (address here : ℕ) (small : address < 2 ^ 64) (at : page_at f address ≡ Some here) where
    abbrev word : (level frame : ℕ) → ℕ
    word level frame = entry_of f n words frame (slot f here level)

    -- the walk by steps goes from a table that is so many levels high to this answer, over written words alone
    abbrev Goes : (tables frame : ℕ) → Reached → Type 0
    Goes tables frame to = OnWay f words here tables frame × (by_steps f words address here tables frame ≡ to)

    -- one table
    goes : (level frame : ℕ) (found : Found) → IsRead f n level (word level frame) → f.step level (word level frame) here ≡ found →
        Onward f (OnWay f words here level) found → Goes (suc level) frame (follow f address (by_steps f words address here level) found)
    goes level frame found read step onward =
        let read' : IsRead f (frames_in f words) level (entry_for f words frame level here) =
        subst (λ (k : ℕ). IsRead f k level (entry_of f k words frame (slot f here level))) (sym frames_are) read in
        let step' : f.step level (entry_for f words frame level here) here ≡ found =
        ap (λ (k : ℕ). f.step level (entry_of f k words frame (slot f here level)) here) frames_are ∙ step in
        ((read', subst (Onward f (OnWay f words here level)) (sym step') onward), ap (follow f address (by_steps f words address here level)) step')

    below_empty : (level frame : ℕ) → level < f.levels → word level frame ≡ 0 → Goes (suc level) frame nowhere
    below_empty level frame low zero_is =
        goes level frame nothing (an_empty zero_is) (ap (λ (w : ℕ). f.step level w here) zero_is ∙ agree.empty level here low) tt

    below_piece : (level frame : ℕ) (u : View) (x : Piece) → IsOwnPiece f u x → level ≡ level_of f x → Has f x here → word level frame ≡ word_of f x →
        Goes (suc level) frame (byte_of_piece f x address here)
    below_piece level frame u x own is has word_is =
        let may = may_be_leaf f good u x own in
        let from = has.0 in let to = has.1 in
        let under : IsUnder f (level_of f x) x.block.log2 x.block.first x.part here = record { aligned = own.legal.first_aligned; from = omega arith; to = omega arith } in
        let step : f.step level (word level frame) here ≡ page (x.block.out + (here - x.block.first)) x.block.prot =
        ap (λ (w : ℕ). f.step level w here) word_is ∙ ap (λ (k : ℕ). f.step k (word_of f x) here) is
        ∙ agree.leaf (level_of f x) x.block.log2 x.block.out x.part x.block.first here x.block.prot may under in
        goes level frame (page (x.block.out + (here - x.block.first)) x.block.prot)
        (subst (λ (k : ℕ). IsRead f n k (word level frame)) (sym is) (a_leaf x.block.log2 x.block.prot (record { out = x.block.out; part = x.part; may = may; word_is = word_is }))) step tt

    below_table : (level frame h : ℕ) (to : Reached) → level < f.levels → 0 < level → h < n → word level frame ≡ f.pointer level (frame_address f h) →
        Goes level h to → Goes (suc level) frame to
    below_table level frame h to low high inside word_is rest =
        let limit = r.sizes.limit in
        let address_is = is_address f h (omega arith) in
        let here_is = goes level frame (table (frame_address f h)) (a_table h (record { above = high; below = low }) inside address_is word_is)
        (ap (λ (w : ℕ). f.step level w here) word_is ∙ agree.pointer level (frame_address f h) here (record { above = high; below = low }) address_is)
        (subst (OnWay f words here level) (sym (frame_back f h)) rest.0) in
        (here_is.0, here_is.1 ∙ ap (by_steps f words address here level) (frame_back f h) ∙ rest.1)

    -- a piece at the entry over the page has the page
    entry_has : (level : ℕ) (one : IsOnePiece f views (over f here level) (slot f here level)) → Has f one.piece here
    entry_has level one =
        let is = level_of_piece f (over f here level) (slot f here level) one.piece one.here in
        let first : entry_first f (over f here level) (slot f here level) ≡ first_of f one.piece = entry_of_piece f good one.view one.piece one.own (over f here level) (slot f here level) one.here in
        let begin = slot_first f here level in
        let inside = in_entry f here level in let low = inside.0 in let high = inside.1 in
        let size : pages_of_entry f level ≡ pages_of_entry f (level_of f one.piece) = ap (pages_of_entry f) is in
        (omega arith, omega arith)

    covered : (level : ℕ) → IsOnePiece f views (over f here level) (slot f here level) → IsCovered f views here
    covered level one = let has = entry_has level one in record { index = one.index; view = one.view; at = one.at; piece = one.piece; own = one.member; from = has.0; to = has.1 }

    -- Where no piece has the page.
    none_below : ¬ IsCovered f views here → (level frame : ℕ) → level < f.levels → IsLinkedAt n words views frame (over f here level) → Goes (suc level) frame nowhere
    none_below bare zero frame low linked =
        elim (entry_is f n l words views good r frame (over f here 0) (slot f here 0) linked (slot_low f here 0)) [
          | tree.an_empty zero_is none none_child ↦ below_empty 0 frame low zero_is
          | tree.a_piece one word_is ↦ absurd (bare (covered 0 one))
          | tree.a_child h child high word_is ↦ absurd (omega arith)
        ]
    none_below bare (suc level) frame low linked =
        elim (entry_is f n l words views good r frame (over f here (suc level)) (slot f here (suc level)) linked (slot_low f here (suc level))) [
          | tree.an_empty zero_is none none_child ↦ below_empty (suc level) frame low zero_is
          | tree.a_piece one word_is ↦ absurd (bare (covered (suc level) one))
          | tree.a_child h child high word_is ↦
              below_table (suc level) frame h nowhere low high child.is_linked.within word_is
              (none_below bare level h (omega arith) (subst (IsLinkedAt n words views h) (child_over f here level) child))
        ]

    -- Where a piece has the page: the tables over it, from its own up to the root's, are of the tree.
    module _ (c : IsCovered f views here) where
      abbrev x : Piece
      x = c.piece

      abbrev lx : ℕ
      lx = level_of f c.piece

      live : 0 < c.view.count
      live = live_piece f n l words views good r c.index c.view c.at (table_of f c.piece) (number_of f c.piece) (stands f c.view.pieces c.piece c.own)

      home : IsHome f n l words views good r c.index c.view c.at c.piece
      home = one_has (IsHome f n l words views good r c.index c.view c.at) c.view.pieces c.piece (all_home f n l words views good r c.index c.view c.at live) c.own

      has : Has f c.piece here
      has = (c.from, c.to)

      here_one' : pieces_at f (over f here lx) (slot f here lx) (c.piece ∷ []) ≡ 1
      here_one' = stands_over f here good c.view c.piece home.own has

      some_here : 0 < total (has_piece f (over f here lx) (slot f here lx)) views
      some_here =
          let one = counted f (over f here lx) (slot f here lx) c.view.pieces c.piece c.own here_one' in
          let most = total_at (has_piece f (over f here lx) (slot f here lx)) views c.index c.view c.at in omega arith

      up : (k : ℕ) → lx + k ≤ root_level words → IsThere f n l words views good r (over f here (lx + k))
      up zero low = subst (λ (j : ℕ). IsThere f n l words views good r (over f here j)) (let e : lx ≡ lx + 0 = omega arith in e)
          (subst (IsThere f n l words views good r) (table_is f here good c.view c.piece home.own has) home.there)
      up (suc k) low =
          let next : suc (lx + k) ≡ lx + suc k = omega arith in
          subst (λ (j : ℕ). IsThere f n l words views good r (over f here j)) next
          (subst (IsThere f n l words views good r) (parent_over f here (lx + k))
          (parent_there f n l words views good r (over f here (lx + k)) (up k (omega arith)) (omega arith)))

      -- the one piece at the entry is this one
      same_piece : (one : IsOnePiece f views (over f here lx) (slot f here lx)) → one.piece ≡ c.piece
      same_piece one =
          let once = r.entries.once (slot f here lx) (over f here lx) in
          let mine = counted f (over f here lx) (slot f here lx) c.view.pieces c.piece c.own here_one' in
          let theirs = one.alone in
          let same : one.view ≡ c.view = dite (ℕ_discrete one.index c.index)
          (λ e. some-injective one.view c.view (sym one.at ∙ ap (get_elem? views) e ∙ c.at))
          (λ ne. absurd (let two = total_two (has_piece f (over f here lx) (slot f here lx)) views one.index c.index one.view c.view ne one.at c.at in omega arith)) in
          only_one f (over f here lx) (slot f here lx) one.view.pieces one.piece c.piece (omega arith) one.member
          (subst (λ (w : View). IsOneOf w.pieces c.piece) (sym same) c.own) one.here here_one'

      -- the piece's own table
      at_level : (frame : ℕ) → lx < f.levels → IsLinkedAt n words views frame (over f here lx) → Goes (suc lx) frame (byte_of_piece f c.piece address here)
      at_level frame low linked =
          elim (entry_is f n l words views good r frame (over f here lx) (slot f here lx) linked (slot_low f here lx)) [
            | tree.an_empty zero_is none none_child ↦ absurd (let some = some_here in omega arith)
            | tree.a_piece one word_is ↦
                below_piece lx frame c.view c.piece home.own refl has (word_is ∙ ap (word_of f) (same_piece one))
            | tree.a_child h child high word_is ↦
                absurd (let apart = r.entries.apart (slot f here lx) (over f here lx)
                (and_from (nat_lt 0 lx) _ (lt-ltb 0 lx high) (linked_there f n l words views good r h (child_at f (over f here lx) (slot f here lx)) child)) in
                let some = some_here in omega arith)
          ]

      -- from a table above on down
      found_below : (k frame : ℕ) → lx + k ≤ root_level words → IsLinkedAt n words views frame (over f here (lx + k)) →
          Goes (suc (lx + k)) frame (byte_of_piece f c.piece address here)
      found_below zero frame low linked =
          let e : lx + 0 ≡ lx = omega arith in let top = rooted.low in
          subst (λ (j : ℕ). Goes (suc j) frame (byte_of_piece f c.piece address here)) (sym e)
          (at_level frame (omega arith) (subst (λ (j : ℕ). IsLinkedAt n words views frame (over f here j)) e linked))
      found_below (suc k) frame low linked =
          let top = rooted.low in
          let e : lx + suc k ≡ suc (lx + k) = omega arith in
          let linked' : IsLinkedAt n words views frame (over f here (suc (lx + k))) = subst (λ (j : ℕ). IsLinkedAt n words views frame (over f here j)) e linked in
          let there : IsThere f n l words views good r (child_at f (over f here (suc (lx + k))) (slot f here (suc (lx + k)))) =
          subst (IsThere f n l words views good r) (sym (child_over f here (lx + k))) (up k (omega arith)) in
          let child_is : has_child f l words views (over f here (suc (lx + k))) (slot f here (suc (lx + k))) ≡ true = and_from (nat_lt 0 (suc (lx + k))) _ (lt-ltb 0 (suc (lx + k)) (omega arith)) there in
          subst (λ (j : ℕ). Goes (suc j) frame (byte_of_piece f c.piece address here)) (sym e)
          (elim (entry_is f n l words views good r frame (over f here (suc (lx + k))) (slot f here (suc (lx + k))) linked' (slot_low f here (suc (lx + k)))) [
            | tree.an_empty zero_is none none_child ↦ absurd (false≢true (sym none_child ∙ child_is))
            | tree.a_piece one word_is ↦
                absurd (let apart = r.entries.apart (slot f here (suc (lx + k))) (over f here (suc (lx + k))) child_is in
                let theirs = one.alone in
                let most = total_at (has_piece f (over f here (suc (lx + k))) (slot f here (suc (lx + k)))) views one.index one.view one.at in omega arith)
            | tree.a_child h child high word_is ↦
                below_table (suc (lx + k)) frame h (byte_of_piece f c.piece address here) (omega arith) high child.is_linked.within word_is
                (found_below k h (omega arith) (subst (IsLinkedAt n words views h) (child_over f here (lx + k)) child))
          ])

      -- the root's table is over the page
      low_enough : lx ≤ root_level words
      low_enough = tree.level_low f n l words views good r (table_of f c.piece) home.there

      under_root : here < pages_of_table f (root_level words)
      under_root =
          let ends = tree.ends_in_root f n l words views good r (over f here (lx + 0)) (up 0 (let low = low_enough in omega arith)) in
          let split = shr_split here (f.index * (lx + 0 + 1)) in
          let rest = mod_below here (pages_of_table f (lx + 0)) (pow_pos (f.index * (lx + 0 + 1))) in omega arith

      -- as the one piece at an entry of its level
      as_one : (level : ℕ) → level ≡ lx → (one : IsOnePiece f views (over f here level) (slot f here level)) × (one.piece ≡ c.piece)
      as_one level e =
          let once = r.entries.once (slot f here lx) (over f here lx) in
          let mine = counted f (over f here lx) (slot f here lx) c.view.pieces c.piece c.own here_one' in
          let most = total_at (has_piece f (over f here lx) (slot f here lx)) views c.index c.view c.at in
          let alone' : pieces_at f (over f here lx) (slot f here lx) c.view.pieces ≡ 1 = omega arith in (
            record {
              index = c.index;
              view = c.view;
              at = c.at;
              piece = c.piece;
              own = home.own;
              member = c.own;
              here = subst (λ (j : ℕ). pieces_at f (over f here j) (slot f here j) (c.piece ∷ []) ≡ 1) (sym e) here_one';
              alone = subst (λ (j : ℕ). pieces_at f (over f here j) (slot f here j) c.view.pieces ≡ 1) (sym e) alone';
            },
            refl,
          )

      -- no piece above it has the page too
      none_above : (y : IsCovered f views here) → lx < level_of f y.piece → 0 < total (has_piece f (over f here (level_of f y.piece)) (slot f here (level_of f y.piece))) views →
          level_of f y.piece ≤ root_level words → ⊥
      none_above y less present low =
          let k : ℕ = level_of f y.piece - suc lx in
          let e : level_of f y.piece ≡ suc (lx + (level_of f y.piece - suc lx)) = omega arith in
          let there : IsThere f n l words views good r (child_at f (over f here (suc (lx + (level_of f y.piece - suc lx)))) (slot f here (suc (lx + (level_of f y.piece - suc lx))))) =
          subst (IsThere f n l words views good r) (sym (child_over f here (lx + (level_of f y.piece - suc lx)))) (up (level_of f y.piece - suc lx) (omega arith)) in
          let child_is : has_child f l words views (over f here (suc (lx + (level_of f y.piece - suc lx)))) (slot f here (suc (lx + (level_of f y.piece - suc lx)))) ≡ true =
          and_from (nat_lt 0 (suc (lx + (level_of f y.piece - suc lx)))) _ (lt-ltb 0 (suc (lx + (level_of f y.piece - suc lx))) (omega arith)) there in
          let apart = r.entries.apart (slot f here (suc (lx + (level_of f y.piece - suc lx)))) (over f here (suc (lx + (level_of f y.piece - suc lx)))) child_is in
          let some' : 0 < total (has_piece f (over f here (suc (lx + (level_of f y.piece - suc lx)))) (slot f here (suc (lx + (level_of f y.piece - suc lx))))) views =
          subst (λ (j : ℕ). 0 < total (has_piece f (over f here j) (slot f here j)) views) e present in omega arith

    root_over : here < pages_of_table f (root_level words) → over f here (root_level words) ≡ spine_position (root_level words)
    root_over low =
        let t : ℕ = pages_of_table f (root_level words) in
        let none : here / pages_of_table f (root_level words) ≡ 0 = (let e : here ≡ 0 * t + here = omega arith in ap (λ (k : ℕ). k / t) e ∙ div-mul-add 0 t here low) in
        same_position (over f here (root_level words)) (spine_position (root_level words)) refl (ap (λ (k : ℕ). k * pages_of_table f (root_level words)) none ∙ (let z : 0 * t ≡ 0 = omega arith in z))

    by_walk : (to : Reached) → here < pages_of_table f (root_level words) → Goes (root_level words + 1) (root_frame words) to → f.walk words address ≡ to
    by_walk to low way =
        walk.walks words address here (record { rooted = rooted; small = small; at_page = at; under_root = low }) way.0 ∙ way.1

    root_linked : here < pages_of_table f (root_level words) → IsLinkedAt n words views (root_frame words) (over f here (root_level words))
    root_linked low = subst (IsLinkedAt n words views (root_frame words)) (sym (root_over low)) r.root.is_linked

    found : (c : IsCovered f views here) → f.walk words address ≡ byte_of_piece f c.piece address here
    found c =
        let low = under_root c in let small_level = low_enough c in
        let e : lx c + (root_level words - lx c) ≡ root_level words = omega arith in
        let next : suc (lx c + (root_level words - lx c)) ≡ root_level words + 1 = omega arith in
        by_walk (byte_of_piece f c.piece address here) low
        (subst (λ (j : ℕ). Goes j (root_frame words) (byte_of_piece f c.piece address here)) next
        (found_below c (root_level words - lx c) (root_frame words) (omega arith) (subst (λ (j : ℕ). IsLinkedAt n words views (root_frame words) (over f here j)) (sym e) (root_linked low))))

    none : ¬ IsCovered f views here → f.walk words address ≡ nowhere
    none bare = elim (cases_lt here (pages_of_table f (root_level words))) [
      | inl low ↦
          (let next : suc (root_level words) ≡ root_level words + 1 = omega arith in
          by_walk nowhere low (subst (λ (j : ℕ). Goes j (root_frame words) nowhere) next
          (none_below bare (root_level words) (root_frame words) rooted.low (root_linked low))))
      | inr beyond ↦ walk.beyond words address here rooted small at beyond
    ]

    one_piece_over : (x y : IsCovered f views here) → x.piece ≡ y.piece
    one_piece_over x y = elim (cases_lt (lx x) (lx y)) [
      | inl less ↦ absurd (none_above x y less (some_here y) (low_enough y))
      | inr more ↦ elim (cases_lt (lx y) (lx x)) [
        | inl less ↦ absurd (none_above y x less (some_here x) (low_enough x))
        | inr same ↦ (let one = as_one x (lx y) (omega arith) in sym one.1 ∙ same_piece y one.0)
      ]
    ]

    union : IsUnion f words views address here
    union = record {
      found = found;
      none = none;
      either = covered_or_not f views here;
      known = λ e. elim (covered_or_not f views here) [
        | inl c ↦ not_strange _ _ (sym (found c) ∙ e)
        | inr bare ↦ nowhere_is (sym (none bare) ∙ e)
      ];
      one = one_piece_over;
    }

pub walk_is_union : WalkIsUnion
walk_is_union f good agree walk n l words views r address small = (
  (λ e. walk.no_page words address (rooted f good agree walk n l words views r) small e),
  (λ here at. union f good agree walk n l words views r address here small at),
)
