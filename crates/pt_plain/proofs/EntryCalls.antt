-- The calls on an entry of the path's last table: enter, install, write and clear.
use Rattle.std.proofs.Common.{◌≡◌, ◌≢◌, ◌⊎◌, inl, inr, ℕ, Bool, ◌-◌, ◌%◌, ◌<◌, List, [], ◌∷◌, ◌++◌, refl, ap, sym, ◌∙◌, subst, arith, eq-eqb, ⊎_elim}
use Rattle.std.specs.Prelude.{None, Some, ◌==◌, slice_index, slice_set, if◌then◌else◌}
use Rattle.std.proofs.lemmas.Bool.{ne_eqb}
use Rattle.pt_model.specs.declared.position.Position.{Position}
use Rattle.pt_model.specs.declared.block.Prot.{Prot}
use Rattle.pt_model.specs.Layout.{Layout}
use Rattle.pt_model.specs.Sets.{IsAmong, SamePositions}
use Rattle.pt_model.specs.Tables.{child_at}
use Rattle.pt_model.specs.Words.{entry_of, entry_place, frame_address, frame_named, root_level, tag}
use Rattle.pt_model.proofs.Places.{root_after_entry, tag_after_entry}
use Rattle.pt_format.specs.Words.{IsLeaf, IsPointer, IsTableLevel, IsWritten as IsWrittenWord}
use Rattle.pt_view.specs.declared.view.View.{View}
use Rattle.pt_view.specs.declared.view.Node.{Node}
use Rattle.pt_view.specs.declared.view.Piece.{Piece}
use Rattle.pt_view.specs.declared.view.Prepared.{Prepared}
use Rattle.pt_view.specs.declared.holder.Seen.{Seen}
use Rattle.pt_view.specs.declared.holder.Seen.TheVariants.{Empty, Leaf, Entered}
use Rattle.pt_view.specs.declared.holder.Won.{Won}
use Rattle.pt_view.specs.declared.holder.Won.TheVariants.{Yes, Met}
use Rattle.pt_view.specs.Pieces.{word_of}
use Rattle.pt_view.specs.Calls.{InstallFinds, IsCleared, IsInstalled, IsWritten, Looked, MayClear, MayDrop, MayInstall, MayPut, MayWrite, MeetsEntry, Went, lowest, zero, leaf, table}
use Rattle.pt_rule.specs.Kinds.{IsLowestIn, WriteTells, after, clear, frame_of, install, level_at, look, pointer_to, put, write}
use Rattle.pt_rule.specs.Meets.{Always, Enters as EntersBy, Installs, IsWhole}
use Rattle.pt_rule.proofs.TablesAdded.{with_cases}
use Rattle.pt_plain.specs.Owner.{Fields, IsOwner, prepared_at, span_view, whole_view}
use Rattle.pt_plain.proofs.Carried.{cleared_on, installed_on, went_on, written_on}
use Rattle.pt_plain.proofs.Laws.{Laws}
use Rattle.pt_plain.proofs.Matches.{path_deeper, path_kept, prepared_kept, prepared_none, purse_kept}
use Rattle.pt_plain.proofs.Owners.{Does, frame_within, given, level_below, level_is, low_here, lowest_in, matches, shown, span_whole, whole}
use Rattle.pt_plain.proofs.Steps.{loaded, noted_after, read_back, says, stored, told}

-- What the calls do: the path goes into a child, which is linked at the entry or was, or a word is written or cleared there.
module _ {f : Layout} {o : Fields} (own : IsOwner f o) (number : ℕ) where
  -- the word in the entry
  abbrev pub word_at : ℕ
  word_at = entry_of f o.frames o.words (slice_index o.path o.level) number

  -- what is asked of the view before
  abbrev pub MayEnter : Type 0
  MayEnter = MeetsEntry f (span_view f o) number

  abbrev pub MayLink : Type 0
  MayLink = MayInstall f (span_view f o) number

  abbrev pub Enters : (child : ℕ) → Type 0
  Enters child = Does f o (record o { path = slice_set o.path (o.level - 1) child; level = o.level - 1 }) (λ v w. Went f ⊥ (Unit {0}) number v Entered w)

  abbrev pub Meets : (child : ℕ) → Type 0
  Meets child = Does f o (record o { path = slice_set o.path (o.level - 1) child; level = o.level - 1 }) (λ v w. IsInstalled f ⊥ number v Met w)

  abbrev pub Links : (frame : ℕ) (words : List ℕ) → Type 0
  Links frame words =
      Does f o (record o { words = words; path = slice_set o.path (o.level - 1) frame; level = o.level - 1; prepared = None }) (λ v w. IsInstalled f ⊥ number v Yes w)

  abbrev pub MayEmpty : Type 0
  MayEmpty = MayClear f (span_view f o) number

  abbrev pub Clears : (words : List ℕ) → Type 0
  Clears words = Does f o (record o { words = words }) (λ v w. IsCleared f ⊥ number v w)

  abbrev pub Writes : (word : ℕ) (words : List ℕ) → Type 0
  Writes word words = Does f o (record o { words = words }) (λ v w. IsWritten f ⊥ number word v w × (w.tables ≡ v.tables) × (w.top ≡ v.top))

-- the tags and the root stay where an entry is stored
module _ (f : Layout) (o : Fields) (frame number word : ℕ) (words : List ℕ) (is : words ≡ slice_set o.words (entry_place f o.frames frame number) word) where
  root_stays : root_level words ≡ root_level o.words
  root_stays = ap (λ (z : ℕ). z % 8) (ap (λ (ws : List ℕ). slice_index ws 0) is ∙ root_after_entry f o.frames o.words frame number word)

  tags_stay : (g : ℕ) → g < o.frames → tag words g ≢ 0 → tag o.words g ≢ 0
  tags_stay g lt some z = some (ap (λ (ws : List ℕ). tag ws g) is ∙ tag_after_entry f o.frames o.words frame number word g lt ∙ z)

module _ {f : Layout} (laws : Laws f) {o : Fields} (own : IsOwner f o) (number : ℕ) where
  abbrev v : View
  v = whole_view f o

  abbrev frame : ℕ
  frame = slice_index o.path o.level

  abbrev found : ℕ
  found = entry_of f o.frames o.words frame number

  -- Enter.

  module _ (meets : MeetsEntry f (span_view f o) number) where
    may : IsLowestIn v frame × MeetsEntry f v number
    may = let m = given own (λ w. MeetsEntry f w number) meets in (lowest_in own m.entry, m)

    abbrev place : Position
    place = may.1.position

    pub within : frame < o.frames
    within = frame_within own may.1.entry

    pub below : o.level < f.levels
    below = level_below own may.1.entry

    same_level : place.level ≡ o.level
    same_level = level_is own may.1.entry

    abbrev u : View
    u = after f (look frame number) found v

    enters : EntersBy f place number v found u
    enters = says laws own (look frame number) may place may.1.entry

    -- a word that isn't zero is one of the format's
    pub written : found ≢ 0 → IsWrittenWord f o.level found
    written some = subst (λ (k : ℕ). IsWrittenWord f k found) same_level (enters.some some)

    stays : {seen : Seen} → Went f Always (IsWhole f v) number v seen u → u.path ≡ v.path → SamePositions v.known u.known → Does f o o (λ v w. Went f ⊥ (Unit {0}) number v seen w)
    stays {seen = seen} r path known =
        let m = matches own in
        read_back laws own u o (loaded laws own (look frame number) may refl) r.range own.span
        (record { purse = purse_kept r.purse m.purse; path = path_kept path refl m.path; prepared = prepared_kept r.prepared m.prepared })
        (noted_after own u r.busy (λ g lt some. some) (λ p h. (known p).1 h) (λ p h. inl (subst (λ (ps : List Position). IsAmong ps p) r.book.tables h)) r.book.top)
        (λ v w. Went f ⊥ (Unit {0}) number v seen w) (λ a. went_on a (whole own) r)

    path_of : (seen : Seen) (w : View) → (seen ≢ Entered) → Looked f Always (IsWhole f v) v place number seen w → (w.path ≡ v.path) × SamePositions v.known w.known
    path_of Empty w not (zero x path known vacant history) = (path, known)
    path_of (Leaf word) w not (leaf x word' piece path known history member at once is under) = (path, known)
    path_of Entered w not l = absurd (not refl)

    pub finds_zero : found ≡ 0 → Does f o o (λ v w. Went f ⊥ (Unit {0}) number v Empty w)
    finds_zero z = let r = enters.zero z in let p = path_of Empty u (λ e. let w : ⊥ = cc in w) (r.looked place may.1.entry) in stays r p.0 p.1

    pub finds_leaf : (log2 : ℕ) (prot : Prot) → IsLeaf f o.level found log2 prot → Does f o o (λ v w. Went f ⊥ (Unit {0}) number v (Leaf found) w)
    finds_leaf log2 prot read =
        let r = enters.leaf log2 prot (subst (λ (k : ℕ). IsLeaf f k found log2 prot) (sym same_level) read) in
        let p = path_of (Leaf found) u (λ e. let w : ⊥ = cc in w) (r.looked place may.1.entry) in stays r p.0 p.1

    known_of : (w : View) → Looked f Always (IsWhole f v) v place number Entered w → (p : Position) → IsAmong v.known p → IsAmong w.known p
    known_of w (table x g path known history high none owned) p h = (known p).1 (inr h)

    -- a pointer: the path goes into its table
    pub finds_table : (address child : ℕ) → IsPointer f o.level found address → frame_named f address ≡ child → Enters own number child
    finds_table address child read named =
        let e = enters.pointer address (subst (λ (k : ℕ). IsPointer f k found address) (sym same_level) read) in
        let r = e.0 in
        let m = matches own in
        let x : Node = record { frame = child; position = child_at f place number } in
        let goes : u.path ≡ v.path ++ x ∷ [] = e.1 ∙ ap (λ (g : ℕ). v.path ++ (let y : Node = record { frame = g; position = child_at f place number } in y) ∷ []) named in
        let low = low_here own may.1.entry in let high = read.at_level.above in let level = same_level in let few = laws.layout.levels_high in let less = below in
        read_back laws own u (record o { path = slice_set o.path (o.level - 1) child; level = o.level - 1 }) (loaded laws own (look frame number) may refl) r.range own.span
        (record { purse = purse_kept r.purse m.purse; path = path_deeper x goes refl (omega arith) m.path low (omega arith); prepared = prepared_kept r.prepared m.prepared })
        (noted_after own u r.busy (λ g lt some. some) (known_of u (r.looked place may.1.entry)) (λ p h. inl (subst (λ (ps : List Position). IsAmong ps p) r.book.tables h)) r.book.top)
        (λ v w. Went f ⊥ (Unit {0}) number v Entered w) (λ a. went_on a (whole own) r)

  -- Install.

  module _ (asked : MayInstall f (span_view f o) number) where
    links : MayInstall f v number
    links = given own (λ w. MayInstall f w number) asked

    ready : IsLowestIn v frame × MayInstall f v number
    ready = (lowest_in own links.entry, links)

    pub install_within : frame < o.frames
    install_within = frame_within own links.entry

    at_level : links.position.level ≡ o.level
    at_level = level_is own links.entry

    pub high : 0 < o.level
    high = let e = at_level in let h = links.high in omega arith

    -- the level is one of a table with tables below it
    pub table_level : IsTableLevel f o.level
    table_level = record { above = high; below = level_below own links.entry }

    abbrev now : View
    now = after f (install frame number) found v

    installs : Installs f links.position number v found now
    installs = says laws own (install frame number) ready links.position links.entry

    child_known : {won : Won} → IsInstalled f Always number v won now → (p : Position) → IsAmong now.tables p → IsAmong v.tables p ⊎ IsAmong now.known p
    child_known r p h =
        let child : Position = child_at f links.position number in
        ⊎_elim (λ (old : IsAmong v.tables p). inl old) (λ (new : p ≡ child). inr ((r.known links.position links.entry p).1 (inl new)))
        (with_cases v.levels v.tables child p (subst (λ (ps : List Position). IsAmong ps p) (r.tables links.position links.entry) h))

    -- what it puts: the prepared frame's pointer where it found zero, and what it found elsewhere
    puts : put f (install frame number) v found ≡ (if found == 0 then f.pointer o.level (frame_address f links.frame) else found)
    puts =
        let level : level_at (lowest v.path) ≡ o.level = ap level_at links.entry.is_lowest ∙ ap (λ (p : Position). p.level) links.entry.at ∙ at_level in
        λ i. if found == 0 then pointer_to f (level i) (links.prepared i) else found

    -- Another table is linked there.
    module _ (nonzero : found ≢ 0) where
      pub met_finds : InstallFinds f (Unit {0}) number (span_view f o) Met
      met_finds = subst (λ (w : View). InstallFinds f (Unit {0}) number w Met) (sym (span_whole own)) (λ _. installs.known nonzero (whole own))

      pub met_pointer : (address : ℕ) × IsPointer f o.level found address
      met_pointer = let s = installs.some nonzero in (s.0, subst (λ (k : ℕ). IsPointer f k found s.0) at_level s.1)

      pub met : (address child : ℕ) → IsPointer f o.level found address → frame_named f address ≡ child → Meets own number child
      met address child read named =
          let r = installs.met nonzero in
          let m = matches own in
          let x : Node = record { frame = child; position = child_at f links.position number } in
          let goes : now.path ≡ v.path ++ x ∷ [] =
          installs.pointer address (subst (λ (k : ℕ). IsPointer f k found address) (sym at_level) read)
          ∙ ap (λ (g : ℕ). v.path ++ (let y : Node = record { frame = g; position = child_at f links.position number } in y) ∷ []) named in
          let low = low_here own links.entry in let h = high in let level = at_level in let few = laws.layout.levels_high in let less = table_level.below in
          read_back laws own now (record o { path = slice_set o.path (o.level - 1) child; level = o.level - 1 })
          (loaded laws own (install frame number) ready (puts ∙ ap (λ (b : Bool). if b then f.pointer o.level (frame_address f links.frame) else found) (ne_eqb found 0 nonzero))) r.range own.span
          (record { purse = purse_kept r.purse m.purse; path = path_deeper x goes refl (omega arith) m.path low (omega arith); prepared = prepared_kept r.prepares m.prepared })
          (noted_after own now r.busy (λ g lt some. some) (λ p h. (r.known links.position links.entry p).1 (inr h)) (child_known r) r.top)
          (λ v w. IsInstalled f ⊥ number v Met w) (λ a. installed_on a r)

    -- The entry is zero, and the prepared frame is linked there.
    module _ (empty : found ≡ 0) where
      pub won_finds : InstallFinds f (Unit {0}) number (span_view f o) Yes
      won_finds = subst (λ (w : View). InstallFinds f (Unit {0}) number w Yes) (sym (span_whole own)) (installs.vacant empty)

      some_frame : (x y : Prepared) → Some x ≡ Some y → x.frame ≡ y.frame
      some_frame x y e = let same : x ≡ y = cc in ap (λ (z : Prepared). z.frame) same

      frame_is : (mine : ℕ) → o.prepared ≡ Some mine → links.frame ≡ mine
      frame_is mine is =
          sym (some_frame _ _ (ap (prepared_at o.words) (sym is) ∙ sym (shown f o).prepared_is ∙ links.prepared))

      pub won : (mine : ℕ) → o.prepared ≡ Some mine → (words : List ℕ) → words ≡ slice_set o.words (entry_place f o.frames frame number) (f.pointer o.level (frame_address f mine)) →
          Links own number mine words
      won mine is words stores =
          let r = (installs.won empty).0 in
          let m = matches own in
          let x : Node = record { frame = mine; position = child_at f links.position number } in
          let goes : now.path ≡ v.path ++ x ∷ [] =
          (installs.won empty).1 ∙ ap (λ (g : ℕ). v.path ++ (let y : Node = record { frame = g; position = child_at f links.position number } in y) ∷ []) (ap frame_of links.prepared ∙ frame_is mine is) in
          let low = low_here own links.entry in let h = high in let level = at_level in let few = laws.layout.levels_high in let less = table_level.below in
          read_back laws own now (record o { words = words; path = slice_set o.path (o.level - 1) mine; level = o.level - 1; prepared = None })
          (stored laws own (install frame number) ready
          (puts ∙ ap (λ (b : Bool). if b then f.pointer o.level (frame_address f links.frame) else found) (eq-eqb found 0 empty) ∙ ap (λ (g : ℕ). f.pointer o.level (frame_address f g)) (frame_is mine is)) stores)
          r.range own.span
          (record {
            purse = purse_kept r.purse m.purse;
            path = path_deeper x goes (root_stays f o frame number _ words stores) (omega arith) m.path low (omega arith);
            prepared = prepared_none r.prepares;
          })
          (noted_after own now r.busy (tags_stay f o frame number _ words stores) (λ p h. (r.known links.position links.entry p).1 (inr h)) (child_known r) r.top)
          (λ v w. IsInstalled f ⊥ number v Yes w) (λ a. installed_on a r)

  -- Write.

  module _ (x : Piece) (asked : MayPut f (span_view f o) number x) where
    puts_it : IsLowestIn v frame × MayPut f v number x
    puts_it = let m = given own (λ w. MayPut f w number x) asked in (lowest_in own m.entry, m)

    pub write_within : frame < o.frames
    write_within = frame_within own puts_it.1.entry

    tells : WriteTells f v x found
    tells = told laws own (write frame number x) puts_it

    pub wrote : (words : List ℕ) → words ≡ slice_set o.words (entry_place f o.frames frame number) (word_of f x) → Writes own number (word_of f x) words
    wrote words stores =
        let after_it : View = after f (write frame number x) found v in
        let r = says laws own (write frame number x) puts_it in
        let m = matches own in
        read_back laws own after_it (record o { words = words }) (stored laws own (write frame number x) puts_it refl stores) r.range own.span
        (record { purse = purse_kept r.purse m.purse; path = path_kept r.path (root_stays f o frame number _ words stores) m.path; prepared = prepared_kept r.prepared m.prepared })
        (noted_after own after_it r.busy (tags_stay f o frame number _ words stores) (λ p h. (r.known p).1 h)
        (λ p h. inl (subst (λ (ps : List Position). IsAmong ps p) (tells.same_tables (whole own)) h)) (tells.same_top (whole own)))
        (λ v w. IsWritten f ⊥ number (word_of f x) v w × (w.tables ≡ v.tables) × (w.top ≡ v.top))
        (λ a. (written_on a r, a.same.book.tables ∙ tells.same_tables (whole own), a.same.book.top ∙ tells.same_top (whole own)))

  -- the word of some piece
  pub wrote_word : {word : ℕ} → MayWrite f (span_view f o) number word → (words : List ℕ) → words ≡ slice_set o.words (entry_place f o.frames frame number) word → Writes own number word words
  wrote_word asked words stores = subst (λ (z : ℕ). Writes own number z words) (sym asked.1)
      (wrote asked.0 asked.2 words (stores ∙ ap (slice_set o.words (entry_place f o.frames frame number)) asked.1))

  -- Clear.

  module _ (asked : MayClear f (span_view f o) number) where
    drops : (x : Piece) × IsLowestIn v frame × MayDrop f v number x
    drops = let m = given own (λ w. MayClear f w number) asked in (m.0, lowest_in own m.1.entry, m.1)

    pub clear_within : frame < o.frames
    clear_within = frame_within own drops.2.entry

    pub cleared : (words : List ℕ) → words ≡ slice_set o.words (entry_place f o.frames frame number) 0 → Clears own number words
    cleared words stores =
        let after_it : View = after f (clear frame number drops.0) found v in
        let r : IsCleared f Always number v after_it = says laws own (clear frame number drops.0) (drops.1, drops.2) in
        let m = matches own in
        read_back laws own after_it (record o { words = words }) (stored laws own (clear frame number drops.0) (drops.1, drops.2) refl stores) r.range own.span
        (record { purse = purse_kept r.purse m.purse; path = path_kept r.path (root_stays f o frame number _ words stores) m.path; prepared = prepared_kept r.prepared m.prepared })
        (noted_after own after_it r.busy (tags_stay f o frame number _ words stores) (λ p h. (r.known p).1 h)
        (λ p h. inl (subst (λ (ps : List Position). IsAmong ps p) r.tables h)) r.top)
        (λ v w. IsCleared f ⊥ number v w) (λ a. cleared_on a r)
