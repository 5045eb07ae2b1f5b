use Rattle.std.proofs.Common.{rules, ◌≡◌, ℕ, ◌+◌, ◌-◌, ◌*◌, ◌≤◌, ◌^◌, List, [], ◌++◌, slice_index, length, take, drop, sym, ap, ◌∙◌, subst, arith}
use Rattle.std.proofs.Math.Seq.{take-append_seam}
use Rattle.std.proofs.lemmas.Nat.{pow_pos}
use Rattle.pt_model.specs.declared.position.Position.{Position}
use Rattle.pt_model.specs.Tables.{spine_position, starting_top}
use Rattle.pt_space.specs.Saved.{IsSound, SavedWords}
use Rattle.pt_image.specs.Bytes.{root_in}
use Rattle.pt_image.specs.Checks.{NamesFirstUsed, position_of}
use Rattle.pt_image.specs.Drafts.{HasSpine, IsBegun, Reaches, Stands}
use Rattle.pt_image.specs.Visits.{HasImage, HasNoStray}
use Rattle.pt_image.proofs.Laws.{resting_book_is_images}
use Rattle.pt_image.proofs.Sounds.{draft_is_sound}
use Rattle.pt_image.proofs.Starts.{starts}
use Rattle.pt_image.proofs.Visiting.{root_back, visited_has}
use Rattle.pt_image.proofs.Whole.{good_image, refused_entry, refused_stray}
use Rattle.pt_image.proofs.checking.check.Goals as goal

written : (xs ys : List ℕ) (k : ℕ) → k ≡ length xs → take k (xs ++ drop (length xs) ys) ≡ xs
written xs ys k e = ap (λ (j : ℕ). take j (xs ++ drop (length xs) ys)) e ∙ take-append_seam xs (drop (length xs) ys)

pub of-requires : goal.of-requires
of-requires g c =
    let f = g.F.Format.layout in
    let law = g.met.F.Format in
    let good = law.lawful_layout in
    let n : ℕ = c.args.header.now.frames in
    let l : ℕ = c.args.header.now.levels in
    let table = c.in-Some.table in
    let root = c.in-Some.ensures.good in
    let top : ℕ = table.level in
    let low : l ≤ top + 1 = root.low in
    let start = c.requires.low in
    let least = good.start_low in
    let begun : IsBegun f n (top + 1) table.frame c.deref_mut.result.now = search rules in
    let begin = starts f good law.words_differ law.steps_agree n (top + 1) table.frame c.deref_mut.result.now c.requires.few root.a_frame
    (omega arith) (let h = root.high in omega arith) begun in
    let at : spine_position (starting_top (top + 1)) ≡ position_of table =
    (let level : top + 1 - 1 ≡ top = omega arith in λ i. record { level = level i; base = sym root.base_is i }) in
    let stands = subst (λ (p : Position). Stands f n (top + 1) c.deref_mut.result.now begin.0 [] table.frame 0 p) at begin.1 in
    let end : Reaches f n (top + 1) (starting_top l) c.visit.new.words begin.0 table.frame (2 ^ f.index) (position_of table) =
    c.in_default-visit.ensures.copies.goes (top + 1) begin.0 [] stands in
    let spine : HasSpine (starting_top l) (spine_position top) end.view =
    (let is : position_of table ≡ spine_position top = λ i. record { level = top; base = root.base_is i } in
    subst (λ (p : Position). HasSpine (starting_top l) p end.view) is (end.spine (pow_pos f.index))) in
    let sound : IsSound f n l c.visit.new.words =
    draft_is_sound f n l top c.visit.new.words end.view end.stands.draft (let t = end.stands.top in omega arith) start (omega arith) low spine end.blocks end.stands.pieces in
    let len : c.in_ok-words.words.len ≡ length c.visit.new.words = (let a = c.visit.ensures.long in let b = c.deref_mut.ensures.len in omega arith) in
    subst (IsSound f n l) (sym (written c.visit.new.words c.in_ok-words.words.items c.in_ok-words.words.len len)) sound

pub returns-clause-image : goal.returns-clause-image
returns-clause-image g c =
    let f = g.F.Format.layout in
    let n : ℕ = c.args.header.now.frames in
    let table = c.in-Some.table in
    let top : ℕ = table.level in
    let root = c.in-Some.ensures.good in
    let image = c.args.image.now in
    let begun : IsBegun f n (top + 1) table.frame c.deref_mut.result.now = search rules in
    let level : top + 1 - 1 ≡ top = omega arith in
    let root_is : slice_index c.deref_mut.result.now 0 ≡ root_in image =
    begun.root ∙ ap (λ (k : ℕ). table.frame * 8 + k) level ∙ root_back (root_in image) table.frame top root.frame_is root.level_is in
    let len : c.in_ok-words.words.len ≡ length c.visit.new.words = (let a = c.visit.ensures.long in let b = c.deref_mut.ensures.len in omega arith) in
    let kept = written c.visit.new.words c.in_ok-words.words.items c.in_ok-words.words.len len in
    let no_stray : HasNoStray f n image c.visit.new.words = subst (HasNoStray f n image) (c.deref.ensures.value ∙ kept) c.in_default-first_stray.ensures.none in
    let words_are : c.of.result.words ≡ c.visit.new.words = ap (λ (s : SavedWords). s.words) c.of.ensures ∙ kept in
    subst (HasImage f n image) (sym words_are)
    (visited_has f n (top + 1) table.frame image c.deref_mut.result.now c.visit.new.words begun root.a_frame root_is c.in_default-visit.ensures.visits no_stray)

pub returns-clause-book : goal.returns-clause-book
returns-clause-book g c =
    let law = g.met.F.Format in
    resting_book_is_images g.F.Format.layout law.lawful_layout law.words_differ law.steps_agree c.args.header.now.frames c.args.header.now.levels c.args.image.now c.of.result.words
    (returns-clause-image g c)

pub returns-clause-good : goal.returns-clause-good
returns-clause-good g c =
    let f = g.F.Format.layout in
    let n : ℕ = c.args.header.now.frames in
    let image = c.args.image.now in
    let table = c.in-Some.table in
    let begun : IsBegun f n (table.level + 1) table.frame c.deref_mut.result.now = search rules in
    let len : c.in_ok-words.words.len ≡ length c.visit.new.words = (let a = c.visit.ensures.long in let b = c.deref_mut.ensures.len in omega arith) in
    let kept = written c.visit.new.words c.in_ok-words.words.items c.in_ok-words.words.len len in
    let no_stray : HasNoStray f n image c.visit.new.words = subst (HasNoStray f n image) (c.deref.ensures.value ∙ kept) c.in_default-first_stray.ensures.none in
    good_image f c.args.header.now image table c.in-Some.ensures.good c.deref_mut.result.now begun c.visit.new.words c.in_default-visit.ensures.good no_stray

pub returns-in-Err-clause-refused : goal.returns-in-Err-clause-refused
returns-in-Err-clause-refused g c =
    let f = g.F.Format.layout in
    let n : ℕ = c.args.header.now.frames in
    let table = c.in-Some.table in
    let begun : IsBegun f n (table.level + 1) table.frame c.deref_mut.result.now = search rules in
    refused_entry f c.args.header.now c.args.image.now table c.in-Some.ensures.good c.deref_mut.result.now begun c.in-Err.fault c.in-Err.ensures.bad

pub returns-in-Some-first_stray-clause-refused : goal.returns-in-Some-first_stray-clause-refused
returns-in-Some-first_stray-clause-refused g c =
    let f = g.F.Format.layout in
    let n : ℕ = c.args.header.now.frames in
    let image = c.args.image.now in
    let table = c.in-Some.table in
    let fault = c.in-Some-first_stray.fault in
    let begun : IsBegun f n (table.level + 1) table.frame c.deref_mut.result.now = search rules in
    let len : c.in_ok-words.words.len ≡ length c.visit.new.words = (let a = c.visit.ensures.long in let b = c.deref_mut.ensures.len in omega arith) in
    let kept = written c.visit.new.words c.in_ok-words.words.items c.in_ok-words.words.len len in
    let names : NamesFirstUsed f n image c.visit.new.words fault =
    subst (λ (ws : List ℕ). NamesFirstUsed f n image ws fault) (c.deref.ensures.value ∙ kept) c.in-Some-first_stray.ensures.first in
    refused_stray f c.args.header.now image table c.in-Some.ensures.good c.deref_mut.result.now begun c.visit.new.words c.in_default-visit.ensures.good fault names
