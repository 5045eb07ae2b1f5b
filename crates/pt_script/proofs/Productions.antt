-- The table of what may come next takes to its end the lines that the productions make.
use Rattle.std.proofs.Common.{◌≡◌, ℕ, zero, suc, ◌+◌, ◌≤◌, Bool, true, false, List, [], ◌∷◌, ◌++◌, length, Option, Some, None, nat_le, nat_lt, refl, ap, subst, sym, ◌∙◌, arith, cond, append_assoc}
use Rattle.std.specs.Prelude.{option_and_then, IsSome, IsNone, IsTrue, count_by, ◌&&◌}
use Rattle.pt_model.specs.declared.command.Name.{Name}
use Rattle.pt_model.specs.declared.command.Name.TheVariants.{AmdV1, VtdSs3, VtdSs4, VtdSs5, X86L4, X86L5, Vmsa4, Vmsa16, Vmsa64, Sv39, Sv48, Sv57}
use Rattle.pt_script.specs.declared.line.Side.{Side}
use Rattle.pt_script.specs.declared.line.Side.TheVariants.{Left, Right}
use Rattle.pt_script.specs.declared.line.Line.{Line}
use Rattle.pt_script.specs.declared.line.Line.TheVariants as form
use Rattle.pt_script.specs.Lines.{keyword_of, is_command, is_dump, frame_limit}
use Rattle.pt_script.specs.Text.{all_stated}
use Rattle.pt_script.specs.Grammar.{IsBody, IsTail, IsScript, Place, AtFormat, AtFrames, AtHold, InBody, InTail, Over, State, start, may_stand, behind, fits, are_legal_levels, after, is_over, ends_over, is_taken, IsFirstRefused, IsTheGrammar}
use Rattle.pt_script.proofs.Steps.{never, not_some, same_some, both, and_true, at_most, is_at_most, less, is_less, is_not_less, tested, passed, some_of, none_of, through, leads, led, with_counts, after-append, through-append, count_by-append}

-- What is still to come at a place in the body, by the productions.
abbrev Completes : ℕ → List Side → List Line → Type 0
Completes room [] ls = (body : List Line) × (tail : List Line) × IsBody false room body × IsTail tail × (ls ≡ body ++ form.Close ∷ tail ++ form.End ∷ [])
Completes room (Left ∷ forks) ls = (left : List Line) × (right : List Line) × (rest : List Line) × IsBody true room left × IsBody true room right × Completes (suc room) forks rest × (ls ≡ left ++ form.With ∷ right ++ form.End ∷ rest)
Completes room (Right ∷ forks) ls = (right : List Line) × (rest : List Line) × IsBody true room right × Completes (suc room) forks rest × (ls ≡ right ++ form.End ∷ rest)

-- a line that stands anywhere in the body
abbrev Plain : Line → Type 0
Plain l = (inside : Bool) (room : ℕ) (ls : List Line) → IsBody inside room ls → IsBody inside room (l ∷ ls)

plain_first : (l : Line) → Plain l → (room : ℕ) (forks : List Side) (ls : List Line) → Completes room forks ls → Completes room forks (l ∷ ls)
plain_first l p room [] ls (body, tail, is_body, is_tail, e) = (l ∷ body, tail, p false room body is_body, is_tail, ap (λ x. l ∷ x) e)
plain_first l p room (Left ∷ forks) ls (left, right, rest, is_left, is_right, more, e) = (l ∷ left, right, rest, p true room left is_left, is_right, more, ap (λ x. l ∷ x) e)
plain_first l p room (Right ∷ forks) ls (right, rest, is_right, more, e) = (l ∷ right, rest, p true room right is_right, more, ap (λ x. l ∷ x) e)

fork_first : (room at : ℕ) (forks : List Side) (ls : List Line) → Completes room (Left ∷ forks) ls → Completes (suc room) forks (form.Fork at ∷ ls)
fork_first room at [] ls (left, right, rest, is_left, is_right, (body, tail, is_body, is_tail, f), e) = (
  form.Fork at ∷ left ++ form.With ∷ right ++ form.End ∷ body,
  tail,
  IsBody.fork false room at left right body is_left is_right is_body,
  is_tail,
  ap (λ x. form.Fork at ∷ x) (e ∙ ap (λ x. left ++ form.With ∷ right ++ form.End ∷ x) f) ∙ simp append_assoc,
)
fork_first room at (Left ∷ forks) ls (left, right, rest, is_left, is_right, (body, right2, rest2, is_body, is_right2, more, f), e) = (
  form.Fork at ∷ left ++ form.With ∷ right ++ form.End ∷ body,
  right2,
  rest2,
  IsBody.fork true room at left right body is_left is_right is_body,
  is_right2,
  more,
  ap (λ x. form.Fork at ∷ x) (e ∙ ap (λ x. left ++ form.With ∷ right ++ form.End ∷ x) f) ∙ simp append_assoc,
)
fork_first room at (Right ∷ forks) ls (left, right, rest, is_left, is_right, (body, rest2, is_body, more, f), e) = (
  form.Fork at ∷ left ++ form.With ∷ right ++ form.End ∷ body,
  rest2,
  IsBody.fork true room at left right body is_left is_right is_body,
  more,
  ap (λ x. form.Fork at ∷ x) (e ∙ ap (λ x. left ++ form.With ∷ right ++ form.End ∷ x) f) ∙ simp append_assoc,
)

-- The tail.
pub over_stops : (l : Line) → may_stand (keyword_of l) Over ≡ false
over_stops (form.Format name levels) = refl
over_stops (form.Frames frames) = refl
over_stops (form.Hold hold) = refl
over_stops (form.Map va pa len prot) = refl
over_stops (form.Unmap va len) = refl
over_stops (form.Lookup va) = refl
over_stops form.Dump = refl
over_stops form.Release = refl
over_stops (form.Fork at) = refl
over_stops form.With = refl
over_stops form.End = refl
over_stops form.Close = refl
over_stops (form.Walk va) = refl
over_stops form.Census = refl

nothing_through_over : (l : Line) (ls : List Line) → through Over (l ∷ ls) ≡ None
nothing_through_over l ls = ap (λ b. option_and_then (λ q. through q ls) (cond (b && fits l Over) (Some (behind l Over)) None)) (over_stops l)

tail_made : (ls : List Line) → through InTail ls ≡ Some Over → (tail : List Line) × IsTail tail × (ls ≡ tail ++ form.End ∷ [])
tail_made [] e = cc
tail_made (form.Walk va ∷ ls) e = let h = tail_made ls e in (form.Walk va ∷ h.0, IsTail.walk va h.0 h.1, ap (λ x. form.Walk va ∷ x) h.2)
tail_made (form.Census ∷ ls) e = let h = tail_made ls e in (form.Census ∷ h.0, IsTail.census h.0 h.1, ap (λ x. form.Census ∷ x) h.2)
tail_made (form.End ∷ []) e = ([], IsTail.nothing, refl)
tail_made (form.End ∷ l ∷ ls) e = absurd (not_some (sym (nothing_through_over l ls) ∙ e))
tail_made (l ∷ ls) e = absurd (not_some e)

tail_taken : (tail : List Line) → IsTail tail → through InTail (tail ++ form.End ∷ []) ≡ Some Over
tail_taken _ (IsTail.nothing) = refl
tail_taken _ (IsTail.walk va ls t) = tail_taken ls t
tail_taken _ (IsTail.census ls t) = tail_taken ls t

-- The body: what the table takes is made by the productions.
body_made : (ls : List Line) (room : ℕ) (forks : List Side) → room + length forks ≡ 16 → through (InBody forks) ls ≡ Some Over → Completes room forks ls
body_made [] room forks d e = cc
body_made (form.Map va pa len prot ∷ ls) room forks d e = plain_first _ (λ inside room ls b. IsBody.map inside room va pa len prot ls b) room forks ls (body_made ls room forks d e)
body_made (form.Unmap va len ∷ ls) room forks d e = plain_first _ (λ inside room ls b. IsBody.unmap inside room va len ls b) room forks ls (body_made ls room forks d e)
body_made (form.Lookup va ∷ ls) room forks d e = plain_first _ (λ inside room ls b. IsBody.lookup inside room va ls b) room forks ls (body_made ls room forks d e)
body_made (form.Dump ∷ ls) room forks d e = plain_first _ (λ inside room ls b. IsBody.dump inside room ls b) room forks ls (body_made ls room forks d e)
body_made (form.Fork at ∷ ls) zero forks d e =
    let h = tested (nat_lt (length forks) 16) (InBody (Left ∷ forks)) (λ q. through q ls) Over e in
    absurd (never (sym (is_not_less (length forks) 16 (omega arith)) ∙ h.0))
body_made (form.Fork at ∷ ls) (suc room) forks d e =
    let h = tested (nat_lt (length forks) 16) (InBody (Left ∷ forks)) (λ q. through q ls) Over e in
    fork_first room at forks ls (body_made ls room (Left ∷ forks) (omega arith) h.1)
body_made (form.Release ∷ ls) room [] d e =
    let h = body_made ls room [] d e in
    (form.Release ∷ h.0, h.1, IsBody.release room h.0 h.2, h.3, ap (λ x. form.Release ∷ x) h.4)
body_made (form.With ∷ ls) room (Left ∷ forks) d e =
    let h = body_made ls room (Right ∷ forks) d e in
    ([], h.0, h.1, IsBody.nothing true room, h.2, h.3, ap (λ x. form.With ∷ x) h.4)
body_made (form.End ∷ ls) room (Right ∷ forks) d e =
    ([], ls, IsBody.nothing true room, body_made ls (suc room) forks (omega arith) e, refl)
body_made (form.Close ∷ ls) room [] d e =
    let h = tail_made ls e in
    ([], h.0, IsBody.nothing false room, h.1, ap (λ x. form.Close ∷ x) h.2)
body_made (l ∷ ls) room forks d e = absurd (not_some e)

-- The header.
legal : (name : Name) (levels : ℕ) → are_legal_levels name levels ≡ true → (name ≡ AmdV1 → 3 ≤ levels) × (name ≡ AmdV1 → levels ≤ 6)
legal AmdV1 levels e = let b = both (nat_le 3 levels) (nat_le levels 6) e in (λ _. at_most _ _ b.0, λ _. at_most _ _ b.1)
legal VtdSs3 levels e = (λ f. cc, λ f. cc)
legal VtdSs4 levels e = (λ f. cc, λ f. cc)
legal VtdSs5 levels e = (λ f. cc, λ f. cc)
legal X86L4 levels e = (λ f. cc, λ f. cc)
legal X86L5 levels e = (λ f. cc, λ f. cc)
legal Vmsa4 levels e = (λ f. cc, λ f. cc)
legal Vmsa16 levels e = (λ f. cc, λ f. cc)
legal Vmsa64 levels e = (λ f. cc, λ f. cc)
legal Sv39 levels e = (λ f. cc, λ f. cc)
legal Sv48 levels e = (λ f. cc, λ f. cc)
legal Sv57 levels e = (λ f. cc, λ f. cc)

is_legal : (name : Name) (levels : ℕ) → (name ≡ AmdV1 → 3 ≤ levels) → (name ≡ AmdV1 → levels ≤ 6) → are_legal_levels name levels ≡ true
is_legal AmdV1 levels a b = and_true _ _ (is_at_most _ _ (a refl)) (is_at_most _ _ (b refl))
is_legal VtdSs3 levels a b = refl
is_legal VtdSs4 levels a b = refl
is_legal VtdSs5 levels a b = refl
is_legal X86L4 levels a b = refl
is_legal X86L5 levels a b = refl
is_legal Vmsa4 levels a b = refl
is_legal Vmsa16 levels a b = refl
is_legal Vmsa64 levels a b = refl
is_legal Sv39 levels a b = refl
is_legal Sv48 levels a b = refl
is_legal Sv57 levels a b = refl

script_made : (ls : List Line) → through AtFormat ls ≡ Some Over → count_by is_command ls ≤ 65536 → count_by is_dump ls ≤ 256 → IsScript ls
script_made (form.Format name levels ∷ form.Frames frames ∷ form.Hold hold ∷ ls) e c d =
    let f = tested (are_legal_levels name levels) (AtFrames name) (λ q. through q (form.Frames frames ∷ form.Hold hold ∷ ls)) Over e in
    let g = tested (nat_le 1 frames && nat_le frames (frame_limit name)) (AtHold frames) (λ q. through q (form.Hold hold ∷ ls)) Over f.1 in
    let h = tested (nat_lt hold frames) (InBody []) (λ q. through q ls) Over g.1 in
    let many = both (nat_le 1 frames) (nat_le frames (frame_limit name)) g.0 in
    let b = body_made ls 16 [] refl h.1 in
    record {
      format = name;
      levels = levels;
      frames = frames;
      hold = hold;
      body = b.0;
      tail = b.1;
      whole = ap (λ x. form.Format name levels ∷ form.Frames frames ∷ form.Hold hold ∷ x) b.4;
      is_body = b.2;
      is_tail = b.3;
      some_levels = (legal name levels f.0).0;
      few_levels = (legal name levels f.0).1;
      some_frames = at_most _ _ many.0;
      few_frames = at_most _ _ many.1;
      few_held = less _ _ h.0;
      few_commands = c;
      few_dumps = d;
    }
script_made [] e c d = cc
script_made (form.Format name levels ∷ []) e c d =
    let f = tested (are_legal_levels name levels) (AtFrames name) (λ q. through q []) Over e in cc
script_made (form.Format name levels ∷ form.Frames frames ∷ []) e c d =
    let f = tested (are_legal_levels name levels) (AtFrames name) (λ q. through q (form.Frames frames ∷ [])) Over e in
    let g = tested (nat_le 1 frames && nat_le frames (frame_limit name)) (AtHold frames) (λ q. through q []) Over f.1 in
    cc
script_made (form.Format name levels ∷ form.Frames frames ∷ l ∷ ls) e c d =
    let f = tested (are_legal_levels name levels) (AtFrames name) (λ q. through q (form.Frames frames ∷ l ∷ ls)) Over e in
    let g = tested (nat_le 1 frames && nat_le frames (frame_limit name)) (AtHold frames) (λ q. through q (l ∷ ls)) Over f.1 in
    absurd (not_some g.1)
script_made (form.Format name levels ∷ l ∷ ls) e c d =
    let f = tested (are_legal_levels name levels) (AtFrames name) (λ q. through q (l ∷ ls)) Over e in
    absurd (not_some f.1)
script_made (l ∷ ls) e c d = absurd (not_some e)

-- And back.
no_forks : (side : Side) (forks : List Side) → (false ≡ false → side ∷ forks ≡ []) → ⊥
no_forks side forks h = let e : side ∷ forks ≡ [] = h refl in cc

body_taken : (inside : Bool) (room : ℕ) (ls : List Line) → IsBody inside room ls → (forks : List Side) → (inside ≡ false → forks ≡ []) → room + length forks ≤ 16
    → (rest : List Line) → through (InBody forks) (ls ++ rest) ≡ through (InBody forks) rest
body_taken _ _ _ (IsBody.nothing inside room) forks outer d rest = refl
body_taken _ _ _ (IsBody.map inside room va pa len prot ls b) forks outer d rest = body_taken inside room ls b forks outer d rest
body_taken _ _ _ (IsBody.unmap inside room va len ls b) forks outer d rest = body_taken inside room ls b forks outer d rest
body_taken _ _ _ (IsBody.lookup inside room va ls b) forks outer d rest = body_taken inside room ls b forks outer d rest
body_taken _ _ _ (IsBody.dump inside room ls b) forks outer d rest = body_taken inside room ls b forks outer d rest
body_taken _ _ _ (IsBody.release room ls b) [] outer d rest = body_taken false room ls b [] outer d rest
body_taken _ _ _ (IsBody.release room ls b) (side ∷ forks) outer d rest = absurd (no_forks side forks outer)
body_taken _ _ _ (IsBody.fork inside room at left right ls l r b) forks outer d rest =
    let before : ((left ++ form.With ∷ right) ++ form.End ∷ ls) ++ rest ≡ left ++ (form.With ∷ (right ++ (form.End ∷ (ls ++ rest)))) = simp append_assoc in
    let inner : true ≡ false → Left ∷ forks ≡ [] = λ e. cc in
    let inner2 : true ≡ false → Right ∷ forks ≡ [] = λ e. cc in
    passed (nat_lt (length forks) 16) (InBody (Left ∷ forks)) (λ q. through q (((left ++ form.With ∷ right) ++ form.End ∷ ls) ++ rest)) (is_less _ _ (omega arith))
    ∙ ap (through (InBody (Left ∷ forks))) before
    ∙ body_taken true room left l (Left ∷ forks) inner (omega arith) (form.With ∷ (right ++ (form.End ∷ (ls ++ rest))))
    ∙ body_taken true room right r (Right ∷ forks) inner2 (omega arith) (form.End ∷ (ls ++ rest))
    ∙ body_taken inside (suc room) ls b forks outer d rest

pub script_taken : (ls : List Line) → IsScript ls → through AtFormat ls ≡ Some Over
script_taken ls s =
    let rest = form.Close ∷ (s.tail ++ form.End ∷ []) in
    ap (through AtFormat) (s.whole ∙ ap (λ x. form.Format s.format s.levels ∷ form.Frames s.frames ∷ form.Hold s.hold ∷ x) (append_assoc s.body (form.Close ∷ s.tail) (form.End ∷ [])))
    ∙ passed (are_legal_levels s.format s.levels) (AtFrames s.format) (λ q. through q (form.Frames s.frames ∷ form.Hold s.hold ∷ (s.body ++ rest))) (is_legal s.format s.levels s.some_levels s.few_levels)
    ∙ passed (nat_le 1 s.frames && nat_le s.frames (frame_limit s.format)) (AtHold s.frames) (λ q. through q (form.Hold s.hold ∷ (s.body ++ rest))) (and_true _ _ (is_at_most _ _ s.some_frames) (is_at_most _ _ s.few_frames))
    ∙ passed (nat_lt s.hold s.frames) (InBody []) (λ q. through q (s.body ++ rest)) (is_less _ _ s.few_held)
    ∙ body_taken false 16 s.body s.is_body [] (λ _. refl) (omega arith) rest
    ∙ tail_taken s.tail s.is_tail

-- Whatever was taken can be completed.
closing : List Side → List Line
closing [] = form.Close ∷ form.End ∷ []
closing (Left ∷ forks) = form.With ∷ form.End ∷ closing forks
closing (Right ∷ forks) = form.End ∷ closing forks

closed : (forks : List Side) → through (InBody forks) (closing forks) ≡ Some Over
unfolding closing
closed [] = refl
closed (Left ∷ forks) = closed forks
closed (Right ∷ forks) = closed forks

no_commands : (forks : List Side) → (count_by is_command (closing forks) ≡ 0) × (count_by is_dump (closing forks) ≡ 0)
unfolding closing
no_commands [] = (refl, refl)
no_commands (Left ∷ forks) = no_commands forks
no_commands (Right ∷ forks) = no_commands forks

closing_stated : (forks : List Side) → all_stated (closing forks) ≡ true
unfolding closing
closing_stated [] = refl
closing_stated (Left ∷ forks) = closing_stated forks
closing_stated (Right ∷ forks) = closing_stated forks

-- the frames that a frames line stated are some
abbrev HasRoom : Place → Type 0
HasRoom (AtHold frames) = 1 ≤ frames
HasRoom _ = Unit {0}

record Completed (place : Place) : Type 0 where
  rest : List Line
  over : through place rest ≡ Some Over
  no_command : count_by is_command rest ≡ 0
  no_dump : count_by is_dump rest ≡ 0
  stated : all_stated rest ≡ true

held_none : (frames : ℕ) → 1 ≤ frames → through (AtHold frames) (form.Hold 0 ∷ closing []) ≡ Some Over
held_none frames h = passed (nat_lt 0 frames) (InBody []) (λ q. through q (closing [])) (is_less _ _ (omega arith)) ∙ closed []

one_frame : (name : Name) → nat_le 1 (frame_limit name) ≡ true
one_frame AmdV1 = refl
one_frame VtdSs3 = refl
one_frame VtdSs4 = refl
one_frame VtdSs5 = refl
one_frame X86L4 = refl
one_frame X86L5 = refl
one_frame Vmsa4 = refl
one_frame Vmsa16 = refl
one_frame Vmsa64 = refl
one_frame Sv39 = refl
one_frame Sv48 = refl
one_frame Sv57 = refl

framed : (name : Name) → through (AtFrames name) (form.Frames 1 ∷ form.Hold 0 ∷ closing []) ≡ Some Over
framed name = passed (nat_le 1 1 && nat_le 1 (frame_limit name)) (AtHold 1) (λ q. through q (form.Hold 0 ∷ closing [])) (one_frame name) ∙ held_none 1 (omega arith)

completed : (place : Place) → HasRoom place → Completed place
completed AtFormat h = let n = no_commands [] in record { rest = form.Format Sv39 3 ∷ form.Frames 1 ∷ form.Hold 0 ∷ closing []; over = framed Sv39; no_command = n.0; no_dump = n.1; stated = closing_stated [] }
completed (AtFrames name) h = let n = no_commands [] in record { rest = form.Frames 1 ∷ form.Hold 0 ∷ closing []; over = framed name; no_command = n.0; no_dump = n.1; stated = closing_stated [] }
completed (AtHold frames) h = let n = no_commands [] in record { rest = form.Hold 0 ∷ closing []; over = held_none frames h; no_command = n.0; no_dump = n.1; stated = closing_stated [] }
completed (InBody forks) h = let n = no_commands forks in record { rest = closing forks; over = closed forks; no_command = n.0; no_dump = n.1; stated = closing_stated forks }
completed InTail h = record { rest = form.End ∷ []; over = refl; no_command = refl; no_dump = refl; stated = refl }
completed Over h = record { rest = []; over = refl; no_command = refl; no_dump = refl; stated = refl }

-- a line leads to a place with room
abbrev stands_and_fits : Line → Place → Bool
stands_and_fits l p = may_stand (keyword_of l) p && fits l p

roomy : (l : Line) (p : Place) → HasRoom p → stands_and_fits l p ≡ true → HasRoom (behind l p)
roomy (form.Frames frames) (AtFrames name) h e = at_most _ _ (both (nat_le 1 frames) (nat_le frames (frame_limit name)) e).0
roomy (form.Format name levels) AtFormat h e = tt
roomy (form.Hold hold) (AtHold frames) h e = tt
roomy (form.Fork at) (InBody forks) h e = tt
roomy form.With (InBody []) h e = tt
roomy form.With (InBody (side ∷ forks)) h e = tt
roomy form.End (InBody []) h e = tt
roomy form.End (InBody (side ∷ forks)) h e = tt
roomy form.Close (InBody forks) h e = tt
roomy form.End InTail h e = tt
roomy l p h e = h

kept_room : (ls : List Line) (p q : Place) → HasRoom p → through p ls ≡ Some q → HasRoom q
kept_room [] p q h e = subst HasRoom (same_some p q e) h
kept_room (l ∷ ls) p q h e =
    let t = tested (stands_and_fits l p) (behind l p) (λ r. through r ls) q e in
    kept_room ls (behind l p) q (roomy l p h t.0) t.1

-- The end of a script.
over_is : (o : Option State) → ends_over o ≡ true → (t : State) × (o ≡ Some t) × (t.place ≡ Over)
over_is None e = absurd (never e)
over_is (Some t) e = (t, refl, place_is t.place e)
  where
    place_is : (p : Place) → is_over p ≡ true → p ≡ Over
    place_is AtFormat e = absurd (never e)
    place_is (AtFrames name) e = absurd (never e)
    place_is (AtHold frames) e = absurd (never e)
    place_is (InBody forks) e = absurd (never e)
    place_is InTail e = absurd (never e)
    place_is Over e = refl

pub taken_is : (ls : List Line) → IsTrue (is_taken ls) → (t : State) × (after start ls ≡ Some t) × (t.place ≡ Over)
taken_is ls h = over_is (after start ls) h

pub is_taken_by : (ls : List Line) (t : State) → after start ls ≡ Some t → t.place ≡ Over → IsTrue (is_taken ls)
is_taken_by ls t e f = ap ends_over e ∙ ap is_over f

pub made : (ls : List Line) → IsTrue (is_taken ls) → IsScript ls
made ls h =
    let t = taken_is ls h in
    let l = leads ls start t.0 t.1 in
    script_made ls (l.places ∙ ap Some t.2) (omega (arith, l.commands, l.few_commands (omega arith))) (omega (arith, l.dumps, l.few_dumps (omega arith)))

unmade : (ls : List Line) → IsScript ls → IsTrue (is_taken ls)
unmade ls s =
    is_taken_by ls (with_counts Over start ls) (led ls start Over (script_taken ls s) (omega (arith, s.few_commands)) (omega (arith, s.few_dumps))) refl

stops_first : (ls : List Line) (l : Line) → IsSome (after start ls) → IsNone (after start (ls ++ l ∷ [])) → IsFirstRefused ls l
stops_first ls l some none =
    let here = some_of (after start ls) some in
    let way = leads ls start here.0 here.1 in
    let end = completed here.0.place (kept_room ls AtFormat here.0.place tt way.places) in
    let places : through AtFormat (ls ++ end.rest) ≡ Some Over = through-append ls end.rest AtFormat ∙ ap (option_and_then (λ q. through q end.rest)) way.places ∙ end.over in
    let commands : count_by is_command (ls ++ end.rest) ≤ 65536 = omega (arith, count_by-append is_command ls end.rest, end.no_command, way.commands, way.few_commands (omega arith)) in
    let dumps : count_by is_dump (ls ++ end.rest) ≤ 256 = omega (arith, count_by-append is_dump ls end.rest, end.no_dump, way.dumps, way.few_dumps (omega arith)) in
    record {
      before = (end.rest, script_made (ls ++ end.rest) places commands dumps);
      refused = λ more s.
          let t = taken_is ((ls ++ l ∷ []) ++ more) (unmade ((ls ++ l ∷ []) ++ more) s) in
          not_some (ap (option_and_then (λ q. after q more)) (sym (none_of _ none)) ∙ sym (after-append (ls ++ l ∷ []) more start) ∙ t.1);
    }

-- the lines that were taken begin a script
pub begun : (ls : List Line) (s : State) → after start ls ≡ Some s → (more : List Line) × IsTrue (is_taken (ls ++ more)) × IsTrue (all_stated more)
begun ls s e =
    let way = leads ls start s e in
    let end = completed s.place (kept_room ls AtFormat s.place tt way.places) in
    let places : through AtFormat (ls ++ end.rest) ≡ Some Over = through-append ls end.rest AtFormat ∙ ap (option_and_then (λ q. through q end.rest)) way.places ∙ end.over in
    let commands : count_by is_command (ls ++ end.rest) ≤ 65536 = omega (arith, count_by-append is_command ls end.rest, end.no_command, way.commands, way.few_commands (omega arith)) in
    let dumps : count_by is_dump (ls ++ end.rest) ≤ 256 = omega (arith, count_by-append is_dump ls end.rest, end.no_dump, way.dumps, way.few_dumps (omega arith)) in
    (end.rest, is_taken_by (ls ++ end.rest) (with_counts Over start (ls ++ end.rest)) (led (ls ++ end.rest) start Over places (omega (arith, commands)) (omega (arith, dumps))) refl, end.stated)

pub the_grammar : IsTheGrammar
the_grammar = record { scripts = λ ls. (made ls, unmade ls); stops = stops_first }
