-- Bodies as flat lists of commands: closed lists, and the fork at the front of one.
use Rattle.std.proofs.Common.{◌≡◌, ℕ, suc, ◌+◌, ◌-◌, ◌≤◌, ◌<◌, List, [], ◌∷◌, ◌++◌, Bool, true, false, length, take, drop, refl, ap, subst, sym, ◌∙◌, arith, append_assoc, length-append}
use Rattle.std.proofs.lemmas.List.{append-nil}
use Rattle.pt_model.specs.declared.block.Prot.{Prot}
use Rattle.pt_model.specs.declared.command.What.{What}
use Rattle.pt_model.specs.declared.command.What.TheVariants as what
use Rattle.pt_model.specs.declared.command.Command.{Command}
use Rattle.pt_script.specs.declared.line.Line.{Line}
use Rattle.pt_script.specs.declared.line.Line.TheVariants as form
use Rattle.pt_script.specs.Lines.{command_line}
use Rattle.pt_script.specs.Grammar.{IsBody}
use Rattle.pt_script.specs.Numbered.{body_lines}
use Rattle.pt_script.specs.Branches.{IsFork, IsForkRest}
use Rattle.pt_laws.specs.Apart.{depth_behind, may_stand, AreClosed}
use Rattle.pt_laws.specs.Need.{fork_lines}
use Rattle.pt_laws.specs.OneText.{is_call, IsNested}
use Rattle.pt_model.specs.Run.{Opened}
use Rattle.pt_script.proofs.BranchLemmas.{come_apart, same_fork}
use Rattle.std.proofs.lemmas.List.{drop_at}
use Rattle.std.proofs.Math.Seq.{take-append_seam}
use Rattle.pt_forks.specs.Running.{IsOneBody}

-- the first command of a list whose first line is this one
record First (l : Line) (ls : List Line) (cs : List Command) : Type 0 where
  pub c : Command
  pub rest : List Command
  pub is : cs ≡ c ∷ rest
  pub line_is : command_line c.what ≡ l
  pub rest_is : body_lines rest ≡ ls

first : (l : Line) (ls : List Line) (cs : List Command) → body_lines cs ≡ l ∷ ls → First l ls cs
first l ls [] e = cc
first l ls (c ∷ cs) e = record { c = c; rest = cs; is = refl; line_is = cc; rest_is = cc }

-- a list of commands whose lines are two lists in turn
record Parts (xs ys : List Line) (cs : List Command) : Type 0 where
  pub front : List Command
  pub back : List Command
  pub is : cs ≡ front ++ back
  pub front_is : body_lines front ≡ xs
  pub back_is : body_lines back ≡ ys

parts : (xs ys : List Line) (cs : List Command) → body_lines cs ≡ xs ++ ys → Parts xs ys cs
parts [] ys cs e = record { front = []; back = cs; is = refl; front_is = refl; back_is = e }
parts (x ∷ xs) ys [] e = cc
parts (x ∷ xs) ys (c ∷ cs) e =
    let h : Parts xs ys cs = parts xs ys cs cc in
    let head : command_line c.what ≡ x = cc in
    record { front = c ∷ h.front; back = h.back; is = ap (λ ds. c ∷ ds) h.is; front_is = ap (λ ls. command_line c.what ∷ ls) h.front_is ∙ ap (λ l. l ∷ xs) head; back_is = h.back_is }

-- Lines that close what they open go on as what follows them.
plain_closed : (c : Command) (depth : ℕ) (rest : List Command) → (w : What) → c.what ≡ w → may_stand w depth ≡ true → depth_behind w depth ≡ depth → AreClosed depth rest → AreClosed depth (c ∷ rest)
plain_closed c depth rest w e stands same h =
    (subst (λ (x : What). may_stand x depth ≡ true) (sym e) stands, subst (λ (n : ℕ). AreClosed n rest) (sym (ap (λ (x : What). depth_behind x depth) e ∙ same)) h)

map_is : (w : What) (va pa len : ℕ) (prot : Prot) → command_line w ≡ form.Map va pa len prot → w ≡ what.Map va pa len prot
map_is (what.Map a b n q) va pa len prot e = cc
map_is (what.Unmap a b) va pa len prot e = cc
map_is (what.Lookup a) va pa len prot e = cc
map_is what.Dump va pa len prot e = cc
map_is what.Release va pa len prot e = cc
map_is (what.Fork a) va pa len prot e = cc
map_is what.With va pa len prot e = cc
map_is what.End va pa len prot e = cc

unmap_is : (w : What) (va len : ℕ) → command_line w ≡ form.Unmap va len → w ≡ what.Unmap va len
unmap_is (what.Map a b n q) va len e = cc
unmap_is (what.Unmap a b) va len e = cc
unmap_is (what.Lookup a) va len e = cc
unmap_is what.Dump va len e = cc
unmap_is what.Release va len e = cc
unmap_is (what.Fork a) va len e = cc
unmap_is what.With va len e = cc
unmap_is what.End va len e = cc

lookup_is : (w : What) (va : ℕ) → command_line w ≡ form.Lookup va → w ≡ what.Lookup va
lookup_is (what.Map a b n q) va e = cc
lookup_is (what.Unmap a b) va e = cc
lookup_is (what.Lookup a) va e = cc
lookup_is what.Dump va e = cc
lookup_is what.Release va e = cc
lookup_is (what.Fork a) va e = cc
lookup_is what.With va e = cc
lookup_is what.End va e = cc

fork_is : (w : What) (va : ℕ) → command_line w ≡ form.Fork va → w ≡ what.Fork va
fork_is (what.Map a b n q) va e = cc
fork_is (what.Unmap a b) va e = cc
fork_is (what.Lookup a) va e = cc
fork_is what.Dump va e = cc
fork_is what.Release va e = cc
fork_is (what.Fork a) va e = cc
fork_is what.With va e = cc
fork_is what.End va e = cc

dump_is : (w : What) → command_line w ≡ form.Dump → w ≡ what.Dump
dump_is (what.Map a b n q) e = cc
dump_is (what.Unmap a b) e = cc
dump_is (what.Lookup a) e = cc
dump_is what.Dump e = refl
dump_is what.Release e = cc
dump_is (what.Fork a) e = cc
dump_is what.With e = cc
dump_is what.End e = cc

release_is : (w : What) → command_line w ≡ form.Release → w ≡ what.Release
release_is (what.Map a b n q) e = cc
release_is (what.Unmap a b) e = cc
release_is (what.Lookup a) e = cc
release_is what.Dump e = cc
release_is what.Release e = refl
release_is (what.Fork a) e = cc
release_is what.With e = cc
release_is what.End e = cc

with_is : (w : What) → command_line w ≡ form.With → w ≡ what.With
with_is (what.Map a b n q) e = cc
with_is (what.Unmap a b) e = cc
with_is (what.Lookup a) e = cc
with_is what.Dump e = cc
with_is what.Release e = cc
with_is (what.Fork a) e = cc
with_is what.With e = refl
with_is what.End e = cc

end_is : (w : What) → command_line w ≡ form.End → w ≡ what.End
end_is (what.Map a b n q) e = cc
end_is (what.Unmap a b) e = cc
end_is (what.Lookup a) e = cc
end_is what.Dump e = cc
end_is what.Release e = cc
end_is (what.Fork a) e = cc
end_is what.With e = cc
end_is what.End e = refl

-- a body before a list that closes what is open
pub body_closed : (inside : Bool) (room : ℕ) (ls : List Line) → IsBody inside room ls → (cs rest : List Command) (depth : ℕ) → body_lines cs ≡ ls → AreClosed depth rest → AreClosed depth (cs ++ rest)
body_closed _ _ _ (IsBody.nothing inside room) [] rest depth e h = h
body_closed _ _ _ (IsBody.nothing inside room) (c ∷ cs) rest depth e h = cc
body_closed _ _ _ (IsBody.map inside room va pa len prot ls b) cs rest depth e h =
    let p = first (form.Map va pa len prot) ls cs e in
    subst (λ ds. AreClosed depth (ds ++ rest)) (sym p.is) (plain_closed p.c depth (p.rest ++ rest) (what.Map va pa len prot) (map_is p.c.what va pa len prot p.line_is) refl refl (body_closed inside room ls b p.rest rest depth p.rest_is h))
body_closed _ _ _ (IsBody.unmap inside room va len ls b) cs rest depth e h =
    let p = first (form.Unmap va len) ls cs e in
    subst (λ ds. AreClosed depth (ds ++ rest)) (sym p.is) (plain_closed p.c depth (p.rest ++ rest) (what.Unmap va len) (unmap_is p.c.what va len p.line_is) refl refl (body_closed inside room ls b p.rest rest depth p.rest_is h))
body_closed _ _ _ (IsBody.lookup inside room va ls b) cs rest depth e h =
    let p = first (form.Lookup va) ls cs e in
    subst (λ ds. AreClosed depth (ds ++ rest)) (sym p.is) (plain_closed p.c depth (p.rest ++ rest) (what.Lookup va) (lookup_is p.c.what va p.line_is) refl refl (body_closed inside room ls b p.rest rest depth p.rest_is h))
body_closed _ _ _ (IsBody.dump inside room ls b) cs rest depth e h =
    let p = first form.Dump ls cs e in
    subst (λ ds. AreClosed depth (ds ++ rest)) (sym p.is) (plain_closed p.c depth (p.rest ++ rest) what.Dump (dump_is p.c.what p.line_is) refl refl (body_closed inside room ls b p.rest rest depth p.rest_is h))
body_closed _ _ _ (IsBody.release room ls b) cs rest depth e h =
    let p = first form.Release ls cs e in
    subst (λ ds. AreClosed depth (ds ++ rest)) (sym p.is) (plain_closed p.c depth (p.rest ++ rest) what.Release (release_is p.c.what p.line_is) refl refl (body_closed false room ls b p.rest rest depth p.rest_is h))
body_closed _ _ _ (IsBody.fork inside room at left right ls l r b) cs rest depth e h =
    let p : First (form.Fork at) (left ++ form.With ∷ right ++ form.End ∷ ls) cs = first (form.Fork at) (left ++ form.With ∷ right ++ form.End ∷ ls) cs e in
    let q : Parts left (form.With ∷ right ++ form.End ∷ ls) p.rest = parts left (form.With ∷ right ++ form.End ∷ ls) p.rest (p.rest_is ∙ append_assoc left (form.With ∷ right) (form.End ∷ ls)) in
    let w : First form.With (right ++ form.End ∷ ls) q.back = first form.With (right ++ form.End ∷ ls) q.back q.back_is in
    let s : Parts right (form.End ∷ ls) w.rest = parts right (form.End ∷ ls) w.rest w.rest_is in
    let z : First form.End ls s.back = first form.End ls s.back s.back_is in
    let after : AreClosed depth (z.rest ++ rest) = body_closed inside (suc room) ls b z.rest rest depth z.rest_is h in
    let fork : p.c.what ≡ what.Fork at = fork_is p.c.what at p.line_is in
    let with_ : w.c.what ≡ what.With = with_is w.c.what w.line_is in
    let end : z.c.what ≡ what.End = end_is z.c.what z.line_is in
    let at_end : AreClosed (suc depth) (z.c ∷ (z.rest ++ rest)) =
    (ap (λ (x : What). may_stand x (suc depth)) end, subst (λ (n : ℕ). AreClosed n (z.rest ++ rest)) (sym (ap (λ (x : What). depth_behind x (suc depth)) end)) after) in
    let at_right : AreClosed (suc depth) (s.front ++ (z.c ∷ (z.rest ++ rest))) = body_closed true room right r s.front (z.c ∷ (z.rest ++ rest)) (suc depth) s.front_is at_end in
    let at_with : AreClosed (suc depth) (w.c ∷ (s.front ++ (z.c ∷ (z.rest ++ rest)))) =
    plain_closed w.c (suc depth) (s.front ++ (z.c ∷ (z.rest ++ rest))) what.With with_ refl refl at_right in
    let at_left : AreClosed (suc depth) (q.front ++ (w.c ∷ (s.front ++ (z.c ∷ (z.rest ++ rest))))) = body_closed true room left l q.front (w.c ∷ (s.front ++ (z.c ∷ (z.rest ++ rest)))) (suc depth) q.front_is at_with in
    let whole : cs ++ rest ≡ p.c ∷ (q.front ++ (w.c ∷ (s.front ++ (z.c ∷ (z.rest ++ rest))))) =
    ap (λ ds. ds ++ rest) (p.is ∙ ap (λ ds. p.c ∷ ds) (q.is ∙ ap (λ ds. q.front ++ ds) (w.is ∙ ap (λ ds. w.c ∷ ds) (s.is ∙ ap (λ ds. s.front ++ ds) z.is))))
    ∙ ap (λ ds. p.c ∷ ds) (append_assoc q.front (w.c ∷ (s.front ++ (z.c ∷ z.rest))) rest ∙ ap (λ ds. q.front ++ (w.c ∷ ds)) (append_assoc s.front (z.c ∷ z.rest) rest)) in
    subst (λ ds. AreClosed depth ds) (sym whole)
    (subst (λ (x : What). may_stand x depth ≡ true) (sym fork) refl, subst (λ (n : ℕ). AreClosed n (q.front ++ (w.c ∷ (s.front ++ (z.c ∷ (z.rest ++ rest)))))) (sym (ap (λ (x : What). depth_behind x depth) fork)) at_left)

pub closed : (inside : Bool) (room : ℕ) (cs : List Command) → IsBody inside room (body_lines cs) → AreClosed 0 cs
closed inside room cs b = subst (λ ds. AreClosed 0 ds) (append-nil cs) (body_closed inside room (body_lines cs) b cs [] 0 refl refl)

command_is : (c : Command) (w : What) → c.what ≡ w → c ≡ record { line = c.line; what = w }
command_is c w e = ap (λ (x : What). (let d : Command = record { line = c.line; what = x } in d)) e

-- a body has a `with` and an `end` for each of its forks
pub body_nested : (inside : Bool) (room : ℕ) (ls : List Line) → IsBody inside room ls → (cs : List Command) → body_lines cs ≡ ls → IsNested cs
body_nested _ _ _ (IsBody.nothing inside room) [] e = IsNested.nothing
body_nested _ _ _ (IsBody.nothing inside room) (c ∷ cs) e = cc
body_nested _ _ _ (IsBody.map inside room va pa len prot ls b) cs e =
    let p = first (form.Map va pa len prot) ls cs e in
    subst IsNested (sym p.is) (IsNested.call p.c p.rest (ap is_call (map_is p.c.what va pa len prot p.line_is)) (body_nested inside room ls b p.rest p.rest_is))
body_nested _ _ _ (IsBody.unmap inside room va len ls b) cs e =
    let p = first (form.Unmap va len) ls cs e in
    subst IsNested (sym p.is) (IsNested.call p.c p.rest (ap is_call (unmap_is p.c.what va len p.line_is)) (body_nested inside room ls b p.rest p.rest_is))
body_nested _ _ _ (IsBody.lookup inside room va ls b) cs e =
    let p = first (form.Lookup va) ls cs e in
    subst IsNested (sym p.is) (IsNested.call p.c p.rest (ap is_call (lookup_is p.c.what va p.line_is)) (body_nested inside room ls b p.rest p.rest_is))
body_nested _ _ _ (IsBody.dump inside room ls b) cs e =
    let p = first form.Dump ls cs e in
    subst IsNested (sym p.is) (IsNested.call p.c p.rest (ap is_call (dump_is p.c.what p.line_is)) (body_nested inside room ls b p.rest p.rest_is))
body_nested _ _ _ (IsBody.release room ls b) cs e =
    let p = first form.Release ls cs e in
    subst IsNested (sym p.is) (IsNested.call p.c p.rest (ap is_call (release_is p.c.what p.line_is)) (body_nested false room ls b p.rest p.rest_is))
body_nested _ _ _ (IsBody.fork inside room at left right ls l r b) cs e =
    let p : First (form.Fork at) (left ++ form.With ∷ right ++ form.End ∷ ls) cs = first (form.Fork at) (left ++ form.With ∷ right ++ form.End ∷ ls) cs e in
    let q : Parts left (form.With ∷ right ++ form.End ∷ ls) p.rest = parts left (form.With ∷ right ++ form.End ∷ ls) p.rest (p.rest_is ∙ append_assoc left (form.With ∷ right) (form.End ∷ ls)) in
    let w : First form.With (right ++ form.End ∷ ls) q.back = first form.With (right ++ form.End ∷ ls) q.back q.back_is in
    let s : Parts right (form.End ∷ ls) w.rest = parts right (form.End ∷ ls) w.rest w.rest_is in
    let z : First form.End ls s.back = first form.End ls s.back s.back_is in
    let fork : p.c ≡ record { line = p.c.line; what = what.Fork at } = command_is p.c (what.Fork at) (fork_is p.c.what at p.line_is) in
    let with_ : w.c ≡ record { line = w.c.line; what = what.With } = command_is w.c what.With (with_is w.c.what w.line_is) in
    let end : z.c ≡ record { line = z.c.line; what = what.End } = command_is z.c what.End (end_is z.c.what z.line_is) in
    let whole : cs ≡ fork_lines p.c.line at w.c.line z.c.line q.front s.front z.rest =
    p.is ∙ ap (λ c. c ∷ p.rest) fork
    ∙ ap (λ ds. record { line = p.c.line; what = what.Fork at } ∷ ds) (q.is ∙ ap (λ ds. q.front ++ ds) (w.is ∙ ap (λ ds. w.c ∷ ds) (s.is ∙ ap (λ ds. s.front ++ ds) (z.is ∙ ap (λ c. c ∷ z.rest) end)) ∙ ap (λ c. c ∷ (s.front ++ (record { line = z.c.line; what = what.End } ∷ z.rest))) with_)) in
    subst IsNested (sym whole)
    (IsNested.fork p.c.line at w.c.line z.c.line q.front s.front z.rest (body_nested true room left l q.front q.front_is) (body_nested true room right r s.front s.front_is)
    (body_nested inside (suc room) ls b z.rest z.rest_is))

take_front : (xs ys : List Command) (n : ℕ) → n ≡ length xs → take n (xs ++ ys) ≡ xs
take_front xs ys n e = ap (λ k. take k (xs ++ ys)) e ∙ take-append_seam xs ys

-- A fork at the front of a body, by its slices.
pub record ForkSlices (cs : List Command) (line at m l : ℕ) (inside : Bool) (room : ℕ) : Type 0 where
  pub middle : ℕ
  pub last : ℕ
  pub whole : cs ≡ fork_lines line at middle last (take (m - 1) (drop 1 cs)) (take (l - (m + 1)) (drop (m + 1) cs)) (drop (l + 1) cs)
  pub within : l + 1 ≤ length cs
  pub less : ℕ
  pub room_is : room ≡ suc less
  pub left_body : IsBody true less (body_lines (take (m - 1) (drop 1 cs)))
  pub right_body : IsBody true less (body_lines (take (l - (m + 1)) (drop (m + 1) cs)))
  pub rest_body : IsBody inside room (body_lines (drop (l + 1) cs))

-- The same, where an owner stands in cuts.
pub record FrontFork (cs : List Command) (line at m l : ℕ) (cuts : List Opened) : Type 0 where
  pub middle : ℕ
  pub last : ℕ
  pub whole : cs ≡ fork_lines line at middle last (take (m - 1) (drop 1 cs)) (take (l - (m + 1)) (drop (m + 1) cs)) (drop (l + 1) cs)
  pub within : l + 1 ≤ length cs
  pub left_closed : AreClosed 0 (take (m - 1) (drop 1 cs))
  pub right_closed : AreClosed 0 (take (l - (m + 1)) (drop (m + 1) cs))
  pub left_body : (o : Opened) → IsOneBody (take (m - 1) (drop 1 cs)) (o ∷ cuts)
  pub right_body : (o : Opened) → IsOneBody (take (l - (m + 1)) (drop (m + 1) cs)) (o ∷ cuts)
  pub rest_body : IsOneBody (drop (l + 1) cs) cuts
  pub room : length cuts < 16

-- the fork that the grammar finds there
pub found_fork : (inside : Bool) (room : ℕ) (cs rest : List Command) (line at : ℕ) → IsBody inside room (body_lines cs) → cs ≡ record { line = line; what = what.Fork at } ∷ rest →
    (m : ℕ) × (l : ℕ) × IsFork cs m l
found_fork inside room cs rest line at b e =
    let x : IsForkRest inside room (body_lines rest) = come_apart.fork inside room at (body_lines rest) (subst (λ ds. IsBody inside room (body_lines ds)) e b) in (
      1 + length x.left,
      2 + length x.left + length x.right,
      record {
        at = at;
        room = x.less;
        left = x.left;
        right = x.right;
        rest = x.rest;
        whole = ap body_lines e ∙ ap (λ ls. form.Fork at ∷ ls) x.whole;
        is_left = x.is_left;
        is_right = x.is_right;
        middle_place = refl;
        last_place = refl;
      },
    )

lines_long : (cs : List Command) (ls : List Line) → body_lines cs ≡ ls → length cs ≡ length ls
lines_long [] ls e = ap length e
lines_long (c ∷ cs) ls e = (let h = lines_long cs (body_lines cs) refl in omega arith) ∙ ap length e

pub fork_slices : (inside : Bool) (room : ℕ) (cs rest : List Command) (line at m l : ℕ) → IsBody inside room (body_lines cs) → cs ≡ record { line = line; what = what.Fork at } ∷ rest → IsFork cs m l →
    ForkSlices cs line at m l inside room
fork_slices inside room cs rest line at m l body e fork =
    let x : IsForkRest inside room (body_lines rest) =
    come_apart.fork inside room at (body_lines rest) (subst (λ ds. IsBody inside room (body_lines ds)) e body) in
    let found : (k : ℕ) × (n : ℕ) × IsFork cs k n = (
      1 + length x.left,
      2 + length x.left + length x.right,
      record {
        at = at;
        room = x.less;
        left = x.left;
        right = x.right;
        rest = x.rest;
        whole = ap body_lines e ∙ ap (λ ls. form.Fork at ∷ ls) x.whole;
        is_left = x.is_left;
        is_right = x.is_right;
        middle_place = refl;
        last_place = refl;
      },
    ) in
    let same = same_fork cs m l (1 + length x.left) (2 + length x.left + length x.right) fork found.2 in
    let q : Parts x.left (form.With ∷ x.right ++ form.End ∷ x.rest) rest = parts x.left (form.With ∷ x.right ++ form.End ∷ x.rest) rest (x.whole ∙ append_assoc x.left (form.With ∷ x.right) (form.End ∷ x.rest)) in
    let w : First form.With (x.right ++ form.End ∷ x.rest) q.back = first form.With (x.right ++ form.End ∷ x.rest) q.back q.back_is in
    let s : Parts x.right (form.End ∷ x.rest) w.rest = parts x.right (form.End ∷ x.rest) w.rest w.rest_is in
    let z : First form.End x.rest s.back = first form.End x.rest s.back s.back_is in
    let with_ : w.c ≡ record { line = w.c.line; what = what.With } = command_is w.c what.With (with_is w.c.what w.line_is) in
    let end : z.c ≡ record { line = z.c.line; what = what.End } = command_is z.c what.End (end_is z.c.what z.line_is) in
    let long_left : length q.front ≡ length x.left = lines_long q.front x.left q.front_is in
    let long_right : length s.front ≡ length x.right = lines_long s.front x.right s.front_is in
    let all : cs ≡ fork_lines line at w.c.line z.c.line q.front s.front z.rest =
    e ∙ ap (λ ds. record { line = line; what = what.Fork at } ∷ ds) (q.is ∙ ap (λ ds. q.front ++ ds) (w.is ∙ ap (λ ds. w.c ∷ ds) (s.is ∙ ap (λ ds. s.front ++ ds) (z.is ∙ ap (λ c. c ∷ z.rest) end)) ∙ ap (λ c. c ∷ (s.front ++ (record { line = z.c.line; what = what.End } ∷ z.rest))) with_)) in
    let left_is : take (m - 1) (drop 1 cs) ≡ q.front =
    ap (λ ds. take (m - 1) (drop 1 ds)) all ∙ take_front q.front _ (m - 1) (omega (arith, same.0, long_left)) in
    let front2 : List Command = record { line = line; what = what.Fork at } ∷ (q.front ++ (record { line = w.c.line; what = what.With } ∷ [])) in
    let all2 : cs ≡ (record { line = line; what = what.Fork at } ∷ (q.front ++ (record { line = w.c.line; what = what.With } ∷ []))) ++ (s.front ++ (record { line = z.c.line; what = what.End } ∷ z.rest)) =
    all ∙ ap (λ ds. record { line = line; what = what.Fork at } ∷ ds) (sym (append_assoc q.front (record { line = w.c.line; what = what.With } ∷ []) (s.front ++ (record { line = z.c.line; what = what.End } ∷ z.rest)))) in
    let right_is : take (l - (m + 1)) (drop (m + 1) cs) ≡ s.front =
    ap (λ ds. take (l - (m + 1)) (drop (m + 1) ds)) all2
    ∙ ap (λ ds. take (l - (m + 1)) ds) (drop_at (record { line = line; what = what.Fork at } ∷ (q.front ++ (record { line = w.c.line; what = what.With } ∷ []))) _ (m + 1)
    (omega (arith, same.0, long_left, length-append q.front (record { line = w.c.line; what = what.With } ∷ []))))
    ∙ take_front s.front _ (l - (m + 1)) (omega (arith, same.0, same.1, long_right)) in
    let all3 : cs ≡ ((record { line = line; what = what.Fork at } ∷ (q.front ++ (record { line = w.c.line; what = what.With } ∷ []))) ++ (s.front ++ (record { line = z.c.line; what = what.End } ∷ []))) ++ z.rest =
    all2 ∙ ap (λ ds. (record { line = line; what = what.Fork at } ∷ (q.front ++ (record { line = w.c.line; what = what.With } ∷ []))) ++ ds) (sym (append_assoc s.front (record { line = z.c.line; what = what.End } ∷ []) z.rest))
    ∙ sym (append_assoc (record { line = line; what = what.Fork at } ∷ (q.front ++ (record { line = w.c.line; what = what.With } ∷ []))) (s.front ++ (record { line = z.c.line; what = what.End } ∷ [])) z.rest) in
    let before : List Command = (record { line = line; what = what.Fork at } ∷ (q.front ++ (record { line = w.c.line; what = what.With } ∷ []))) ++ (s.front ++ (record { line = z.c.line; what = what.End } ∷ [])) in
    let long_before : length ((record { line = line; what = what.Fork at } ∷ (q.front ++ (record { line = w.c.line; what = what.With } ∷ []))) ++ (s.front ++ (record { line = z.c.line; what = what.End } ∷ []))) ≡ l + 1 =
    omega (
      arith,
      same.1,
      long_left,
      long_right,
      length-append q.front (record { line = w.c.line; what = what.With } ∷ []),
      length-append s.front (record { line = z.c.line; what = what.End } ∷ []),
      length-append (record { line = line; what = what.Fork at } ∷ (q.front ++ (record { line = w.c.line; what = what.With } ∷ []))) (s.front ++ (record { line = z.c.line; what = what.End } ∷ [])),
    ) in
    let rest_is : drop (l + 1) cs ≡ z.rest =
    ap (drop (l + 1)) all3 ∙ drop_at ((record { line = line; what = what.Fork at } ∷ (q.front ++ (record { line = w.c.line; what = what.With } ∷ []))) ++ (s.front ++ (record { line = z.c.line; what = what.End } ∷ []))) z.rest (l + 1) long_before in
    let left_lines : IsBody true x.less (body_lines (take (m - 1) (drop 1 cs))) = subst (IsBody true x.less) (sym (ap body_lines left_is ∙ q.front_is)) x.is_left in
    let right_lines : IsBody true x.less (body_lines (take (l - (m + 1)) (drop (m + 1) cs))) = subst (IsBody true x.less) (sym (ap body_lines right_is ∙ s.front_is)) x.is_right in
    let rest_lines : IsBody inside room (body_lines (drop (l + 1) cs)) = subst (IsBody inside room) (sym (ap body_lines rest_is ∙ z.rest_is)) x.is_rest in
    record {
      middle = w.c.line;
      last = z.c.line;
      whole = all ∙ sym (ap (λ ds. fork_lines line at w.c.line z.c.line ds (take (l - (m + 1)) (drop (m + 1) cs)) (drop (l + 1) cs)) left_is
          ∙ ap (λ ds. fork_lines line at w.c.line z.c.line q.front ds (drop (l + 1) cs)) right_is ∙ ap (λ ds. fork_lines line at w.c.line z.c.line q.front s.front ds) rest_is);
      within = omega (arith, long_before, ap length all3, length-append ((record { line = line; what = what.Fork at } ∷ (q.front ++ (record { line = w.c.line; what = what.With } ∷ []))) ++ (s.front ++ (record { line = z.c.line; what = what.End } ∷ []))) z.rest);
      less = x.less;
      room_is = x.room_is;
      left_body = left_lines;
      right_body = right_lines;
      rest_body = rest_lines;
    }

pub front_fork : (cs rest : List Command) (line at m l : ℕ) (cuts : List Opened) → IsOneBody cs cuts → cs ≡ record { line = line; what = what.Fork at } ∷ rest → IsFork cs m l →
    FrontFork cs line at m l cuts
front_fork cs rest line at m l cuts body e fork =
    let f : ForkSlices cs line at m l body.inside body.room = fork_slices body.inside body.room cs rest line at m l body.is_body e fork in
    let few = body.few in let room = f.room_is in
    record {
      middle = f.middle;
      last = f.last;
      whole = f.whole;
      within = f.within;
      left_closed = closed true f.less (take (m - 1) (drop 1 cs)) f.left_body;
      right_closed = closed true f.less (take (l - (m + 1)) (drop (m + 1) cs)) f.right_body;
      left_body = λ o. record { inside = true; room = f.less; is_body = f.left_body; few = omega arith };
      right_body = λ o. record { inside = true; room = f.less; is_body = f.right_body; few = omega arith };
      rest_body = record { inside = body.inside; room = body.room; is_body = f.rest_body; few = few };
      room = omega arith;
    }
