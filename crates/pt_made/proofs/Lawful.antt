-- That the lines of a made script are those of a script.
use Rattle.std.proofs.Common.{◌≡◌, ℕ, suc, ◌+◌, ◌*◌, ◌^◌, ◌<◌, ◌≤◌, Bool, true, false, List, [], ◌∷◌, ◌++◌, length, arith, refl, ap, subst, sym, ◌∙◌, append_assoc, length-append, cond}
use Rattle.std.specs.Prelude.{IsTrue, ◌&&◌, ◌==◌, nat_lt, map, count_by}
use Rattle.std.proofs.lemmas.Bool.{and_from, and_parts, eq-eqb, lt-ltb}
use Rattle.std.proofs.lemmas.Nat.{mul-le}
use Rattle.std.proofs.Math.Pow.{pow_mono}
use Rattle.std.proofs.lemmas.List.{map-append, length-map}
use Rattle.std.proofs.lemmas.List.Sums.{count_by-le-length}
use Rattle.pt_model.specs.declared.command.Name.{Name}
use Rattle.pt_model.specs.declared.command.What.{What}
use Rattle.pt_model.specs.declared.command.What.TheVariants.{With, End}
use Rattle.pt_model.specs.Layout.{Layout}
use Rattle.pt_format.specs.Laws.{IsLayout}
use Rattle.pt_script.specs.declared.line.Line.{Line}
use Rattle.pt_script.specs.declared.line.Line.TheVariants as form
use Rattle.pt_model.specs.declared.command.Name.TheVariants.{AmdV1}
use Rattle.pt_script.specs.Lines.{command_line, is_stated, is_command, is_dump, are_stated_levels, frame_limit}
use Rattle.pt_script.specs.Grammar.{IsBody, IsTail, IsScript, IsTheGrammar, is_taken}
use Rattle.pt_script.specs.Text.{all_stated}
use Rattle.pt_script.specs.Numbered.{body_lines, count_on, lines_of, is_lawful}
use Rattle.pt_script.proofs.Steps.{count_by-append}
use Rattle.pt_made.specs.Made.{bytes, first_of, per_branch, branch_of, fork_at, inner_fork, whats, numbered, body_on, tail_behind, state_before}
use Rattle.pt_made.proofs.Pages.{first_small, few_commands}
use Rattle.pt_made.proofs.Drawing.{length_drawn, length_numbered}
use Rattle.pt_made.proofs.Calls
use Rattle.pt_made.proofs.Calls.{HasPages, IsCall, AreCalls, drawn_are_calls}

abbrev pub lines : List What → List Line
lines ws = map command_line ws

pub lines_numbered : (n : ℕ) (ws : List What) → body_lines (numbered n ws) ≡ lines ws
lines_numbered n [] = refl
lines_numbered n (w ∷ ws) = ap (λ (ls : List Line). command_line w ∷ ls) (lines_numbered (n + 1) ws)

pub numbers_count_on : (n : ℕ) (ws : List What) → count_on n (map (λ c. c.line) (numbered n ws)) ≡ true
numbers_count_on n [] = refl
numbers_count_on n (w ∷ ws) = and_from (n == n) _ (eq-eqb n n refl) (numbers_count_on (n + 1) ws)

-- The productions.

one_body : (f : Layout) (inside : Bool) (room : ℕ) (w : What) (ls : List Line) → IsCall f w → IsBody inside room ls → IsBody inside room (command_line w ∷ ls)
one_body f inside room _ ls (Calls.map start count out prot has low) b = IsBody.map inside room (bytes f start) (bytes f out) (bytes f count) prot ls b
one_body f inside room _ ls (Calls.unmap start count has) b = IsBody.unmap inside room (bytes f start) (bytes f count) ls b
one_body f inside room _ ls (Calls.lookup start count has) b = IsBody.lookup inside room (bytes f start) ls b

calls_body : (f : Layout) (inside : Bool) (room : ℕ) (ws : List What) → AreCalls f ws → IsBody inside room (lines ws)
calls_body f inside room [] h = IsBody.nothing inside room
calls_body f inside room (w ∷ ws) h = one_body f inside room w (lines ws) h.0 (calls_body f inside room ws h.1)

-- A fork, with anything that holds of its branches: the productions, and tests of each line.

fork_lines_are : (f : Layout) (branch : ℕ) (left right : List What) →
    lines (fork_at f branch left right) ≡ form.Fork (bytes f (first_of f branch)) ∷ lines left ++ (form.With ∷ lines right ++ (form.End ∷ []))
fork_lines_are f branch left right =
    ap (λ (ls : List Line). form.Fork (bytes f (first_of f branch)) ∷ ls)
    (map-append command_line left (With ∷ right ++ (End ∷ []))
    ∙ ap (λ (ls : List Line). lines left ++ (form.With ∷ ls)) (map-append command_line right (End ∷ [])))

fork_body : (f : Layout) (inside : Bool) (room branch : ℕ) (left right : List What) → IsBody true room (lines left) → IsBody true room (lines right) →
    IsBody inside (suc room) (lines (fork_at f branch left right))
fork_body f inside room branch left right l r =
    subst (λ (ls : List Line). IsBody inside (suc room) ls)
    (append_assoc (form.Fork (bytes f (first_of f branch)) ∷ lines left) (form.With ∷ lines right) (form.End ∷ []) ∙ sym (fork_lines_are f branch left right))
    (IsBody.fork inside room (bytes f (first_of f branch)) (lines left) (lines right) [] l r (IsBody.nothing inside (suc room)))

-- Tests of lines.

stated_fit : {f : Layout} → IsLayout f → (pages : ℕ) → pages < 2 ^ 32 → nat_lt (bytes f pages) (2 ^ 64) ≡ true
stated_fit {f} good pages few =
    let high = good.granule_high in
    let wide : 2 ^ f.granule ≤ 2 ^ 16 = pow_mono high in
    lt-ltb (bytes f pages) (2 ^ 64) (omega (arith, mul-le pages (2 ^ f.granule) (2 ^ 32) (2 ^ 16) (omega arith) wide))

one_stated : {f : Layout} → IsLayout f → (w : What) → IsCall f w → is_stated (command_line w) ≡ true
one_stated {f} good _ (Calls.map start count out prot has low) =
    let few = first_small good 4 (omega arith) in
    let ends = has.ends in
    and_from (nat_lt (bytes f start) (2 ^ 64) && nat_lt (bytes f out) (2 ^ 64)) _
    (and_from (nat_lt (bytes f start) (2 ^ 64)) _ (stated_fit good start (omega arith)) (stated_fit good out (omega arith))) (stated_fit good count (omega arith))
one_stated {f} good _ (Calls.unmap start count has) =
    let few = first_small good 4 (omega arith) in
    let ends = has.ends in
    and_from (nat_lt (bytes f start) (2 ^ 64)) _ (stated_fit good start (omega arith)) (stated_fit good count (omega arith))
one_stated {f} good _ (Calls.lookup start count has) =
    let few = first_small good 4 (omega arith) in
    let ends = has.ends in
    stated_fit good start (omega arith)

calls_stated : {f : Layout} → IsLayout f → (ws : List What) → AreCalls f ws → all_stated (lines ws) ≡ true
calls_stated good [] h = refl
calls_stated good (w ∷ ws) h = and_from (is_stated (command_line w)) _ (one_stated good w h.0) (calls_stated good ws h.1)

stated_append : (xs ys : List Line) → all_stated xs ≡ true → all_stated ys ≡ true → all_stated (xs ++ ys) ≡ true
stated_append [] ys h k = k
stated_append (x ∷ xs) ys h k =
    let two = and_parts (is_stated x) (all_stated xs) h in and_from (is_stated x) _ two.0 (stated_append xs ys two.1 k)

fork_stated : {f : Layout} → IsLayout f → (branch : ℕ) (left right : List What) → branch ≤ 4 → all_stated (lines left) ≡ true → all_stated (lines right) ≡ true →
    all_stated (lines (fork_at f branch left right)) ≡ true
fork_stated {f} good branch left right low l r =
    let few = first_small good branch low in
    subst (λ (ls : List Line). all_stated ls ≡ true) (sym (fork_lines_are f branch left right))
    (and_from (is_stated (form.Fork (bytes f (first_of f branch)))) _ (stated_fit good (first_of f branch) (omega arith))
    (stated_append (lines left) (form.With ∷ lines right ++ form.End ∷ []) l (stated_append (lines right) (form.End ∷ []) r refl)))

one_dump : (f : Layout) (w : What) → IsCall f w → is_dump (command_line w) ≡ false
one_dump f _ (Calls.map start count out prot has low) = refl
one_dump f _ (Calls.unmap start count has) = refl
one_dump f _ (Calls.lookup start count has) = refl

dump_next : (l : Line) (ls : List Line) → is_dump l ≡ false → count_by is_dump ls ≡ 0 → count_by is_dump (l ∷ ls) ≡ 0
dump_next l ls h k = omega (arith, count_by-append is_dump (l ∷ []) ls, ap (λ (t : Bool). cond t (let one : ℕ = 1 in one) 0) h, k)

calls_dumps : (f : Layout) (ws : List What) → AreCalls f ws → count_by is_dump (lines ws) ≡ 0
calls_dumps f [] h = refl
calls_dumps f (w ∷ ws) h = dump_next (command_line w) (lines ws) (one_dump f w h.0) (calls_dumps f ws h.1)

fork_dumps : (f : Layout) (branch : ℕ) (left right : List What) → count_by is_dump (lines left) ≡ 0 → count_by is_dump (lines right) ≡ 0 →
    count_by is_dump (lines (fork_at f branch left right)) ≡ 0
fork_dumps f branch left right l r =
    subst (λ (ls : List Line). count_by is_dump ls ≡ 0) (sym (fork_lines_are f branch left right))
    (dump_next (form.Fork (bytes f (first_of f branch))) (lines left ++ (form.With ∷ lines right ++ (form.End ∷ []))) refl
    (let tail : count_by is_dump (form.With ∷ lines right ++ form.End ∷ []) ≡ 0 =
    dump_next form.With (lines right ++ form.End ∷ []) refl (let more = count_by-append is_dump (lines right) (form.End ∷ []) in omega (arith, more, r)) in
    omega (arith, count_by-append is_dump (lines left) (form.With ∷ lines right ++ form.End ∷ []), l, tail)))

-- The body of a number.

-- what holds of the lines of a branch or of the whole body
pub record IsWhole (inside : Bool) (room : ℕ) (ls : List Line) : Type 0 where
  pub body : IsBody inside room ls
  pub stated : all_stated ls ≡ true
  pub dumps : count_by is_dump ls ≡ 0

branch_is : {f : Layout} → IsLayout f → (number branch : ℕ) → branch ≤ 3 → IsWhole true 14 (lines (branch_of f number branch))
branch_is {f} good number branch low =
    let calls = drawn_are_calls good branch (per_branch f) (state_before f branch number) low in
    record {
      body = calls_body f true 14 (branch_of f number branch) calls;
      stated = calls_stated good (branch_of f number branch) calls;
      dumps = calls_dumps f (branch_of f number branch) calls;
    }

inner_is : {f : Layout} → IsLayout f → (number branch : ℕ) → branch ≤ 2 → IsWhole true 15 (lines (inner_fork f number branch))
inner_is {f} good number branch low =
    let l = branch_is good number branch (omega arith) in
    let r = branch_is good number (branch + 1) (omega arith) in
    record {
      body = fork_body f true 14 (branch + 1) (branch_of f number branch) (branch_of f number (branch + 1)) l.body r.body;
      stated = fork_stated good (branch + 1) (branch_of f number branch) (branch_of f number (branch + 1)) (omega arith) l.stated r.stated;
      dumps = fork_dumps f (branch + 1) (branch_of f number branch) (branch_of f number (branch + 1)) l.dumps r.dumps;
    }

pub whole_is : {f : Layout} → IsLayout f → (number : ℕ) → IsWhole false 16 (lines (whats f number))
whole_is {f} good number =
    let l = inner_is good number 0 (omega arith) in
    let r = inner_is good number 2 (omega arith) in
    record {
      body = fork_body f false 15 2 (inner_fork f number 0) (inner_fork f number 2) l.body r.body;
      stated = fork_stated good 2 (inner_fork f number 0) (inner_fork f number 2) (omega arith) l.stated r.stated;
      dumps = fork_dumps f 2 (inner_fork f number 0) (inner_fork f number 2) l.dumps r.dumps;
    }

-- how many commands there are
fork_length : (f : Layout) (branch : ℕ) (left right : List What) → length (fork_at f branch left right) ≡ length left + length right + 3
fork_length f branch left right = omega (arith, length-append left (With ∷ right ++ (End ∷ [])), length-append right (End ∷ []))

branch_length : (f : Layout) (number branch : ℕ) → length (branch_of f number branch) ≡ per_branch f
branch_length f number branch = length_drawn f branch (per_branch f) (state_before f branch number)

inner_length : (f : Layout) (number branch : ℕ) → length (inner_fork f number branch) ≡ per_branch f + per_branch f + 3
inner_length f number branch =
    omega (arith, fork_length f (branch + 1) (branch_of f number branch) (branch_of f number (branch + 1)), branch_length f number branch, branch_length f number (branch + 1))

pub whole_length : (f : Layout) (number : ℕ) → length (whats f number) ≡ 4 * per_branch f + 9
whole_length f number =
    omega (arith, fork_length f 2 (inner_fork f number 0) (inner_fork f number 2), inner_length f number 0, inner_length f number 2)

pub body_length : (f : Layout) (number : ℕ) → length (body_on f number) ≡ 4 * per_branch f + 9
body_length f number = omega (arith, length_numbered 4 (whats f number), whole_length f number)

-- The script.

-- the header of a script and its body make a script, where the body is one made of a number
module _ {f : Layout} (good : IsLayout f) (number : ℕ) (name : Name) (levels frames hold : ℕ) (levels_stated : are_stated_levels name levels ≡ true)
    (some_levels : name ≡ AmdV1 → 3 ≤ levels) (few_levels : name ≡ AmdV1 → levels ≤ 6)
    (some : 1 ≤ frames) (few : frames ≤ frame_limit name) (low : frames < 2 ^ 64) (held : hold < frames) where
  abbrev all : List Line
  all = lines_of name levels frames hold (body_on f number) (tail_behind (body_on f number))

  is_body : IsWhole false 16 (body_lines (body_on f number))
  is_body = subst (λ (ls : List Line). IsWhole false 16 ls) (sym (lines_numbered 4 (whats f number))) (whole_is good number)

  abbrev last : List Line
  last = form.Close ∷ form.Census ∷ form.End ∷ []

  apart : all ≡ form.Format name levels ∷ form.Frames frames ∷ form.Hold hold ∷ body_lines (body_on f number) ++ last
  apart = append_assoc (form.Format name levels ∷ form.Frames frames ∷ form.Hold hold ∷ body_lines (body_on f number)) (form.Close ∷ form.Census ∷ []) (form.End ∷ [])

  all_length : length all ≡ 4 * per_branch f + 15
  all_length =
      omega (arith, ap (λ (ls : List Line). length ls) apart, length-append (body_lines (body_on f number)) last, length-map (body_on f number) (λ c. command_line c.what), body_length f number)

  stated : all_stated all ≡ true
  stated =
      subst (λ (ls : List Line). all_stated ls ≡ true) (sym apart)
      (and_from (are_stated_levels name levels) _ levels_stated
      (and_from (nat_lt frames (2 ^ 64)) _ (lt-ltb frames (2 ^ 64) low)
      (and_from (nat_lt hold (2 ^ 64)) _ (lt-ltb hold (2 ^ 64) (omega arith))
      (stated_append (body_lines (body_on f number)) last is_body.stated refl))))

  dumps : count_by is_dump all ≡ 0
  dumps =
      subst (λ (ls : List Line). count_by is_dump ls ≡ 0) (sym apart)
      (dump_next (form.Format name levels) (form.Frames frames ∷ form.Hold hold ∷ body_lines (body_on f number) ++ last) refl
      (dump_next (form.Frames frames) (form.Hold hold ∷ body_lines (body_on f number) ++ last) refl
      (dump_next (form.Hold hold) (body_lines (body_on f number) ++ last) refl
      (let tail : count_by is_dump last ≡ 0 = refl in omega (arith, count_by-append is_dump (body_lines (body_on f number)) last, is_body.dumps, tail)))))

  script : IsScript all
  script =
      let parts = is_body in
      record {
        format = name;
        levels = levels;
        frames = frames;
        hold = hold;
        body = body_lines (body_on f number);
        tail = form.Census ∷ [];
        whole = refl;
        is_body = parts.body;
        is_tail = IsTail.census [] IsTail.nothing;
        some_levels = some_levels;
        few_levels = few_levels;
        some_frames = some;
        few_frames = few;
        few_held = held;
        few_commands = omega (arith, count_by-le-length is_command all, all_length, few_commands f);
        few_dumps = omega (arith, dumps);
      }

  pub made_is_lawful : IsTheGrammar → IsTrue (is_lawful all)
  made_is_lawful grammar = and_from (all_stated all) (is_taken all) stated ((grammar.scripts all).1 script)
