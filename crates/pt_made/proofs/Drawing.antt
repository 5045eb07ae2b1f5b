-- The commands of a body as they are drawn one by one.
use Rattle.std.proofs.Common.{◌≡◌, ℕ, zero, suc, ◌+◌, ◌-◌, ◌<◌, List, [], ◌∷◌, ◌++◌, length, refl, ap, sym, ◌∙◌, arith, append_assoc, append-nil, length-append}
use Rattle.pt_model.specs.declared.command.What.{What}
use Rattle.pt_model.specs.declared.command.What.TheVariants.{Fork, With, End}
use Rattle.pt_model.specs.declared.command.Command.{Command}
use Rattle.pt_model.specs.Layout.{Layout}
use Rattle.pt_made.specs.Draws.{behind, next_four}
use Rattle.pt_made.specs.Made.{per_branch, bytes, first_of, fork_at, drawn_command, drawn_commands, numbered, state_before}

-- Lists with line numbers.

pub length_numbered : (n : ℕ) (ws : List What) → length (numbered n ws) ≡ length ws
length_numbered n [] = refl
length_numbered n (w ∷ ws) = omega (arith, length_numbered (n + 1) ws)

pub numbered_append : (n : ℕ) (xs ys : List What) → numbered n (xs ++ ys) ≡ numbered n xs ++ numbered (n + length xs) ys
numbered_append n [] ys = ap (λ (k : ℕ). numbered k ys) (let e : n ≡ n + length {A = What} [] = omega arith in e)
numbered_append n (x ∷ xs) ys =
    let first : Command = record { line = n; what = x } in
    let places : n + 1 + length xs ≡ n + length (x ∷ xs) = omega arith in
    ap (λ (cs : List Command). first ∷ cs) (numbered_append (n + 1) xs ys ∙ ap (λ (k : ℕ). numbered (n + 1) xs ++ numbered k ys) places)

-- commands have come behind others, with the numbers of their lines
abbrev pub Extends : List Command → List What → List Command → Type 0
Extends before ws after = after ≡ before ++ numbered (4 + length before) ws

pub extends_length : (before : List Command) (ws : List What) (after : List Command) → Extends before ws after → length after ≡ length before + length ws
extends_length before ws after e =
    omega (arith, ap (λ (cs : List Command). length cs) e, length-append before (numbered (4 + length before) ws), length_numbered (4 + length before) ws)

pub extends_more : (before : List Command) (xs : List What) (middle : List Command) (ys : List What) (after : List Command) →
    Extends before xs middle → Extends middle ys after → Extends before (xs ++ ys) after
extends_more before xs middle ys after e h =
    let places : 4 + length middle ≡ 4 + length before + length xs = omega (arith, extends_length before xs middle e) in
    h
    ∙ ap (λ (cs : List Command). cs ++ numbered (4 + length middle) ys) e
    ∙ ap (λ (k : ℕ). (before ++ numbered (4 + length before) xs) ++ numbered k ys) places
    ∙ append_assoc before (numbered (4 + length before) xs) (numbered (4 + length before + length xs) ys)
    ∙ ap (λ (cs : List Command). before ++ cs) (sym (numbered_append (4 + length before) xs ys))

-- The commands of a branch.

pub length_drawn : (f : Layout) (b n s : ℕ) → length (drawn_commands f b n s) ≡ n
unfolding drawn_commands
length_drawn f b zero s = refl
length_drawn f b (suc n) s = omega (arith, length_drawn f b n (next_four s))

drawn_first : (f : Layout) (b n k s : ℕ) → n ≡ suc k → drawn_commands f b n s ≡ drawn_command f b s ∷ drawn_commands f b k (next_four s)
unfolding drawn_commands
drawn_first f b n k s e = ap (λ (m : ℕ). drawn_commands f b m s) e

behind_first : (n k s : ℕ) → n ≡ suc k → behind n s ≡ behind k (next_four s)
unfolding behind
behind_first n k s e = ap (λ (m : ℕ). behind m s) e

pub drawn_none : (f : Layout) (b s : ℕ) → drawn_commands f b 0 s ≡ []
unfolding drawn_commands
drawn_none f b s = refl

pub behind_none : (s : ℕ) → behind 0 s ≡ s
unfolding behind
behind_none s = refl

-- what is drawn so far, and what is left to draw
pub record IsDrawing (f : Layout) (branch count drawn : ℕ) (before now : List Command) (from at : ℕ) : Type 0 where
  pub commands : now ++ numbered (4 + length now) (drawn_commands f branch (count - drawn) at) ≡ before ++ numbered (4 + length before) (drawn_commands f branch count from)
  pub state : behind (count - drawn) at ≡ behind count from
  pub number : length now ≡ length before + drawn

pub drawing_begins : (f : Layout) (branch count : ℕ) (cs : List Command) (s : ℕ) → IsDrawing f branch count 0 cs cs s s
drawing_begins f branch count cs s = record {
  commands = ap (λ (n : ℕ). cs ++ numbered (4 + length cs) (drawn_commands f branch n s)) (let e : count - 0 ≡ count = omega arith in e);
  state = ap (λ (n : ℕ). behind n s) (let e : count - 0 ≡ count = omega arith in e);
  number = omega arith;
}

pub drawing_goes_on : (f : Layout) (branch count drawn : ℕ) (before now next : List Command) (from at after : ℕ) (w : What) → drawn < count →
    IsDrawing f branch count drawn before now from at → w ≡ drawn_command f branch at → after ≡ next_four at → Extends now (w ∷ []) next →
    IsDrawing f branch count (drawn + 1) before next from after
drawing_goes_on f branch count drawn before now next from at after w more d is moved e =
    let left : count - drawn ≡ suc (count - (drawn + 1)) = omega arith in
    let rest : List What = drawn_commands f branch (count - (drawn + 1)) after in
    let first : w ∷ drawn_commands f branch (count - (drawn + 1)) after ≡ drawn_commands f branch (count - drawn) at =
    ap (λ (v : What). v ∷ drawn_commands f branch (count - (drawn + 1)) after) is
    ∙ ap (λ (s : ℕ). drawn_command f branch at ∷ drawn_commands f branch (count - (drawn + 1)) s) moved
    ∙ sym (drawn_first f branch (count - drawn) (count - (drawn + 1)) at left) in
    record {
      commands = extends_more now (w ∷ []) next rest (next ++ numbered (4 + length next) rest) e refl
          ∙ ap (λ (ws : List What). now ++ numbered (4 + length now) ws) first
          ∙ d.commands;
      state = ap (λ (s : ℕ). behind (count - (drawn + 1)) s) moved ∙ sym (behind_first (count - drawn) (count - (drawn + 1)) at left) ∙ d.state;
      number = omega (arith, d.number, extends_length now (w ∷ []) next e);
    }

pub drawing_ends : (f : Layout) (branch whole count drawn : ℕ) (before now : List Command) (from at : ℕ) → whole ≡ count → count ≡ drawn →
    IsDrawing f branch count drawn before now from at → Extends before (drawn_commands f branch whole from) now × (at ≡ behind whole from)
drawing_ends f branch whole count drawn before now from at all last d =
    let none : count - drawn ≡ 0 = omega arith in
    let empty : drawn_commands f branch (count - drawn) at ≡ [] = ap (λ (n : ℕ). drawn_commands f branch n at) none ∙ drawn_none f branch at in
    let same : behind (count - drawn) at ≡ at = ap (λ (n : ℕ). behind n at) none ∙ behind_none at in (
      sym (append-nil now) ∙ ap (λ (ws : List What). now ++ numbered (4 + length now) ws) (sym empty) ∙ d.commands
          ∙ ap (λ (n : ℕ). before ++ numbered (4 + length before) (drawn_commands f branch n from)) (sym all),
      sym same ∙ d.state ∙ ap (λ (n : ℕ). behind n from) (sym all),
    )

-- The state before each branch.

pub before_first : (f : Layout) (s : ℕ) → state_before f 0 s ≡ s
unfolding state_before
before_first f s = refl

pub before_next : (f : Layout) (b s : ℕ) → behind (per_branch f) (state_before f b s) ≡ state_before f (b + 1) s
unfolding state_before
before_next f b s = ap (λ (n : ℕ). state_before f n s) (let e : suc b ≡ b + 1 = omega arith in e)

-- the state behind two branches in turn
pub two_before : (f : Layout) (branch number from middle last : ℕ) → from ≡ state_before f branch number → middle ≡ behind (per_branch f) from → last ≡ behind (per_branch f) middle →
    (middle ≡ state_before f (branch + 1) number) × (last ≡ state_before f (branch + 2) number)
two_before f branch number from middle last first one two =
    let next : middle ≡ state_before f (branch + 1) number = one ∙ ap (λ (s : ℕ). behind (per_branch f) s) first ∙ before_next f branch number in
    let places : branch + 1 + 1 ≡ branch + 2 = omega arith in
    (next, two ∙ ap (λ (s : ℕ). behind (per_branch f) s) next ∙ before_next f (branch + 1) number ∙ ap (λ (b : ℕ). state_before f b number) places)

-- A fork, and its two branches one after the other.
pub fork_drawn : (f : Layout) (branch : ℕ) (left right : List What) (c0 c1 c2 c3 c4 c5 : List Command) →
    Extends c0 (Fork (bytes f (first_of f branch)) ∷ []) c1 → Extends c1 left c2 → Extends c2 (With ∷ []) c3 → Extends c3 right c4 → Extends c4 (End ∷ []) c5 →
    Extends c0 (fork_at f branch left right) c5
fork_drawn f branch left right c0 c1 c2 c3 c4 c5 a b c d e =
    extends_more c0 (Fork (bytes f (first_of f branch)) ∷ []) c1 (left ++ (With ∷ right ++ (End ∷ []))) c5 a
    (extends_more c1 left c2 (With ∷ right ++ (End ∷ [])) c5 b
    (extends_more c2 (With ∷ []) c3 (right ++ (End ∷ [])) c5 c
    (extends_more c3 right c4 (End ∷ []) c5 d e)))
