-- Where a branch ends.
use Rattle.std.proofs.Common.{◌≡◌, ◌≢◌, ℕ, zero, suc, Some, None, get_or, ◌+◌, ◌-◌, ◌≤◌, ◌<◌, ◌⊎◌, inl, inr, Bool, true, false, List, [], ◌∷◌, ◌++◌, length, take, drop, refl, ap, subst, sym, ◌∙◌, arith, append_assoc, length-append, length-drop}
use Rattle.std.proofs.lemmas.List.{take_all, drop_at}
use Rattle.pt_model.specs.declared.block.Prot.{Prot}
use Rattle.pt_model.specs.declared.command.Command.{Command}
use Rattle.pt_script.specs.declared.line.Line.{Line}
use Rattle.pt_script.specs.declared.line.Line.TheVariants as form
use Rattle.pt_script.specs.Lines.{command_line, keyword_of}
use Rattle.pt_script.specs.Grammar.{IsBody}
use Rattle.pt_script.specs.Numbered.{body_lines}
use Rattle.pt_script.specs.declared.line.Keyword.TheVariants.{Fork}
use Rattle.pt_script.specs.Branches.{IsFork, IsBranch, inner_behind, IsForkRest, ComeApart}

-- how many lines stand before the first that ends the branch
abbrev pub scan : ℕ → List Line → ℕ
scan inner [] = 0
scan inner (l ∷ ls) = elim (inner_behind inner l) [
  | None ↦ 0
  | Some more ↦ 1 + scan more ls
]

scan_plain : (l : Line) (ls : List Line) (inner : ℕ) → inner_behind inner l ≡ Some inner → scan inner (l ∷ ls) ≡ 1 + scan inner ls
scan_plain l ls inner e = ap (λ o. elim o as (λ _. ℕ) [ None ↦ 0 | Some more ↦ 1 + scan more ls ]) e

scan_with : (ls : List Line) (inner : ℕ) → scan (inner + 1) (form.With ∷ ls) ≡ 1 + scan (inner + 1) ls
scan_with ls inner = let e : inner + 1 ≡ suc inner = omega arith in ap (λ n. scan n (form.With ∷ ls)) e ∙ ap (λ n. 1 + scan n ls) (sym e)

scan_end : (ls : List Line) (inner : ℕ) → scan (inner + 1) (form.End ∷ ls) ≡ 1 + scan inner ls
scan_end ls inner = let e : inner + 1 ≡ suc inner = omega arith in ap (λ n. scan n (form.End ∷ ls)) e

plain_more : (l : Line) (ls rest : List Line) (inner : ℕ) → inner_behind inner l ≡ Some inner → scan inner (ls ++ rest) ≡ length ls + scan inner rest → scan inner ((l ∷ ls) ++ rest) ≡ length (l ∷ ls) + scan inner rest
plain_more l ls rest inner e h = omega (arith, scan_plain l (ls ++ rest) inner e, h)

same_map : (inner va pa len : ℕ) (prot : Prot) → inner_behind inner (form.Map va pa len prot) ≡ Some inner
same_map zero va pa len prot = refl
same_map (suc inner) va pa len prot = refl

same_unmap : (inner va len : ℕ) → inner_behind inner (form.Unmap va len) ≡ Some inner
same_unmap zero va len = refl
same_unmap (suc inner) va len = refl

same_lookup : (inner va : ℕ) → inner_behind inner (form.Lookup va) ≡ Some inner
same_lookup zero va = refl
same_lookup (suc inner) va = refl

same_dump : (inner : ℕ) → inner_behind inner form.Dump ≡ Some inner
same_dump zero = refl
same_dump (suc inner) = refl

same_release : (inner : ℕ) → inner_behind inner form.Release ≡ Some inner
same_release zero = refl
same_release (suc inner) = refl

scan_fork : (inner at : ℕ) (ls : List Line) → scan inner (form.Fork at ∷ ls) ≡ 1 + scan (inner + 1) ls
scan_fork zero at ls = refl
scan_fork (suc inner) at ls = refl

scan_body : (inside : Bool) (room : ℕ) (ls : List Line) → IsBody inside room ls → (inner : ℕ) (rest : List Line) → scan inner (ls ++ rest) ≡ length ls + scan inner rest
scan_body _ _ _ (IsBody.nothing inside room) inner rest = omega arith
scan_body _ _ _ (IsBody.map inside room va pa len prot ls b) inner rest = plain_more (form.Map va pa len prot) ls rest inner (same_map inner va pa len prot) (scan_body inside room ls b inner rest)
scan_body _ _ _ (IsBody.unmap inside room va len ls b) inner rest = plain_more (form.Unmap va len) ls rest inner (same_unmap inner va len) (scan_body inside room ls b inner rest)
scan_body _ _ _ (IsBody.lookup inside room va ls b) inner rest = plain_more (form.Lookup va) ls rest inner (same_lookup inner va) (scan_body inside room ls b inner rest)
scan_body _ _ _ (IsBody.dump inside room ls b) inner rest = plain_more form.Dump ls rest inner (same_dump inner) (scan_body inside room ls b inner rest)
scan_body _ _ _ (IsBody.release room ls b) inner rest = plain_more form.Release ls rest inner (same_release inner) (scan_body false room ls b inner rest)
scan_body _ _ _ (IsBody.fork inside room at left right ls l r b) inner rest =
    let before : ((left ++ form.With ∷ right) ++ form.End ∷ ls) ++ rest ≡ left ++ (form.With ∷ (right ++ (form.End ∷ (ls ++ rest)))) = simp append_assoc in
    let a = scan_fork inner at (((left ++ form.With ∷ right) ++ form.End ∷ ls) ++ rest) in
    let a2 = ap (scan (inner + 1)) before in
    let b1 = scan_body true room left l (inner + 1) (form.With ∷ (right ++ (form.End ∷ (ls ++ rest)))) in
    let b2 = scan_with (right ++ (form.End ∷ (ls ++ rest))) inner in
    let b3 = scan_body true room right r (inner + 1) (form.End ∷ (ls ++ rest)) in
    let b4 = scan_end (ls ++ rest) inner in
    let b5 = scan_body inside (suc room) ls b inner rest in
    omega (arith, a, a2, b1, b2, b3, b4, b5, length-append (left ++ form.With ∷ right) (form.End ∷ ls), length-append left (form.With ∷ right))

stopped : (stop : Line) (rest : List Line) → (stop ≡ form.With) ⊎ (stop ≡ form.End) → scan 0 (stop ∷ rest) ≡ 0
stopped stop rest (inl e) = ap (λ l. scan 0 (l ∷ rest)) e
stopped stop rest (inr e) = ap (λ l. scan 0 (l ∷ rest)) e

pub scan_branch : (commands : List Command) (count : ℕ) → IsBranch commands count → scan 0 (body_lines commands) ≡ count
scan_branch commands count b =
    ap (scan 0) b.whole ∙ scan_body true b.room b.branch b.is_branch 0 (b.stop ∷ b.rest) ∙ omega (arith, stopped b.stop b.rest b.stops, b.counted)

length_lines : (cs : List Command) → length (body_lines cs) ≡ length cs
length_lines [] = refl
length_lines (c ∷ cs) = omega (arith, length_lines cs)

pub branch_within : (commands : List Command) (count : ℕ) → IsBranch commands count → count < length commands
branch_within commands count b =
    omega (arith, b.counted, length_lines commands, ap length b.whole, length-append b.branch (b.stop ∷ b.rest))

pub branch_at : (commands : List Command) (count place : ℕ) → IsBranch commands count → scan 0 (body_lines commands) ≡ place → IsBranch commands place
branch_at commands count place b e = subst (IsBranch commands) (sym (scan_branch commands count b) ∙ e) b

drop_first : (cs : List Command) (i : ℕ) (d : Command) → i < length cs → drop i cs ≡ get_or cs i d ∷ drop (i + 1) cs
drop_first [] i d h = absurd (omega arith)
drop_first (c ∷ cs) zero d h = refl
drop_first (c ∷ cs) (suc i) d h =
    let e : suc i + 1 ≡ suc (i + 1) = omega arith in
    drop_first cs i d (omega arith) ∙ ap (λ k. get_or cs i d ∷ drop k (c ∷ cs)) (sym e)

-- the branch goes on, or ends, at a command
pub goes_on : (cs : List Command) (i inner more : ℕ) (d : Command) → i < length cs → Some more ≡ inner_behind inner (command_line (get_or cs i d).what)
    → scan inner (body_lines (drop i cs)) ≡ 1 + scan more (body_lines (drop (i + 1) cs))
goes_on cs i inner more d h e =
    ap (λ xs. scan inner (body_lines xs)) (drop_first cs i d h) ∙ ap (λ o. elim o as (λ _. ℕ) [ None ↦ 0 | Some m ↦ 1 + scan m (body_lines (drop (i + 1) cs)) ]) (sym e)

pub ends_here : (cs : List Command) (i inner : ℕ) (d : Command) → i < length cs → None ≡ inner_behind inner (command_line (get_or cs i d).what)
    → scan inner (body_lines (drop i cs)) ≡ 0
ends_here cs i inner d h e =
    ap (λ xs. scan inner (body_lines xs)) (drop_first cs i d h) ∙ ap (λ o. elim o as (λ _. ℕ) [ None ↦ 0 | Some m ↦ 1 + scan m (body_lines (drop (i + 1) cs)) ]) (sym e)

pub no_more : (cs : List Command) (i inner : ℕ) → length cs ≤ i → scan inner (body_lines (drop i cs)) ≡ 0
no_more [] zero inner h = refl
no_more [] (suc i) inner h = refl
no_more (c ∷ cs) zero inner h = absurd (omega arith)
no_more (c ∷ cs) (suc i) inner h = no_more cs i inner (omega arith)

-- The two branches of a fork.
drop_lines : (n : ℕ) (cs : List Command) → body_lines (drop n cs) ≡ drop n (body_lines cs)
drop_lines zero cs = refl
drop_lines (suc n) [] = refl
drop_lines (suc n) (c ∷ cs) = drop_lines n cs

abbrev from : ℕ → List Command → List Command
from n cs = take (length cs - n) (drop n cs)

from_is : (n : ℕ) (cs : List Command) → from n cs ≡ drop n cs
from_is n cs = take_all (length cs - n) (drop n cs) (omega (arith, length-drop n cs))

from_lines : (n : ℕ) (cs : List Command) → body_lines (from n cs) ≡ drop n (body_lines cs)
from_lines n cs = ap body_lines (from_is n cs) ∙ drop_lines n cs

branch_of : (cs : List Command) (n room : ℕ) (branch rest : List Line) (stop : Line) → drop n (body_lines cs) ≡ branch ++ stop ∷ rest → (stop ≡ form.With) ⊎ (stop ≡ form.End) → IsBody true room branch → IsBranch (from n cs) (length branch)
branch_of cs n room branch rest stop e s b =
    record { room = room; branch = branch; stop = stop; rest = rest; whole = from_lines n cs ∙ e; stops = s; is_branch = b; counted = refl }

left_of : (cs : List Command) (m l : ℕ) (f : IsFork cs m l) → IsBranch (from 1 cs) (length f.left)
left_of cs m l f =
    let whole : drop 1 (body_lines cs) ≡ f.left ++ form.With ∷ (f.right ++ form.End ∷ f.rest) =
    ap (drop 1) f.whole ∙ append_assoc f.left (form.With ∷ f.right) (form.End ∷ f.rest) in
    branch_of cs 1 f.room f.left (f.right ++ form.End ∷ f.rest) form.With whole (inl refl) f.is_left

same_place : (cs : List Command) (m n : ℕ) → IsBranch cs m → IsBranch cs n → m ≡ n
same_place cs m n a b = sym (scan_branch cs m a) ∙ scan_branch cs n b

right_of : (cs : List Command) (m l n : ℕ) (f : IsFork cs m l) → n ≡ length f.left → IsBranch (from (1 + n + 1) cs) (length f.right)
right_of cs m l n f e =
    let front = form.Fork f.at ∷ f.left ++ form.With ∷ [] in
    let regroup : form.Fork f.at ∷ f.left ++ form.With ∷ f.right ++ form.End ∷ f.rest ≡ front ++ (f.right ++ form.End ∷ f.rest) = simp append_assoc in
    let long : length front ≡ 1 + n + 1 = omega (arith, e, length-append f.left (form.With ∷ [])) in
    let whole : drop (1 + n + 1) (body_lines cs) ≡ f.right ++ form.End ∷ f.rest = ap (drop (1 + n + 1)) (f.whole ∙ regroup) ∙ drop_at front (f.right ++ form.End ∷ f.rest) (1 + n + 1) long in
    branch_of cs (1 + n + 1) f.room f.right f.rest form.End whole (inr refl) f.is_right

pub first_is : (cs : List Command) (m l : ℕ) → IsFork cs m l → (count : ℕ) × IsBranch (from 1 cs) count
first_is cs m l f = (length f.left, left_of cs m l f)

pub second_is : (cs : List Command) (m l n : ℕ) → IsFork cs m l → IsBranch (from 1 cs) n → (count : ℕ) × IsBranch (from (1 + n + 1) cs) count
second_is cs m l n f b = (length f.right, right_of cs m l n f (same_place (from 1 cs) n (length f.left) b (left_of cs m l f)))

pub fork_is : (cs : List Command) (m l n k : ℕ) → IsFork cs m l → IsBranch (from 1 cs) n → IsBranch (from (1 + n + 1) cs) k → IsFork cs (1 + n) (1 + n + 1 + k)
fork_is cs m l n k f b q =
    let first = same_place (from 1 cs) n (length f.left) b (left_of cs m l f) in
    let second = same_place (from (1 + n + 1) cs) k (length f.right) q (right_of cs m l n f first) in
    record {
      at = f.at;
      room = f.room;
      left = f.left;
      right = f.right;
      rest = f.rest;
      whole = f.whole;
      is_left = f.is_left;
      is_right = f.is_right;
      middle_place = omega (arith, first);
      last_place = omega (arith, first, second);
    }

pub same_fork : (cs : List Command) (m l n k : ℕ) → IsFork cs m l → IsFork cs n k → (m ≡ n) × (l ≡ k)
same_fork cs m l n k f g =
    let first = same_place (from 1 cs) (length f.left) (length g.left) (left_of cs m l f) (left_of cs n k g) in
    let rights = right_of cs m l (length f.left) f refl in
    let others = right_of cs n k (length f.left) g first in
    let second = same_place (from (1 + length f.left + 1) cs) (length f.right) (length g.right) rights others in
    (omega (arith, f.middle_place, g.middle_place, first), omega (arith, f.last_place, g.last_place, first, second))

-- Bodies come apart.
apart : (x y : Line) (xs ys : List Line) → x ∷ xs ≡ y ∷ ys → (x ≡ y) × (xs ≡ ys)
apart x y xs ys e = (cc, cc)

plain_rest : (inside : Bool) (room : ℕ) (ks : List Line) → IsBody inside room ks → (l : Line) (ls : List Line) → ks ≡ l ∷ ls → keyword_of l ≢ Fork → IsBody inside room ls
plain_rest _ _ _ (IsBody.nothing inside room) l ls e n = cc
plain_rest _ _ _ (IsBody.map inside room va pa len prot ks b) l ls e n = subst (IsBody inside room) (apart _ _ ks ls e).1 b
plain_rest _ _ _ (IsBody.unmap inside room va len ks b) l ls e n = subst (IsBody inside room) (apart _ _ ks ls e).1 b
plain_rest _ _ _ (IsBody.lookup inside room va ks b) l ls e n = subst (IsBody inside room) (apart _ _ ks ls e).1 b
plain_rest _ _ _ (IsBody.dump inside room ks b) l ls e n = subst (IsBody inside room) (apart _ _ ks ls e).1 b
plain_rest _ _ _ (IsBody.release room ks b) l ls e n = subst (IsBody false room) (apart _ _ ks ls e).1 b
plain_rest _ _ _ (IsBody.fork inside room at left right ks a r b) l ls e n =
    absurd (n (ap keyword_of (sym (apart (form.Fork at) l (left ++ form.With ∷ right ++ form.End ∷ ks) ls e).0)))

fork_rest : (inside : Bool) (room : ℕ) (ks : List Line) → IsBody inside room ks → (at : ℕ) (ls : List Line) → ks ≡ form.Fork at ∷ ls → IsForkRest inside room ls
fork_rest _ _ _ (IsBody.nothing inside room) at ls e = cc
fork_rest _ _ _ (IsBody.map inside room va pa len prot ks b) at ls e = let f = (apart (form.Map va pa len prot) (form.Fork at) ks ls e).0 in cc
fork_rest _ _ _ (IsBody.unmap inside room va len ks b) at ls e = let f = (apart (form.Unmap va len) (form.Fork at) ks ls e).0 in cc
fork_rest _ _ _ (IsBody.lookup inside room va ks b) at ls e = let f = (apart (form.Lookup va) (form.Fork at) ks ls e).0 in cc
fork_rest _ _ _ (IsBody.dump inside room ks b) at ls e = let f = (apart form.Dump (form.Fork at) ks ls e).0 in cc
fork_rest _ _ _ (IsBody.release room ks b) at ls e = let f = (apart form.Release (form.Fork at) ks ls e).0 in cc
fork_rest _ _ _ (IsBody.fork inside room a left right ks x r b) at ls e =
    record {
      less = room;
      left = left;
      right = right;
      rest = ks;
      room_is = refl;
      whole = sym (apart (form.Fork a) (form.Fork at) (left ++ form.With ∷ right ++ form.End ∷ ks) ls e).1;
      is_left = x;
      is_right = r;
      is_rest = b;
    }

released : (inside : Bool) (room : ℕ) (ks : List Line) → IsBody inside room ks → (ls : List Line) → ks ≡ form.Release ∷ ls → inside ≡ false
released _ _ _ (IsBody.nothing inside room) ls e = cc
released _ _ _ (IsBody.map inside room va pa len prot ks b) ls e = let f = (apart (form.Map va pa len prot) form.Release ks ls e).0 in cc
released _ _ _ (IsBody.unmap inside room va len ks b) ls e = let f = (apart (form.Unmap va len) form.Release ks ls e).0 in cc
released _ _ _ (IsBody.lookup inside room va ks b) ls e = let f = (apart (form.Lookup va) form.Release ks ls e).0 in cc
released _ _ _ (IsBody.dump inside room ks b) ls e = let f = (apart form.Dump form.Release ks ls e).0 in cc
released _ _ _ (IsBody.release room ks b) ls e = refl
released _ _ _ (IsBody.fork inside room a left right ks x r b) ls e =
    let f = (apart (form.Fork a) form.Release (left ++ form.With ∷ right ++ form.End ∷ ks) ls e).0 in cc

pub come_apart : ComeApart
come_apart = record {
  plain = λ inside room l ls b n. plain_rest inside room (l ∷ ls) b l ls refl n;
  fork = λ inside room at ls b. fork_rest inside room (form.Fork at ∷ ls) b at ls refl;
  release = λ inside room ls b. released inside room (form.Release ∷ ls) b ls refl;
}
