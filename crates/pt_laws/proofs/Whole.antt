-- The run of a lease of the whole space lacks frames, inside forks, only at lines that their outermost fork doesn't cover.
use Rattle.std.proofs.Common.{◌≡◌, ℕ, suc, List, [], ◌∷◌, ◌++◌, true, false, Bool, inl, inr, refl, ap, sym, subst, ◌∙◌, arith, length, append_assoc}
use Rattle.std.specs.Prelude.{◌&&◌, ◌==◌, is_none, if◌then◌else◌}
use Rattle.std.proofs.lemmas.Bool.{and_parts, eqb-true, false≢true, or_cases}
use Rattle.std.proofs.lemmas.List.{append-nil}
use Rattle.pt_model.specs.declared.command.What.{What}
use Rattle.pt_model.specs.declared.command.What.TheVariants.{Map, Unmap, Lookup, Dump, Release, Fork, With, End}
use Rattle.pt_model.specs.declared.command.Command.{Command}
use Rattle.pt_model.specs.Book.{Book}
use Rattle.pt_model.specs.Run.{Machine, Opened, Refused, Cut, State, Decided, at_start, is_running, is_lacking, at_with, at_end, book_after, behind_what, behind, state_after, is_frames, lacked_lines}
use Rattle.pt_model.specs.declared.reply.Reply.{Reply}
use Rattle.pt_model.specs.Cuts.{cut_refusal}
use Rattle.pt_laws.specs.Apart.{depth_behind, may_stand, AreClosed}
use Rattle.pt_laws.specs.Need
use Rattle.pt_laws.specs.Need.{fork_lines, IsOutermost, IsUncovered}
use Rattle.pt_laws.specs.Covers.{Stand, LackOnly, LeftUncovered, RightUncovered}
use Rattle.pt_laws.specs.OneText
use Rattle.pt_laws.specs.OneText.{is_call, IsNested, RunsWhole, LackUncovered, PrintedUncovered}
use Rattle.pt_laws.proofs.ForkRuns.{state_append}
use Rattle.pt_laws.proofs.Purses.{lack_append, lack_map, fork_whole}
use Rattle.pt_laws.proofs.Covering.{forks_cover}

-- Commands that close their forks leave the open ones.

call_closed : (what : What) (depth : ℕ) → is_call what ≡ true → (may_stand what depth ≡ true) × (depth_behind what depth ≡ depth)
call_closed (Map va pa len prot) depth e = (refl, refl)
call_closed (Unmap va len) depth e = (refl, refl)
call_closed (Lookup va) depth e = (refl, refl)
call_closed Dump depth e = (refl, refl)
call_closed Release depth e = (refl, refl)
call_closed (Fork at) depth e = absurd (false≢true e)
call_closed With depth e = absurd (false≢true e)
call_closed End depth e = absurd (false≢true e)

closed_before : (cs : List Command) → IsNested cs → (depth : ℕ) (rest : List Command) → AreClosed depth rest → AreClosed depth (cs ++ rest)
closed_before _ OneText.nothing depth rest h = h
closed_before _ (OneText.call c cs call n) depth rest h =
    let one = call_closed c.what depth call in
    (one.0, subst (λ (d : ℕ). AreClosed d (cs ++ rest)) (sym one.1) (closed_before cs n depth rest h))
closed_before _ (OneText.fork line at middle last left right cs a b c) depth rest h =
    let tail : AreClosed depth (cs ++ rest) = closed_before cs c depth rest h in
    let e : Command = record { line = last; what = End } in
    let w : Command = record { line = middle; what = With } in
    let two : AreClosed (suc depth) (right ++ (record { line = last; what = End } ∷ (cs ++ rest))) = closed_before right b (suc depth) (record { line = last; what = End } ∷ (cs ++ rest)) (refl, tail) in
    let one : AreClosed (suc depth) (left ++ (record { line = middle; what = With } ∷ (right ++ (record { line = last; what = End } ∷ (cs ++ rest))))) =
    closed_before left a (suc depth) (record { line = middle; what = With } ∷ (right ++ (record { line = last; what = End } ∷ (cs ++ rest)))) (refl, two) in (
      refl,
      subst (λ (xs : List Command). AreClosed (suc depth) xs)
          (ap (λ (xs : List Command). left ++ (record { line = middle; what = With } ∷ xs)) (sym (append_assoc right (record { line = last; what = End } ∷ cs) rest))
          ∙ sym (append_assoc left (record { line = middle; what = With } ∷ (right ++ (record { line = last; what = End } ∷ cs))) rest)) one,
    )

pub nested_closed : (cs : List Command) → IsNested cs → AreClosed 0 cs
nested_closed cs n = subst (λ (xs : List Command). AreClosed 0 xs) (append-nil cs) (closed_before cs n 0 [] refl)

kept_forks : (s : State) (b : Book) (r : Bool) → (if r then record s { book = b } else s).forks ≡ s.forks
kept_forks s b true = refl
kept_forks s b false = refl

opened_one : (x y : State) (fs : List Opened) (o p : Opened) (t : Bool) → x.forks ≡ o ∷ fs → y.forks ≡ p ∷ fs → (q : Opened) × ((if t then x else y).forks ≡ q ∷ fs)
opened_one x y fs o p true e h = (o, e)
opened_one x y fs o p false e h = (p, h)

with_keeps : (b : Book) (fs : List Opened) → (at_with b fs).forks ≡ fs
with_keeps b [] = refl
with_keeps b (Refused ∷ fs) = refl
with_keeps b (Cut first at last ∷ fs) = refl

end_drops : (b : Book) (o : Opened) (fs : List Opened) → (at_end b (o ∷ fs)).forks ≡ fs
end_drops b Refused fs = refl
end_drops b (Cut first at last) fs = refl

module _ (m : Machine) (by : Decided) where
  abbrev Ends : List Opened → List Opened → State → What → Type 0
  Ends tops outer t what = (tops' : List Opened) × (length tops' ≡ depth_behind what (length tops)) × (t.forks ≡ tops' ++ outer)

  ends_one : (line : ℕ) (what : What) (s : State) (tops outer : List Opened) → s.forks ≡ tops ++ outer → may_stand what (length tops) ≡ true →
      Ends tops outer (behind_what m by s line what) what
  ends_one line (Map va pa len prot) s tops outer e h = (tops, refl, kept_forks s (book_after m s.book (is_lacking m by s line (Map va pa len prot)) (Map va pa len prot)) (is_running s.forks) ∙ e)
  ends_one line (Unmap va len) s tops outer e h = (tops, refl, kept_forks s (book_after m s.book (is_lacking m by s line (Unmap va len)) (Unmap va len)) (is_running s.forks) ∙ e)
  ends_one line (Lookup va) s tops outer e h = (tops, refl, kept_forks s s.book (is_running s.forks) ∙ e)
  ends_one line Dump s tops outer e h = (tops, refl, kept_forks s s.book (is_running s.forks) ∙ e)
  ends_one line Release s tops outer e h = (tops, refl, kept_forks s s.book (is_running s.forks) ∙ e)
  ends_one line (Fork at) s tops outer e h =
      let one = opened_one _ _ s.forks _ _ (is_running s.forks && is_none (cut_refusal m.layout s.book at)) refl refl in
      (one.0 ∷ tops, refl, one.1 ∙ ap (λ (fs : List Opened). one.0 ∷ fs) e)
  ends_one line With s tops outer e h = (tops, refl, with_keeps s.book s.forks ∙ e)
  ends_one line End s [] outer e h = absurd (false≢true h)
  ends_one line End s (o ∷ tops) outer e h = (tops, refl, ap (λ (fs : List Opened). (at_end s.book fs).forks) e ∙ end_drops s.book o (tops ++ outer))

  ends : (cs : List Command) (s : State) (tops outer : List Opened) → s.forks ≡ tops ++ outer → AreClosed (length tops) cs → (state_after m by s cs).forks ≡ outer
  ends [] s [] outer e h = e
  ends [] s (t ∷ tops) outer e h = absurd (omega arith)
  ends (c ∷ cs) s tops outer e h =
      let one : Ends tops outer (behind m by s c) c.what = ends_one c.line c.what s tops outer e h.0 in
      ends cs (behind m by s c) one.0 outer one.2 (subst (λ (n : ℕ). AreClosed n cs) (sym one.1) h.1)

  pub nested_ends : (cs : List Command) → IsNested cs → (s : State) → (state_after m by s cs).forks ≡ s.forks
  nested_ends cs n s = ends cs s [] s.forks refl (nested_closed cs n)

  -- The whole run.

  module _ (start : State) where
    abbrev At : List Command → Stand → Type 0
    At done s = state_after m by start done ≡ at_start s.book

    next_at : (done part : List Command) (s s' : Stand) → At done s → state_after m by (at_start s.book) part ≡ at_start s'.book → At (done ++ part) s'
    next_at done part s s' e h = state_append m by start done part ∙ ap (λ (t : State). state_after m by t part) e ∙ h

    whole : (cs : List Command) (s s' : Stand) (all inside : List Reply) → RunsWhole m by cs s s' all inside → (done : List Command) → At done s →
        LackOnly (IsUncovered m by start (done ++ cs)) inside
    whole _ _ _ _ _ (OneText.nothing s) done e = tt
    whole _ _ _ _ _ (OneText.call c cs s s' s'' r rs inside step run) done e =
        subst (λ (xs : List Command). LackOnly (IsUncovered m by start xs) inside) (append_assoc done (c ∷ []) cs)
        (whole cs s' s'' rs inside run (done ++ c ∷ []) (next_at done (c ∷ []) s s' e step))
    whole _ _ _ _ _ (OneText.past line at middle last left right cs s s' s'' r rs inside step run) done e =
        subst (λ (xs : List Command). LackOnly (IsUncovered m by start xs) inside)
        (append_assoc done (fork_lines line at middle last left right []) cs ∙ ap (λ (xs : List Command). done ++ xs) (fork_whole line at middle last left right cs))
        (whole cs s' s'' rs inside run (done ++ fork_lines line at middle last left right []) (next_at done (fork_lines line at middle last left right []) s s' e step))
    whole _ _ _ _ _ (OneText.fork line at middle last left right cs s l t j s'' r ls ts rs inside nl nr admitted dealt one two step run) done e =
        let covers = forks_cover m s.book left right l t ls ts dealt one two in
        let is : IsOutermost m by start (done ++ fork_lines line at middle last left right cs) done left right cs line middle last at = record {
          whole = refl;
          outside = ap (λ (x : State). x.forks) e;
          left_ends = nested_ends left nl;
          right_ends = nested_ends right nr;
          admitted = ap (λ (x : State). cut_refusal m.layout x.book at) e ∙ admitted;
        } in
        let later = subst (λ (xs : List Command). LackOnly (IsUncovered m by start xs) inside)
        (append_assoc done (fork_lines line at middle last left right []) cs ∙ ap (λ (xs : List Command). done ++ xs) (fork_whole line at middle last left right cs))
        (whole cs j s'' rs inside run (done ++ fork_lines line at middle last left right []) (next_at done (fork_lines line at middle last left right []) s j e step)) in
        lack_append (IsUncovered m by start (done ++ fork_lines line at middle last left right cs)) ls (ts ++ inside)
        (lack_map (LeftUncovered m s.book left) (IsUncovered m by start (done ++ fork_lines line at middle last left right cs))
        (λ n u. record {
          before = done;
          left = left;
          right = right;
          rest = cs;
          fork_line = line;
          with_line = middle;
          end_line = last;
          at = at;
          is_fork = is;
          upto = u.upto;
          here = u.here;
          past = u.past;
          line_is = u.line_is;
          not_covered = inl (u.whole, subst (λ (x : State). ¬ Need.CoversLeft m x.book left u.upto u.here) (sym e) u.not_covered);
        }) ls covers.0)
        (lack_append (IsUncovered m by start (done ++ fork_lines line at middle last left right cs)) ts inside
        (lack_map (RightUncovered m s.book left right) (IsUncovered m by start (done ++ fork_lines line at middle last left right cs))
        (λ n u. record {
          before = done;
          left = left;
          right = right;
          rest = cs;
          fork_line = line;
          with_line = middle;
          end_line = last;
          at = at;
          is_fork = is;
          upto = u.upto;
          here = u.here;
          past = u.past;
          line_is = u.line_is;
          not_covered = inr (u.whole, subst (λ (x : State). ¬ Need.CoversRight m x.book left u.upto u.here) (sym e) u.not_covered);
        }) ts covers.1) later)

pub lack_uncovered : LackUncovered
lack_uncovered m by cs s s' all inside run = whole m by (at_start s.book) cs s s' all inside run [] refl

lacked_is : (IsOne : ℕ → Type 0) (rs : List Reply) (line : ℕ) → LackOnly IsOne rs → lacked_lines rs line ≡ true → IsOne line
lacked_is IsOne [] line h e = absurd (false≢true e)
lacked_is IsOne (r ∷ rs) line h e = elim (or_cases ((r.line == line) && is_frames r.answer) _ e) [
  | inl here ↦ (let p = and_parts (r.line == line) _ here in subst IsOne (eqb-true r.line line p.0) (h.0 p.1))
  | inr later ↦ lacked_is IsOne rs line h.1 later
]

pub printed_uncovered : PrintedUncovered
printed_uncovered m by cs s s' all inside run line e =
    lacked_is (IsUncovered m by (at_start s.book) cs) inside line (lack_uncovered m by cs s s' all inside run) e
