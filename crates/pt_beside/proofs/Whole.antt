-- Stretches of a run over the whole space: outside forks the account decides.
use Rattle.std.proofs.Common.{◌≡◌, ℕ, List, [], ◌∷◌, ◌++◌, Bool, true, refl, ap, subst, sym, ◌∙◌, append_assoc, Some}
use Rattle.pt_model.specs.declared.command.What.{What}
use Rattle.pt_model.specs.declared.command.What.TheVariants.{Map, Unmap, Lookup, Dump, Release, Fork, With, End}
use Rattle.pt_model.specs.declared.command.Command.{Command}
use Rattle.pt_model.specs.declared.reply.Answer.{Answer}
use Rattle.pt_model.specs.declared.reply.Answer.TheVariants as answer
use Rattle.pt_model.specs.declared.reply.Reply.{Reply}
use Rattle.pt_model.specs.Book.{Book}
use Rattle.pt_model.specs.Unmap.{CutRefusal}
use Rattle.pt_model.specs.Cuts.{cut_refusal}
use Rattle.pt_model.specs.Run.{Machine, State, Decided, ByAccount, InForks, at_start, is_lacking, answer_to, book_after, fork_answer, replies_from, state_after}
use Rattle.pt_laws.specs.Apart.{AreClosed}
use Rattle.pt_laws.specs.Goes.{Goes}
use Rattle.pt_laws.specs.Need.{fork_lines}
use Rattle.pt_laws.specs.Covers.{Stand}
use Rattle.pt_laws.specs.OneText.{is_call, RunsWhole}
use Rattle.pt_laws.proofs.ForkRuns.{replies_append, state_append, goes_plain, goes_past}
use Rattle.pt_laws.proofs.Purses.{fork_whole}
use Rattle.pt_forks.proofs.Passing.{account_decides}
use Rattle.pt_beside.specs.Running.{AreOf, IsRunByLines, RanWhole}
use Rattle.pt_beside.proofs.Listing.{of_on, of_none, reads_left, reads_right}

fork_on : (line at middle last : ℕ) (left right xs ys : List Command) →
    fork_lines line at middle last left right xs ++ ys ≡ fork_lines line at middle last left right (xs ++ ys)
fork_on line at middle last left right xs ys =
    ap (λ (cs : List Command). cs ++ ys) (sym (fork_whole line at middle last left right xs))
    ∙ append_assoc (fork_lines line at middle last left right []) xs ys ∙ fork_whole line at middle last left right (xs ++ ys)

thrice : (ls ts rs qs : List Reply) → (ls ++ (ts ++ rs)) ++ qs ≡ ls ++ (ts ++ (rs ++ qs))
thrice ls ts rs qs = append_assoc ls (ts ++ rs) qs ∙ ap (λ (x : List Reply). ls ++ x) (append_assoc ts rs qs)

module _ (m : Machine) (by : Decided) where
  runs_on : (xs ys : List Command) (s s' s'' : Stand) (rs qs inside more : List Reply) → RunsWhole m by xs s s' rs inside → RunsWhole m by ys s' s'' qs more →
      RunsWhole m by (xs ++ ys) s s'' (rs ++ qs) (inside ++ more)
  runs_on _ ys _ _ s'' _ qs _ more (RunsWhole.nothing s) k = k
  runs_on _ ys _ _ t _ qs _ more (RunsWhole.call c cs s s' s'' r rs inside step run) k =
      RunsWhole.call c (cs ++ ys) s s' t r (rs ++ qs) (inside ++ more) step (runs_on cs ys s' s'' t rs qs inside more run k)
  runs_on _ ys _ _ t _ qs _ more (RunsWhole.past line at middle last left right cs s s' s'' r rs inside step run) k =
      subst (λ (ds : List Command). RunsWhole m by ds s t (r ∷ (rs ++ qs)) (inside ++ more)) (sym (fork_on line at middle last left right cs ys))
      (RunsWhole.past line at middle last left right (cs ++ ys) s s' t r (rs ++ qs) (inside ++ more) step (runs_on cs ys s' s'' t rs qs inside more run k))
  runs_on _ ys _ _ u _ qs _ more (RunsWhole.fork line at middle last left right cs s l t j s'' r ls ts rs inside nl nr ok dealt one two step run) k =
      subst (λ (ds : List Command). RunsWhole m by ds s u ((r ∷ (ls ++ (ts ++ rs))) ++ qs) ((ls ++ (ts ++ inside)) ++ more)) (sym (fork_on line at middle last left right cs ys))
      (subst (λ (x : List Reply). RunsWhole m by (fork_lines line at middle last left right (cs ++ ys)) s u (r ∷ x) ((ls ++ (ts ++ inside)) ++ more)) (sym (thrice ls ts rs qs))
      (subst (λ (x : List Reply). RunsWhole m by (fork_lines line at middle last left right (cs ++ ys)) s u (r ∷ (ls ++ (ts ++ (rs ++ qs)))) x) (sym (thrice ls ts inside more))
      (RunsWhole.fork line at middle last left right (cs ++ ys) s l t j u r ls ts (rs ++ qs) (inside ++ more) nl nr ok dealt one two step
      (runs_on cs ys j s'' u rs qs inside more run k))))

pub whole_nothing : (m : Machine) (s : Stand) → RanWhole m s s [] []
whole_nothing m s = record {
  inside = [];
  inside_of = AreOf.nothing;
  goes = λ lines h. record { runs = RunsWhole.nothing s; replies_are = refl; book_is = refl };
}

pub whole_on : (m : Machine) (xs ys : List Command) (s s' s'' : Stand) (rs qs : List Reply) → RanWhole m s s' xs rs → RanWhole m s' s'' ys qs →
    RanWhole m s s'' (xs ++ ys) (rs ++ qs)
whole_on m xs ys s s' s'' rs qs g h = record {
  inside = g.inside ++ h.inside;
  inside_of = of_on xs ys g.inside h.inside g.inside_of h.inside_of;
  goes = λ lines reads.
      let one : IsRunByLines m lines s s' xs rs g.inside = g.goes lines (reads_left lines g.inside h.inside reads) in
      let two : IsRunByLines m lines s' s'' ys qs h.inside = h.goes lines (reads_right lines g.inside h.inside reads) in
      record {
        runs = runs_on m (InForks lines) xs ys s s' s'' rs qs g.inside h.inside one.runs two.runs;
        replies_are = ap (λ (x : List Reply). x ++ qs) one.replies_are
            ∙ ap (λ (x : List Reply). replies_from m (InForks lines) (at_start s.book) xs ++ x)
            (two.replies_are ∙ ap (λ (t : State). replies_from m (InForks lines) t ys) (sym one.book_is))
            ∙ sym (replies_append m (InForks lines) (at_start s.book) xs ys);
        book_is = state_append m (InForks lines) (at_start s.book) xs ys ∙ ap (λ (t : State). state_after m (InForks lines) t ys) one.book_is ∙ two.book_is;
      };
}

-- outside forks one call is answered as by the account
record Alike (m : Machine) (lines : ℕ → Bool) (b : Book) (c : Command) : Type 0 where
  pub replies : replies_from m (InForks lines) (at_start b) (c ∷ []) ≡ replies_from m ByAccount (at_start b) (c ∷ [])
  pub state : state_after m (InForks lines) (at_start b) (c ∷ []) ≡ state_after m ByAccount (at_start b) (c ∷ [])

alike : (m : Machine) (lines : ℕ → Bool) (b : Book) (line : ℕ) (what : What) → Alike m lines b (record { line = line; what = what })
alike m lines b line (Map va pa len prot) = record { replies = refl; state = refl }
alike m lines b line (Unmap va len) = record { replies = refl; state = refl }
alike m lines b line (Lookup va) = record { replies = refl; state = refl }
alike m lines b line Dump = record { replies = refl; state = refl }
alike m lines b line Release = record { replies = refl; state = refl }
alike m lines b line (Fork at) = record { replies = refl; state = refl }
alike m lines b line With = record { replies = refl; state = refl }
alike m lines b line End = record { replies = refl; state = refl }

pub whole_call : (m : Machine) (s s' : Stand) (c : Command) (a : Answer) (lacking : Bool) → is_call c.what ≡ true →
    lacking ≡ is_lacking m ByAccount (at_start s.book) 0 c.what → answer_to m s.book lacking c.what ≡ Some a → s'.book ≡ book_after m s.book lacking c.what →
    RanWhole m s s' (c ∷ []) (record { line = c.line; answer = a } ∷ [])
whole_call m s s' c a lacking call account answers after = record {
  inside = [];
  inside_of = of_none (c ∷ []);
  goes = λ lines h.
      let same : Alike m lines s.book c = alike m lines s.book c.line c.what in
      let g : Goes m ByAccount s.book s'.book (c ∷ []) [] [] (record { line = c.line; answer = a } ∷ []) =
      goes_plain m ByAccount s.book s'.book c [] a lacking [] (record { line = c.line; answer = a } ∷ [])
      (λ fs. account_decides (record { machine = m; book = s.book; cuts = [] }) fs c.line c.what ∙ sym account) call answers after refl in
      record {
        runs = RunsWhole.call c [] s s' s' (record { line = c.line; answer = a }) [] [] (same.state ∙ g.state [] refl) (RunsWhole.nothing s');
        replies_are = sym (same.replies ∙ g.replies [] refl);
        book_is = same.state ∙ g.state [] refl;
      };
}

pub whole_past : (m : Machine) (s : Stand) (line at middle last : ℕ) (left right : List Command) (a : CutRefusal) → cut_refusal m.layout s.book at ≡ Some a →
    AreClosed 0 left → AreClosed 0 right →
    RanWhole m s s (fork_lines line at middle last left right []) (record { line = line; answer = answer.Fork (fork_answer m s.book at) } ∷ [])
whole_past m s line at middle last left right a refused cl cr = record {
  inside = [];
  inside_of = of_none (fork_lines line at middle last left right []);
  goes = λ lines h.
      let fork : Reply = record { line = line; answer = answer.Fork (fork_answer m s.book at) } in
      let g : Goes m (InForks lines) s.book s.book (fork_lines line at middle last left right []) [] [] (record { line = line; answer = answer.Fork (fork_answer m s.book at) } ∷ []) =
      goes_past m (InForks lines) s.book line at middle last left right [] a [] (record { line = line; answer = answer.Fork (fork_answer m s.book at) } ∷ []) refused cl cr refl in
      record {
        runs = RunsWhole.past line at middle last left right [] s s s fork [] [] (g.state [] refl) (RunsWhole.nothing s);
        replies_are = sym (g.replies [] refl);
        book_is = g.state [] refl;
      };
}
