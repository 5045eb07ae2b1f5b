-- Lists of commands: how deep they are, and the span that the run comes back to.
use Rattle.std.proofs.Common.{◌≡◌, ℕ, suc, ◌+◌, ◌-◌, List, [], ◌∷◌, Bool, true, false, refl, ap, sym, subst, ◌∙◌, arith, Option, length}
use Rattle.std.specs.Prelude.{IsTrue, ◌&&◌, is_none, if◌then◌else◌}
use Rattle.std.proofs.lemmas.Bool.{false≢true}
use Rattle.pt_model.specs.declared.command.What.{What}
use Rattle.pt_model.specs.declared.command.What.TheVariants.{Map, Unmap, Lookup, Dump, Release, Fork, With, End}
use Rattle.pt_model.specs.declared.command.Command.{Command}
use Rattle.pt_model.specs.declared.reply.MapAnswer.{MapAnswer}
use Rattle.pt_model.specs.declared.reply.MapAnswer.TheVariants as mapping
use Rattle.pt_model.specs.Layout.{is_size}
use Rattle.pt_model.specs.Pages.{page_under}
use Rattle.pt_model.specs.Book.{Book, span_end}
use Rattle.pt_model.specs.declared.reply.UnmapAnswer.{UnmapAnswer}
use Rattle.pt_model.specs.declared.reply.UnmapAnswer.TheVariants as unmapping
use Rattle.pt_model.specs.Run.{Machine, after_map, Opened, Refused, Cut, State, is_running, Decided, is_lacking, map_answer, unmap_answer, after_unmap, answer_of, book_after, at_with, at_end, behind_what, behind, reply_before, replies_from, state_after}
use Rattle.pt_model.specs.Cuts.{cut_refusal, spanning}
use Rattle.pt_model.specs.declared.reply.Reply.{Reply}
use Rattle.pt_model.specs.declared.reply.Answer.{Answer}
use Rattle.pt_laws.specs.Apart.{Rest, AreInside, Follows, depth_behind, may_stand, AreClosed}
use Rattle.pt_laws.proofs.Stepping.{answered, steps}

-- the span that the run has when all open forks are closed
abbrev pub home : (first last : ℕ) → List Opened → ℕ × ℕ
home first last [] = (first, last)
home first last (Refused ∷ fs) = home first last fs
home first last (Cut a at z ∷ fs) = home a z fs

abbrev pub home_of : State → ℕ × ℕ
home_of s = home s.book.first (span_end s.book) s.forks

-- no change of a book changes its span
abbrev SameSpan : Book → Book → Type 0
SameSpan x y = (x.first ≡ y.first) × (x.count ≡ y.count)

after_span : (a : MapAnswer) (new old : Book) → SameSpan new old → SameSpan (after_map a new old) old
after_span mapping.Mapped new old e = e
after_span mapping.Misaligned new old e = (refl, refl)
after_span mapping.Outside new old e = (refl, refl)
after_span mapping.Output new old e = (refl, refl)
after_span (mapping.Occupied address) new old e = (refl, refl)
after_span mapping.Frames new old e = (refl, refl)

taken_span : (a : UnmapAnswer) (new old : Book) → SameSpan new old → SameSpan (after_unmap a new old) old
taken_span (unmapping.Unmapped pages) new old e = e
taken_span unmapping.Misaligned new old e = (refl, refl)
taken_span unmapping.Outside new old e = (refl, refl)
taken_span (unmapping.Cuts block) new old e = (refl, refl)

book_span : (m : Machine) (b : Book) (lacking : Bool) (what : What) → SameSpan (book_after m b lacking what) b
book_span m b lacking (Map va pa len prot) = after_span (map_answer m b lacking va pa len) _ b (refl, refl)
book_span m b lacking (Unmap va len) = taken_span (unmap_answer m b va len) _ b (refl, refl)
book_span m b lacking (Lookup va) = (refl, refl)
book_span m b lacking Dump = (refl, refl)
book_span m b lacking Release = (refl, refl)
book_span m b lacking (Fork at) = (refl, refl)
book_span m b lacking With = (refl, refl)
book_span m b lacking End = (refl, refl)

-- What a command does to the open forks and to the span that the run comes back to.
pub record Moves (s t : State) (what : What) : Type 0 where
  pub depth : length t.forks ≡ depth_behind what (length s.forks)
  pub home : home_of t ≡ home_of s

plain_moves : (s : State) (x : Book) → SameSpan x s.book → (r : Bool) → (length (if r then record s { book = x } else s).forks ≡ length s.forks) × (home_of (if r then record s { book = x } else s) ≡ home_of s)
plain_moves s x e true = (refl, ap (λ (n : ℕ). home n (x.first + x.count) s.forks) e.0 ∙ ap (λ (n : ℕ). home s.book.first (n + x.count) s.forks) e.0 ∙ ap (λ (n : ℕ). home s.book.first (s.book.first + n) s.forks) e.1)
plain_moves s x e false = (refl, refl)

fork_moves : (s : State) (at : ℕ) (first cut last : ℕ) (x : Book) → first ≡ s.book.first → last ≡ span_end s.book → (t : Bool) →
    (length (if t then record { book = x; forks = Cut first cut last ∷ s.forks } else record s { forks = Refused ∷ s.forks }).forks ≡ suc (length s.forks))
    × (home_of (if t then record { book = x; forks = Cut first cut last ∷ s.forks } else record s { forks = Refused ∷ s.forks }) ≡ home_of s)
fork_moves s at first cut last x a z true = (refl, ap (λ (n : ℕ). home n last s.forks) a ∙ ap (λ (n : ℕ). home s.book.first n s.forks) z)
fork_moves s at first cut last x a z false = (refl, refl)

with_moves : (b : Book) (lo hi : ℕ) (fs : List Opened) → AreInside lo hi fs → may_stand With (length fs) ≡ true →
    (length (at_with b fs).forks ≡ length fs) × (home_of (at_with b fs) ≡ home b.first (span_end b) fs)
with_moves b lo hi [] i stands = absurd (false≢true stands)
with_moves b lo hi (Refused ∷ fs) i stands = (refl, refl)
with_moves b lo hi (Cut first at last ∷ fs) i stands = (refl, refl)

end_moves : (b : Book) (lo hi : ℕ) (fs : List Opened) → AreInside lo hi fs → may_stand End (length fs) ≡ true →
    (length (at_end b fs).forks ≡ depth_behind End (length fs)) × (home_of (at_end b fs) ≡ home b.first (span_end b) fs)
end_moves b lo hi [] i stands = absurd (false≢true stands)
end_moves b lo hi (Refused ∷ fs) i stands = (refl, refl)
end_moves b lo hi (Cut first at last ∷ fs) i stands =
    let e : first + (last - first) ≡ last = let x = i.1 in let y = i.2 in omega arith in
    (refl, ap (λ (n : ℕ). home first n fs) e)

moves : (m : Machine) (by : Decided) (lo hi : ℕ) (s : State) (line : ℕ) (what : What) → AreInside lo hi s.forks → may_stand what (length s.forks) ≡ true →
    (length (behind_what m by s line what).forks ≡ depth_behind what (length s.forks)) × (home_of (behind_what m by s line what) ≡ home_of s)
moves m by lo hi s line (Map va pa len prot) i stands = plain_moves s _ (book_span m s.book (is_lacking m by s line (Map va pa len prot)) (Map va pa len prot)) (is_running s.forks)
moves m by lo hi s line (Unmap va len) i stands = plain_moves s _ (book_span m s.book (is_lacking m by s line (Unmap va len)) (Unmap va len)) (is_running s.forks)
moves m by lo hi s line (Lookup va) i stands = plain_moves s _ (refl, refl) (is_running s.forks)
moves m by lo hi s line Dump i stands = plain_moves s _ (refl, refl) (is_running s.forks)
moves m by lo hi s line Release i stands = plain_moves s _ (refl, refl) (is_running s.forks)
moves m by lo hi s line (Fork at) i stands =
    fork_moves s at s.book.first (page_under m.layout at) (span_end s.book) (spanning s.book s.book.first (page_under m.layout at)) refl refl (is_running s.forks && is_none (cut_refusal m.layout s.book at))
moves m by lo hi s line With i stands = with_moves s.book lo hi s.forks i stands
moves m by lo hi s line End i stands = end_moves s.book lo hi s.forks i stands

-- All commands, over the whole and over the part.
module _ (m : Machine) (page : IsTrue (is_size m.layout 0)) (lo hi : ℕ) (rest : Rest m.layout lo hi) (outer : List Opened) (runs : is_running outer ≡ true) (by by' : Decided)
    (agree : (w p : State) → Follows m.layout lo hi rest outer w p → (line : ℕ) (what : What) → is_lacking m by w line what ≡ is_lacking m by' p line what) where
  pub record AllAlike (w p : State) (cs : List Command) : Type 0 where
    pub replies : replies_from m by w cs ≡ replies_from m by' p cs
    pub after : Follows m.layout lo hi rest outer (state_after m by w cs) (state_after m by' p cs)
    pub closed : (state_after m by' p cs).forks ≡ []
    pub home : home_of (state_after m by' p cs) ≡ home_of p

  none_open : (fs : List Opened) → length fs ≡ 0 → fs ≡ []
  none_open [] e = refl
  none_open (o ∷ fs) e = absurd (omega arith)

  pub all_alike : (cs : List Command) (w p : State) → Follows m.layout lo hi rest outer w p → AreClosed (length p.forks) cs → AllAlike w p cs
  all_alike [] w p h closed = record { replies = refl; after = h; closed = none_open p.forks closed; home = refl }
  all_alike (c ∷ cs) w p h closed =
      let same = agree w p h c.line c.what in
      let next = steps m page lo hi rest outer runs by by' w p c.line c.what h closed.0 same in
      let moved = moves m by' lo hi p c.line c.what h.inside closed.0 in
      let later : AllAlike (behind m by w c) (behind m by' p c) cs = all_alike cs (behind m by w c) (behind m by' p c) next (subst (λ (n : ℕ). AreClosed n cs) (sym moved.0) closed.1) in
      record {
        replies = ap (λ (a : Option Answer). reply_before c.line a (replies_from m by (behind m by w c) cs)) (answered m page lo hi rest outer runs by by' w p c h same)
            ∙ ap (λ (rs : List Reply). reply_before c.line (answer_of m by' p c) rs) later.replies;
        after = later.after;
        closed = later.closed;
        home = later.home ∙ moved.1;
      }
