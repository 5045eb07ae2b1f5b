-- What the answer to a command leaves of a place.
use Rattle.std.proofs.Common.{◌≡◌, ℕ, Bool, true, false, refl, ap, sym, ◌∙◌, Result, Ok, Err}
use Rattle.std.specs.Prelude.{IfOk, OnErr, IsTrue, ◌==◌}
use Rattle.std.proofs.lemmas.Bool.{eqb-true, false≢true}
use Rattle.pt_model.specs.declared.command.What.{What}
use Rattle.pt_model.specs.declared.command.What.TheVariants.{Map, Unmap, Lookup, Dump, Release, Fork, With, End}
use Rattle.pt_model.specs.declared.reply.MapAnswer.{MapAnswer}
use Rattle.pt_model.specs.declared.reply.MapAnswer.TheVariants as mapping
use Rattle.pt_model.specs.declared.reply.UnmapAnswer.{UnmapAnswer}
use Rattle.pt_model.specs.declared.reply.UnmapAnswer.TheVariants as unmapping
use Rattle.pt_model.specs.declared.reply.Answer.{Answer}
use Rattle.pt_model.specs.Layout.{Layout, input_pages}
use Rattle.pt_model.specs.Book.{Book}
use Rattle.pt_model.specs.Run.{Machine, ByAccount, after_map, after_unmap, at_start, book_after, is_frames, is_lacking, map_answer, unmap_answer}
use Rattle.pt_num.specs.declared.Memory.{Memory}
use Rattle.pt_view.specs.declared.view.View.{View}
use Rattle.pt_rule.specs.Meets.{IsWhole}
use Rattle.pt_space.specs.Standing.{Standing}
use Rattle.pt_reply.specs.Built.{is_built}
use Rattle.pt_reply.specs.Running.{AnswersAs, AnswersInPart, IsReady, RestsAsBefore, book_in, lacks_for, machine_in}
use Rattle.pt_beside.specs.Places.{Place, IsAnswered, MayAsk, StaysIn, is_whole}
use Rattle.pt_shared.specs.Parts.{place_of}

pub built : (p : Place) (what : What) → MayAsk p what → IsTrue (is_built what)
built p (Map va pa len prot) h = refl
built p (Unmap va len) h = refl
built p (Lookup va) h = refl
built p Dump h = refl
built p Release h = refl
built p (Fork at) h = absurd (false≢true h)
built p With h = absurd (false≢true h)
built p End h = absurd (false≢true h)

account_is : (m : Machine) (b : Book) (what : What) → lacks_for m b what ≡ is_lacking m ByAccount (at_start b) 0 what
account_is m b (Map va pa len prot) = refl
account_is m b (Unmap va len) = refl
account_is m b (Lookup va) = refl
account_is m b Dump = refl
account_is m b Release = refl
account_is m b (Fork at) = refl
account_is m b With = refl
account_is m b End = refl

-- No command changes the span.
record SameSpan (old new : Book) : Type 0 where
  pub first : new.first ≡ old.first
  pub count : new.count ≡ old.count

map_span : (a : MapAnswer) (new old : Book) → SameSpan old new → SameSpan old (after_map a new old)
map_span mapping.Mapped new old h = h
map_span mapping.Misaligned new old h = record { first = refl; count = refl }
map_span mapping.Outside new old h = record { first = refl; count = refl }
map_span mapping.Output new old h = record { first = refl; count = refl }
map_span (mapping.Occupied address) new old h = record { first = refl; count = refl }
map_span mapping.Frames new old h = record { first = refl; count = refl }

unmap_span : (a : UnmapAnswer) (new old : Book) → SameSpan old new → SameSpan old (after_unmap a new old)
unmap_span (unmapping.Unmapped pages) new old h = h
unmap_span unmapping.Misaligned new old h = record { first = refl; count = refl }
unmap_span unmapping.Outside new old h = record { first = refl; count = refl }
unmap_span (unmapping.Cuts block) new old h = record { first = refl; count = refl }

span_after : (m : Machine) (b : Book) (lacks : Bool) (what : What) → SameSpan b (book_after m b lacks what)
span_after m b lacks (Map va pa len prot) = map_span (map_answer m b lacks va pa len) _ b (record { first = refl; count = refl })
span_after m b lacks (Unmap va len) = unmap_span (unmap_answer m b va len) _ b (record { first = refl; count = refl })
span_after m b lacks (Lookup va) = record { first = refl; count = refl }
span_after m b lacks Dump = record { first = refl; count = refl }
span_after m b lacks Release = record { first = refl; count = refl }
span_after m b lacks (Fork at) = record { first = refl; count = refl }
span_after m b lacks With = record { first = refl; count = refl }
span_after m b lacks End = record { first = refl; count = refl }

-- whatever it answers, the holder is at rest in its place
pub record Rested (f : Layout) (s t : Standing) : Type 0 where
  pub ready : IsReady f t.view
  pub stays : StaysIn (place_of f s) (place_of f t)

pub rested : (f : Layout) (s t : Standing) (what : What) (r : Result Answer Memory) → t.space ≡ s.space →
    IfOk r (AnswersInPart f s.view t.view what) → OnErr r (RestsAsBefore f s.view t.view) → Rested f s t
rested f s t what (Ok a) space answers rests =
    let span : SameSpan (book_in s.view) (book_after (machine_in f s.view) (book_in s.view) (is_frames a) what) = span_after (machine_in f s.view) (book_in s.view) (is_frames a) what in
    record {
      ready = answers.by.ready;
      stays = record {
        space = space;
        machine = answers.by.machine;
        first = ap (λ (b : Book). b.first) answers.by.book ∙ span.first;
        count = ap (λ (b : Book). b.count) answers.by.book ∙ span.count;
      };
    }
rested f s t what (Err e) space answers rests = record {
  ready = rests.ready;
  stays = record {
    space = space;
    machine = rests.machine;
    first = ap (λ (b : Book). b.first) rests.book;
    count = ap (λ (b : Book). b.count) rests.book;
  };
}

-- The answer, by whether the span is the whole space.
leaves_in : (f : Layout) (s t : Standing) (what : What) (a : Answer) → MayAsk (place_of f s) what → AnswersInPart f s.view t.view what a →
    is_whole (place_of f s) ≡ false → IsAnswered (place_of f s) (place_of f t) what a
leaves_in f s t (Map va pa len prot) a ask part e = record { lacking = is_frames a; answers = part.by.answers; book = part.by.book; account = λ w. absurd (false≢true (sym e ∙ w)); leaves = λ _. part.leaves }
leaves_in f s t (Unmap va len) a ask part e = record { lacking = is_frames a; answers = part.by.answers; book = part.by.book; account = λ w. absurd (false≢true (sym e ∙ w)); leaves = λ _. part.leaves }
leaves_in f s t (Lookup va) a ask part e = record { lacking = is_frames a; answers = part.by.answers; book = part.by.book; account = λ w. absurd (false≢true (sym e ∙ w)); leaves = λ _. part.leaves }
leaves_in f s t Dump a ask part e = record { lacking = is_frames a; answers = part.by.answers; book = part.by.book; account = λ w. absurd (false≢true (sym e ∙ w)); leaves = λ _. part.leaves }
leaves_in f s t Release a ask part e = absurd (false≢true (sym e ∙ ask))
leaves_in f s t (Fork at) a ask part e = absurd (false≢true ask)
leaves_in f s t With a ask part e = absurd (false≢true ask)
leaves_in f s t End a ask part e = absurd (false≢true ask)

by_span : (f : Layout) (s t : Standing) (what : What) (a : Answer) → MayAsk (place_of f s) what → AnswersInPart f s.view t.view what a →
    (IsWhole f s.view → AnswersAs f s.view t.view what a) → (whole : Bool) → is_whole (place_of f s) ≡ whole → IsAnswered (place_of f s) (place_of f t) what a
by_span f s t what a ask part alone false e = leaves_in f s t what a ask part e
by_span f s t what a ask part alone true e =
    let said : AnswersAs f s.view t.view what a = alone (eqb-true s.view.count (input_pages f) e) in
    record {
      lacking = lacks_for (machine_in f s.view) (book_in s.view) what;
      answers = said.answers;
      book = said.book;
      account = λ w. account_is (machine_in f s.view) (book_in s.view) what;
      leaves = λ w. absurd (false≢true (sym w ∙ e));
    }

pub answered : (f : Layout) (s t : Standing) (what : What) (a : Answer) → MayAsk (place_of f s) what → AnswersInPart f s.view t.view what a →
    (IsWhole f s.view → AnswersAs f s.view t.view what a) → IsAnswered (place_of f s) (place_of f t) what a
answered f s t what a ask part alone = by_span f s t what a ask part alone (is_whole (place_of f s)) refl

pub answers_all : (f : Layout) (s t : Standing) (what : What) (r : Result Answer Memory) → MayAsk (place_of f s) what →
    IfOk r (AnswersInPart f s.view t.view what) → (IsWhole f s.view → IfOk r (AnswersAs f s.view t.view what)) → IfOk r (IsAnswered (place_of f s) (place_of f t) what)
answers_all f s t what (Ok a) ask part alone = answered f s t what a ask part alone
answers_all f s t what (Err e) ask part alone = part
