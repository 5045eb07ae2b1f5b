-- What a map of a range answers, by the book machine.
use Rattle.std.proofs.Common.{◌≡◌, ◌<◌, ◌≤◌, ℕ, ◌+◌, ◌-◌, ◌/◌, ◌^◌, List, [], ◌++◌, length, Bool, true, false, Option, Some, None, refl, ap, sym, ◌∙◌, subst, arith, length-append}
use Rattle.std.specs.Prelude.{nat_lt, not, filter, if◌then◌else◌, Result, Ok, Err}
use Rattle.std.specs.List.{list_any}
use Rattle.std.proofs.lemmas.Bool.{le-ltb, lt-ltb}
use Rattle.pt_model.specs.declared.block.Block.{Block}
use Rattle.pt_model.specs.declared.block.Prot.{Prot}
use Rattle.pt_model.specs.declared.position.Position.{Position}
use Rattle.pt_model.specs.declared.reply.MapAnswer.{MapAnswer}
use Rattle.pt_model.specs.declared.reply.MapAnswer.TheVariants as mapping
use Rattle.pt_model.specs.Layout.{Layout, end_of}
use Rattle.pt_model.specs.Pages.{page_under}
use Rattle.pt_model.specs.Sets.{places}
use Rattle.pt_model.specs.Tiling.{tiling}
use Rattle.pt_model.specs.Book.{Book, IsLawful, MapRefusal, Misaligned, OutsideLease, OutputRange, Occupied, is_short, map_refusal, mapped, missing, table_lies_in}
use Rattle.pt_model.specs.Run.{after_map, is_frames, map_answer, refused_answer}
use Rattle.pt_model.specs.declared.command.What.TheVariants.{Map}
use Rattle.pt_model.specs.declared.reply.Answer.TheVariants as answering
use Rattle.pt_laws.proofs.Sizes.{length_filtered}
use Rattle.pt_laws.specs.Covers.{Leaves, LeavesMap, LeavesMapped, LeavesWanting, lacking_at, replaced}
use Rattle.pt_laws.specs.Covers as covers
use Rattle.pt_view.specs.declared.view.View.{View}
use Rattle.pt_view.specs.declared.view.Piece.{Piece}
use Rattle.pt_view.specs.Pieces.{all_pieces}
use Rattle.pt_view.specs.Views.{Aside, IsAtRest, SameBook, SameRange, book_of, linked_count, linked_of}
use Rattle.pt_view.specs.Loads.{ByLoads}
use Rattle.pt_map.specs.declared.refused.MapRefused.{MapRefused}
use Rattle.pt_map.specs.declared.refused.MapRefused.TheVariants as refused
use Rattle.pt_map.specs.Answers.{Accounts, Answers, IsMapped, IsRefused, IsShortOf, WantsFrames, covered, extent_at, lacking, unknown}
use Rattle.pt_reply.proofs.RestBlocks.{blocks_are}
use Rattle.pt_reply.specs.Built.{machine}
use Rattle.pt_reply.specs.Running.{AnswersAs, AnswersBy, AnswersInPart, IsReady, RestsAsBefore, blocks_of, book_in, machine_in, map_said, stand_in}

-- the book of a view whose range and pieces are another's
pub same_book : (v w : View) → SameRange v w → SameBook v w → book_in w ≡ book_in v
same_book v w range book =
    λ i. record { first = range.first i; count = range.count i; blocks = blocks_of (book.pieces i); tables = book.tables i; top = book.top i }

-- A map, its answer and the book after it.
module _ (f : Layout) (v w : View) (ready : IsReady f v) (va pa len : ℕ) (prot : Prot) where
  abbrev blocks : List Block
  blocks = blocks_of v.pieces

  abbrev first : ℕ
  first = page_under f va

  abbrev count : ℕ
  count = len / 2 ^ f.granule

  abbrev out : ℕ
  out = pa / 2 ^ f.granule

  abbrev lacks : List Position
  lacks = lacking f v blocks (extent_at f va pa len prot)

  -- an extent is given by its end, and a request by its count
  count_is : first + count - first ≡ count
  count_is = omega arith

  abbrev refusal : Option MapRefusal
  refusal = map_refusal f (book_in v) va pa len

  abbrev short : Bool
  short = is_short f v.levels v.frames (book_in v) first count out prot

  abbrev after_it : Book
  after_it = mapped f v.levels (book_in v) first count out prot

  -- the account is short exactly where the linked and the lacking positions are more than the frames
  pub short_true : v.frames < linked_of v + length lacks → short ≡ true
  short_true more = subst (λ (c : ℕ). is_short f v.levels v.frames (book_in v) first c out prot ≡ true) count_is (lt-ltb v.frames (linked_of v + length lacks) more)

  pub short_false : linked_of v + length lacks ≤ v.frames → short ≡ false
  short_false enough = subst (λ (c : ℕ). is_short f v.levels v.frames (book_in v) first c out prot ≡ false) count_is (le-ltb v.frames (linked_of v + length lacks) enough)

  same_machine : SameRange v w → machine_in f w ≡ machine_in f v
  same_machine range = λ i. machine f (range.levels i) (range.frames i)

  -- the blocks and the book after a map that is done
  blocks_now : {tells : Type 0} → IsMapped f tells v w blocks (extent_at f va pa len prot) →
      blocks_of w.pieces ≡ (mapped f v.levels (book_of v blocks) first (first + count - first) out prot).blocks
  blocks_now done = blocks_are f w _ done.rest

  book_now : {tells : Type 0} → IsMapped f tells v w blocks (extent_at f va pa len prot) → book_in w ≡ after_it
  book_now done =
      (λ i. record { first = done.range.first i; count = done.range.count i; blocks = blocks_now done i; tables = done.tables i; top = done.top i })
      ∙ ap (λ (c : ℕ). mapped f v.levels (book_in v) first c out prot) count_is

  -- Where frames lack for it, or don't.
  module _ (lacking : Bool) where
    -- the answer of the book machine, by its refusal
    answer_by : (o : Option MapRefusal) (b : Bool) → refusal ≡ o → lacking ≡ b →
        map_answer (machine_in f v) (book_in v) lacking va pa len ≡ elim o [ Some r ↦ refused_answer r | None ↦ if b then mapping.Frames else mapping.Mapped ]
    answer_by o b e s = (λ i. elim (e i) [ Some r ↦ refused_answer r | None ↦ if s i then mapping.Frames else mapping.Mapped ])

    kept : {tells : Type 0} → IsRefused f tells v w → (a : MapAnswer) → a ≡ map_answer (machine_in f v) (book_in v) lacking va pa len →
        after_map a after_it (book_in v) ≡ book_in v → AnswersBy f v w (Map va pa len prot) lacking (answering.Map a)
    kept stays a is same = record {
      ready = record {
        path = stays.path ∙ ready.path;
        prepared = stays.prepared ∙ ready.prepared;
        end = stays.end ∙ ready.end;
        pieces = stays.book.pieces ∙ ready.pieces ∙ ap (λ (xs : List Piece). all_pieces f (blocks_of xs)) (sym stays.book.pieces);
      };
      machine = same_machine stays.range;
      answers = ap (λ (x : MapAnswer). Some (answering.Map x)) (sym is);
      book = same_book v w stays.range stays.book ∙ sym same ∙ ap (λ (x : MapAnswer). after_map x after_it (book_in v)) is;
    }

    -- it is refused for another cause than frames
    refuses : {tells : Type 0} (r : MapRefusal) → refusal ≡ Some r → IsRefused f tells v w → AnswersBy f v w (Map va pa len prot) lacking (answering.Map (refused_answer r))
    refuses r e stays = kept stays (refused_answer r) (sym (answer_by (Some r) lacking e refl)) (same r)
      where
        same : (r : MapRefusal) → after_map (refused_answer r) after_it (book_in v) ≡ book_in v
        same Misaligned = refl
        same OutsideLease = refl
        same OutputRange = refl
        same (Occupied address) = refl

    -- it wants frames
    wants : {tells : Type 0} → refusal ≡ None → lacking ≡ true → IsRefused f tells v w → AnswersBy f v w (Map va pa len prot) lacking (answering.Map mapping.Frames)
    wants e more stays = kept stays mapping.Frames (sym (answer_by None true e more)) refl

    -- it is done
    maps : {tells : Type 0} → refusal ≡ None → lacking ≡ false → IsMapped f tells v w blocks (extent_at f va pa len prot) → AnswersBy f v w (Map va pa len prot) lacking (answering.Map mapping.Mapped)
    maps e enough done =
        let is : map_answer (machine_in f v) (book_in v) lacking va pa len ≡ mapping.Mapped = answer_by None false e enough in
        record {
          ready = subst (IsAtRest f w) (sym (blocks_now done)) done.rest;
          machine = same_machine done.range;
          answers = ap (λ (x : MapAnswer). Some (answering.Map x)) is;
          book = book_now done ∙ ap (λ (x : MapAnswer). after_map x after_it (book_in v)) (sym is);
        }

    -- so it answers, where that frames lack is what a want of them says, and a map that is done
    answers_by : (tells : Type 0) (r : Result (Unit {0}) MapRefused) →
        Answers f tells v w (λ book. map_refusal f book va pa len) (extent_at f va pa len prot) r →
        ((absent held : ℕ) → r ≡ Err (refused.NoFrames absent held) → lacking ≡ true) → ((done : Unit {0}) → r ≡ Ok done → lacking ≡ false) →
        AnswersBy f v w (Map va pa len prot) lacking (answering.Map (map_said r))
    answers_by tells (Ok done) h more enough = maps (h.accepted blocks ready) (enough done refl) (h.mapped blocks ready)
    answers_by tells (Err refused.Misaligned) h more enough = refuses Misaligned (h.refused blocks ready) h.stays
    answers_by tells (Err refused.OutsideLease) h more enough = refuses OutsideLease (h.refused blocks ready) h.stays
    answers_by tells (Err refused.OutputRange) h more enough = refuses OutputRange (h.refused blocks ready) h.stays
    answers_by tells (Err (refused.Occupied address)) h more enough = refuses (Occupied address) (h.refused blocks ready) h.stays
    answers_by tells (Err (refused.NoFrames absent held)) h more enough = wants (h.refused blocks ready) (more absent held refl) h.stays

  -- over a lone holder, which has set nothing aside, the account says so
  pub answers_alone : (tells : Type 0) (aside : Aside) (r : Result (Unit {0}) MapRefused) → aside.positions ≡ [] →
      Answers f tells v w (λ book. map_refusal f book va pa len) (extent_at f va pa len prot) r → Accounts f v w aside (extent_at f va pa len prot) r →
      AnswersAs f v w (Map va pa len prot) (answering.Map (map_said r))
  answers_alone tells aside r none h account = answers_by short tells r h (λ absent held e. short_true (lacks_more r account absent held e)) (λ done e. short_false (has_enough r account done e))
    where
      nothing : length aside.positions ≡ 0
      nothing = ap length none

      lacks_more : (r : Result (Unit {0}) MapRefused) → Accounts f v w aside (extent_at f va pa len prot) r → (absent held : ℕ) → r ≡ Err (refused.NoFrames absent held) →
          v.frames < linked_of v + length lacks
      lacks_more (Ok done) account absent held e = absurd (let z : ⊥ = cc in z)
      lacks_more (Err x) account absent held e =
          let same : x ≡ refused.NoFrames absent held = cc in
          let short = subst (IsShortOf f v (linked_count v aside) blocks (extent_at f va pa len prot)) same (account.1 blocks ready) in
          let more = short.0 in let n = nothing in omega arith

      has_enough : (r : Result (Unit {0}) MapRefused) → Accounts f v w aside (extent_at f va pa len prot) r → (done : Unit {0}) → r ≡ Ok done → linked_of v + length lacks ≤ v.frames
      has_enough (Ok d) account done e = let enough = (account blocks ready).enough in let n = nothing in omega arith
      has_enough (Err x) account done e = absurd (let z : ⊥ = cc in z)

  -- What it leaves of the book and the purse.
  module _ (lawful : IsLawful f v.levels (book_in v)) where
    few_lacking : length (unknown f v blocks (extent_at f va pa len prot)) ≤ length (lacking_at (machine_in f v) (book_in v) va pa len prot)
    few_lacking =
        let less = length_filtered (λ (p : Position). not (nat_lt 0 (places p v.known))) lacks in
        subst (λ (c : ℕ). length (unknown f v blocks (extent_at f va pa len prot)) ≤ length (missing f v.levels (book_in v) first c out prot)) count_is less

    covered_is : length (covered f v (extent_at f va pa len prot)) ≡ length (replaced (machine_in f v) (book_in v) va pa len prot)
    covered_is = ap (λ (c : ℕ). length (filter (λ p. list_any (λ b. table_lies_in f b.first (end_of b) p) (tiling f prot first out c)) v.tables)) count_is

    leaves_mapped : {tells : Type 0} → refusal ≡ None → IsMapped f tells v w blocks (extent_at f va pa len prot) → LeavesMapped (machine_in f v) va pa len prot (stand_in v) (stand_in w)
    leaves_mapped e done =
        let frames = done.frames in
        let lengths = ap length frames.purse in
        let one = length-append frames.freed (frames.drawn ++ v.purse) in
        let two = length-append frames.drawn v.purse in
        let three = length-append frames.linked w.purse in
        let few = frames.few in let within = frames.within in let capped = frames.found.capped in let back = frames.back in
        let less = few_lacking in let same = covered_is in
        record {
          admitted = e;
          low = lawful.top_least;
          book = book_now done;
          drawn = length frames.drawn;
          unlinked = length frames.freed;
          linked = length frames.linked;
          purse = omega arith;
          freed = omega arith;
          few = omega arith;
          capped = omega arith;
        }

    leaves_wanting : {tells : Type 0} (absent held : ℕ) → refusal ≡ None → IsRefused f tells v w → WantsFrames f tells v w blocks (extent_at f va pa len prot) absent held →
        LeavesWanting (machine_in f v) va pa len prot (stand_in v) (stand_in w)
    leaves_wanting absent held e stays want =
        let lengths = ap length stays.purse.1 in
        let one = length-append stays.purse.0 v.purse in
        let more = want.more in let held_is = want.held_is in let few = want.found.few in
        let less = few_lacking in
        record {
          admitted = e;
          low = lawful.top_least;
          book = same_book v w stays.range stays.book;
          drawn = length stays.purse.0;
          absent = absent;
          purse = omega arith;
          more = omega arith;
          few = omega arith;
          capped = want.found.capped;
        }

    leaves_map : (tells : Type 0) (r : Result (Unit {0}) MapRefused) →
        Answers f tells v w (λ book. map_refusal f book va pa len) (extent_at f va pa len prot) r →
        LeavesMap (machine_in f v) va pa len prot (stand_in v) (stand_in w) (map_said r)
    leaves_map tells (Ok done) h = leaves_mapped (h.accepted blocks ready) (h.mapped blocks ready)
    leaves_map tells (Err refused.Misaligned) h = record { book = same_book v w h.stays.range h.stays.book; purse = ap length h.purse }
    leaves_map tells (Err refused.OutsideLease) h = record { book = same_book v w h.stays.range h.stays.book; purse = ap length h.purse }
    leaves_map tells (Err refused.OutputRange) h = record { book = same_book v w h.stays.range h.stays.book; purse = ap length h.purse }
    leaves_map tells (Err (refused.Occupied address)) h = record { book = same_book v w h.stays.range h.stays.book; purse = ap length h.purse }
    leaves_map tells (Err (refused.NoFrames absent held)) h = leaves_wanting absent held (h.refused blocks ready) h.stays (h.wants blocks ready)

    -- over any holder frames lack where the answer says so
    pub answers_in_part : (tells : Type 0) (r : Result (Unit {0}) MapRefused) →
        Answers f tells v w (λ book. map_refusal f book va pa len) (extent_at f va pa len prot) r → AnswersInPart f v w (Map va pa len prot) (answering.Map (map_said r))
    answers_in_part tells r h = record {
      by = answers_by (is_frames (answering.Map (map_said r))) tells r h (λ absent held e. ap (λ x. is_frames (answering.Map (map_said x))) e) (λ done e. ap (λ x. is_frames (answering.Map (map_said x))) e);
      leaves = covers.map va pa len prot (stand_in v) (stand_in w) (map_said r) (leaves_map tells r h);
    }

-- Loads leave the book and the purse.
pub loads_leave : {tells : Type 0} (v w : View) → ByLoads tells v w → covers.Stays (stand_in v) (stand_in w)
loads_leave v w walked = record { book = same_book v w walked.range walked.book; purse = ap length walked.purse.purse }

-- Loads leave the holder as it was, but for what it knows.
pub looked : (f : Layout) {tells : Type 0} (v w : View) → ByLoads tells v w → IsAtRest f w (blocks_of v.pieces) → RestsAsBefore f v w
looked f v w walked rest = record {
  ready = subst (λ (xs : List Piece). IsAtRest f w (blocks_of xs)) (sym walked.book.pieces) rest;
  machine = λ i. machine f (walked.range.levels i) (walked.range.frames i);
  book = λ i. record { first = walked.range.first i; count = walked.range.count i; blocks = blocks_of (walked.book.pieces i); tables = walked.book.tables i; top = walked.book.top i };
  purse = walked.purse.purse;
}
