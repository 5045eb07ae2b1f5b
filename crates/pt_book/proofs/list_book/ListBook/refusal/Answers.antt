use Rattle.std.proofs.Common.{◌≡◌, ℕ, ◌+◌, List, Option, Some, None, ap, sym, ◌∙◌, arith}
use Rattle.std.specs.Prelude.{find, option_map}
use Rattle.std.proofs.lemmas.Nat.{pow_pos}
use Rattle.pt_model.specs.declared.block.Block.{Block}
use Rattle.pt_model.specs.Layout.{IsLegalBlock}
use Rattle.pt_model.specs.Pages.{byte_at}
use Rattle.pt_model.specs.declared.reply.MapAnswer.TheVariants as mapping
use Rattle.pt_model.specs.Book.{MapRefusal, map_refusal, meets}
use Rattle.pt_model.specs.Run.{refused_answer}
use Rattle.pt_format.proofs.PageFacts.{under_within}
use Rattle.pt_book.specs.Spaces.{Space}
use Rattle.pt_book.proofs.ListFacts.{found_is}
use Rattle.pt_book.proofs.Refusing.{end_small, plain_book, span_is, refusal_is, outside_is, output_is, free_is, occupied_is}
use Rattle.pt_book.proofs.list_book.ListBook.refusal.Goals as goal

pub overflow_add-last : goal.overflow_add-last
overflow_add-last g c =
    omega (arith, end_small g.met.F.Format.lawful_layout c.args.va c.args.len c.in-Some.span (omega arith) c.in-Some.ensures)

pub returns-then-not-is_inside : goal.returns-then-not-is_inside
returns-then-not-is_inside g c =
    let f = g.F.Format.layout in
    let book = plain_book f c.self.inside.first c.self.inside.count c.self.inside.blocks.items in
    ap (λ (o : Option MapRefusal). option_map refused_answer o) (sym (ap (λ (s : Space). map_refusal f s.book c.args.va c.args.pa c.args.len) (sym c.self.view_is)
    ∙ refusal_is f book c.args.va c.args.pa c.args.len c.in-Some.span (sym c.if-not-are_whole.ensures) c.in-Some.ensures
    ∙ outside_is f book c.args.pa c.args.len c.in-Some.span (sym c.if-not-is_inside.ensures)))

pub returns-then-is_past_output : goal.returns-then-is_past_output
returns-then-is_past_output g c =
    let f = g.F.Format.layout in
    let book = plain_book f c.self.inside.first c.self.inside.count c.self.inside.blocks.items in
    ap (λ (o : Option MapRefusal). option_map refused_answer o) (sym (ap (λ (s : Space). map_refusal f s.book c.args.va c.args.pa c.args.len) (sym c.self.view_is)
    ∙ refusal_is f book c.args.va c.args.pa c.args.len c.in-Some.span (sym c.if-not-are_whole.ensures) c.in-Some.ensures
    ∙ output_is f book c.args.pa c.args.len c.in-Some.span (sym c.if-not-is_inside.ensures) (sym c.if-is_past_output.ensures)))

pub returns-in_err-block : goal.returns-in_err-block
returns-in_err-block g c =
    let f = g.F.Format.layout in
    let book = plain_book f c.self.inside.first c.self.inside.count c.self.inside.blocks.items in
    let last = c.in-Some.span.first + c.in-Some.span.count in
    let none : find (meets c.in-Some.span.first last) c.self.inside.blocks.items ≡ None =
    ap (λ (xs : List Block). find (meets c.in-Some.span.first last) xs) (sym c.deref.ensures.value) ∙ sym c.in_err-block.ensures in
    c.from_residual.ensures
    ∙ ap (λ (o : Option MapRefusal). option_map refused_answer o) (sym (ap (λ (s : Space). map_refusal f s.book c.args.va c.args.pa c.args.len) (sym c.self.view_is)
    ∙ refusal_is f book c.args.va c.args.pa c.args.len c.in-Some.span (sym c.if-not-are_whole.ensures) c.in-Some.ensures
    ∙ free_is f book c.args.pa c.args.len c.in-Some.span (sym c.if-not-is_inside.ensures) (sym c.if-is_past_output.ensures) none))

pub byte_of-requires : goal.byte_of-requires
byte_of-requires g c =
    let f = g.F.Format.layout in
    let l = g.met.F.Format.lawful_layout in
    let last = c.in-Some.span.first + c.in-Some.span.count in
    let some : Some c.in_ok-block.block ≡ find (meets c.in-Some.span.first last) c.self.inside.blocks.items =
    c.in_ok-block.ensures ∙ ap (λ (xs : List Block). find (meets c.in-Some.span.first last) xs) c.deref.ensures.value in
    let legal = (found_is (IsLegalBlock f) (meets c.in-Some.span.first last) c.self.inside.blocks.items c.in_ok-block.block c.self.invariant.1 some).0 in
    let span = span_is f c.args.va c.args.len c.in-Some.span c.in-Some.ensures in
    omega (arith, c.max.ensures, span.1, under_within f c.args.va l.input_low, legal.in_input, pow_pos c.in_ok-block.block.log2)

pub returns : goal.returns
returns g c =
    let f = g.F.Format.layout in
    let book = plain_book f c.self.inside.first c.self.inside.count c.self.inside.blocks.items in
    let last = c.in-Some.span.first + c.in-Some.span.count in
    let some : find (meets c.in-Some.span.first last) c.self.inside.blocks.items ≡ Some c.in_ok-block.block =
    ap (λ (xs : List Block). find (meets c.in-Some.span.first last) xs) (sym c.deref.ensures.value) ∙ sym c.in_ok-block.ensures in
    ap (λ (n : ℕ). Some (mapping.Occupied n)) (c.byte_of.ensures ∙ ap (byte_at f) c.max.ensures)
    ∙ ap (λ (o : Option MapRefusal). option_map refused_answer o) (sym (ap (λ (s : Space). map_refusal f s.book c.args.va c.args.pa c.args.len) (sym c.self.view_is)
    ∙ refusal_is f book c.args.va c.args.pa c.args.len c.in-Some.span (sym c.if-not-are_whole.ensures) c.in-Some.ensures
    ∙ occupied_is f book c.args.pa c.args.len c.in-Some.span c.in_ok-block.block (sym c.if-not-is_inside.ensures) (sym c.if-is_past_output.ensures) some))
