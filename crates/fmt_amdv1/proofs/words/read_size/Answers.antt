use Rattle.std.proofs.Common.{◌≡◌, ◌-◌, ◌*◌, ◌/◌, ◌%◌, ◌^◌, ◌<◌, ◌∙◌, ap, ap₂, sym, subst, arith}
use Rattle.std.proofs.lemmas.Nat.{one_shl}
use Rattle.fmt_amdv1.specs.AmdWords.{leaf, number_in}
use Rattle.fmt_amdv1.specs.AmdFacts.{leaf_log2}
use Rattle.fmt_amdv1.proofs.AmdCode.{block_room, block_whole, leaf_first}
use Rattle.fmt_amdv1.proofs.words.read_size.Goals as goal
use Rattle.fmt_amdv1.proofs.words.read_size.Goals.{After-permission_in, then-level-gt2-via-then-level-gt2, then-level-gt2-via-else-level-gt2+then-log2-level}

pub returns-then-level-gt2 : goal.returns-then-level-gt2
returns-then-level-gt2 c = λ log2 out prot x.
    let is : c.log2_in-log2.result ≡ log2 = c.log2_in-log2.ensures ∙ leaf_log2 x in
    let low = x.a_size.low_level in let from = x.a_size.from in let to = x.a_size.to in
    elim c.then-level-gt2.branch [
      | then-level-gt2-via-then-level-gt2 w ↦ (let high = w.if-level-gt2.true in omega arith)
      | then-level-gt2-via-else-level-gt2+then-log2-level w ↦
          (let at : log2 / 9 ≡ c.args.level = omega arith in
          w.if-log2-level.true (ap (λ k. k / 9) is ∙ at))
    ]

few : (c : After-permission_in) → c.log2_in-log2.result < 27
few c = let low = c.if-level-gt2.false in let at = c.if-log2-level.false in omega arith

pages_are : (c : After-permission_in) → 1 * 2 ^ c.log2_in-log2.result % 2 ^ 64 ≡ 2 ^ c.log2_in-log2.result
pages_are c = one_shl c.log2_in-log2.result 64 (omega (arith, few c))

pub leaf_word-requires-clause-within : goal.leaf_word-requires-clause-within
leaf_word-requires-clause-within c =
    let a = (goal.at.leaf_word-requires-clause-within c).After-permission_in in
    rw (pages_are a) (block_room c.log2_in-log2.result c.page_in-number.result (omega (arith, few a)) c.page_in-number.ensures.within)

pub returns-then-word-leaf_word : goal.returns-then-word-leaf_word
returns-then-word-leaf_word c =
    let a = (goal.at.returns-then-word-leaf_word c).After-permission_in in
    let pages = pages_are a in
    let low = c.if-level-gt2.false in let at = c.if-log2-level.false in
    let word : c.args.word ≡ leaf c.args.level c.log2_in-log2.result
    (c.page_in-number.result - c.page_in-number.result % (1 * 2 ^ c.log2_in-log2.result % 2 ^ 64)) c.permission_in.result =
    c.if-word-leaf_word.true ∙ c.leaf_word.ensures in (
      c.page_in-number.result - c.page_in-number.result % 2 ^ c.log2_in-log2.result,
      c.permission_in.result,
      record {
        a_size = record { low_level = omega arith; from = omega arith; to = omega arith };
        aligned = block_whole c.log2_in-log2.result c.page_in-number.result;
        within = block_room c.log2_in-log2.result c.page_in-number.result (omega (arith, few a)) c.page_in-number.ensures.within;
        stated = c.permission_in.ensures.stated;
        word_is = rw pages at word;
      },
    )

pub returns-else-word-leaf_word : goal.returns-else-word-leaf_word
returns-else-word-leaf_word c = λ log2 out prot x.
    let a = (goal.at.returns-else-word-leaf_word c).After-permission_in in
    let is : c.log2_in-log2.result ≡ log2 = c.log2_in-log2.ensures ∙ leaf_log2 x in
    let first : number_in c.args.word - number_in c.args.word % 2 ^ c.log2_in-log2.result ≡ out =
    subst (λ k. number_in c.args.word - number_in c.args.word % 2 ^ k ≡ out) (sym is) (leaf_first x) in
    let begins : c.page_in-number.result - c.page_in-number.result % (1 * 2 ^ c.log2_in-log2.result % 2 ^ 64) ≡ out =
    rw (pages_are a, c.page_in-number.ensures.page) first in
    let permission : c.permission_in.result ≡ prot = c.permission_in.ensures.of_leaf c.args.level log2 out prot x in
    let size : leaf c.args.level c.log2_in-log2.result out prot ≡ leaf c.args.level log2 out prot = ap (λ k. leaf c.args.level k out prot) is in
    c.if-word-leaf_word.false
    (x.word_is ∙ sym size ∙ sym (ap₂ (λ o p. leaf c.args.level c.log2_in-log2.result o p) begins permission) ∙ sym c.leaf_word.ensures)
