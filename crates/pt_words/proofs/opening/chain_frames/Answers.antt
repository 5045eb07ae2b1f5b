use Rattle.std.proofs.Common.{◌≡◌, ℕ, ◌+◌, List, ap, sym, ◌∙◌, subst, arith}
use Rattle.std.specs.Prelude.{None, slice_set}
use Rattle.pt_rule.specs.Tags.{held_word}
use Rattle.pt_words.specs.Chains.{IsChain, IsKept, NamesNext}
use Rattle.pt_words.proofs.NewWords.{kept_more, names_none}
use Rattle.pt_words.proofs.opening.chain_frames.Goals as goal

pub returns-clause-chain : goal.returns-clause-chain
returns-clause-chain c =
    let ws = c.loop-frame.words in
    let end : c.loop-frame.frame ≡ c.args.hold = omega arith in
    let named : NamesNext ws c.args.hold = subst (NamesNext ws) end c.loop-frame.invariant.named in
    let set : slice_set ws (1 + c.args.hold) (held_word None) ≡ c.set_tag-2.new.words = sym (c.set_tag-2.ensures ∙ ap (slice_set ws (1 + c.args.hold)) c.held_word-2.ensures) in
    subst (λ (new : List ℕ). IsChain new c.args.hold) set (names_none ws c.args.hold named (omega arith))

pub returns-clause-kept : goal.returns-clause-kept
returns-clause-kept c =
    let ws = c.loop-frame.words in
    let end : c.loop-frame.frame ≡ c.args.hold = omega arith in
    let kept : IsKept c.args.words.now ws (c.args.hold + 1) = subst (λ (frame : ℕ). IsKept c.args.words.now ws (frame + 1)) end c.loop-frame.invariant.kept in
    subst (λ (new : List ℕ). IsKept c.args.words.now new (c.args.hold + 2)) (sym c.set_tag-2.ensures) (kept_more c.args.words.now ws c.args.hold c.held_word-2.result kept (omega arith))
