-- The page of a block under a leaf's own part.
use Rattle.std.proofs.Common.{◌≡◌, ℕ, ◌+◌, ◌-◌, ap, sym, ◌∙◌}
use Rattle.pt_model.specs.declared.block.Prot.{Prot}
use Rattle.pt_model.specs.Layout.{Layout, page}
use Rattle.pt_format.specs.Words.{MayBeLeaf, IsUnder}
use Rattle.pt_format.specs.Manual.{IsOutput, StepsAgree}

one_out : (a b : ℕ) (p q : Prot) → page a p ≡ page b q → a ≡ b
one_out a b p q e = cc

-- the output page by the manual's step is that page of the block
pub leaf_page : {f : Layout} → StepsAgree f → {level word here result : ℕ} → IsOutput f level word here result →
    (first log2 out part : ℕ) (prot : Prot) → MayBeLeaf f level log2 out prot part → word ≡ f.leaf level log2 out prot part →
    IsUnder f level log2 first part here → result ≡ out + (here - first)
leaf_page {f} agree {level} {word} {here} {result} output first log2 out part prot may is under =
    one_out result (out + (here - first)) prot prot
    (sym (output log2 prot (record { out = out; part = part; may = may; word_is = is }))
    ∙ ap (λ (w : ℕ). f.step level w here) is ∙ agree.leaf level log2 out part first here prot may under)
