use Rattle.std.proofs.Common.{◌≡◌, ℕ, ◌-◌, ◌*◌, ◌^◌, ◌++◌, List, append_assoc, rules, codes}
use Rattle.pt_model.specs.Numbers.{decimal, hexadecimal}
use Rattle.pt_model.specs.Pages.{byte_at}
use Rattle.pt_model.specs.Text.{bytes_of, part_word, prot_text, words_of}
use Rattle.pt_reply.proofs.text.put_block.Goals as goal

-- texts that are put in front of each other, as one
joined : (first bytes out prot count low high line : List ℕ) →
    codes "block " ++ ((first ++ codes " " ++ bytes) ++ (codes " " ++ ((out ++ codes " " ++ prot) ++ (codes " " ++ ((count ++ codes " " ++ low ++ codes " " ++ high) ++ line)))))
    ≡ (codes "block " ++ first ++ codes " " ++ bytes ++ codes " " ++ out ++ codes " " ++ prot ++ codes " " ++ count ++ codes " " ++ low ++ codes " " ++ high) ++ line
joined first bytes out prot count low high line = search (rules, append_assoc)

pub returns-clause-line : goal.returns-clause-line
returns-clause-line g c =
    let f = g.F.Format.layout in
    let b = c.args.block in
    rw (c.put-3.ensures, c.put_cut.ensures.line, c.put-2.ensures, c.put_output.ensures.line, c.put.ensures, c.put_words.ensures.line, c.output_of.ensures)
    (joined (hexadecimal (byte_at f b.first)) (hexadecimal (bytes_of f b)) (hexadecimal (b.out * 2 ^ f.granule)) (prot_text b.prot) (decimal (words_of f b))
    (hexadecimal (part_word f b 0)) (hexadecimal (part_word f b (words_of f b - 1))) c.args.line.now)
