use Rattle.pt_format.specs.FourKib.{tables}
use Rattle.pt_format.specs.FourKibLaws.{leaf_of_may}
use Rattle.pt_format.proofs.FourKibWords.{leaf_from}
use Rattle.pt_format.proofs.four_kib.FourKibFormat.read_word.Goals as goal

pub returns-in-None : goal.returns-in-None
returns-in-None g c = record {
  not_empty = c.if-word-eq0.false;
  no_pointer = λ address at frame e. c.in-None.ensures address (record { above = at.above; a_frame = frame; word_is = e });
  no_leaf = λ log2 out part prot may e. c.in_default.ensures out prot (leaf_of_may c.args.word may e);
}

pub returns-in-Some : goal.returns-in-Some
returns-in-Some g c =
    leaf_from (tables g.E.EntryBits.entries g.row.L g.E.FourKibTables.INPUT g.E.FourKibTables.walk)
    c.args.level c.args.word _ c.in-Some.prot c.requires c.in-Some.ensures
