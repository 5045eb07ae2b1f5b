use Rattle.pt_map.proofs.OneBlock.{block_run}
use Rattle.pt_map.proofs.request.map_entries.Goals as goal

pub map_run-requires-clause-run : goal.map_run-requires-clause-run
map_run-requires-clause-run g c = block_run g.met.F.Format.lawful_layout c.requires.may.stands.at.extent c.requires.block
