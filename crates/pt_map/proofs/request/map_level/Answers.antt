use Rattle.pt_map.proofs.FillTurns.{all_run}
use Rattle.pt_map.proofs.request.map_level.Goals as goal

-- the run is all of the extent
pub map_run-requires-clause-run : goal.map_run-requires-clause-run
map_run-requires-clause-run g c =
    all_run g.met.F.Format.lawful_layout c.requires.may.stands.at.extent c.requires.size c.requires.high c.run_under-count.ensures c.if-extent-count.true
