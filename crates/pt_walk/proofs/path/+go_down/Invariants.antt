use Rattle.pt_walk.proofs.path.+go_down.Given as goal

abbrev pub decreases-go_down : goal.decreases-go_down
decreases-go_down g l = l.level
