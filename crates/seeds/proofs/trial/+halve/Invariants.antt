use Rattle.seeds.proofs.trial.+halve.Given as goal

-- each part is taken apart a level less deep
abbrev pub decreases-halve : goal.decreases-halve
decreases-halve g l = l.depth
