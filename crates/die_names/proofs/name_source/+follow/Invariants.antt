use Rattle.die_names.proofs.name_source.+follow.Given as goal

abbrev pub decreases-follow : goal.decreases-follow
decreases-follow l = l.links
