use Rattle.jtree.proofs.last.+append_part.Given as goal

abbrev pub decreases-append_part_of : goal.decreases-append_part_of
decreases-append_part_of l = l.depth
