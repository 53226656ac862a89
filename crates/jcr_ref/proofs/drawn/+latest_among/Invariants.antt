use Rattle.jcr_ref.proofs.drawn.+latest_among.Given as goal

abbrev pub decreases-latest_among : goal.decreases-latest_among
decreases-latest_among l = l.clusters
