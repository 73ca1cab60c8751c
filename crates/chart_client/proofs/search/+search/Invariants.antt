use Rattle.chart_client.proofs.search.+search.Given as goal

abbrev pub decreases-search : goal.decreases-search
decreases-search l = l.half.key.level
