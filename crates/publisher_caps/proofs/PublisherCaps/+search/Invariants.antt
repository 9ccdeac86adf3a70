use Rattle.publisher_caps.proofs.PublisherCaps.+search.Given as goal

abbrev pub decreases-search : goal.decreases-search
decreases-search l = l.rows
