use Rattle.std.proofs.Common.{rules, not, arith, ◌∙◌}
use Rattle.std.proofs.lemmas.Iterator.{YieldsList-from_range}
use Rattle.std.proofs.lemmas.Iterator.Consumers.{count_from_yields_List, YieldsList-from_filter}
use Rattle.image.specs.Pool.{words_of}
use Rattle.image.specs.Seats.{empty_seat}
use Rattle.show.proofs.RowsLaws.{occupied_filtered}
use Rattle.show.proofs.seats.occupied.Goals as goal

pub returns-clause-count : goal.returns-clause-count
returns-clause-count c =
    count_from_yields_List _ _ c.count.ensures.ran
    (YieldsList-from_filter _ (λ s. not (empty_seat (words_of c.args.pool) s))
    (YieldsList-from_range 0 _ c.args.pool.p c.filter.ensures.source (omega arith)) c.filter.ensures.closure (λ x b q h. search rules))
    ∙ occupied_filtered _ _
