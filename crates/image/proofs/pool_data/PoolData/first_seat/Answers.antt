use Rattle.std.proofs.Common.{ℕ, Bool, ◌≡◌, true, false, rules}
use Rattle.std.proofs.lemmas.Iterator.{first_from_Range}
use Rattle.positions.specs.declared.Key.{Key}
use Rattle.positions.specs.Key.{same_key}
use Rattle.image.specs.declared.pool_data.PoolData.{PoolData}
use Rattle.image.specs.Seats.{publisher_at}
use Rattle.image.specs.Pool.{words_of}
use Rattle.image.proofs.SeatLaws.{seat_found}
use Rattle.image.proofs.pool_data.PoolData.first_seat.Goals as goal

abbrev has : PoolData → Key → Bool → ℕ → Type 0
has pool key answer s = same_key (publisher_at (words_of pool) s) key ≡ answer

pub returns-clause-first : goal.returns-clause-first
unfolding same_key
returns-clause-first c =
    let yes = has c.args.self c.args.key true in
    let no = has c.args.self c.args.key false in
    (seat_found _ _ _ _ (first_from_Range _ _ _ _ yes no c.find.ensures.ran (λ x q h. search rules) (λ x q h. search rules))).0
