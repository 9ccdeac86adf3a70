-- The words of an image whose sides have been rolled. Assumes nothing.
use Rattle.std.specs.Prelude.{ℕ, eqb, ltb, if◌then◌else◌}
use Rattle.image.specs.Layout.{publishers, total_delegation, delta_delegation, publisher_stake_accounts}
use Rattle.image.specs.Layout.{num_slash_events, delegation_fees, head, seat, slot, share, Words}
use Rattle.advance_plan.specs.Advance.{total_in}

-- both sides of seat s
unfoldable pub rolled_seat : Words → (s : ℕ) → Words
rolled_seat w s (head h) = w (head h)
rolled_seat w s (seat q (publishers c)) = w (seat q (publishers c))
rolled_seat w s (seat q (total_delegation d)) = if eqb q s then total_in w 1 q d else w (seat q (total_delegation d))
rolled_seat w s (seat q (delta_delegation d)) = if eqb q s then 0 else w (seat q (delta_delegation d))
rolled_seat w s (seat q (publisher_stake_accounts c)) = w (seat q (publisher_stake_accounts c))
rolled_seat w s (seat q num_slash_events) = w (seat q num_slash_events)
rolled_seat w s (seat q delegation_fees) = w (seat q delegation_fees)
rolled_seat w s (slot t x) = w (slot t x)
rolled_seat w s (share t q x) = w (share t q x)

-- those of the first n seats
unfoldable pub rolled_words : Words → (n : ℕ) → Words
rolled_words w n (head h) = w (head h)
rolled_words w n (seat q (publishers c)) = w (seat q (publishers c))
rolled_words w n (seat q (total_delegation d)) = if ltb q n then total_in w 1 q d else w (seat q (total_delegation d))
rolled_words w n (seat q (delta_delegation d)) = if ltb q n then 0 else w (seat q (delta_delegation d))
rolled_words w n (seat q (publisher_stake_accounts c)) = w (seat q (publisher_stake_accounts c))
rolled_words w n (seat q num_slash_events) = w (seat q num_slash_events)
rolled_words w n (seat q delegation_fees) = w (seat q delegation_fees)
rolled_words w n (slot t x) = w (slot t x)
rolled_words w n (share t q x) = w (share t q x)
