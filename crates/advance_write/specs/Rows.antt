-- The words of an image in which unmatched rows have taken seats. Assumes nothing.
use Rattle.std.specs.Prelude.{Bool, List, ℕ}
use Rattle.image.specs.Layout.{publishers, total_delegation, delta_delegation, publisher_stake_accounts}
use Rattle.image.specs.Layout.{num_slash_events, delegation_fees, head, seat, slot, share, Words}
use Rattle.advance_plan.specs.Advance.{key_after}

-- the first j rows have been seen
unfoldable pub keys_words : Words → List ℕ → (matched : ℕ → Bool) → (seats j : ℕ) → Words
keys_words w m matched seats j (head h) = w (head h)
keys_words w m matched seats j (seat q (publishers c)) = key_after w m matched seats j q c
keys_words w m matched seats j (seat q (total_delegation d)) = w (seat q (total_delegation d))
keys_words w m matched seats j (seat q (delta_delegation d)) = w (seat q (delta_delegation d))
keys_words w m matched seats j (seat q (publisher_stake_accounts c)) = w (seat q (publisher_stake_accounts c))
keys_words w m matched seats j (seat q num_slash_events) = w (seat q num_slash_events)
keys_words w m matched seats j (seat q delegation_fees) = w (seat q delegation_fees)
keys_words w m matched seats j (slot t x) = w (slot t x)
keys_words w m matched seats j (share t q x) = w (share t q x)
