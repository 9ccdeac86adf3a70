-- The words of an image in which those of the pool as a whole have been moved on. Assumes nothing.
use Rattle.std.specs.Prelude.{ℕ, ◌+◌, ◌-◌, ◌≤◌, ◌<◌}
use Rattle.types.specs.Base.{word}
use Rattle.image.specs.Layout.{last_updated_epoch, claimable_rewards, num_events, head, seat, slot, share, Words}

unfoldable pub head_words : Words → (epoch set_aside : ℕ) → Words
head_words w epoch set_aside (head last_updated_epoch) = epoch
head_words w epoch set_aside (head claimable_rewards) = w (head claimable_rewards) + set_aside
head_words w epoch set_aside (head num_events) = w (head num_events) + (epoch - w (head last_updated_epoch))
head_words w epoch set_aside (seat s x) = w (seat s x)
head_words w epoch set_aside (slot t x) = w (slot t x)
head_words w epoch set_aside (share t s x) = w (share t s x)

-- they stay words
pub record HeadFits (w : Words) (epoch set_aside : ℕ) : Type 0 where
  pub later : w (head last_updated_epoch) ≤ epoch
  pub claimable : w (head claimable_rewards) + set_aside < word
  pub count : w (head num_events) + (epoch - w (head last_updated_epoch)) < word
