-- What item 9's changes keep. Assumes nothing.
use mathlib.Core.Path.{◌≡◌, refl}
use Prim.Native.Nat.{ℕ, ◌<◌}
use Rattle.image.specs.Layout.{last_updated_epoch, claimable_rewards, num_events, publishers, Slot, Share, head, seat, slot, share, Words, InRange}
use Rattle.image.specs.Seats.{with_side}
use Rattle.image.specs.Changes.{Change, nothing, side, slash_events, stake_account, fees, with_slash_events, with_stake_account, with_fees, changed}

-- v has w's last epoch, event count, publishers' keys and ring
pub record Keeps (P E : ℕ) (w v : Words) : Type 0 where
  pub last : v (head last_updated_epoch) ≡ w (head last_updated_epoch)
  pub count : v (head num_events) ≡ w (head num_events)
  pub keys : (s c : ℕ) → s < P → c < 4 → v (seat s (publishers c)) ≡ w (seat s (publishers c))
  pub slots : (t : ℕ) (x : Slot) → InRange P E (slot t x) → v (slot t x) ≡ w (slot t x)
  pub shares : (t s : ℕ) (x : Share) → InRange P E (share t s x) → v (share t s x) ≡ w (share t s x)

pub changed_keeps : (P E : ℕ) (w : Words) (c : Change) → Keeps P E w (changed w c)
unfolding with_side with_slash_events with_stake_account with_fees
changed_keeps P E w nothing = record { last = refl; count = refl; keys = λ s c p r. refl; slots = λ t x r. refl; shares = λ t s x r. refl }
changed_keeps P E w (side s d v) = record { last = refl; count = refl; keys = λ s c p r. refl; slots = λ t x r. refl; shares = λ t s x r. refl }
changed_keeps P E w (slash_events s n) = record { last = refl; count = refl; keys = λ s c p r. refl; slots = λ t x r. refl; shares = λ t s x r. refl }
changed_keeps P E w (stake_account s k) = record { last = refl; count = refl; keys = λ s c p r. refl; slots = λ t x r. refl; shares = λ t s x r. refl }
changed_keeps P E w (fees fee) = record { last = refl; count = refl; keys = λ s c p r. refl; slots = λ t x r. refl; shares = λ t s x r. refl }

pub changed_claimable : (w : Words) (c : Change) → changed w c (head claimable_rewards) ≡ w (head claimable_rewards)
unfolding with_side with_slash_events with_stake_account with_fees
changed_claimable w nothing = refl
changed_claimable w (side s d v) = refl
changed_claimable w (slash_events s n) = refl
changed_claimable w (stake_account s k) = refl
changed_claimable w (fees fee) = refl
