-- What holds of the pool's words and the history after every list of calls. Assumes nothing.
use mathlib.Core.Path.{◌≡◌}
use mathlib.Core.Bool.{false}
use Prim.Native.Nat.{ℕ, ◌+◌, ◌-◌, ◌≤◌, ◌<◌}
use Rattle.types.specs.Base.{sum_below}
use Rattle.event.specs.Event.{rate_of, total_of}
use Rattle.image.specs.Layout.{Whose, self, other, last_updated_epoch, claimable_rewards, num_events, event_y, reward_ratio, head, slot, share, Words}
use Rattle.image.specs.Seats.{seats_of}
use Rattle.advance_plan.proofs.EventsLaws.{Grown}
use Rattle.event_walk.specs.Walk.{walk_length, walk_slot}
use Rattle.history.specs.Calls.{History}

-- amounts or rates by epoch, seat and side
abbrev pub Figures : Type 0
Figures = (epoch s : ℕ) → Whose → ℕ

-- what the amounts of one epoch earn at these rates, each seat's and side's rounded down
abbrev pub earned_in : (P : ℕ) (rate amount : Figures) → (epoch : ℕ) → ℕ
earned_in P rate amount e = sum_below P (λ s. total_of (amount e s self) (rate e s self) + total_of (amount e s other) (rate e s other))

-- over n epochs from `first` on
abbrev pub earned : (P first n : ℕ) (rate amount : Figures) → ℕ
earned P first n rate amount = sum_below n (λ i. earned_in P rate amount (first + i))

-- the rate at which the event that walks come to after k others pays seat s and side d
abbrev pub rate_at : (E : ℕ) → Words → (k s : ℕ) → Whose → ℕ
rate_at E w k s d = rate_of (w (slot (walk_slot E w k) event_y)) (w (share (walk_slot E w k) s (reward_ratio d)))

-- claimable at most custody is not part of it: it holds where custody is drained too
pub record Inv (P E first : ℕ) (w : Words) (h : History) : Type 0 where
  -- the ring holds the newest passed epochs
  pub grown : Grown P E first w
  pub now : w (head last_updated_epoch) ≡ h.now
  pub books : w (head claimable_rewards) + h.paid ≡ h.set_aside
  -- the rate of each passed epoch's event, those that the ring has lost too
  pub rate : Figures
  pub kept : (k s : ℕ) (d : Whose) → k < walk_length E w → s < P → rate_at E w k s d ≡ rate (w (head last_updated_epoch) - 1 - k) s d
  -- a seat not occupied has rate 0
  pub void : (e s : ℕ) (d : Whose) → first ≤ e → e < w (head last_updated_epoch) → s < P → h.occupied e s ≡ false → rate e s d ≡ 0
  -- in every slot the ratios of seats not yet taken are 0
  pub vacant : (t s : ℕ) (d : Whose) → t < E → s < P → seats_of P w ≤ s → w (share t s (reward_ratio d)) ≡ 0
  -- what was paid is at most what the drawn amounts earn; what was set aside is at least what the totals earn
  pub spent : h.paid ≤ earned P first (w (head num_events)) rate h.drawn
  pub enough : earned P first (w (head num_events)) rate h.written ≤ h.set_aside
