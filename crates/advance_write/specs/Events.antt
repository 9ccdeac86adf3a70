-- The words of the events that an advance writes, from the table of the seats' words. Advance.antt's `events_after` says the same of ratios and fees.
-- Assumes nothing.
use Rattle.std.specs.Prelude.{List, ℕ, zero, suc, ◌+◌, ◌-◌, ◌*◌, ◌%◌, ◌≤◌, ◌<◌, ◌==◌, nat_lt, length, take, drop, ◌++◌, slice_index, slice_set, if◌then◌else◌}
use Rattle.types.specs.declared.Ratio.{Ratio}
use Rattle.types.specs.Base.{word, half}
use Rattle.image.specs.Layout.{self, other, last_updated_epoch, num_events, Share, reward_ratio, event_fee, head, seat, slot, share, Words}
use Rattle.advance_plan.specs.declared.table.SeatTable.{SeatTable}
use Rattle.advance_plan.specs.Advance.{slot_word}
use Rattle.advance_plan.specs.Stake.{shares_in}
use Rattle.advance_write.specs.declared.events.EventHead.{EventHead}
use Rattle.advance_write.specs.declared.events.PassedEpochs.{PassedEpochs}

-- ---- an event

-- an event's words with its head and the seats' words: spare words, and those of seats behind, stay
abbrev pub with_event_head : EventHead → List ℕ → List ℕ
with_event_head h event = slice_set (slice_set event 0 h.epoch.0) 1 h.y.0

unfoldable pub written_event : EventHead → (shares event : List ℕ) → List ℕ
written_event h shares event = take 9 (with_event_head h event) ++ (shares ++ drop (length shares) (drop 9 (with_event_head h event)))

-- a word of seat s, from the list of the seats' words
abbrev pub share_in : (shares : List ℕ) → (s : ℕ) → Share → ℕ
share_in shares s (reward_ratio self) = slice_index shares (s * 3)
share_in shares s (reward_ratio other) = slice_index shares (s * 3 + 1)
share_in shares s event_fee = slice_index shares (s * 3 + 2)

-- ---- the ring of events

-- the epochs that an advance passes on its way to `epoch`
abbrev pub passed_epochs : Words → (epoch : ℕ) → (y : Ratio) → PassedEpochs
passed_epochs w epoch y = record {
  num_events = w (head num_events);
  last_updated_epoch = record { 0 = w (head last_updated_epoch) };
  passed = epoch - w (head last_updated_epoch);
  y = y;
}

-- the words once the k-th passed epoch has written its event into its slot, with these words of the seats
unfoldable pub epoch_words : (E : ℕ) → Words → PassedEpochs → (seats k : ℕ) → (shares : List ℕ) → Words
epoch_words E w x seats k shares (head h) = w (head h)
epoch_words E w x seats k shares (seat s f) = w (seat s f)
epoch_words E w x seats k shares (slot t f) =
    if t == (x.num_events + k) % E then slot_word f (x.last_updated_epoch.0 + k) x.y.0 (w (slot t f)) else w (slot t f)
epoch_words E w x seats k shares (share t s f) =
    if t == (x.num_events + k) % E then (if nat_lt s seats then share_in shares s f else w (share t s f)) else w (share t s f)

-- the words once each of the first k passed epochs has: the first with words of its own
unfoldable pub events_words : {P : ℕ} → (E : ℕ) → Words → PassedEpochs → (seats : ℕ) → SeatTable P → (k : ℕ) → Words
events_words E w x seats t zero f = w f
events_words E w x seats t (suc k) f = epoch_words E (events_words E w x seats t k) x seats k (shares_in t k) f

-- the seats are in the pool; event numbers and epochs stay in range
pub record Passing (P seats : ℕ) (x : PassedEpochs) : Type 0 where
  pub within : seats ≤ P
  pub numbers : x.num_events + x.passed < half
  pub latest : x.last_updated_epoch.0 + x.passed < word
