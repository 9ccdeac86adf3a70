-- 'The words of demand 3': lists of calls on one pool from a fresh one, and what is remembered of them. Each call is accepted or refused, and
-- writes, as demand 2's definitions say. Withdrawals: request [8] of document 02. Assumes nothing.
use Rattle.std.specs.Prelude.{◌≢◌, Bool, true, false, not, ◌&&◌, List, [], ◌∷◌, ◌++◌, ℕ, ◌+◌, ◌-◌, ◌*◌, ◌/◌, eqb, leb, ltb, length, if◌then◌else◌}
use Rattle.types.specs.Base.{word, Outcome, refused, accepted, or_zero, after, sum_below}
use Rattle.positions.specs.declared.Key.{Key}
use Rattle.positions.specs.declared.position.PositionState.{PositionState}
use Rattle.positions.specs.Positions.{position_from, in_publisher}
use Rattle.image.specs.Layout.{Whose, last_updated_epoch, head, Words, read}
use Rattle.image.specs.Seats.{empty_seat, publisher_index_of, same_side}
use Rattle.image.specs.Changes.{self_side, whose, Change, changed_image}
use Rattle.advance_plan.specs.declared.Given.{Given}
use Rattle.advance_plan.specs.Advance.{total_in}
use Rattle.event_walk.specs.Walk.{drawn_in}
use Rattle.pool.specs.declared.changes.Delegation.{Delegation}
use Rattle.integrity_pool.specs.declared.payment.Claim.{Claim}
use Rattle.integrity_pool.specs.declared.slash.Slashing.{Slashing}
use Rattle.integrity_pool.specs.declared.stake_account.StakeAccounts.{StakeAccounts}
use Rattle.integrity_pool.specs.Calls.{fresh_image, advance_call, advance_image}
use Rattle.integrity_pool.specs.Payment.{payment_call, payment_image}
use Rattle.integrity_pool.specs.Changes.{add_call, remove_call, create_slash_event_call, slash_call, fee_call, stake_account_call}

-- ---- the calls

-- each with what it is given besides the pool, P and E; an advance is told the balance that custody has then, whatever stands in its Given
pub data Call : Type 0 where
  advance forecast : (message : List ℕ) → Given → Call
  payment : (positions : List ℕ) → Claim → Call
  add : Delegation → (amount : ℕ) → Call
  remove : Delegation → (amount : ℕ) → PositionState → Call
  create_slash_event : (publisher : Key) → (index now : ℕ) → Call
  slash : Slashing → Call
  fee : (fee : ℕ) → Call
  stake_account : (old new : List ℕ) → StakeAccounts → Call
  deposit withdraw : (amount : ℕ) → Call

-- ---- what is remembered of them

pub record History : Type 0 where
  -- 'the now of the last accepted advance so far'; one below the fresh pool's given epoch before the first
  pub now : ℕ
  -- 'set aside is item 5's amount, paid is item 8's', over all accepted advances and all accepted payments
  pub set_aside : ℕ
  pub paid : ℕ
  -- 'A seat is occupied in an event if it has a key in the pool handed to the advance that passed the epoch'
  pub occupied : (epoch s : ℕ) → Bool
  -- the total that the event was written from
  pub written : (epoch s : ℕ) → Whose → ℕ
  -- what accepted payments drew; Letter adds what refused ones drew
  pub drawn : (epoch s : ℕ) → Whose → ℕ

-- what deposits and withdrawals moved, and by how much accepted payments lowered the balance
pub record Moved : Type 0 where
  pub deposited : ℕ
  pub withdrawn : ℕ
  pub fallen : ℕ

-- what has left the balance
abbrev pub gone : Moved → ℕ
gone m = m.withdrawn + m.fallen

-- the pool's image, the custody balance and what moved it, and the history
pub record State : Type 0 where
  pub image : List ℕ
  pub custody : ℕ
  pub moved : Moved
  pub history : History

abbrev pub no_history : (first : ℕ) → History
no_history first = record { now = first; set_aside = 0; paid = 0; occupied = λ e s. false; written = λ e s d. 0; drawn = λ e s d. 0 }

abbrev pub none_moved : Moved
none_moved = record { deposited = 0; withdrawn = 0; fallen = 0 }

-- 'The list starts at item 9's fresh pool, with any custody balance'
abbrev pub start : (P E : ℕ) → List ℕ → (given custody : ℕ) → State
start P E img given custody = record { image = fresh_image P E img given; custody = custody; moved = none_moved; history = no_history (given - 1) }

-- ---- an advance

abbrev pub told : (custody : ℕ) → Given → Given
told custody g = record {
  current_epoch = g.current_epoch;
  y = g.y;
  pool_reward_custody_balance = custody;
  epoch_duration = g.epoch_duration;
  is_verified = g.is_verified;
}

-- 'the event is written from their total in that pool, if the epoch is the first that this advance passes, else from that total rolled'; the epochs
-- that it passes are those from the pool's last one on
unfoldable pub advance_history : (P : ℕ) → Words → History → (now set_aside : ℕ) → History
advance_history P w h now set_aside = record {
  now = now;
  set_aside = h.set_aside + set_aside;
  paid = h.paid;
  occupied = λ e s. if ltb e (w (head last_updated_epoch)) then h.occupied e s else ltb s P && not (empty_seat w s);
  written = λ e s d. if ltb e (w (head last_updated_epoch)) then h.written e s d else total_in w (e - w (head last_updated_epoch)) s d;
  drawn = h.drawn;
}

-- ---- a payment

-- 'each of the newest E passed epochs': passed are those from `first` to one below `now`
unfoldable pub newest_passed : (E first now : ℕ) → (epoch : ℕ) → Bool
newest_passed E first now e = leb first e && (ltb e now && leb now (e + E))

-- 'the amounts of its matching positions LOCKED or PREUNLOCKING in that epoch'; a position whose state there is 13 adds none
unfoldable pub matching_in : List ℕ → Claim → (epoch : ℕ) → ℕ
matching_in words c e =
    sum_below (length words / 9) (λ i.
    if in_publisher words (i * 9) c.publisher then or_zero (drawn_in (position_from words (i * 9)) e c.unlocking_duration) else 0)

-- 'on its publisher's seat'; a publisher without a seat has none
abbrev pub is_seat : Outcome ℕ → (s : ℕ) → Bool
is_seat (refused k) s = false
is_seat (accepted q) s = eqb s q

-- 'A payment, a refused one too, draws from each of the newest E passed epochs not older than its record's epoch, on its publisher's seat and its
-- side, .. and nothing elsewhere'
unfoldable pub draws : (P E first now : ℕ) → Words → List ℕ → Claim → (epoch s : ℕ) → Whose → ℕ
draws P E first now w words c e s d =
    if (newest_passed E first now e && leb c.delegation_record.last_epoch.0 e)
    && (is_seat (publisher_index_of P w c.publisher) s && same_side d (whose (self_side w s c.stake_account_positions)))
    then matching_in words c e
    else 0

unfoldable pub payment_history : (P E first : ℕ) → Words → History → List ℕ → Claim → (paid : ℕ) → History
payment_history P E first w h words c paid = record {
  now = h.now;
  set_aside = h.set_aside;
  paid = h.paid + paid;
  occupied = h.occupied;
  written = h.written;
  drawn = λ e s d. h.drawn e s d + draws P E first h.now w words c e s d;
}

-- ---- one call, then a list of them; `first` is one below the fresh pool's given epoch

module _ (P E first : ℕ) where
  unfoldable pub advance_step : State → (message : List ℕ) → Given → State
  advance_step st m g = after (advance_call P E st.image m g) (λ a. record {
    image = advance_image P E st.image m g;
    custody = st.custody;
    moved = st.moved;
    history = advance_history P (read P E st.image) st.history g.current_epoch a.set_aside;
  }) st

  -- 'an accepted payment lowers it as in item 8'
  unfoldable pub payment_step : State → (positions : List ℕ) → Claim → State
  payment_step st words c = after (payment_call P E st.image words c) (λ a. record {
    image = payment_image P E st.image words c;
    custody = st.custody - a.custody_fall;
    moved = record { deposited = st.moved.deposited; withdrawn = st.moved.withdrawn; fallen = st.moved.fallen + a.custody_fall };
    history = payment_history P E first (read P E st.image) st.history words c (a.delegator + a.publisher);
  }) st

  -- every other call of item 9
  unfoldable pub change_step : State → Outcome Change → State
  change_step st o = record { image = changed_image P E st.image o; custody = st.custody; moved = st.moved; history = st.history }

  -- 'A deposit raises the balance', which is a word: there is no deposit past that
  unfoldable pub deposit_step : State → (amount : ℕ) → State
  deposit_step st x = if ltb (st.custody + x) word then record {
    image = st.image;
    custody = st.custody + x;
    moved = record { deposited = st.moved.deposited + x; withdrawn = st.moved.withdrawn; fallen = st.moved.fallen };
    history = st.history;
  } else st

  -- [8] 'A sponsor may withdraw from custody'; `custody_suffices` says that the balance has the amount
  unfoldable pub withdraw_step : State → (amount : ℕ) → State
  withdraw_step st x = record {
    image = st.image;
    custody = st.custody - x;
    moved = record { deposited = st.moved.deposited; withdrawn = st.moved.withdrawn + x; fallen = st.moved.fallen };
    history = st.history;
  }

  unfoldable pub step : State → Call → State
  step st (advance m g) = advance_step st m (told st.custody g)
  step st (forecast m g) = st
  step st (payment words c) = payment_step st words c
  step st (add d amount) = change_step st (add_call P E st.image d amount)
  step st (remove d amount state) = change_step st (remove_call P E st.image d amount state)
  step st (create_slash_event publisher index now) = change_step st (create_slash_event_call P E st.image publisher index)
  step st (slash x) = change_step st (slash_call P E st.image x)
  step st (fee x) = change_step st (fee_call P E st.image x)
  step st (stake_account old new a) = change_step st (stake_account_call P E st.image old new a)
  step st (deposit x) = deposit_step st x
  step st (withdraw x) = withdraw_step st x

  unfoldable pub run : State → List Call → State
  run st [] = st
  run st (c ∷ calls) = run (step st c) calls

  -- ---- [8] the lists that there are

  -- by how much a call lowers the balance: a withdrawal by its amount, an accepted payment as in item 8, every other call by nothing
  unfoldable pub lowers : State → Call → ℕ
  lowers st c = gone (step st c).moved - gone st.moved

  -- 'the token side refuses a withdrawal or payment that would lower the balance by more than it holds, and such a one is not in the list'
  unfoldable pub custody_suffices : State → List Call → Bool
  custody_suffices st [] = true
  custody_suffices st (c ∷ calls) = leb (lowers st c) st.custody && custody_suffices (step st c) calls

-- 'Where no withdrawal occurs'
abbrev pub NoWithdrawal : List Call → Type 0
NoWithdrawal calls = (before later : List Call) (amount : ℕ) → calls ≢ before ++ withdraw amount ∷ later
