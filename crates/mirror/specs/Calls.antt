-- What each line's call is: the library's own, on the site's image, of the line's fields. Assumes nothing.
use Rattle.std.specs.Prelude.{List, [], ◌∷◌, length, ℕ}
use Rattle.types.specs.Base.{Outcome}
use Rattle.positions.specs.declared.position.PositionState.{PositionState}
use Rattle.positions.specs.State.{state_call}
use Rattle.split.specs.Split.{split_call}
use Rattle.image.specs.Changes.{Change}
use Rattle.advance_plan.specs.Advance.{Advanced}
use Rattle.integrity_pool.specs.declared.payment.Payment as paid
use Rattle.integrity_pool.specs.Calls.{fresh_call, fresh_image, advance_call, advance_image, forecast_call}
use Rattle.integrity_pool.specs.Changes.{add_call, remove_call, create_slash_event_call, slash_call, fee_call, stake_account_call}
use Rattle.integrity_pool.specs.Payment.{Payment, payment_call, payment_image}
use Rattle.journal.specs.declared.fields.Fields.{Fields}
use Rattle.mirror.specs.declared.site.Site.{Site}
use Rattle.mirror.specs.Args.{number_at, key_at, state_at, delegation_in, given_in, claim_in, slashing_in, accounts_in}
use Rattle.mirror.specs.Site.{message_of, list_of, first_list_of, with_image}

module _ (site : Site) (fields : Fields) where
  -- fresh EPOCH
  abbrev pub fresh_of : Outcome (Unit {0})
  fresh_of = fresh_call site.p site.e site.image.items (number_at fields.values.items 0)

  abbrev pub after_fresh : Site
  after_fresh = with_image site (fresh_image site.p site.e site.image.items (number_at fields.values.items 0))

  -- advance NOW Y CUSTODY VERIFIED CAPS, and forecast
  abbrev pub advance_of : Outcome Advanced
  advance_of = advance_call site.p site.e site.image.items (message_of fields) (given_in fields.values.items site.epoch_duration)

  abbrev pub after_advance : Site
  after_advance = with_image site (advance_image site.p site.e site.image.items (message_of fields) (given_in fields.values.items site.epoch_duration))

  abbrev pub forecast_of : Outcome ℕ
  forecast_of = forecast_call site.p site.e site.image.items (message_of fields) (given_in fields.values.items site.epoch_duration)

  -- payment NOW PUBLISHER ACCOUNT RECORD_EPOCH NEXT_INDEX PUBLISHER_ACCOUNT CUSTODY_FLAG POSITIONS
  abbrev pub payment_of : Outcome Payment
  payment_of = payment_call site.p site.e site.image.items (list_of fields) (claim_in fields.values.items site.unlocking_duration)

  abbrev pub after_payment : Site
  after_payment = with_image site (payment_image site.p site.e site.image.items (list_of fields) (claim_in fields.values.items site.unlocking_duration))

  -- add NOW PUBLISHER ACCOUNT AMOUNT
  abbrev pub add_of : Outcome Change
  add_of = add_call site.p site.e site.image.items (delegation_in fields.values.items) (number_at fields.values.items 3)

  -- remove NOW PUBLISHER ACCOUNT AMOUNT STATE
  abbrev pub remove_of : Outcome Change
  remove_of = remove_call site.p site.e site.image.items (delegation_in fields.values.items) (number_at fields.values.items 3) (state_at fields.values.items 4)

  -- create-slash-event NOW PUBLISHER INDEX
  abbrev pub create_slash_event_of : Outcome Change
  create_slash_event_of = create_slash_event_call site.p site.e site.image.items (key_at fields.values.items 1) (number_at fields.values.items 2)

  -- slash NOW PUBLISHER ACCOUNT RECORD_EPOCH NEXT_INDEX INDEX EVENT_EPOCH LOCKED PREUNLOCKING
  abbrev pub slash_of : Outcome Change
  slash_of = slash_call site.p site.e site.image.items (slashing_in fields.values.items)

  -- fee FEE
  abbrev pub fee_of : Outcome Change
  fee_of = fee_call site.p site.e site.image.items (number_at fields.values.items 0)

  -- stake-account PUBLISHER SIGNER AUTHORITY OLD OLD_OWNER OLD_POSITIONS NEW NEW_POSITIONS
  abbrev pub stake_account_of : Outcome Change
  stake_account_of = stake_account_call site.p site.e site.image.items (first_list_of fields) (list_of fields) (accounts_in fields.values.items)

  -- state EPOCH POSITION, of which the pool is no part
  abbrev pub state_of : Outcome PositionState
  state_of = state_call (list_of fields) (number_at fields.values.items 0) site.unlocking_duration

-- split REWARD WEIGHTS; the list of parts is as long as that of the weights
abbrev pub split_of : Fields → Outcome (List ℕ)
split_of fields = split_call (number_at fields.values.items 0) (list_of fields) (length (list_of fields))

-- the delegator's part, the publisher's part, the record's two, the read count, custody's fall
abbrev pub payment_told : paid.Payment → List ℕ
payment_told p =
    p.delegator_reward.0 ∷ p.publisher_reward.0 ∷ p.delegation_record.last_epoch.0 ∷ p.delegation_record.next_slash_event_index
    ∷ p.reads ∷ p.custody_fall.0 ∷ []
