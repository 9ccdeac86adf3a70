-- The stages of the writing, and that together they are the words after an accepted advance. Assumes nothing.
use Rattle.std.proofs.Common.{◌≡◌, ℕ, zero, suc, ◌+◌, ◌-◌, ◌<◌, ◌≤◌, Bool, true, not, ◌&&◌, eqb, ltb, List, refl, ap, ap₂, ◌∙◌, arith}
use Rattle.std.specs.Prelude.{if◌then◌else◌}
use Rattle.types.specs.Base.{word, all_below, count_below}
use Rattle.types.specs.BoolArray.{marked}
use Rattle.types.proofs.Below.{all_same, count_same}
use Rattle.publisher_caps.specs.Message.{rows_of, key_word}
use Rattle.delegation.specs.Side.{rolled}
use Rattle.image.specs.Layout.{Whose, self, other, Head, last_updated_epoch, claimable_rewards, num_events, Seat}
use Rattle.image.specs.Layout.{publishers, total_delegation, delta_delegation, publisher_stake_accounts, num_slash_events}
use Rattle.image.specs.Layout.{delegation_fees, Slot, Share, Field, head, seat, slot, share, Words, InRange}
use Rattle.image.specs.declared.pool_data.PoolData.{PoolData}
use Rattle.image.specs.declared.pool_data.PoolDataMut.{PoolDataMut}
use Rattle.image.specs.Pool.{words_of, words_in, Becomes}
use Rattle.image.proofs.SeatLaws.{seats_le}
use Rattle.image.proofs.PoolLaws.{becomes_reads, becomes_next, read_same}
use Rattle.advance_plan.specs.declared.plan.AdvancePlan.{AdvancePlan}
use Rattle.advance_plan.specs.declared.table.SeatTable.{SeatTable}
use Rattle.advance_plan.specs.Advance.{total_in, seat_cap, seat_rolls, matched_row, key_after, events_after, advanced_words}
use Rattle.advance_plan.specs.Plan.{Worked}
use Rattle.advance_plan.proofs.EventsLaws.{events_head, events_seat}
use Rattle.advance_write.specs.declared.events.PassedEpochs.{PassedEpochs}
use Rattle.advance_write.specs.Events.{passed_epochs, events_words, Passing}
use Rattle.advance_write.specs.Sides.{rolled_words}
use Rattle.advance_write.specs.Rows.{keys_words}
use Rattle.advance_write.specs.Head.{head_words, HeadFits}
use Rattle.advance_write.proofs.RingLaws.{events_are}

-- ---- keys

keys_same : (w v : Words) (m : List ℕ) (f g : ℕ → Bool) (seats j s c : ℕ) → w (seat s (publishers c)) ≡ v (seat s (publishers c))
    → ((i : ℕ) → i < j → f i ≡ g i)
    → key_after w m f seats j s c ≡ key_after v m g seats j s c
unfolding key_after
keys_same w v m f g seats zero s c e h = e
keys_same w v m f g seats (suc j) s c e h =
    rw (h j (omega arith), count_same f g j (λ i l. h i (omega arith)))
    (ap (λ (x : ℕ). if not (g j) && eqb s (seats + (j - count_below j g)) then key_word m j c else x)
    (keys_same w v m f g seats j s c e (λ i l. h i (omega arith))))

-- ---- the stages

module _ {Q P : ℕ} {w : Words} {m : List ℕ} {plan : AdvancePlan} {t : SeatTable Q} {epoch : ℕ} (z : Worked P w m plan t epoch) where
  pub seats_in : plan.seats ≤ P
  seats_in = let h = seats_le P w in omega (arith, z.seats_is)

  may_pass : (x : PassedEpochs) → x ≡ passed_epochs w epoch plan.y → epoch < word → Passing P plan.seats x
  may_pass x ex h = rw ex (record { within = seats_in; numbers = z.count; latest = omega (arith, z.later) })

  abbrev passed : ℕ
  passed = epoch - w (head last_updated_epoch)

  module _ (E : ℕ) (v1 : Words) (has1 : (f : Field) → InRange P E f → v1 f ≡ events_words E w (passed_epochs w epoch plan.y) plan.seats t passed f) where
    abbrev ring : Words
    ring = events_after E w (seat_cap w m) plan.seats plan.y.0 passed

    after_events : (f : Field) → InRange P E f → v1 f ≡ ring f
    after_events f r = has1 f r ∙ events_are E w (seat_cap w m) plan.seats epoch plan.y t z.table passed f

    seat_1 : (s : ℕ) (f : Seat) → InRange P E (seat s f) → v1 (seat s f) ≡ w (seat s f)
    seat_1 s f r = after_events (seat s f) r ∙ events_seat E w (seat_cap w m) plan.seats plan.y.0 passed s f

    rolls_at : (s : ℕ) → s < plan.seats → seat_rolls v1 s ≡ seat_rolls w s
    unfolding seat_rolls
    rolls_at s l =
        let c : s < P = (let q = seats_in in omega arith) in
        rw (
          seat_1 s (total_delegation self) (c, tt),
          seat_1 s (delta_delegation self) (c, tt),
          seat_1 s (total_delegation other) (c, tt),
          seat_1 s (delta_delegation other) (c, tt),
        )

    pub rolls_1 : all_below plan.seats (seat_rolls v1) ≡ true
    rolls_1 = all_same _ _ plan.seats rolls_at ∙ z.rolls

    module _ (v2 : Words) (after_sides : (f : Field) → InRange P E f → v2 f ≡ rolled_words v1 plan.seats f)
        (v3 : Words) (after_rows : (f : Field) → InRange P E f → v3 f ≡ keys_words v2 m (marked plan.marks.words) plan.seats (rows_of m) f)
      where
        -- what each word is by then
        key_3 : (q c : ℕ) → InRange P E (seat q (publishers c))
            → v3 (seat q (publishers c)) ≡ key_after w m (matched_row w m plan.seats) plan.seats (rows_of m) q c
        unfolding keys_words rolled_words
        key_3 q c r =
            after_rows (seat q (publishers c)) r
            ∙ keys_same v2 w m _ (matched_row w m plan.seats) plan.seats (rows_of m) q c
            (after_sides (seat q (publishers c)) r ∙ seat_1 q (publishers c) r) z.marks

        total_3 : (q : ℕ) (d : Whose) → InRange P E (seat q (total_delegation d))
            → v3 (seat q (total_delegation d)) ≡ (if ltb q plan.seats then total_in w 1 q d else w (seat q (total_delegation d)))
        unfolding keys_words rolled_words
        total_3 q d r =
            after_rows (seat q (total_delegation d)) r ∙ after_sides (seat q (total_delegation d)) r
            ∙ ap₂ (λ (u v : ℕ). if ltb q plan.seats then u else v) (ap₂ rolled (seat_1 q (total_delegation d) r) (seat_1 q (delta_delegation d) r))
            (seat_1 q (total_delegation d) r)

        delta_3 : (q : ℕ) (d : Whose) → InRange P E (seat q (delta_delegation d))
            → v3 (seat q (delta_delegation d)) ≡ (if ltb q plan.seats then 0 else w (seat q (delta_delegation d)))
        unfolding keys_words rolled_words
        delta_3 q d r =
            after_rows (seat q (delta_delegation d)) r ∙ after_sides (seat q (delta_delegation d)) r
            ∙ ap (λ (v : ℕ). if ltb q plan.seats then 0 else v) (seat_1 q (delta_delegation d) r)

        slot_3 : (τ : ℕ) (f : Slot) → InRange P E (slot τ f) → v3 (slot τ f) ≡ ring (slot τ f)
        unfolding keys_words rolled_words
        slot_3 τ f r = after_rows (slot τ f) r ∙ after_sides (slot τ f) r ∙ after_events (slot τ f) r

        share_3 : (τ q : ℕ) (f : Share) → InRange P E (share τ q f) → v3 (share τ q f) ≡ ring (share τ q f)
        unfolding keys_words rolled_words
        share_3 τ q f r = after_rows (share τ q f) r ∙ after_sides (share τ q f) r ∙ after_events (share τ q f) r

        account_3 : (q c : ℕ) → InRange P E (seat q (publisher_stake_accounts c))
            → v3 (seat q (publisher_stake_accounts c)) ≡ w (seat q (publisher_stake_accounts c))
        unfolding keys_words rolled_words
        account_3 q c r =
            after_rows (seat q (publisher_stake_accounts c)) r ∙ after_sides (seat q (publisher_stake_accounts c)) r ∙ seat_1 q (publisher_stake_accounts c) r

        slashes_3 : (q : ℕ) → InRange P E (seat q num_slash_events) → v3 (seat q num_slash_events) ≡ w (seat q num_slash_events)
        unfolding keys_words rolled_words
        slashes_3 q r = after_rows (seat q num_slash_events) r ∙ after_sides (seat q num_slash_events) r ∙ seat_1 q num_slash_events r

        fee_3 : (q : ℕ) → InRange P E (seat q delegation_fees) → v3 (seat q delegation_fees) ≡ w (seat q delegation_fees)
        unfolding keys_words rolled_words
        fee_3 q r = after_rows (seat q delegation_fees) r ∙ after_sides (seat q delegation_fees) r ∙ seat_1 q delegation_fees r

        head_3 : (h : Head) → v3 (head h) ≡ w (head h)
        unfolding keys_words rolled_words
        head_3 h = after_rows (head h) tt ∙ after_sides (head h) tt ∙ after_events (head h) tt ∙ events_head E w (seat_cap w m) plan.seats plan.y.0 passed h

        pub head_fits_3 : HeadFits v3 epoch plan.set_aside.0
        head_fits_3 = record {
          later = omega (arith, z.later, head_3 last_updated_epoch);
          claimable = omega (arith, z.covers, head_3 claimable_rewards);
          count = omega (arith, z.count, head_3 last_updated_epoch, head_3 num_events);
        }

        pub all_words : (g : Field) → InRange P E g → head_words v3 epoch plan.set_aside.0 g ≡ advanced_words P E w m epoch plan.y.0 plan.set_aside.0 g
        unfolding head_words
        all_words (head last_updated_epoch) r = refl
        all_words (head claimable_rewards) r = ap (λ (i : ℕ). i + plan.set_aside.0) (head_3 claimable_rewards)
        all_words (head num_events) r = ap₂ (λ (i j : ℕ). i + (epoch - j)) (head_3 num_events) (head_3 last_updated_epoch)
        all_words (seat q (publishers c)) r = rw (← z.seats_is) (key_3 q c r)
        all_words (seat q (total_delegation d)) r = rw (← z.seats_is) (total_3 q d r)
        all_words (seat q (delta_delegation d)) r = rw (← z.seats_is) (delta_3 q d r)
        all_words (seat q (publisher_stake_accounts c)) r = account_3 q c r
        all_words (seat q num_slash_events) r = slashes_3 q r
        all_words (seat q delegation_fees) r = fee_3 q r
        all_words (slot τ f) r = rw (← z.seats_is) (slot_3 τ f r)
        all_words (share τ q f) r = rw (← z.seats_is) (share_3 τ q f r)

-- ---- the pool from stage to stage

-- the pool is lent to be read, and the epochs passed are found in it
module _ {Q : ℕ} (pool : PoolDataMut) {m : List ℕ} {plan : AdvancePlan} {t : SeatTable Q} {epoch : ℕ} (z : Worked pool.p (words_in pool) m plan t epoch)
    (found : PoolData) (fw : found.words.now ≡ pool.words.now) (fp : found.p ≡ pool.p) (fe : found.e ≡ pool.e)
    (x : PassedEpochs) (passed_is : x ≡ passed_epochs (words_of found) epoch plan.y)
  where
    ex : x ≡ passed_epochs (words_in pool) epoch plan.y
    ex = passed_is ∙ ap (λ (v : Words). passed_epochs v epoch plan.y) (read_same found pool fw fp fe)

    pub passing : epoch < word → Passing pool.p plan.seats x
    passing e = may_pass z x ex e

    module _ (one : PoolDataMut) (events : Becomes pool one (events_words pool.e (words_in pool) x plan.seats t x.passed)) where
      has_1 : (f : Field) → InRange pool.p pool.e f
          → words_in one f
          ≡ events_words pool.e (words_in pool) (passed_epochs (words_in pool) epoch plan.y) plan.seats t (epoch - words_in pool (head last_updated_epoch)) f
      has_1 f r = becomes_reads pool one _ events f r ∙ ap (λ (v : PassedEpochs). events_words pool.e (words_in pool) v plan.seats t v.passed f) ex

      pub seats_1 : plan.seats ≤ one.p
      seats_1 = omega (arith, seats_in z, events.p)

      pub all_roll : all_below plan.seats (seat_rolls (words_in one)) ≡ true
      all_roll = rolls_1 z pool.e (words_in one) has_1

      module _ (two : PoolDataMut) (sides : Becomes one two (rolled_words (words_in one) plan.seats)) where
        to_2 : Becomes pool two (rolled_words (words_in one) plan.seats)
        to_2 = becomes_next pool one two _ _ _ events sides (λ f r. refl)

        pub seats_2 : plan.seats ≤ two.p
        seats_2 = omega (arith, seats_1, sides.p)

        module _ (three : PoolDataMut) (rows : ℕ) (er : rows ≡ rows_of m)
            (seated : Becomes two three (keys_words (words_in two) m (marked plan.marks.words) plan.seats rows)) where
          to_3 : Becomes pool three (keys_words (words_in two) m (marked plan.marks.words) plan.seats rows)
          to_3 = becomes_next pool two three _ _ _ to_2 seated (λ f r. refl)

          has_3 : (f : Field) → InRange pool.p pool.e f → words_in three f ≡ keys_words (words_in two) m (marked plan.marks.words) plan.seats (rows_of m) f
          has_3 f r = becomes_reads pool three _ to_3 f r ∙ ap (λ (n : ℕ). keys_words (words_in two) m (marked plan.marks.words) plan.seats n f) er

          pub head_fits : HeadFits (words_in three) epoch plan.set_aside.0
          head_fits = head_fits_3 z pool.e (words_in one) has_1 (words_in two) (becomes_reads pool two _ to_2) (words_in three) has_3

          pub all_written : (four : PoolDataMut) → Becomes three four (head_words (words_in three) epoch plan.set_aside.0)
              → Becomes pool four (advanced_words pool.p pool.e (words_in pool) m epoch plan.y.0 plan.set_aside.0)
          all_written four h =
              becomes_next pool three four _ _ _ to_3 h
              (all_words z pool.e (words_in one) has_1 (words_in two) (becomes_reads pool two _ to_2) (words_in three) has_3)
