-- Three words written: last epoch, claimable and the event count. Assumes nothing.
use Rattle.std.proofs.Common.{◌≡◌, ℕ, ◌+◌, ◌-◌, ◌∙◌, refl}
use Rattle.image.specs.Layout.{last_updated_epoch, claimable_rewards, num_events, Field, head, seat, slot, share, Words}
use Rattle.image.specs.Seats.{with_head}
use Rattle.image.specs.declared.pool_data.PoolDataMut.{PoolDataMut}
use Rattle.image.specs.Pool.{words_in, Becomes}
use Rattle.image.proofs.PoolLaws.{becomes_reads, becomes_next, head_same}
use Rattle.advance_write.specs.Head.{head_words}

module _ (w : Words) (epoch set_aside claimable count : ℕ) (ec : claimable ≡ w (head claimable_rewards) + set_aside)
    (en : count ≡ w (head num_events) + (epoch - w (head last_updated_epoch)))
  where
    three : (f : Field)
        → with_head (with_head (with_head w last_updated_epoch epoch) claimable_rewards claimable) num_events count f ≡ head_words w epoch set_aside f
    unfolding with_head head_words
    three (head last_updated_epoch) = refl
    three (head claimable_rewards) = ec
    three (head num_events) = en
    three (seat s x) = refl
    three (slot t x) = refl
    three (share t s x) = refl

pub head_written : (p a b c : PoolDataMut) (epoch set_aside claimable count : ℕ)
    → claimable ≡ words_in p (head claimable_rewards) + set_aside → count ≡ words_in p (head num_events) + (epoch - words_in p (head last_updated_epoch))
    → Becomes p a (with_head (words_in p) last_updated_epoch epoch) → Becomes a b (with_head (words_in a) claimable_rewards claimable)
    → Becomes b c (with_head (words_in b) num_events count) → Becomes p c (head_words (words_in p) epoch set_aside)
head_written p a b c epoch set_aside claimable count ec en x y z =
    let w = words_in p in
    let first = with_head w last_updated_epoch epoch in
    let second = with_head first claimable_rewards claimable in
    let two = becomes_next p a b _ _ second x y (λ f r. head_same claimable_rewards claimable _ first f (becomes_reads p a _ x f r)) in
    becomes_next p b c _ _ _ two z
    (λ f r. head_same num_events count _ second f (becomes_reads p b _ two f r) ∙ three w epoch set_aside claimable count ec en f)
