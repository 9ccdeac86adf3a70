use mathlib.Core.Path.{◌≡◌}
use Prim.Native.Nat.{ℕ, ◌<◌}
use lib.ListN.{get_or}
use Rattle.event_walk.proofs.WalkLaws.{slot_from}
use Rattle.image.specs.Pool.{words_of}
use Rattle.pool.specs.Reward.{slot_reward}
use Rattle.pool.proofs.RewardLaws.{Summed}
use Rattle.pool.proofs.reward.reward_sum.Given as goal

abbrev pub invariant-loop-amount : goal.invariant-loop-amount
invariant-loop-amount l =
    (l.slot < l.pool.e) × (l.slot ≡ slot_from l.pool.e (words_of l.pool) l.amount-index)
    × Summed (slot_reward l.pool.e (words_of l.pool) l.s l.is_publisher (λ (i : ℕ). get_or l.amounts i 0)) l.amount-index l.delegators l.publishers
