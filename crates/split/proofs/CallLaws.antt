-- What an answer and an output list tell of the call's outcome, and that a shorter output list makes no difference to a call with too many weights.
-- Assumes nothing.
use mathlib.Core.Path.{◌≡◌, sym, ap, ◌∙◌}
use mathlib.Core.Logic.{◌⊎◌, inl, inr}
use mathlib.Core.List.{List}
use Prim.Native.Nat.{ℕ, ◌≤◌, ◌<◌}
use lib.ListN.{length}
use borrow.Author.Tests.{lt-ltb}
use Rattle.std.specs.Prelude.{min}
use Rattle.std.proofs.Math.Nat.{min-eq_left}
use Rattle.types.specs.Refusals.{invalid_weights}
use Rattle.types.specs.Base.{Outcome, refused, accepted, acceptance, after}
use Rattle.types.proofs.Below.{lt_or_le}
use Rattle.types.proofs.OutcomeLaws.{not_accepted, map_refused}
use Rattle.split.specs.Split.{max_weights, split_call, split_parts}

module _ (reward : ℕ) (weights : List ℕ) where
  many_weights : max_weights < length weights → (room : ℕ) → split_call reward weights room ≡ refused invalid_weights
  unfolding split_call
  many_weights h room = rw (lt-ltb max_weights (length weights) h)

  pub room_cut : split_call reward weights (min (length weights) max_weights) ≡ split_call reward weights (length weights)
  room_cut = go (lt_or_le max_weights (length weights))
    where
      go : (max_weights < length weights) ⊎ (length weights ≤ max_weights)
          → split_call reward weights (min (length weights) max_weights) ≡ split_call reward weights (length weights)
      go (inl h) = many_weights h (min (length weights) max_weights) ∙ sym (many_weights h (length weights))
      go (inr h) = ap (split_call reward weights) (min-eq_left h)

  module _ (found : List ℕ) where
    -- an accepted call's parts stand in the output list
    pub parts_stand : (parts : List ℕ) → accepted tt ≡ acceptance (split_call reward weights (length found)) → parts ≡ split_parts reward weights found
        → accepted parts ≡ split_call reward weights (length found)
    unfolding split_parts acceptance
    parts_stand parts a e = go (split_call reward weights (length found)) a e
      where
        go : (o : Outcome (List ℕ)) → accepted tt ≡ acceptance o → parts ≡ after o (λ l. l) found → accepted parts ≡ o
        go (refused k) a e = absurd (not_accepted tt k a)
        go (accepted l) a e = ap accepted e

    pub refusal_stands : (k : ℕ) → refused k ≡ acceptance (split_call reward weights (length found)) → refused k ≡ split_call reward weights (length found)
    unfolding acceptance
    refusal_stands k a = sym (map_refused (λ parts. tt {0}) (split_call reward weights (length found)) k (sym a))
