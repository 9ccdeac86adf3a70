-- A few calls worked out, in one table. Assumes nothing.
use mathlib.Core.Path.{◌≡◌, refl}
use mathlib.Core.List.{[], ◌∷◌}
use Prim.Native.Nat.{◌-◌, ◌^◌}
use lib.ListN.{replicate}
use Rattle.types.specs.Base.{refused, accepted, sum_below, count_below, tabulate}
use Rattle.split.specs.Split.{weight_sum, floor_of, remainder_of, units_left, comes_before, rank_of, gets_unit, part_of, parts_of, split_call, split_parts}

examples :
    -- floors 3, 3 and 3: the unit left goes to the earliest of three equal remainders
    (split_call 10 (1 ∷ 1 ∷ 1 ∷ []) 3 ≡ accepted (4 ∷ 3 ∷ 3 ∷ []))
    -- floors 1, 0 and 5, remainders 5, 8 and 9: two units left
    × (split_call 8 (2 ∷ 1 ∷ 8 ∷ []) 3 ≡ accepted (1 ∷ 1 ∷ 6 ∷ []))
    -- no weight, no part
    × (split_call 7 (3 ∷ 0 ∷ 5 ∷ 3 ∷ []) 4 ≡ accepted (2 ∷ 0 ∷ 3 ∷ 2 ∷ []))
    -- 64 weights are taken, 65 are not
    × (split_call 64 (replicate 64 1) 64 ≡ accepted (replicate 64 1))
    × (split_call 65 (replicate 65 1) 65 ≡ refused 28)
    × (split_call 5 (1 ∷ []) 2 ≡ refused 28)
    × (split_call 5 ((2 ^ 64 - 1) ∷ 1 ∷ []) 2 ≡ refused 13)
    × (split_call 5 (0 ∷ 0 ∷ []) 2 ≡ refused 29)
    × (split_call 5 [] 0 ≡ refused 29)
    -- and a refused call leaves what it found
    × (split_parts 5 (0 ∷ 0 ∷ []) (7 ∷ 8 ∷ []) ≡ 7 ∷ 8 ∷ [])
unfolding sum_below count_below tabulate weight_sum floor_of remainder_of units_left comes_before rank_of gets_unit part_of parts_of split_call split_parts
examples = (refl, refl, refl, refl, refl, refl, refl, refl, refl, refl)
