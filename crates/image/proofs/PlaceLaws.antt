-- Where the events of an image stand: they lie within it, and the places stay small. Assumes nothing.
use Prim.Native.Nat.{ℕ, ◌+◌, ◌*◌, ◌≤◌, ◌<◌}
use native.Mathlib.Nat.{mul-le-mul, mul-le-mul_right}
use native.Mathlib.Omega.{arith}
use Rattle.image.specs.Layout.{event_size, event_at, num_events_at}

-- an event slot's words lie in front of the count
pub slot_fits_law : (p e s : ℕ) → s < e → event_at p s + event_size p ≤ num_events_at p e
slot_fits_law p e s h = omega (arith, mul-le-mul_right (9 + 3 * p) h)

-- the products stay small
pub slot_small : (p s : ℕ) → p ≤ 1024 → s ≤ 52 → s * (9 + 3 * p) ≤ 160212
slot_small p s hp hs = let h : 9 + 3 * p ≤ 3081 = omega arith in mul-le-mul hs h
