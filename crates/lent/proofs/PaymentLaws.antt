-- What a list of records gathers. Assumes nothing.
use mathlib.Core.List.{List}
use Prim.Native.Nat.{ℕ}
use Rattle.std.specs.Prelude.{map, Option}
use Rattle.std.proofs.lemmas.List.{map-id}
use Rattle.positions.specs.declared.Key.{Key}
use Rattle.positions.specs.declared.position.Position.{Position}
use Rattle.image.specs.Layout.{Words}
use Rattle.event_walk.specs.declared.EventAmounts.{EventAmounts}
use Rattle.event_amounts.specs.Records.{records_words}
use Rattle.event_amounts.specs.Gathered.{GatheredOf}

-- each record is a position as it stands
pub gathered_records : (E : ℕ) (w : Words) (ps : List Position) (publisher : Key) (from unlocking : ℕ) (g : Option EventAmounts)
    → GatheredOf E w (records_words (map (λ (p : Position). p) ps)) publisher from unlocking g
    → GatheredOf E w (records_words ps) publisher from unlocking g
gathered_records E w ps publisher from unlocking g h = rw (map-id ps) at h
