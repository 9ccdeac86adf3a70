use Prim.Native.Nat.{◌/◌}
use lib.ListN.{length}
use Rattle.std.specs.Prelude.{IsTrue, ◌↔◌, All}
use Rattle.std.specs.Simd.{first_chunks}
use Rattle.std.proofs.Common.{rules}
use Rattle.positions.specs.Positions.{position_holds, positions_hold}
use Rattle.positions.proofs.NinesLaws.{nine_holds, all_nines}
use Rattle.positions.proofs.list.checked.Goals as goal

pub returns-then-words-le-MAX_POSITIONS : goal.returns-then-words-le-MAX_POSITIONS
unfolding positions_hold
returns-then-words-le-MAX_POSITIONS c =
    let words = c.args.words.now in
    let each : IsTrue c.all.result ↔ All (λ nine. IsTrue (position_holds nine 0)) (first_chunks 9 (length words / 9) words) = search rules in
    let answer = all_nines words position_holds (nine_holds words) c.all.result each in
    search rules
