use Rattle.std.specs.Prelude.{IsTrue, ◌↔◌, All}
use Rattle.std.proofs.Common.{arith, rules}
use Rattle.event_amounts.specs.Records.{record_holds}
use Rattle.lent.proofs.RecordLaws.{all_hold}
use Rattle.lent.proofs.records.checked.Goals as goal

pub returns-then-positions-le-MAX_POSITIONS : goal.returns-then-positions-le-MAX_POSITIONS
unfolding record_holds
returns-then-positions-le-MAX_POSITIONS c =
    let h : IsTrue c.all.result ↔ All (λ p. IsTrue (record_holds p)) c.args.positions.now = search rules in
    all_hold c.args.positions.now c.all.result (omega arith) h
