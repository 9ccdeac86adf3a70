use Prim.Native.Nat.{◌/◌}
use lib.ListN.{length}
use Rattle.std.specs.Prelude.{IsTrue, ◌↔◌, Any}
use Rattle.std.specs.Simd.{first_chunks}
use Rattle.std.proofs.Common.{rules}
use Rattle.positions.specs.Positions.{in_publisher, has_publisher}
use Rattle.positions.proofs.NinesLaws.{nine_in_publisher, any_nines}
use Rattle.positions.proofs.list.has_target_with_parameters_exposure.Goals as goal

pub returns : goal.returns
unfolding has_publisher
returns c =
    let words = c.args.words.now in
    let publisher = c.args.publisher in
    let one : IsTrue c.any.result ↔ Any (λ nine. IsTrue (in_publisher nine 0 publisher)) (first_chunks 9 (length words / 9) words) = search rules in
    any_nines words (λ nine at. in_publisher nine at publisher) (λ i l d. nine_in_publisher words i l d publisher) c.any.result one
