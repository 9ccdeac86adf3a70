-- What refusal 4 asks of records is what it asks of their words. Assumes nothing.
use mathlib.Core.Path.{◌≡◌, sym, ◌∙◌}
use mathlib.Core.Bool.{Bool, true, false}
use mathlib.Core.List.{List}
use Prim.Native.Nat.{ℕ, ◌*◌, ◌%◌, ◌<◌, ◌≤◌}
use native.Mathlib.Omega.{arith}
use lib.ListN.{length, get_or}
use borrow.Author.Tests.{le-leb, lt-leb, eq-eqb}
use Rattle.std.specs.Prelude.{IsTrue, ◌↔◌, All}
use Rattle.types.proofs.Below.{all_same}
use Rattle.types.proofs.ListLaws.{all_list}
use Rattle.positions.specs.declared.position.Position.{Position}
use Rattle.positions.specs.Positions.{position_holds, positions_hold}
use Rattle.positions.proofs.PositionsLaws.{held}
use Rattle.event_amounts.specs.Records.{records_words, record_holds}
use Rattle.event_amounts.proofs.RecordLaws.{words_whole, words_count, words_position, record_holds_words}

module _ (ps : List Position) where
  pub too_many : 256 < length ps → false ≡ positions_hold (records_words ps)
  unfolding positions_hold
  too_many h = rw (eq-eqb (length (records_words ps) % 9) 0 (words_whole ps), words_count ps, lt-leb (length ps) 256 h)

  pub all_hold : (answer : Bool) → length ps ≤ 256 → (IsTrue answer ↔ All (λ (p : Position). IsTrue (record_holds p)) ps)
      → answer ≡ positions_hold (records_words ps)
  unfolding positions_hold
  all_hold answer h is =
      all_list record_holds ps none answer is
      ∙ all_same (λ i. record_holds (get_or ps i none)) (λ i. position_holds (records_words ps) (i * 9)) (length ps) same
      ∙ rw (eq-eqb (length (records_words ps) % 9) 0 (words_whole ps), words_count ps, le-leb (length ps) 256 h)
    where
      none : Position
      none = record {
        kind = 0;
        amount = record { 0 = 0 };
        activation_epoch = record { 0 = 0 };
        start_flag = 0;
        unlocking_start = record { 0 = 0 };
        publisher = record { 0 = 0; 1 = 0; 2 = 0; 3 = 0 };
      }

      same : (i : ℕ) → i < length ps → record_holds (get_or ps i none) ≡ position_holds (records_words ps) (i * 9)
      same i l = record_holds_words (get_or ps i none) (records_words ps) (i * 9) (sym (words_position none ps i l))

  pub few : true ≡ positions_hold (records_words ps) → length ps ≤ 256
  few e = let h = held (records_words ps) (sym e) in omega (arith, h.few, words_count ps)
