use mathlib.Core.Path.{◌≡◌}
use Rattle.publisher_caps.specs.Key.{big_endian}
use Rattle.publisher_caps.specs.Message.{key_before}
use Rattle.publisher_caps.proofs.RowLaws.{Climbs}
use Rattle.publisher_caps.proofs.ascending.Given as goal

abbrev pub invariant-loop-row : goal.invariant-loop-row
invariant-loop-row l = record {
  key : big_endian l.before 0 32 ≡ key_before l.m l.row-index;
  first : l.before_first ≡ big_endian l.before 0 8;
  climbs : Climbs l.m l.row-index;
}
