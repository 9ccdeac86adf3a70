use Rattle.std.proofs.Common.{◌≡◌, ◌<◌, length, take}
use Rattle.image.specs.Pool.{words_of}
use Rattle.event_walk.proofs.WalkLaws.{slot_from}
use Rattle.event_walk.proofs.NewestLaws.{EpochsTo, ZerosFrom}
use Rattle.event_walk.proofs.newest.read_newest.Given as goal

abbrev pub invariant-loop-k : goal.invariant-loop-k
invariant-loop-k l = record {
  inside : l.slot < l.pool.e;
  room : length l.epochs ≡ 52;
  slot : l.slot ≡ slot_from l.pool.e (words_of l.pool) l.k;
  epochs : EpochsTo l.pool.e (words_of l.pool) l.from (take l.k l.epochs) l.k;
  behind : ZerosFrom l.epochs l.k;
}
