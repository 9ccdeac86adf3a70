use mathlib.Core.Path.{refl, ◌∙◌}
use lib.ListN.{replicate}
use Rattle.std.proofs.lemmas.List.{length-set, take_more_set}
use native.Mathlib.Omega.{arith}
use Rattle.event_walk.proofs.WalkLaws.{before_lt, slot_start, slot_back, slot_kept, epoch_at}
use Rattle.event_walk.proofs.NewestLaws.{epochs_none, epochs_more, zeros_at, zeros_more, newest_old, newest_all}
use Rattle.event_walk.proofs.newest.read_newest.Goals as goal

pub loop-k-init : goal.loop-k-init
loop-k-init c =
    record {
      inside = omega (arith, c.args.pool.sized.e_low);
      room = refl;
      slot = rw c.num_events.ensures (slot_start _ _);
      epochs = epochs_none _ _ _ (replicate 52 0);
      behind = λ j l. zeros_at 52 j;
    }

pub returns-then-epoch-from : goal.returns-then-epoch-from
returns-then-epoch-from c =
    let z = c.args.pool.sized in
    let s = slot_back _ _ c.loop-k.k _ _ z.e_low (omega arith) c.loop-k.invariant.slot c.slot_before-slot.ensures in
    newest_old _ _ _ _ c.loop-k.k _ z.e_high c.loop-k.invariant.epochs c.loop-k.invariant.behind refl (omega arith)
    (epoch_at _ _ c.loop-k.k _ _ s c.event_epoch-epoch.ensures) c.if-epoch-from.true

pub loop-k-preserved : goal.loop-k-preserved
loop-k-preserved c =
    let z = c.args.pool.sized in
    let s = slot_back _ _ c.loop-k.k _ _ z.e_low (omega arith) c.loop-k.invariant.slot c.slot_before-slot.ensures in
    record {
      inside = before_lt _ _ _ c.loop-k.invariant.inside c.slot_before-slot.ensures;
      room = length-set _ _ _ ∙ c.loop-k.invariant.room;
      slot = slot_kept _ _ _ _ s;
      epochs =
          epochs_more _ _ _ _ _ _ _ c.loop-k.invariant.epochs (take_more_set _ _ _ (omega arith))
          (epoch_at _ _ c.loop-k.k _ _ s c.event_epoch-epoch.ensures) c.if-epoch-from.false (omega arith);
      behind = zeros_more _ _ _ c.loop-k.invariant.behind;
    }

pub returns : goal.returns
returns c =
    newest_all _ _ _ _ c.loop-k.k c.args.pool.sized.e_high c.loop-k.invariant.epochs c.loop-k.invariant.behind (omega arith) (omega arith) (omega arith)
