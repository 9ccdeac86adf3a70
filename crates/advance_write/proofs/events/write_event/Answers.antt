use Rattle.std.proofs.Common.{length}
use native.Mathlib.Nat.{add-sub_cancel_left}
use Rattle.advance_write.specs.Events.{written_event}
use Rattle.advance_write.proofs.events.write_event.Goals as goal

pub returns : goal.returns
unfolding written_event
returns c = rw (c.copy_from_slice.ensures.after, add-sub_cancel_left 9 (length c.args.shares.now))
