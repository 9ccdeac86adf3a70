use Rattle.std.proofs.Common.{arith, rules}
use Rattle.advance_write.proofs.WriteLaws.{passing, seats_1, seats_2, head_fits, all_written}
use Rattle.advance_write.proofs.write_advance.Goals as goal

pub write_events-requires : goal.write_events-requires
write_events-requires g c =
    let f = c.read.ensures in
    (search rules, (passing c.args.pool.now c.requires c.read.result f.words f.p f.e _ c.passed_epochs-epochs.ensures (omega arith), c.requires.room))

pub roll_sides-requires-clause-seats : goal.roll_sides-requires-clause-seats
roll_sides-requires-clause-seats g c =
    let f = c.read.ensures in
    seats_1 c.args.pool.now c.requires c.read.result f.words f.p f.e _ c.passed_epochs-epochs.ensures _ c.write_events.ensures

pub seat_rows-requires : goal.seat_rows-requires
seat_rows-requires g c =
    let f = c.read.ensures in
    seats_2 c.args.pool.now c.requires c.read.result f.words f.p f.e _ c.passed_epochs-epochs.ensures _ c.write_events.ensures _ c.roll_sides.ensures

pub write_head-requires : goal.write_head-requires
write_head-requires g c =
    let f = c.read.ensures in
    head_fits _ c.requires c.read.result f.words f.p f.e _ c.passed_epochs-epochs.ensures _ c.write_events.ensures _ c.roll_sides.ensures
    _ _ c.args.caps.counted c.seat_rows.ensures

pub returns : goal.returns
returns g c =
    let f = c.read.ensures in
    all_written _ c.requires c.read.result f.words f.p f.e _ c.passed_epochs-epochs.ensures _ c.write_events.ensures _ c.roll_sides.ensures
    _ _ c.args.caps.counted c.seat_rows.ensures _ c.write_head.ensures
