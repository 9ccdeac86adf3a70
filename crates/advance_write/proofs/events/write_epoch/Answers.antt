use Rattle.std.proofs.Common.{◌≡◌, ◌+◌, ◌*◌, ◌≤◌, length, refl, ap, sym, ◌∙◌, arith, mod-lt}
use Rattle.advance_plan.specs.Stake.{shares_in}
use Rattle.advance_write.proofs.EventLaws.{epoch_back}
use Rattle.advance_write.proofs.events.write_epoch.Goals as goal

pub returns : goal.returns
returns g c =
    let a = c.args in
    let pool = a.pool.now in
    let same : c.shares.result.now ≡ shares_in a.table.now a.k = c.shares.ensures.shares in
    let long : length c.shares.result.now ≡ g.row.P * 3 = c.shares.ensures.long in
    let room : a.seats ≤ g.row.P = c.requires.room in
    let wide : length (shares_in a.table.now a.k) ≡ g.row.P * 3 = ap length (sym same) ∙ long in
    record {
      same_loan = refl;
      p = refl;
      e = refl;
      words = epoch_back pool.p pool.e pool.words.now pool.sized a.epochs a.seats a.k _ c.requires.passing.within
          (omega arith) _ refl (mod-lt (a.epochs.num_events + a.k) pool.sized.e_low) _ _ _ c.event_at-from.ensures same c.write_event.ensures;
    }
