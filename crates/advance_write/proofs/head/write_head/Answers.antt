use Rattle.image.proofs.PoolLaws.{read_same}
use Rattle.advance_write.proofs.HeadLaws.{head_written}
use Rattle.advance_write.proofs.head.write_head.Goals as goal

pub returns : goal.returns
returns c =
    let f = c.read-found.ensures in
    let same = read_same c.read-found.result c.args.pool.now f.words f.p f.e in
    head_written _ _ _ _ _ _ _ _ (rw c.claimable_rewards.ensures (rw same)) (rw (c.num_events.ensures, c.last_updated_epoch-last.ensures) (rw same))
    c.set_last_updated_epoch.ensures c.set_claimable_rewards.ensures c.set_num_events.ensures
