use Rattle.image.specs.Layout.{self, other}
use Rattle.image.specs.Pool.{words_in}
use Rattle.image.proofs.PoolLaws.{becomes_reads, becomes_next, read_same}
use Rattle.advance_write.proofs.SidesLaws.{surely_rolls, rolls_into, both_words}
use Rattle.advance_write.proofs.sides.roll_seat.Goals as goal

pub unwrap-self_rolled-requires : goal.unwrap-self_rolled-requires
unwrap-self_rolled-requires c =
    let f = c.read-found.ensures in
    let pool = c.args.pool.now in
    surely_rolls (words_in pool) _ c.requires.rolls self _ (read_same c.read-found.result pool f.words f.p f.e) _ c.side-self_side.ensures _ c.roll.ensures

pub unwrap-other_rolled-requires : goal.unwrap-other_rolled-requires
unwrap-other_rolled-requires c =
    let f = c.read-found.ensures in
    let pool = c.args.pool.now in
    surely_rolls (words_in pool) _ c.requires.rolls other _ (read_same c.read-found.result pool f.words f.p f.e) _ c.side-other_side.ensures _ c.roll-2.ensures

pub returns : goal.returns
returns c =
    let f = c.read-found.ensures in
    let pool = c.args.pool.now in
    let w = words_in pool in
    let same = read_same c.read-found.result pool f.words f.p f.e in
    let a = rolls_into w c.args.s c.requires.rolls self _ same _ c.side-self_side.ensures _ c.roll.ensures _ c.unwrap-self_rolled.ensures in
    let b = rolls_into w c.args.s c.requires.rolls other _ same _ c.side-other_side.ensures _ c.roll-2.ensures _ c.unwrap-other_rolled.ensures in
    becomes_next pool _ _ _ _ _ c.set_side.ensures c.set_side-2.ensures
    (both_words pool.p pool.e w (words_in c.set_side.new.self) c.args.s _ _ a b (becomes_reads pool _ _ c.set_side.ensures))
