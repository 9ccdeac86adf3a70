-- `text::bytes` meets its contract. Assumes nothing.
use Rattle.std.proofs.Common.{◌*◌, is_some, length-take, arith, sym, ap, ◌∙◌}
use Rattle.text.proofs.HexLaws.{hex_pair, pair_digits, stored_more}
use Rattle.text.proofs.bytes.Goals as goal

pub unwrap-requires : goal.unwrap-requires
unwrap-requires c =
    let chunks = c.as_chunks.ensures in
    let spells = c.pair.ensures ∙ pair_digits _ c.as_chunks.result.0.now _ c.loop-i.i chunks.front (omega (arith, chunks.front_len)) _ in
    let some = hex_pair _ (c.loop-i.i * 2) (sym c.all_hex.ensures ∙ c.if-not-all_hex.false) (omega (arith, c.as_chunks.ensures.front_len)) in
    ap is_some spells ∙ some

pub loop-i-preserved : goal.loop-i-preserved
loop-i-preserved c =
    let chunks = c.as_chunks.ensures in
    let spells = c.pair.ensures ∙ pair_digits _ c.as_chunks.result.0.now _ c.loop-i.i chunks.front (omega (arith, chunks.front_len)) _ in
    stored_more c.args.s.now c.loop-i.out c.args.out.now _ c.loop-i.i c.unwrap.result c.pair.result c.loop-i.invariant spells
    (omega (arith, c.as_chunks.ensures.front_len, length-take c.min.result c.args.s.now)) c.unwrap.ensures
