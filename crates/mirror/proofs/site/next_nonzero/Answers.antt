use Rattle.std.proofs.Common.{rules, tests, arith, length-drop}
use Rattle.std.proofs.lemmas.Iterator.{YieldsList-from_slice}
use Rattle.std.proofs.lemmas.Iterator.Search.{position_from_yields_List}
use Rattle.std.proofs.lemmas.List.{take_all}
use Rattle.mirror.proofs.SiteLaws.{is_nonzero, position_is_next}
use Rattle.mirror.proofs.site.next_nonzero.Goals as goal

pub returns : goal.returns
returns c =
    let words = YieldsList-from_slice _ c.iter.ensures.rest in
    let first = position_from_yields_List is_nonzero _ _ c.position.result c.position.ensures.ran words (λ x b q k. search (rules, tests)) in
    rw (c.unwrap_or.ensures, first) (position_is_next c.args.image.now _ c.args.from c.requires (take_all _ _ (grind (arith, length-drop))))
