-- `text::items::words` meets its contract. Assumes nothing.
use Rattle.std.proofs.Common.{rules, tests, arith, List, ℕ, Bor, length, length-append}
use Rattle.std.proofs.Math.ListN.{drop_of_length-le}
use Rattle.text.specs.Items.{items}
use Rattle.std.proofs.lemmas.Result.{err_from_is_err_and}
use Rattle.text.specs.Words.{comma}
use Rattle.text.proofs.WordsLaws.{items_road, Next, for_next, turn_goes, turn_ends, turn_none}
use Rattle.text.proofs.items.words.Goals as goal
use Rattle.text.proofs.items.words.Goals.{After-next}

-- the loop goes over the items, one after another, and ends behind the last
next_item : (c : After-next) → Next (λ (x : Bor (List ℕ)). x.now) (items comma c.args.s.now) (length c.loop-item.yielded) c.next.result
next_item c =
    let cut = c.split-item-items.ensures in
    for_next
    (items_road _ c.args.s.now c.into_iter-item-iterator.ensures.into_iter_gives cut.rest cut.done cut.closure (λ x b q k. search (rules, tests)))
    c.loop-item.yielded _ c.loop-item.yielded_by _ _ c.next.ensures.steps

pub loop-item-preserved : goal.loop-item-preserved
loop-item-preserved c =
    let t = (next_item (goal.at.loop-item-preserved c).After-next).1 c.in-Some.item c.in-Some.is in
    let g = turn_goes (items comma c.args.s.now) (length c.loop-item.yielded) c.loop-item.count _ c.loop-item.out c.put.new.out _ t (omega arith)
    c.put.ensures.count c.put.ensures.image c.in_ok-count.field-0 c.in_ok-count.was in
    grind (arith, length-append)

pub returns-in_err-count : goal.returns-in_err-count
returns-in_err-count c =
    let t = (next_item (goal.at.returns-in_err-count c).After-next).1 c.in-Some.item c.in-Some.is in
    let g = turn_ends (items comma c.args.s.now) (length c.loop-item.yielded) c.loop-item.count _ c.loop-item.out c.put.new.out _ t (omega arith)
    c.put.ensures.count c.put.ensures.image _ c.in_err-count.was in
    grind (arith, err_from_is_err_and)

pub returns-in-None : goal.returns-in-None
returns-in-None c =
    let t = (next_item (goal.at.returns-in-None c).After-next).0 c.in-None.is in
    grind (arith, turn_none, drop_of_length-le)
