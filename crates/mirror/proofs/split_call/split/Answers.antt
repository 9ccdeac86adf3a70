use Rattle.std.proofs.Common.{rules, ◌≡◌, length}
use mathlib.Core.Path.{◌∙◌}
use Rattle.std.specs.Prelude.{min}
use Rattle.std.proofs.lemmas.List.{length-replicate}
use Rattle.std.proofs.lemmas.Result.{err_from_is_err_and}
use Rattle.std.proofs.Math.Seq.{take-append_seam}
use Rattle.split.specs.Split.{split_call}
use Rattle.split.proofs.CallLaws.{room_cut, parts_stand, refusal_stands}
use Rattle.mirror.specs.Args.{number_at}
use Rattle.mirror.specs.Site.{list_of}
use Rattle.mirror.specs.Calls.{split_of}
use Rattle.mirror.proofs.split_call.split.Goals as goal
use Rattle.mirror.proofs.split_call.split.Goals.{After-split}

-- the call that is made is the line's, whatever room there is for more parts than may be
here : (c : After-split) → split_call c.number.result c.last_list-weights.result.now (length c.as_mut_slice.result.now) ≡ split_of c.args.fields.now
here c =
    let n : length c.as_mut_slice.result.now ≡ min (length (list_of c.args.fields.now)) 64 =
    rw (c.as_mut_slice.ensures.value, c.set_zeros.ensures, c.min.ensures, c.last_list-weights.ensures) (length-replicate _ _) in
    rw (n, c.number.ensures, c.last_list-weights.ensures) (room_cut (number_at c.args.fields.now.values.items 0) (list_of c.args.fields.now))

pub returns-in_err-split : goal.returns-in_err-split
returns-in_err-split c =
    let p = err_from_is_err_and c.from_residual.result c.from_residual.ensures.1 in
    let t = here (goal.at.returns-in_err-split c).After-split in
    rw (p.1, p.2) (refusal_stands _ _ _ _ c.in_err-split.ensures.answer ∙ t)

pub returns : goal.returns
returns c =
    let t = here (goal.at.returns c).After-split in
    let same : length c.split.new.parts ≡ length c.set_zeros.new.list.items = search rules in
    rw (← same, take-append_seam c.split.new.parts _)
    (parts_stand _ _ _ _ c.in_ok-split.ensures.answer c.in_ok-split.ensures.parts_after ∙ t)
