use Rattle.std.proofs.Common.{arith, refl, ap, ◌≡◌, ◌∙◌, ℕ, ◌*◌, ◌/◌, ◌%◌, ◌++◌, replicate}
use Rattle.std.proofs.lemmas.List.{take-replicate}
use Rattle.mirror.proofs.SiteLaws.{zeros_more}
use Rattle.mirror.proofs.site.add_zeros.Goals as goal

pub loop-part-preserved : goal.loop-part-preserved
loop-part-preserved g c =
    zeros_more _ _ _ _ (c.loop-part._part * 512) 512 _ c.try_extend_from_slice.result c.loop-part.invariant refl (omega arith)
    c.try_extend_from_slice.ensures.variant c.try_extend_from_slice.ensures.ok
    ∙ ap (λ (n : ℕ). c.args.list.now.items ++ replicate {A = ℕ} n 0) (omega arith)

pub returns : goal.returns
returns g c =
    let all : c.loop-part._part * 512 ≡ c.args.count / 512 * 512 = omega arith in
    zeros_more _ _ _ _ (c.args.count / 512 * 512) (c.args.count % 512) _ c.try_extend_from_slice-2.result
    (rw all at c.loop-part.invariant) (take-replicate (c.args.count % 512) 512 0 (omega arith)) (omega arith)
    c.try_extend_from_slice-2.ensures.variant c.try_extend_from_slice-2.ensures.ok
    ∙ ap (λ (n : ℕ). c.args.list.now.items ++ replicate {A = ℕ} n 0) (omega arith)
