use Rattle.integrity_pool.proofs.CallLaws.{refused_leaves}
use Rattle.integrity_pool.proofs.advance.Goals as goal

pub returns-in_err-caps-clause-image : goal.returns-in_err-caps-clause-image
returns-in_err-caps-clause-image c = refused_leaves _ _ _ _ _ _ c.in_err-caps.ensures.answer
