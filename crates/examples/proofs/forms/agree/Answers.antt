use Rattle.std.proofs.Common.{rules, ◌≡◌, ◌↔◌, IsTrue, Bool, Result}
use Rattle.std.specs.Result.{result_eq}
use Rattle.types.specs.declared.refusals.Refusal.{Refusal}
use Rattle.types.specs.contracts.refusals.RefusalPartialEq.TheImpl.{eq-value}
use Rattle.examples.proofs.forms.agree.Goals as goal

-- `==` tells answers apart where it tells accepted ones apart
same_answer : {T : Type 0} (E : T → T → Bool) → ((x y : T) → IsTrue (E x y) ↔ (x ≡ y)) → (x y : Result T Refusal) → IsTrue (result_eq E eq-value.it x y) ↔ (x ≡ y)
same_answer E exact x y = search (rules, exact)

pub returns : goal.returns
returns g c = search (rules, same_answer _ c.requires c.args.core.now.answer c.args.form.now.answer)
