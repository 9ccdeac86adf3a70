-- A law of the calls' fields. Assumes nothing.
use Rattle.std.proofs.Common.{◌≡◌, ℕ, ◌<◌, List, length, get_or, map, sym, ap, ◌∙◌, slice_get, Some}
use Rattle.std.specs.Borrow.{Bor}
use Rattle.std.specs.Option.{option_map}
use Rattle.std.proofs.lemmas.Option.{slice_get-map, slice_get-get_or}
use Rattle.std.proofs.lemmas.Simd.{map-map}
use Rattle.journal.specs.declared.calls.Kind.{Kind}
use Rattle.journal.specs.declared.calls.Call.{Call}
use Rattle.journal.specs.Calls.{fields_as, fields_of, kind_of}

-- the kind of a field that was read
pub kind_is :
    (fields : List (Bor (List ℕ) × Kind)) (call : Call) (k : ℕ) (field : Bor (List ℕ) × Kind) → fields_as fields ≡ fields_of call → k < length fields →
    field ≡ get_or fields k field → Some field.1 ≡ kind_of call k
kind_is fields call k field are h e =
    let kinds : map (λ field. field.1) (fields_as fields) ≡ map (λ field. field.1) fields = simp map-map in
    let at : option_map (λ field. field.1) (slice_get fields k) ≡ kind_of call k =
    sym (slice_get-map (λ field. field.1) fields k) ∙ ap (λ l. slice_get l k) (sym kinds ∙ ap (λ l. map (λ field. field.1) l) are) in
    rw (e, ← at, slice_get-get_or fields k field h)
