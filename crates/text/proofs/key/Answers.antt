-- `text::key` meets its contract. Assumes nothing.
use Rattle.std.proofs.Common.{◌≡◌, ℕ, List, [], Some, get_or, replicate, sym, refl, ap, ◌∙◌, arith}
use Rattle.std.specs.Int.{from_le_bytes, w64}
use Rattle.text.specs.Hex.{spelled}
use Rattle.text.proofs.KeyLaws.{four_words, key_some}
use Rattle.text.proofs.key.Goals as goal

pub returns : goal.returns
returns c =
    let image : c.bytes.new.out ≡ spelled (Some c.in_ok-bytes.field-0) c.args.s.now (replicate 32 0) = rw (← c.in_ok-bytes.was) c.bytes.ensures.image in
    let words = four_words _ c.as_chunks.result.0.now c.as_chunks.ensures.front (omega arith) in
    let word = λ (k : ℕ). ap (λ (l : List (List ℕ)). from_le_bytes w64 (get_or l k [])) words in
    key_some c.args.s.now (omega arith) _ _ _ _ _ c.bytes.new.out _ refl (sym c.bytes.ensures.count ∙ c.in_ok-bytes.was) image
    (c.from_le_bytes.ensures ∙ word 0) (c.from_le_bytes-2.ensures ∙ word 1) (c.from_le_bytes-3.ensures ∙ word 2) (c.from_le_bytes-4.ensures ∙ word 3)
