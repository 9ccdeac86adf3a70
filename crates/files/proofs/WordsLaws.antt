-- Laws of a file's bytes and its words: one word more. Assumes nothing.
use Rattle.std.proofs.Common.{◌≡◌, ℕ, ◌+◌, ◌*◌, ◌<◌, List, refl, length, take, drop, get_or, set, arith, add-one, ap, ◌∙◌}
use Rattle.std.proofs.lemmas.Slice.{take-put_mid}
use Rattle.std.proofs.lemmas.List.{get_or-take, get_or-drop}
use Rattle.std.proofs.Math.Seq.{take-suc-set}
use Rattle.std.specs.Int.{to_le_bytes, from_le_bytes, w64}
use Rattle.std.specs.Simd.{first_chunks}
use borrow.Rule.Slice.PartMut.{put_mid}
use Rattle.types.proofs.ListLaws.{chunk_at}
use Rattle.text.proofs.KeyLaws.{low_first_sum}
use Rattle.files.specs.Words.{word_at, words_of, eight, bytes_of}

-- the bytes of a word
eight_is : (w : ℕ) → to_le_bytes w64 w ≡ eight w
unfolding eight
eight_is w = refl

pub bytes_more :
    (l out new : List ℕ) (i k : ℕ) → take (i * 8) out ≡ bytes_of l i → i < length l → length out ≡ length l * 8 → new ≡ to_le_bytes w64 (get_or l i 0) →
    take ((i + 1) * 8) (put_mid (i * 8) k out new) ≡ bytes_of l (i + 1)
unfolding bytes_of
bytes_more l out new i k e h n q =
    let r : new ≡ eight (get_or l i 0) = q ∙ eight_is (get_or l i 0) in
    let m : length new ≡ 8 = ap length q in
    rw (take-put_mid (i * 8) k out new ((i + 1) * 8) (omega arith) (omega arith), e, r, add-one i)

word_is : (s : List ℕ) (at : ℕ) → from_le_bytes w64 (take 8 (drop at s)) ≡ word_at s at
unfolding word_at
word_is s at =
    let r : (j k : ℕ) → j < 8 → k ≡ at + j → get_or (take 8 (drop at s)) j 0 ≡ get_or s k 0 =
    λ j k h e. rw (get_or-take 8 (drop at s) j 0 h, get_or-drop at s j 0, e) in
    let a = r 0 at (omega arith) (omega arith) in
    let b = r 1 (at + 1) (omega arith) (omega arith) in
    let c = r 2 (at + 2) (omega arith) (omega arith) in
    let d = r 3 (at + 3) (omega arith) (omega arith) in
    let e = r 4 (at + 4) (omega arith) (omega arith) in
    let f = r 5 (at + 5) (omega arith) (omega arith) in
    let g = r 6 (at + 6) (omega arith) (omega arith) in
    let h = r 7 (at + 7) (omega arith) (omega arith) in
    rw (low_first_sum (take 8 (drop at s))) (omega arith)

pub words_more :
    (s out : List ℕ) (chunks : List (List ℕ)) (n i w : ℕ) (d : List ℕ) → take i out ≡ words_of s i → chunks ≡ first_chunks 8 n s → i < n → i < length out →
    w ≡ from_le_bytes w64 (get_or chunks i d) → take (i + 1) (set out i w) ≡ words_of s (i + 1)
unfolding words_of
words_more s out chunks n i w d e c h l q =
    let r : w ≡ word_at s (i * 8) = q ∙ rw (c, chunk_at 8 n i s d h) (word_is s (i * 8)) in rw (add-one i, take-suc-set out i w l, e, r)
