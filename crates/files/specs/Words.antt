-- A file's bytes and its words: eight bytes a word, the lowest first. Assumes nothing.
use Rattle.std.specs.Prelude.{List, [], ◌∷◌, ◌++◌, ℕ, zero, suc, ◌+◌, ◌*◌, ◌/◌, ◌%◌, ◌^◌, get_or}

-- the word of the eight bytes from `at` on
unfoldable pub word_at : List ℕ → (at : ℕ) → ℕ
word_at s at =
    get_or s at 0
    + 256 * (get_or s (at + 1) 0
    + 256 * (get_or s (at + 2) 0
    + 256 * (get_or s (at + 3) 0
    + 256 * (get_or s (at + 4) 0 + 256 * (get_or s (at + 5) 0 + 256 * (get_or s (at + 6) 0 + 256 * get_or s (at + 7) 0))))))

-- the first n words of a file
unfoldable pub words_of : List ℕ → (n : ℕ) → List ℕ
words_of s zero = []
words_of s (suc n) = words_of s n ++ (word_at s (n * 8) ∷ [])

-- the eight bytes of a word
unfoldable pub eight : ℕ → List ℕ
eight w =
    w % 256 ∷ w / 256 % 256 ∷ w / 256 ^ 2 % 256 ∷ w / 256 ^ 3 % 256 ∷ w / 256 ^ 4 % 256 ∷ w / 256 ^ 5 % 256 ∷ w / 256 ^ 6 % 256
    ∷ w / 256 ^ 7 % 256 ∷ []

-- the bytes of the first n words of an image
unfoldable pub bytes_of : List ℕ → (n : ℕ) → List ℕ
bytes_of l zero = []
bytes_of l (suc n) = bytes_of l n ++ eight (get_or l n 0)
