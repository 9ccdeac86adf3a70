-- Lists of words: numbers, and keys, which are four words each. Assumes nothing.
use Rattle.std.specs.Prelude.{ℕ, ◌+◌, min, cond, List, [], ◌∷◌, ◌++◌, ltb, length, take, drop, Option, None, Some, Result, Ok, Err}
use Rattle.std.specs.Str.{bytes_eq}
use Rattle.text.specs.declared.NumberError.{NumberError}
use Rattle.text.specs.declared.NumberError.TheVariants.{NoDigits, NotDigit, TooLarge}
use Rattle.text.specs.declared.items.WordError.{WordError}
use Rattle.text.specs.declared.items.WordError.TheVariants.{NotWord, LargeWord, NotKey}
use Rattle.text.specs.Decimal.{number_of}
use Rattle.text.specs.Key.{key_of}
use Rattle.text.specs.Items.{items}

-- what a list says of a number that is none
abbrev pub error_of : NumberError → WordError
error_of NoDigits = NotWord
error_of NotDigit = NotWord
error_of TooLarge = LargeWord

-- a number is one word
abbrev pub number_words : Result ℕ NumberError → Result (List ℕ) WordError
number_words (Ok n) = Ok (n ∷ [])
number_words (Err e) = Err (error_of e)

-- a key is its words
abbrev pub key_words : Option (List ℕ) → Result (List ℕ) WordError
key_words (Some words) = Ok words
key_words None = Err NotKey

-- the words of an item of a list: behind `0x` those of a key, else a number
abbrev pub mark : List ℕ
mark = 48 ∷ 120 ∷ []

unfoldable pub item_of : List ℕ → Result (List ℕ) WordError
item_of s = cond (bytes_eq (take 2 s) mark) (key_words (key_of (drop 2 s))) (number_words (number_of s))

-- what an item makes of the answer for the items behind it, which is `next` of how many words it is
abbrev pub behind : Result (List ℕ) WordError → (next : ℕ → Result ℕ WordError) → Result ℕ WordError
behind (Ok words) next = next (length words)
behind (Err e) next = Err e

-- how many words the items are, k being before them, as far as there is room; a full room ends it, and so does the first item that is no word
unfoldable pub words_of : List (List ℕ) → (room k : ℕ) → Result ℕ WordError
words_of [] room k = Ok (min k room)
words_of (x ∷ xs) room k = cond (ltb k room) (behind (item_of x) (λ n. words_of xs room (k + n))) (Ok room)

-- the words of the items, up to the first item that is no word
abbrev pub before : Result (List ℕ) WordError → List ℕ → List ℕ
before (Ok words) ns = words ++ ns
before (Err e) ns = []

unfoldable pub numbers : List (List ℕ) → List ℕ
numbers [] = []
numbers (x ∷ xs) = before (item_of x) (numbers xs)

-- numbers put at the start of out, as far as out goes
unfoldable pub laid : List ℕ → List ℕ → List ℕ
laid [] out = out
laid (n ∷ ns) [] = []
laid (n ∷ ns) (o ∷ out) = n ∷ laid ns out

-- a list of one item
abbrev pub alone : List ℕ → List (List ℕ)
alone x = x ∷ []

-- a word list, its items joined by commas; `-` is the empty one
abbrev pub dash : List ℕ
dash = 45 ∷ []

abbrev pub comma : ℕ
comma = 44

unfoldable pub list_of : List ℕ → (room : ℕ) → Result ℕ WordError
list_of s room = cond (bytes_eq s dash) (Ok 0) (words_of (items comma s) room 0)

unfoldable pub listed : List ℕ → List ℕ → List ℕ
listed s out = cond (bytes_eq s dash) out (laid (numbers (items comma s)) out)
