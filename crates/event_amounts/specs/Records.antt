-- A list of position records, and the words that it stands for. Assumes nothing.
use Rattle.std.specs.Prelude.{Bool, ◌&&◌, ◌||◌, List, [], ◌∷◌, ◌++◌, ℕ, leb, eqb}
use Rattle.positions.specs.declared.Key.{Key}
use Rattle.positions.specs.declared.position.Position.{Position}
use Rattle.positions.specs.Key.{same_key}

-- 'A position is nine words: kind, amount, activation, start flag, unlocking start, key (4)'
abbrev pub position_words : Position → List ℕ
position_words p =
    p.kind ∷ p.amount.0 ∷ p.activation_epoch.0 ∷ p.start_flag ∷ p.unlocking_start.0
    ∷ p.publisher.0 ∷ p.publisher.1 ∷ p.publisher.2 ∷ p.publisher.3 ∷ []

-- the words of a list of records, in their order
unfoldable pub records_words : List Position → List ℕ
records_words [] = []
records_words (p ∷ ps) = position_words p ++ records_words ps

-- one record's kind and flag, as `position_holds` asks them of its words
unfoldable pub record_holds : Position → Bool
record_holds p = leb p.kind 2 && (eqb p.kind 0 || leb p.start_flag 1)

-- a pool position with the publisher's key, as `in_publisher` asks of its words
unfoldable pub record_in : Position → Key → Bool
record_in p publisher = eqb p.kind 2 && same_key p.publisher publisher
