-- 'The image': a list of positions, nine words each. Assumes nothing.
use Rattle.std.specs.Prelude.{Bool, ◌&&◌, ◌||◌, List, ℕ, ◌+◌, ◌*◌, ◌/◌, ◌%◌, leb, eqb, length, get_or}
use Rattle.types.specs.Base.{all_below, any_below}
use Rattle.positions.specs.declared.Key.{Key}
use Rattle.positions.specs.declared.position.Position.{Position}
use Rattle.positions.specs.Key.{same_key}

-- the key whose four words start at `at`
abbrev pub key_from : List ℕ → ℕ → Key
key_from words at = record { 0 = get_or words at 0; 1 = get_or words (at + 1) 0; 2 = get_or words (at + 2) 0; 3 = get_or words (at + 3) 0 }

-- 'A position is nine words: kind (0 empty, 1 voting, 2 pool), amount, activation, start flag (0 or 1), unlocking start, key (4).'
abbrev pub position_from : List ℕ → ℕ → Position
position_from words at = record {
  kind = get_or words at 0;
  amount = record { 0 = get_or words (at + 1) 0 };
  activation_epoch = record { 0 = get_or words (at + 2) 0 };
  start_flag = get_or words (at + 3) 0;
  unlocking_start = record { 0 = get_or words (at + 4) 0 };
  publisher = key_from words (at + 5);
}

-- one position's kind and flag; 'in an empty one the other eight are not read'
unfoldable pub position_holds : List ℕ → ℕ → Bool
position_holds words at = leb (get_or words at 0) 2 && (eqb (get_or words at 0) 0 || leb (get_or words (at + 3) 0) 1)

-- refusal 4, where this is false: 'positions: not whole nines, over 256, kind, flag'
unfoldable pub positions_hold : List ℕ → Bool
positions_hold words =
    eqb (length words % 9) 0 && (leb (length words / 9) 256 && all_below (length words / 9) (λ (i : ℕ). position_holds words (i * 9)))

-- item 8's 'with this publisher': a pool position with the publisher's key
unfoldable pub in_publisher : List ℕ → ℕ → Key → Bool
in_publisher words at publisher = eqb (get_or words at 0) 2 && same_key (key_from words (at + 5)) publisher

-- refusals 24 and 27: 'holds one in this publisher'
unfoldable pub has_publisher : List ℕ → Key → Bool
has_publisher words publisher = any_below (length words / 9) (λ (i : ℕ). in_publisher words (i * 9) publisher)
