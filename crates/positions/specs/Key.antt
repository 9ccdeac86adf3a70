-- Keys. Assumes nothing.
use Rattle.std.specs.Prelude.{Bool, ◌&&◌, eqb}
use Rattle.positions.specs.declared.Key.{Key}

-- whether two keys are the same, word by word
unfoldable pub same_key : Key → Key → Bool
same_key a b = eqb a.0 b.0 && (eqb a.1 b.1 && (eqb a.2 b.2 && eqb a.3 b.3))
