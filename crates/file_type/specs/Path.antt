-- A path as the system takes it. Assumes nothing.
use Rattle.std.specs.Prelude.{ℕ, Bool, not, ◌&&◌, List, ltb, eqb, length}
use Rattle.std.specs.List.{list_all}

-- there is room for a 0 behind the last byte, and no byte is 0
unfoldable pub is_path : List ℕ → Bool
is_path path = ltb (length path) 4096 && list_all (λ byte. not (eqb byte 0)) path
