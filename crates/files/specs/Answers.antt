-- What a save can answer. Assumes nothing.
use Rattle.std.specs.Prelude.{◌≡◌, List, ℕ, ◌+◌, ◌<◌, length, Result, Err}
use Rattle.files.specs.declared.SaveError.{SaveError}
use Rattle.files.specs.declared.SaveError.TheVariants.{CannotWrite}

-- a path that has no room in 4,095 bytes with the shortest ending, eight bytes long, can't be written
abbrev pub LongRefused : {T : Type 0} → List ℕ → Result T SaveError → Type 0
LongRefused path r = 4095 < length path + 8 → r ≡ Err CannotWrite
