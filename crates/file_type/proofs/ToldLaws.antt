-- Laws of what lstat's answer comes to. Assumes nothing.
use Rattle.std.proofs.Common.{◌≡◌, ℕ, ap, refl, eq-eqb, ne_eqb}
use Rattle.std.specs.Prelude.{ℤ, pos, negsuc, Option, None, Some, Ok, Err, bit_and}
use Rattle.std.specs.declared.fs.attrs.Metadata.{Metadata}
use Rattle.std.specs.declared.io.Error.{Error}
use Rattle.std.specs.Fs.{metadata_mode}
use Rattle.std.specs.IoError.{raw_os_error}
use Rattle.file_type.specs.declared.FileType.TheVariants.{Nothing, Regular, Other}
use Rattle.file_type.specs.Told.{kind_of, failed_of, told_of}

-- by the mode's bits
pub regular : (mode : ℕ) → bit_and mode 0o170000 ≡ 0o100000 → Regular ≡ kind_of mode
regular mode e = rw (eq-eqb _ _ e)

pub irregular : (mode : ℕ) → (bit_and mode 0o170000 ≡ 0o100000 → ⊥) → Other ≡ kind_of mode
irregular mode h = rw (ne_eqb _ _ h)

-- by the error
pub absent : (error : Option ℤ) → error ≡ Some (pos 2) → Nothing ≡ failed_of error
absent error e = rw e refl

pub unknown : (error : Option ℤ) → (error ≡ Some (pos 2) → ⊥) → Other ≡ failed_of error
unknown (Some (pos n)) h = rw (ne_eqb n 2 (λ e. h (ap (λ (i : ℕ). Some (pos i)) e)))
unknown (Some (negsuc n)) h = refl
unknown None h = refl

-- by whether it found a file
pub found : (metadata : Metadata) → kind_of (metadata_mode metadata) ≡ told_of (Ok metadata)
unfolding told_of
found metadata = refl

pub failed : (error : Error) → failed_of (raw_os_error error) ≡ told_of (Err error)
unfolding told_of
failed error = refl
