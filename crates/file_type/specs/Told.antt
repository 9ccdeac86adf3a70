-- What lstat's answer comes to. Assumes nothing.
use Rattle.std.specs.Prelude.{ℕ, cond, eqb, ℤ, pos, negsuc, Option, None, Some, Result, Ok, Err, bit_and}
use Rattle.std.specs.declared.fs.attrs.Metadata.{Metadata}
use Rattle.std.specs.declared.io.Error.{Error}
use Rattle.std.specs.Fs.{metadata_mode}
use Rattle.std.specs.IoError.{raw_os_error}
use Rattle.file_type.specs.declared.FileType.{FileType}
use Rattle.file_type.specs.declared.FileType.TheVariants.{Nothing, Regular, Other}

-- a mode says what kind of file it is by its bits in S_IFMT, which are S_IFREG for a regular one
abbrev pub kind_of : ℕ → FileType
kind_of mode = cond (eqb (bit_and mode 0o170000) 0o100000) Regular Other

-- a failed lstat leaves ENOENT, 2, where nothing stands at the path
abbrev pub failed_of : Option ℤ → FileType
failed_of (Some (pos n)) = cond (eqb n 2) Nothing Other
failed_of (Some (negsuc n)) = Other
failed_of None = Other

-- lstat finds a file, with its mode, or fails
unfoldable pub told_of : Result Metadata Error → FileType
told_of (Ok metadata) = kind_of (metadata_mode metadata)
told_of (Err error) = failed_of (raw_os_error error)
