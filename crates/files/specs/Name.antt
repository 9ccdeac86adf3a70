-- The second name under which a file is written, and the name of its folder. Assumes nothing.
use Rattle.std.specs.Prelude.{◌≡◌, List, [], ◌∷◌, ◌++◌, ℕ, zero, suc, ◌<◌, ◌≤◌, length, take, ℤ, pos, negsuc, Option, None, Some, decimal}
use Rattle.text.specs.Items.{Last}
use Rattle.files.specs.declared.second.Second.{Second}

-- a dot and a word in decimal
unfoldable pub dotted : ℕ → List ℕ
dotted n = 46 ∷ decimal n

-- what the second name has behind the path: the process's number, a number, `.new`
unfoldable pub ending_of : (process number : ℕ) → List ℕ
ending_of process number = dotted process ++ (dotted number ++ (46 ∷ 110 ∷ 101 ∷ 119 ∷ []))

-- the second name of a path
unfoldable pub second_name : (path : List ℕ) (process number : ℕ) → List ℕ
second_name path process number = path ++ ending_of process number

-- the number of a process, 0 for a negative one
abbrev pub number_of : ℤ → ℕ
number_of (pos n) = n
number_of (negsuc n) = 0

-- a file was made under one of a hundred second names
pub record SecondMade {F : Type 0} (path : List ℕ) (process : ℕ) (r : Second F) : Type 0 where
  pub below : r.number < 100
  pub named : r.name.bytes ≡ second_name path process r.number
  pub fits : length (second_name path process r.number) ≤ 4095

-- the name of a path's folder, the path's last slash standing at a place: what stands before that, the slash itself where it is the first byte, `.`
-- where there is none
abbrev pub folder_in : List ℕ → Option ℕ → List ℕ
folder_in path None = 46 ∷ []
folder_in path (Some zero) = 47 ∷ []
folder_in path (Some (suc at)) = take (suc at) path

pub record FolderOf (path folder : List ℕ) : Type 0 where
  pub by : (at : Option ℕ) → Last 47 path at → folder ≡ folder_in path at
