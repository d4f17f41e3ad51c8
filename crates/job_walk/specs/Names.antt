-- The names of the job's files, within their folder.
use Rattle.std.specs.Prelude.{ℕ, List, ◌++◌, codes}

abbrev pub job_file : List ℕ
job_file = codes "job.toml"

-- the file of other inputs
abbrev pub other_file : List ℕ
other_file = codes "other.toml"

-- the file of a written view
abbrev pub view_file : List ℕ
view_file = codes "view.txt"

-- the file of a party
unfoldable pub party_file : List ℕ → List ℕ
party_file name = codes "party_" ++ (name ++ codes ".toml")

-- the path of a file of a folder
unfoldable pub path_of : List ℕ → List ℕ → List ℕ
path_of dir name = dir ++ (codes "/" ++ name)
