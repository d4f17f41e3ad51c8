-- The texts on `err` that are no refusal of a job.
use Rattle.std.specs.Prelude.{ℕ, List, [], ◌∷◌, codes}
use Rattle.std.specs.List.{concat}

-- a file that could not be read
unfoldable pub files_fault_line : List ℕ → List ℕ
files_fault_line name = concat (codes "fault files file=" ∷ name ∷ codes "\n" ∷ [])

-- an `out` that could not be written
unfoldable pub out_fault_line : List ℕ
out_fault_line = codes "fault out\n"

-- the net, where it gave no links
unfoldable pub net_fault_line : List ℕ
net_fault_line = codes "fault net\n"

-- words that are refused
unfoldable pub usage_text : List ℕ
usage_text =
    codes "refused words\nusage: mpc check DIR\n       mpc run DIR [--workers W] [--view GROUP]\n       mpc pair DIR --group GROUP\n       mpc node DIR NAME\n       mpc sample N\n       mpc audit DIR\n"
