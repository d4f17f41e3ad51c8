-- The output values of a session, and the line of one for one reader.
use Rattle.std.specs.Prelude.{ℕ, List, ◌++◌, slice_index_or, codes, decimal}
use Rattle.list_laws.specs.Lists.{total}
use Rattle.session_slots.specs.declared.values.OutputValue.{OutputValue}
use Rattle.session_slots.specs.Sessions.{Session}
use Rattle.text_parts.specs.Parts.{words_text}

abbrev pub no_output : OutputValue
no_output = record { width = 0; readers = record { parties = 0; mask = 0 } }

abbrev pub output_value : Session → ℕ → OutputValue
output_value s v = slice_index_or s.outputs v no_output

-- how many output wires stand before those of value v
abbrev pub wires_before : Session → ℕ → ℕ
wires_before s v = total v (λ u. (output_value s u).width)

abbrev pub out_head : ℕ → ℕ → List ℕ → List ℕ
out_head session value reader =
    codes "out " ++ (decimal session ++ (codes " " ++ (decimal value ++ (codes " " ++ reader))))

-- an output value and its words, for one reader
abbrev pub out_line : ℕ → ℕ → List ℕ → List ℕ → List ℕ
out_line session value reader words = out_head session value reader ++ (words_text words ++ codes "\n")
