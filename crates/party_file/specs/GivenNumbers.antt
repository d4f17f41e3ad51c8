-- That the numbers of a party's file are those that the words of its input wires stand for.
use Rattle.std.specs.Prelude.{◌≡◌, ℕ, ◌+◌, ◌*◌, ◌<◌, Bool, true, List, [], length, slice_index, slice_index_or, Some, Ok, codes}
use Rattle.toml.specs.Data.{Members}
use Rattle.toml_fields.specs.Fields.{texts_at}
use Rattle.toml_fields.specs.Documents.{document_of}
use Rattle.list_laws.specs.Lists.{total}
use Rattle.plan_model.specs.Plans.{Plan, session}
use Rattle.value_words.specs.Turned.{column, is_numeric}
use Rattle.party_file.specs.Table.{given_widths, numbers_in, party_in, PartyForm}

-- the number that wires with these words stand for in a lane: those of a value, which follow those of the values before
abbrev pub number_of_value : List ℕ → List ℕ → ℕ → ℕ → ℕ
number_of_value widths words value lane =
    column (slice_index widths value) (λ wire. slice_index words (total value (slice_index widths) + wire)) lane

-- words of the wires of values of these widths stand for these numbers, one for each lane of each value
pub record StandFor (lanes : ℕ) (widths words numbers : List ℕ) : Type 0 where
  pub count : length numbers ≡ length widths * lanes
  pub each : (value lane : ℕ) → value < length widths → lane < lanes
      → number_of_value widths words value lane ≡ slice_index numbers (value * lanes + lane)

-- What a file without a fault gives in a session of numbers stands for the numbers that are written there.
abbrev pub InputsAreNumbers : Type 0
InputsAreNumbers =
    (numeric : List Bool) (plan : Plan) (p : ℕ) (bytes : List ℕ) (fields : Members) (form : PartyForm)
    → document_of bytes ≡ Some fields → party_in numeric plan p bytes ≡ Ok form
    → (s : ℕ) → s < length plan.sessions → is_numeric numeric s ≡ true
    → StandFor plan.bits (given_widths (session plan s) p) (slice_index_or form.inputs s [])
    (numbers_in (slice_index_or (texts_at (codes "inputs") fields) s []))
