-- What a list of instructions posts and takes, in order.
use Rattle.std.specs.Prelude.{ℕ, List, [], ◌∷◌, flat_map}
use Rattle.program_model.specs.declared.instruction.Instruction.{Instruction}
use Rattle.program_model.specs.declared.instruction.Instruction.TheVariants.{Post, Take}

-- the message that an instruction posts, if it does
abbrev pub post_no : Instruction → List ℕ
post_no (Post n i) = n ∷ []
post_no _ = []

-- and the one that it takes
abbrev pub take_no : Instruction → List ℕ
take_no (Take n i) = n ∷ []
take_no _ = []

-- the messages that the instructions post, in order
abbrev pub posted_by : List Instruction → List ℕ
posted_by es = flat_map post_no es

-- and those that they take
abbrev pub taken_by : List Instruction → List ℕ
taken_by es = flat_map take_no es
