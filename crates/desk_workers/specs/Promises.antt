-- The world that a board's words are promised by.
use Rattle.std.specs.Prelude.{ℕ, List, [], ◌∷◌, map, take}
use Rattle.plan_model.specs.Messages.{messages}
use Rattle.plan_model.specs.Numbers.{message}
use Rattle.share_world.specs.Worlds.{World, word}
use Rattle.program_model.specs.declared.instruction.Instruction.{Instruction}
use Rattle.program_model.specs.declared.instruction.Instruction.TheVariants.{Post}
use Rattle.program_model.specs.Programs.{program}
use Rattle.party_desk.specs.declared.desk.Desk.{Desk}
use Rattle.desk_laws.specs.Pieces.{world_of_pieces}
use Rattle.desk_workers.specs.declared.promised.Promised.{Promised}

-- the world that a board is about
abbrev pub world_in : Promised → World
world_in promised = world_of_pieces promised.plan.value promised.inputs.value promised.pieces.value.items

-- the words of all messages, in order
abbrev pub words_of : World → List ℕ
words_of w = map (word w) (messages w.plan)

-- the number and the word of each post among these instructions
abbrev pub posted_pairs : World → List Instruction → List (ℕ × ℕ)
posted_pairs w [] = []
posted_pairs w (Post n i ∷ es) = (n, word w (message w.plan n)) ∷ posted_pairs w es
posted_pairs w (e ∷ es) = posted_pairs w es

-- what the desk posted
abbrev pub posted_by : World → Desk → List (ℕ × ℕ)
posted_by w d = posted_pairs w (take d.position (program w.plan d.party d.session))
