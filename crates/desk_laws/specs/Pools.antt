-- All desks of a world, over any cells.
use Rattle.std.specs.Prelude.{◌≡◌, ◌⊎◌, ℕ, ◌+◌, ◌-◌, ◌*◌, ◌/◌, ◌%◌, List, [], ◌∷◌, length, slice_get, Some}
use Rattle.share_world.specs.Worlds.{World}
use Rattle.program_model.specs.declared.instruction.Instruction.TheVariants.{Take}
use Rattle.program_model.specs.Programs.{at}
use Rattle.party_desk.specs.declared.desk.Desk.{Desk}
use Rattle.party_desk.specs.declared.desk.Stepped.{Stepped}
use Rattle.party_desk.specs.declared.desk.Stepped.TheVariants.{Moved, NotYet, Ended}
use Rattle.party_desk.specs.Desks.{IsDesk}
use Rattle.program_laws.specs.Lawful.{given_to, program_of}
use Rattle.desk_laws.specs.InWorld.{HasPosts}

-- a desk for each party in each session, by number, and each stands where its program leaves it in the world
pub record AreDesks (w : World) (ds : List Desk) : Type 0 where
  pub many : length ds ≡ w.plan.parties * length w.plan.sessions
  pub desks : (k : ℕ) (d : Desk) → slice_get ds k ≡ Some d → IsDesk (given_to w k) d

-- the words that the desks posted are among these, each at its number
abbrev pub AllHavePosts : (ℕ → ℕ → Type 0) → World → List Desk → Type 0
AllHavePosts has w ds =
    (k : ℕ) (d : Desk) → slice_get ds k ≡ Some d → HasPosts has w (k / w.plan.parties) (k % w.plan.parties) d.position

-- desk k, which stands at this position, is at its end, or at a take of a message of which these words have none
abbrev pub Stuck : (ℕ → ℕ → Type 0) → World → ℕ → ℕ → Type 0
Stuck has w k position =
    (position ≡ length (program_of w k))
    ⊎ ((n : ℕ) × (i : ℕ) × (at (program_of w k) position ≡ Take n i) × ((v : ℕ) → ¬ has n v))

-- each desk is
abbrev pub AllStuck : (ℕ → ℕ → Type 0) → World → List Desk → Type 0
AllStuck has w ds = (k : ℕ) (d : Desk) → slice_get ds k ≡ Some d → Stuck has w k d.position

-- each desk is at its end
abbrev pub AllEnded : World → List Desk → Type 0
AllEnded w ds = (k : ℕ) (d : Desk) → slice_get ds k ≡ Some d → d.position ≡ length (program_of w k)

-- 1 where the desk moved
abbrev pub moves_of : Stepped → ℕ
moves_of Moved = 1
moves_of (NotYet n) = 0
moves_of Ended = 0

-- how many instructions are left
abbrev pub left : Desk → ℕ
left d = d.instructions - d.position

-- in all
abbrev pub left_all : List Desk → ℕ
left_all [] = 0
left_all (d ∷ ds) = left d + left_all ds
