-- What a party does in a slot of a pattern, and the instructions that it becomes in a slot.
use Rattle.std.specs.Prelude.{ℕ, ◌+◌, ◌<◌, Bool, false, nat_eq, nat_lt, List, [], ◌∷◌, ◌++◌, map, filter, length}
use Rattle.std.specs.List.{enumerate_from}
use Rattle.list_laws.specs.Lists.{only_if}
use Rattle.secret_sharing.specs.Schemes.{has_pair}
use Rattle.party_set.specs.Parties.{has_party}
use Rattle.plan_model.specs.declared.pattern.Transfer.{Transfer}
use Rattle.plan_model.specs.declared.pattern.Pattern.{Pattern}
use Rattle.plan_model.specs.declared.pattern.Pattern.TheVariants.{Silent, Dealt, Multiplied, Opened, HandedOut, OpenedToAll, Joined, Held, Received}
use Rattle.plan_model.specs.Plans.{Plan, scheme, least_held}
use Rattle.plan_model.specs.Patterns.{transfers}
use Rattle.program_model.specs.declared.half.Half.{Half}
use Rattle.program_model.specs.declared.half.Half.TheVariants.{Head, Tail}
use Rattle.program_model.specs.declared.instruction.Instruction.{Instruction}
use Rattle.program_model.specs.declared.instruction.Instruction.TheVariants as instruction
use Rattle.party_program.specs.declared.step.Step.{Step}
use Rattle.party_program.specs.declared.step.Step.TheVariants.{Draw, Deal, Own, Post, Take, Linear, Sum, Open, Join, Deliver}

-- what p does before its posts
abbrev pub steps_before : Plan → ℕ → Pattern → List Step
steps_before plan p Silent = Linear ∷ []
steps_before plan p (Dealt q) = only_if (nat_eq q p) (Deal ∷ [])
steps_before plan p Multiplied = only_if (has_pair (scheme plan) p) (Own ∷ Deal ∷ [])
steps_before plan p HandedOut = only_if (nat_lt 0 (least_held plan p (length plan.groups))) (Draw ∷ [])
steps_before plan p _ = []

-- p deals in a slot of this pattern
abbrev pub deals_in_pattern : Plan → ℕ → Pattern → Bool
deals_in_pattern plan p (Dealt q) = nat_eq q p
deals_in_pattern plan p Multiplied = has_pair (scheme plan) p
deals_in_pattern plan p _ = false

-- the post of a transfer with its place in the pattern
abbrev pub post_step : ℕ × Transfer → Step
post_step entry = Post entry.1.share entry.0

-- the take of a transfer
abbrev pub take_step : ℕ × Transfer → Step
take_step entry = Take entry.1.share entry.0

-- whether p is the sender of the transfer
abbrev pub is_from : ℕ → ℕ × Transfer → Bool
is_from p entry = nat_eq entry.1.sender p

-- whether p is its receiver
abbrev pub is_to : ℕ → ℕ × Transfer → Bool
is_to p entry = nat_eq entry.1.receiver p

-- the posts of p in a slot of this pattern
abbrev pub post_steps : Plan → ℕ → Pattern → List Step
post_steps plan p pattern = map post_step (filter (is_from p) (enumerate_from 0 (transfers plan pattern)))

-- the transfers that are taken in a slot of this pattern: where a wire is received, those by which it is kept, which
-- are not taken where it is kept
abbrev pub taken_transfers : Plan → Pattern → List Transfer
taken_transfers plan Held = []
taken_transfers plan Received = transfers plan Held
taken_transfers plan pattern = transfers plan pattern

-- its takes there
abbrev pub take_steps : Plan → ℕ → Pattern → List Step
take_steps plan p pattern = map take_step (filter (is_to p) (enumerate_from 0 (taken_transfers plan pattern)))

-- what p does after its takes
abbrev pub steps_after : ℕ → Pattern → List Step
steps_after p Multiplied = Sum ∷ []
steps_after p (Opened readers) = only_if (has_party readers p) (Deliver ∷ [])
steps_after p OpenedToAll = Open ∷ []
steps_after p Joined = Join ∷ []
steps_after p _ = []

-- what p does in the one half of a slot of this pattern, or in the other
abbrev pub steps : Plan → ℕ → Half → Pattern → List Step
steps plan p Head pattern = steps_before plan p pattern ++ post_steps plan p pattern
steps plan p Tail pattern = take_steps plan p pattern ++ steps_after p pattern

-- the instruction of a step in slot k, in which the first message that is posted or taken has this number, where p has
-- made `deals` deals before
abbrev pub placed : ℕ → ℕ → ℕ → Step → Instruction
placed k first deals Draw = instruction.Draw k
placed k first deals Deal = instruction.Deal k deals
placed k first deals Own = instruction.Own k
placed k first deals (Post share place) = instruction.Post (first + place) share
placed k first deals (Take share place) = instruction.Take (first + place) share
placed k first deals Linear = instruction.Linear k
placed k first deals Sum = instruction.Sum k
placed k first deals Open = instruction.Open k
placed k first deals Join = instruction.Join k
placed k first deals Deliver = instruction.Deliver k

-- a message that the step names is one of `count`
abbrev pub IsPlaced : ℕ → Step → Type 0
IsPlaced count (Post share place) = place < count
IsPlaced count (Take share place) = place < count
IsPlaced count _ = Unit {0}
