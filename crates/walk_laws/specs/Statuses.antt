-- What single statuses say, as it follows from the answer of the top call.
use Rattle.std.specs.Prelude.{◌≡◌, ◌⊎◌, ℕ, List, [], ◌∷◌, Contains, Option, None, IsSome, Ok, Err}
use Rattle.outer_io.specs.Sink.{Writes}
use Rattle.node_talk.specs.declared.fault.NodeFault.{NodeFault}
use Rattle.command_words.specs.Commands.{CommandForm, command_of}
use Rattle.mpc_top.specs.Texts.{usage_text}
use Rattle.job_walk.specs.NodeOf.{NodeForm}
use Rattle.job_walk.specs.Verdict.{accepted, refused}
use Rattle.mpc_top.specs.Outside.{Outside}
use Rattle.mpc_top.specs.Due.{talk, Suits, IsDue}
use Rattle.mpc_top.specs.NodeTalks.{Talks, MeetsNobody}
use Rattle.mpc_top.specs.Command.{AnyRose, Answers}

-- no count of faults changed
pub record SameCounts (before after : Outside) : Type 0 where
  pub files : after.files.faults ≡ before.files.faults
  pub out : after.out.faults ≡ before.out.faults
  pub err : after.err.faults ≡ before.err.faults

-- a talk is due, and it ended with a fault, or the net gave no links for it
abbrev pub FailsToTalk : Option CommandForm → Outside → Outside → Type 0
FailsToTalk command before after =
    (job : NodeForm)
    × IsDue command before.files.told (accepted (talk job))
    × Suits command (accepted (talk job))
    × (((fault : NodeFault) × Talks job before after (Err fault)) ⊎ MeetsNobody job before after)

pub record StatusSays (words : List (List ℕ)) (before after : Outside) (status : ℕ) : Type 0 where
  pub one_of : Contains (0 ∷ 2 ∷ 3 ∷ 4 ∷ 5 ∷ 6 ∷ []) status
  -- 2: the words are refused, and `err` got the usage
  pub usage : status ≡ 2
      → (command_of words ≡ None)
      × (after.out ≡ before.out)
      × Writes usage_text before.err after.err (Ok tt)
  -- and words that are refused come to 2, where no count rose and memory sufficed
  pub refused_words : command_of words ≡ None → ¬ AnyRose before after → ¬ (status ≡ 6) → status ≡ 2
  -- 3 and 4: the files are refused with this status, and `err` got the line of that refusal
  pub refusal : (status ≡ 3) ⊎ (status ≡ 4)
      → (line : List ℕ)
      × IsSome (command_of words)
      × IsDue (command_of words) before.files.told (refused status line)
      × (after.out ≡ before.out)
      × Writes line before.err after.err (Ok tt)
  -- 5: a count of faults rose, or the talk of a node ended with a fault, or its net failed
  pub fault : status ≡ 5 → AnyRose before after ⊎ FailsToTalk (command_of words) before after
  -- 6: nothing was written
  pub memory : status ≡ 6 → (after.out ≡ before.out) × (after.err ≡ before.err)
  -- at any status but 5 no count changed
  pub quiet : ¬ (status ≡ 5) → SameCounts before after

abbrev pub StatusesSay : Type 0
StatusesSay =
    (words : List (List ℕ)) (before after : Outside) (status : ℕ)
    → Answers words before after status → StatusSays words before after status
