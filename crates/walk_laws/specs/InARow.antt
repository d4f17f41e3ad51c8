-- Two calls of the top call in a row.
use Rattle.std.specs.Prelude.{◌≡◌, ℕ, ◌+◌, ◌≤◌, List, length, Option, None, Some}
use Rattle.outer_io.specs.Sink.{SinkReading}
use Rattle.command_words.specs.Commands.{command_of, node}
use Rattle.job_walk.specs.Verdict.{Verdict, accepted, missing, refused}
use Rattle.job_walk.specs.JobOf.{Contents}
use Rattle.mpc_top.specs.Texts.{files_fault_line}
use Rattle.mpc_top.specs.Outside.{Outside}
use Rattle.mpc_top.specs.Due.{Due, text, talk, IsDue}
use Rattle.mpc_top.specs.Command.{AnyRose, IsSteady, HasRoom, IsGiven, Answers}

-- a call, and another after it, for both of which there was enough memory
pub record InARow (words next_words : List (List ℕ)) (start middle end : Outside)
    (status next_status : ℕ) : Type 0 where
  pub call : Answers words start middle status
  pub next_call : Answers next_words middle end next_status
  pub memory : ¬ (status ≡ 6)
  pub next_memory : ¬ (next_status ≡ 6)

-- the text that a verdict is due; what a talk is due depends on what comes over its links
abbrev pub text_due : Verdict Due → Option (List ℕ)
text_due (accepted (text due)) = Some due
text_due (accepted (talk job)) = None
text_due (missing name) = Some (files_fault_line name)
text_due (refused status line) = Some line

-- the sink that gets it
abbrev pub sink_due : Verdict Due → Outside → SinkReading
sink_due (accepted due) outside = outside.out
sink_due (missing name) outside = outside.err
sink_due (refused status line) outside = outside.err

-- At the start the files hold this, both verdicts are due over it, and there is room for both texts. Neither is due a
-- talk: what that writes depends on what comes over its links.
pub record AreDueTogether (words next_words : List (List ℕ)) (start : Outside) (files : Contents)
    (verdict next_verdict : Verdict Due) (due next_due : List ℕ) : Type 0 where
  pub text : text_due verdict ≡ Some due
  pub next_text : text_due next_verdict ≡ Some next_due
  pub told : start.files.told ≡ Some files
  pub is_due : IsDue (command_of words) (Some files) verdict
  pub next_is_due : IsDue (command_of next_words) (Some files) next_verdict
  pub room : HasRoom start verdict
  pub room_for_both :
      length due + length next_due
      ≤ (sink_due next_verdict start).room

-- over a steady outside both calls give what they are due over the files of the start
abbrev pub AreBothGiven : Type 0
AreBothGiven =
    (words next_words : List (List ℕ)) (start middle end : Outside) (status next_status : ℕ)
    (files : Contents) (verdict next_verdict : Verdict Due) (due next_due : List ℕ)
    → InARow words next_words start middle end status next_status
    → AreDueTogether words next_words start files verdict next_verdict due next_due
    → IsSteady start
    → IsGiven start middle status verdict × IsGiven middle end next_status next_verdict

-- The same words over files that tell have the same status again, where no count rose. Those of a node are left out:
-- their answer depends on what comes over its links.
abbrev pub HaveOneStatus : Type 0
HaveOneStatus =
    (words : List (List ℕ)) (start middle end : Outside) (status next_status : ℕ) (files : Contents)
    → InARow words words start middle end status next_status
    → ((dir name : List ℕ) → ¬ (command_of words ≡ Some (node dir name)))
    → start.files.told ≡ Some files
    → ¬ AnyRose start middle → ¬ AnyRose middle end
    → next_status ≡ status
