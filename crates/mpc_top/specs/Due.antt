-- What the words of a call are due over files: a verdict.
use Rattle.std.specs.Prelude.{◌≡◌, ℕ, List, map, Option, None, Some, IfSome, String, string_bytes}
use Rattle.std.specs.declared.alloc.Global.{Global}
use Rattle.outer_io.specs.Files.{Told}
use Rattle.command_words.specs.Commands.{CommandForm, run, check, pair, node, sample, audit}
use Rattle.output_text.specs.CheckText.{check_text}
use Rattle.output_text.specs.AuditText.{yes_text}
use Rattle.output_text.specs.RunText.{run_text}
use Rattle.output_text.specs.PairText.{pair_text}
use Rattle.output_text.specs.SampleText.{sample_text}
use Rattle.sample_maker.specs.Samples.{sample_names, sample_job}
use Rattle.mpc_top.specs.Texts.{usage_text}
use Rattle.job_walk.specs.Verdict.{Verdict, accepted, refused, Ends, Then}
use Rattle.job_walk.specs.JobOf.{Contents, Planned, PlanAt}
use Rattle.job_walk.specs.NodeOf.{NodeForm, NodeAt}
use Rattle.mpc_top.specs.WholeJobs.{WholeJob, PairedJob, second_of, JobAt, PairAt}
use Rattle.mpc_top.specs.Audits.{AuditAt}

-- the bytes of each word
abbrev pub words_view : List (String Global) → List (List ℕ)
words_view words = map string_bytes words

-- what is due where the files are accepted: a text; or a talk of one party with the others, and then its outputs
pub data Due : Type 0 where
  text : List ℕ → Due
  talk : NodeForm → Due

-- what a command is due over files; how many workers run a job changes nothing
unfoldable pub DueOf : CommandForm → Contents → Verdict Due → Type 0
DueOf (run dir workers view) files =
    Then (JobAt files dir view) (λ (job : WholeJob).
    Ends (accepted (text (run_text job.names job.numeric job.world job.group))))
DueOf (check dir) files =
    Then (PlanAt files dir None) (λ (p : Planned). Ends (accepted (text (check_text p.names p.plan))))
DueOf (pair dir group) files =
    Then (PairAt files dir group) (λ (p : PairedJob).
    Ends (accepted (text (pair_text p.names p.numeric p.first (second_of p) p.group))))
DueOf (node dir name) files = Then (NodeAt files dir name) (λ (job : NodeForm). Ends (accepted (talk job)))
DueOf (sample count) files =
    Ends (accepted (text (sample_text sample_names (sample_job count) count)))
DueOf (audit dir) files =
    Then (AuditAt files dir) (λ (count : ℕ). Ends (accepted (text (yes_text count))))

-- the words are those of a node
abbrev pub AsksForNode : Option CommandForm → Type 0
AsksForNode command = (dir : List ℕ) × (name : List ℕ) × (command ≡ Some (node dir name))

-- a command that is no node's
abbrev pub IsAlone : CommandForm → Type 0
IsAlone (node dir name) = ⊥
IsAlone command = Unit {0}

-- whatever the files tell, a talk is due to the words of a node alone
abbrev pub Suits : Option CommandForm → Verdict Due → Type 0
Suits command (accepted (talk job)) = AsksForNode command
Suits command verdict = Unit {0}

-- what the files tell, as far as the command looks at it: a sample reads none, so it is as if there were none
abbrev pub told_to : CommandForm → Told → Told
told_to (sample count) told = Some (λ name. None)
told_to command told = told

-- the verdict that is due, as far as the files tell; words that ask for nothing are refused with the usage
abbrev pub IsDue : Option CommandForm → Told → Verdict Due → Type 0
IsDue None told verdict = verdict ≡ refused 2 usage_text
IsDue (Some command) told verdict = IfSome (told_to command told) (λ files. DueOf command files verdict)
