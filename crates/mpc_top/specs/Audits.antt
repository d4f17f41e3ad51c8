-- What an audit of a folder comes to: its written view against the world of its job.
use Rattle.std.specs.Prelude.{◌≡◌, ℕ, List, None, Err}
use Rattle.plan_model.specs.declared.key.Key.{Key}
use Rattle.share_world.specs.Worlds.{view}
use Rattle.view_check.specs.declared.fault.CheckFault.{CheckFault}
use Rattle.view_check.specs.declared.fault.CheckFault.TheVariants.{WrongWord}
use Rattle.view_check.specs.Views.{verdict}
use Rattle.view_check.specs.Laws.{IsView, IsWrongWord}
use Rattle.refusal_text.specs.Lines.{view_line}
use Rattle.job_walk.specs.Names as file_names
use Rattle.job_walk.specs.Verdict.{Verdict, accepted, missing, refused, Ends, Then}
use Rattle.job_walk.specs.JobOf.{Contents, file_at}
use Rattle.mpc_top.specs.WholeJobs.{JobAt}

module _ (names : List (List ℕ)) (see : ℕ → List (Key × ℕ)) (text : List ℕ) where
  -- The line of the first fault of a text, where the group of each mask sees these messages. If that is a wrong word,
  -- the wanted one is the word of the line's message, and all lines before it are right.
  pub record IsViewRefusal (line : List ℕ) : Type 0 where
    pub fault : CheckFault
    pub line_is : line ≡ view_line fault
    pub is_fault : verdict names see text ≡ Err fault
    pub wrong : (n wanted found : ℕ) → fault ≡ WrongWord n wanted found → IsWrongWord names see text n wanted found

  -- The text is accepted, with a count, where its lines are those of the view of a group and the view has that many
  -- messages; otherwise it is refused with its first fault.
  abbrev pub Judged : Verdict ℕ → Type 0
  Judged (accepted count) = IsView names see text count
  Judged (missing name) = ⊥
  Judged (refused status line) = (status ≡ 3) × IsViewRefusal line

-- the written view of a folder, against the world of the job that its files stand for
unfoldable pub AuditAt : Contents → List ℕ → Verdict ℕ → Type 0
AuditAt files dir =
    Then (JobAt files dir None) (λ job.
    Then (Ends (file_at files dir file_names.view_file)) (λ text.
    Judged job.names (view job.world) text))
