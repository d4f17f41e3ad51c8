-- That an audit says yes to what a run writes of a view.
use Rattle.std.specs.Prelude.{◌≡◌, ℕ, ◌≤◌, List, length, Some}
use Rattle.party_set.specs.Parties.{Members}
use Rattle.command_words.specs.Commands.{audit}
use Rattle.share_world.specs.Worlds.{view}
use Rattle.view_text.specs.ViewText.{view_text}
use Rattle.output_text.specs.AuditText.{yes_text}
use Rattle.job_walk.specs.Names.{path_of, view_file}
use Rattle.job_walk.specs.Verdict.{accepted}
use Rattle.job_walk.specs.JobOf.{Contents}
use Rattle.mpc_top.specs.WholeJobs.{WholeJob, JobAt}
use Rattle.mpc_top.specs.Due.{text, DueOf}
use Rattle.job_limits.specs.declared.limits.TheConstants.{FILE_LIMIT}

-- what a run of a job writes of a view, behind the outputs
abbrev pub written_view : WholeJob → Members → List ℕ
written_view job group = view_text job.names group.mask (view job.world group.mask)

-- Where the file of a folder's view has what a run of its job writes of the group that was asked for, and no more bytes
-- than a file may have, the folder's audit says yes, with the number of messages that the group sees.
abbrev pub WrittenViewsAreAudited : Type 0
WrittenViewsAreAudited =
    (files : Contents) (dir asked : List ℕ) (job : WholeJob) (group : Members)
    → JobAt files dir (Some asked) (accepted job) → job.group ≡ Some group
    → files (path_of dir view_file) ≡ Some (written_view job group) → length (written_view job group) ≤ FILE_LIMIT
    → DueOf (audit dir) files (accepted (text (yes_text (length (view job.world group.mask)))))
