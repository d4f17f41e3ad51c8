-- An audit says yes to what a run writes of a view.
use Rattle.std.proofs.Common.{◌≡◌, ℕ, ◌^◌, ◌<◌, ◌≤◌, Bool, true, false, if◌then◌else◌, List, [], length, Option, None, Some, Ok, refl, sym, ap, ◌∙◌, subst}
use Rattle.std.specs.Prelude.{codes}
use Rattle.std.specs.Option.{option_map}
use Rattle.std.specs.Str.{bytes_eq}
use Rattle.std.proofs.lemmas.Bool.{le-leb}
use Rattle.std.proofs.lemmas.Nat.{pow_pos}
use Rattle.list_laws.proofs.FirstFaults.{or_fault-ok}
use Rattle.party_set.specs.Parties.{Structure, Members}
use Rattle.job_file.specs.Faults.{bad_name}
use Rattle.job_file.specs.Forms.{JobForm}
use Rattle.group_text.specs.GroupTexts.{no_member, group_of, group_in, parts_of}
use Rattle.group_text.specs.declared.fault.GroupFault.TheVariants.{BadGroup}
use Rattle.refusal_text.specs.Lines.{too_long_line, group_line}
use Rattle.share_world.specs.Worlds.{view}
use Rattle.job_walk.specs.Names.{path_of, view_file}
use Rattle.job_walk.specs.Verdict.{accepted, refused, Then}
use Rattle.job_walk.specs.JobOf.{Contents, Planned, bytes_of, file_at, GroupOf, PlannedOf, PlanOf, PlanAt}
use Rattle.mpc_top.specs.WholeJobs.{WholeJob, whole_job, JobAt}
use Rattle.mpc_top.specs.Audits.{AuditAt}
use Rattle.mpc_top.specs.Due.{DueOf}
use Rattle.walk_laws.specs.WrittenViews.{written_view, WrittenViewsAreAudited}
use Rattle.mpc_top.proofs.WholeWorlds.{accepted_is, was_ok}
use Rattle.job_laws.proofs.ReadJobs.{mask_below}
use Rattle.job_limits.specs.declared.limits.TheConstants.{FILE_LIMIT}

-- ---- a group that a text names

named_small : (names : List (List ℕ)) (parts : List (List ℕ)) (group : Members) → group_of names parts ≡ Ok group → group.mask < 2 ^ length names
unfolding group_of
named_small names parts group e =
    let both = or_fault-ok (option_map (λ at. BadGroup at) (bad_name names [] parts)) _ group (sym e) in
    subst (λ (g : Members). g.mask < 2 ^ length names) (sym both.1) (mask_below names parts (no_bad (bad_name names [] parts) both.0))
  where
    no_bad : (o : Option ℕ) → option_map (λ at. BadGroup at) o ≡ None → o ≡ None
    no_bad None e = refl
    no_bad (Some at) e = cc

group_small : (names : List (List ℕ)) (asked : List ℕ) (group : Members) → group_in names asked ≡ Ok group → group.mask < 2 ^ length names
unfolding group_in
group_small names asked group e = go (bytes_eq asked (codes "0")) e
  where
    go : (b : Bool) → (if b then Ok (no_member names) else group_of names (parts_of asked)) ≡ Ok group → group.mask < 2 ^ length names
    go true e = subst (λ (g : Members). g.mask < 2 ^ length names) (let same : no_member names ≡ group = cc in same) (pow_pos (length names))
    go false e = named_small names (parts_of asked) group e

-- ---- the same job, of which no group is asked

abbrev with_group : Option Members → Planned → Planned
with_group group planned = record planned { group = group }

planned_alone : (files : Contents) (dir : List ℕ) (job : JobForm) (group other : Option Members) (s : Structure) (planned : Planned)
    → PlannedOf files dir job group s (accepted planned) → PlannedOf files dir job other s (accepted (with_group other planned))
unfolding PlannedOf PlanOf Then
planned_alone files dir job group other s planned (sessions, read, (plan, within, e)) =
    (sessions, read, (plan, within, ap (λ (p : Planned). accepted (with_group other p)) (accepted_is planned _ e)))

planned_group : (files : Contents) (dir : List ℕ) (job : JobForm) (group : Option Members) (s : Structure) (planned : Planned)
    → PlannedOf files dir job group s (accepted planned) → (planned.group ≡ group) × (planned.names ≡ job.names)
unfolding PlannedOf PlanOf Then
planned_group files dir job group s planned (sessions, read, (plan, within, e)) =
    (ap (λ (p : Planned). p.group) (accepted_is planned _ e), ap (λ (p : Planned). p.names) (accepted_is planned _ e))

asked_small : (names : List (List ℕ)) (asked : List ℕ) (found : Option Members) (group : Members) → GroupOf names (Some asked) (accepted found) → found ≡ Some group → group.mask < 2 ^ length names
unfolding GroupOf Then
asked_small names asked found group (g, there, e) is =
    let same : g ≡ group = some_is g group (sym (accepted_is found (Some g) e) ∙ is) in
    subst (λ (g : Members). g.mask < 2 ^ length names) same (group_small names asked g (was_ok group_line (group_in names asked) g there))
  where
    some_is : (a b : Members) → Some a ≡ Some b → a ≡ b
    some_is a b e = cc

plan_alone : (files : Contents) (dir asked : List ℕ) (planned : Planned) → PlanAt files dir (Some asked) (accepted planned) → PlanAt files dir None (accepted (with_group None planned))
unfolding PlanAt GroupOf Then
plan_alone files dir asked planned (job, text, (group, g, (s, found, is))) =
    (job, text, (None, refl, (s, found, planned_alone files dir job group None s planned is)))

plan_small : (files : Contents) (dir asked : List ℕ) (planned : Planned) (group : Members) → PlanAt files dir (Some asked) (accepted planned) → planned.group ≡ Some group → group.mask < 2 ^ length planned.names
unfolding PlanAt Then
plan_small files dir asked planned group (job, text, (found, g, (s, structure, is))) same =
    let both = planned_group files dir job found s planned is in
    subst (λ names. group.mask < 2 ^ length names) (sym both.1) (asked_small job.names asked found group g (sym both.0 ∙ same))

job_alone : (files : Contents) (dir asked : List ℕ) (job : WholeJob) → JobAt files dir (Some asked) (accepted job) → JobAt files dir None (accepted (record job { group = None }))
unfolding JobAt Then
job_alone files dir asked job (planned, is, (forms, read, e)) =
    (with_group None planned, plan_alone files dir asked planned is, (forms, read, ap (λ (j : WholeJob). accepted (record j { group = None })) (accepted_is job (whole_job planned forms) e)))

job_small : (files : Contents) (dir asked : List ℕ) (job : WholeJob) (group : Members) → JobAt files dir (Some asked) (accepted job) → job.group ≡ Some group → group.mask < 2 ^ length job.names
unfolding JobAt Then
job_small files dir asked job group (planned, is, (forms, read, e)) same =
    let made : job ≡ whole_job planned forms = accepted_is job (whole_job planned forms) e in
    subst (λ (j : WholeJob). group.mask < 2 ^ length j.names) (sym made)
    (plan_small files dir asked planned group is (sym (ap (λ (j : WholeJob). j.group) made) ∙ same))

-- ---- the file

file_is : (files : Contents) (dir name bytes : List ℕ) → files (path_of dir name) ≡ Some bytes → length bytes ≤ FILE_LIMIT → accepted bytes ≡ file_at files dir name
unfolding file_at bytes_of
file_is files dir name bytes there short =
    sym (ap (λ o. bytes_of o name) there ∙ ap (λ b. if b then accepted bytes else refused 3 (too_long_line name)) (le-leb (length bytes) FILE_LIMIT short))

pub written_views_are_audited : WrittenViewsAreAudited
unfolding DueOf AuditAt Then
written_views_are_audited files dir asked job group is same there short = (
  length (view job.world group.mask),
  (
    record job { group = None },
    job_alone files dir asked job is,
    (
      written_view job group,
      file_is files dir view_file (written_view job group) there short,
      record {
        group = group.mask;
        parties = job_small files dir asked job group is same;
        lines = refl;
        counted = refl;
      },
    ),
  ),
  refl,
)
