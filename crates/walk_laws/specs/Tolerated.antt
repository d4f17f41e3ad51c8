-- The groups that a job's file tolerates, by what it says of them.
use Rattle.std.specs.Prelude.{◌≡◌, ℕ, ◌^◌, ◌<◌, ◌⊎◌, ◌↔◌, true, List, length, Option, Some, MatchBool}
use Rattle.std.specs.List.{Contains}
use Rattle.toml.specs.Data.{Members as Fields}
use Rattle.toml_fields.specs.Documents.{document_of}
use Rattle.party_set.specs.Parties.{has_party}
use Rattle.party_names.specs.Names.{name_at}
use Rattle.maximal_groups.specs.Families.{LiesWithin}
use Rattle.group_formula.specs.Trees.{Meaning, is_tolerated}
use Rattle.group_formula.specs.Formulas.{IsFormula}
use Rattle.job_file.specs.Forms.{is_version_two, text, texts, lists}
use Rattle.job_file.specs.declared.field.JobField.TheVariants.{Parties, Formula, Tolerated}
use Rattle.plan_model.specs.Plans.{structure}
use Rattle.job_walk.specs.Names.{path_of, job_file}
use Rattle.job_walk.specs.Verdict.{accepted}
use Rattle.job_walk.specs.JobOf.{Contents}
use Rattle.job_walk.specs.NodeOf.{NodeForm, NodeAt}
use Rattle.mpc_top.specs.WholeJobs.{WholeJob, JobAt}

-- the text is a formula, which is false where exactly the members of the group of this mask are true
abbrev pub FormulaTolerates : List (List ℕ) → List ℕ → ℕ → Type 0
FormulaTolerates names text group = (f : Meaning) × IsFormula text names f × (is_tolerated f group ≡ true)

-- each member has its name in this list
abbrev pub AreNamedIn : List (List ℕ) → ℕ → List (List ℕ) → Type 0
AreNamedIn names group listed =
    (p : ℕ) → p < length names → has_party group p ≡ true → Contains listed (name_at names p)

-- the group is empty, or all its members have their names in one of these lists
abbrev pub ListsTolerate : List (List ℕ) → List (List (List ℕ)) → ℕ → Type 0
ListsTolerate names lists group =
    (group ≡ 0) ⊎ ((listed : List (List ℕ)) × Contains lists listed × AreNamedIn names group listed)

-- a file of version 2 tolerates by its lists, one of version 1 by its formula
abbrev pub FileTolerates : Fields → ℕ → Type 0
FileTolerates fields group =
    MatchBool (is_version_two fields) (ListsTolerate (texts Parties fields) (lists Tolerated fields) group)
    (FormulaTolerates (texts Parties fields) (text Formula fields) group)

-- the job's file of a folder has these fields
pub record HasFields (files : Contents) (dir : List ℕ) (fields : Fields) : Type 0 where
  pub bytes : List ℕ
  pub there : files (path_of dir job_file) ≡ Some bytes
  pub parsed : document_of bytes ≡ Some fields

-- the groups that the file of an accepted job tolerates are those that lie within a maximal group of its plan
abbrev pub JobsTolerateAsWritten : Type 0
JobsTolerateAsWritten =
    (files : Contents) (dir : List ℕ) (asked : Option (List ℕ)) (fields : Fields) (job : WholeJob)
    → HasFields files dir fields → JobAt files dir asked (accepted job)
    → (group : ℕ) → group < 2 ^ length job.names
    → FileTolerates fields group ↔ LiesWithin (structure job.world.plan) group

-- and so it is for a node
abbrev pub NodesTolerateAsWritten : Type 0
NodesTolerateAsWritten =
    (files : Contents) (dir name : List ℕ) (fields : Fields) (node : NodeForm)
    → HasFields files dir fields → NodeAt files dir name (accepted node)
    → (group : ℕ) → group < 2 ^ length node.names
    → FileTolerates fields group ↔ LiesWithin (structure node.plan) group
