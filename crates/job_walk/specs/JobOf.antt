-- The job that files stand for, where they tell what they hold: one walk, in which each file is judged before the next
-- is read.
use Rattle.std.specs.Prelude.{◌≡◌, ℕ, ◌+◌, ◌==◌, nat_le, pos, Bool, if◌then◌else◌, true, false, not, ◌||◌, List, [], ◌∷◌, ◌++◌, length, map, Option, None, Some, slice_index}
use Rattle.list_laws.specs.Checks.{◌answers◌}
use Rattle.party_set.specs.Parties.{Structure, Members, IsQ2}
use Rattle.group_formula.specs.Trees.{Meaning, is_tolerated}
use Rattle.group_formula.specs.Formulas.{IsFormula, IsFault}
use Rattle.group_formula.specs.declared.fault.FormulaFault.{FormulaFault}
use Rattle.maximal_groups.specs.Families.{maximal_structure, is_tolerated_by}
use Rattle.q2_test.specs.CoveringPairs.{IsFirstCovering}
use Rattle.circuit_model.specs.Netlists.{Netlist}
use Rattle.circuit_model.specs.declared.fault.CircuitFault.{CircuitFault}
use Rattle.circuit_model.specs.declared.fault.CircuitFault.TheVariants.{WrongRing}
use Rattle.circuit_file.specs.CircuitFiles.{circuit_in}
use Rattle.layer_order.specs.Orders.{ordered}
use Rattle.expr_circuit.specs.Laws.{IsCircuitOf, IsFault as IsProgramFault}
use Rattle.expr_circuit.specs.declared.fault.ExprFault.{ExprFault}
use Rattle.number_circuit.specs.declared.fault.NumberFault.{NumberFault}
use Rattle.number_circuit.specs.Laws.{IsFault as IsNumberFault}
use Rattle.number_compiler.specs.Circuits.{has_large_circuit}
use Rattle.number_compiler.specs.Laws.{IsCircuitOf as IsCircuitOfNumbers}
use Rattle.session_slots.specs.Sessions.{Session}
use Rattle.session_slots.specs.declared.values.Owner.{Owner}
use Rattle.session_slots.specs.declared.values.Owner.TheVariants as owner
use Rattle.plan_model.specs.Plans.{Plan, plan_of}
use Rattle.session_slots.specs.Carries.{keeping}
use Rattle.job_plan.specs.Limits.{IsPlanWithin, IsPlanRefusal}
use Rattle.job_session.specs.Parts.{part_fault, session_of}
use Rattle.plan_faults.specs.declared.part_fault.PartFault.{PartFault}
use Rattle.plan_faults.specs.declared.plan_fault.PlanFault.{PlanFault}
use Rattle.plan_faults.specs.declared.plan_fault.PlanFault.TheVariants as plan_fault
use Rattle.job_file.specs.Forms.{JobForm, SessionForm, AdversaryForm, by_formula, by_list}
use Rattle.job_file.specs.declared.products.Products.{Products}
use Rattle.job_file.specs.Products.{are_prepared, come_ahead}
use Rattle.job_file.specs.declared.owner.JobOwner.{JobOwner}
use Rattle.job_file.specs.declared.owner.JobOwner.TheVariants.{Party, Carried}
use Rattle.job_file.specs.declared.layout.SessionLayout.{SessionLayout}
use Rattle.job_file.specs.declared.layout.SessionLayout.TheVariants.{Gates, Expressions, Numbers}
use Rattle.job_file.specs.Faults.{job_in}
use Rattle.group_text.specs.GroupTexts.{group_in}
use Rattle.party_file.specs.Table.{PartyForm, party_in}
use Rattle.refusal_text.specs.Lines.{too_long_line, job_line, group_line, formula_line, groups_line, covering_line, circuit_line, expressions_line, numbers_line, session_line, plan_line, party_line}
use Rattle.job_walk.specs.Names as file_names
use Rattle.job_walk.specs.Verdict.{Verdict, accepted, missing, refused, Ends, Then, verdict_of, unless}
use Rattle.job_limits.specs.declared.limits.TheConstants.{FILE_LIMIT}
use Rattle.party_set.specs.declared.limits.TheConstants.{MOST_GROUPS}

-- what files hold: for each path its bytes, or none where no file is there
abbrev pub Contents : Type 0
Contents = List ℕ → Option (List ℕ)

-- ---- a file

-- the bytes of a file, unless it is missing or too long
unfoldable pub bytes_of : Option (List ℕ) → List ℕ → Verdict (List ℕ)
bytes_of None name = missing name
bytes_of (Some bytes) name =
    if nat_le (length bytes) FILE_LIMIT then accepted bytes else refused 3 (too_long_line name)

unfoldable pub file_at : Contents → List ℕ → List ℕ → Verdict (List ℕ)
file_at files dir name = bytes_of (files (file_names.path_of dir name)) name

-- ---- the job's file

-- read for a node or not
unfoldable pub JobText : Bool → Contents → List ℕ → Verdict JobForm → Type 0
JobText node files dir =
    Then (Ends (file_at files dir file_names.job_file)) (λ bytes.
    Ends (verdict_of job_line (job_in node bytes)))

-- ---- the group

-- the group of which is asked what it sees, if one is asked for
unfoldable pub GroupOf : List (List ℕ) → Option (List ℕ) → Verdict (Option Members) → Type 0
GroupOf names None = Ends (accepted None)
GroupOf names (Some text) =
    Then (Ends (verdict_of group_line (group_in names text))) (λ group. Ends (accepted (Some group)))

-- ---- the structure

-- the formula of the qualified groups
unfoldable pub FormulaOf : List (List ℕ) → List ℕ → Verdict Meaning → Type 0
FormulaOf names text (accepted formula) = IsFormula text names formula
FormulaOf names text (missing name) = ⊥
FormulaOf names text (refused status line) =
    (fault : FormulaFault)
    × IsFault text names fault
    × (status ≡ 3)
    × (line ≡ formula_line fault)

-- at most 64 maximal tolerated groups
unfoldable pub few_groups : Structure → Verdict Structure
few_groups s = if nat_le (length s.groups) MOST_GROUPS then accepted s else refused 3 (groups_line (MOST_GROUPS + 1))

-- the maximal groups of n parties
unfoldable pub groups_of : ℕ → (ℕ → Bool) → Verdict Structure
groups_of n tolerated = few_groups (maximal_structure n tolerated)

-- the maximal tolerated groups, which a formula or a list tells
unfoldable pub GroupsOf : List (List ℕ) → AdversaryForm → Verdict Structure → Type 0
GroupsOf names (by_formula text) =
    Then (FormulaOf names text) (λ formula. Ends (groups_of formula.parties (is_tolerated formula)))
GroupsOf names (by_list masks) =
    Ends (groups_of (length names) (is_tolerated_by (length names) masks))

-- no two groups that together are all parties
unfoldable pub Q2Of : JobForm → Structure → Verdict Structure → Type 0
Q2Of job s (accepted same) = (same ≡ s) × IsQ2 s
Q2Of job s (missing name) = ⊥
Q2Of job s (refused status line) =
    (i : ℕ) × (j : ℕ)
    × IsFirstCovering s i j
    × (status ≡ 4)
    × (line ≡ covering_line job.names (slice_index s.groups i) (slice_index s.groups j))

-- the maximal groups of a job, where no two of them together are all parties
unfoldable pub StructureOf : JobForm → Verdict Structure → Type 0
StructureOf job = Then (GroupsOf job.names job.adversary) (Q2Of job)

-- ---- the sessions

-- the groups of `parties` parties that these masks tell
abbrev pub groups_in : ℕ → List ℕ → List Members
groups_in parties masks = map (λ mask. record { parties = parties; mask = mask }) masks

-- who gives an input value of a session
abbrev pub owner_of : JobOwner → Owner
owner_of (Party party) = owner.Party party
owner_of (Carried session value) = owner.Carried session value

-- the session, its products made in this way
abbrev pub with_products : Products → Session → Session
with_products products s = record s { prepared = are_prepared products; ahead = come_ahead products }

-- the session of a circuit behind those before it, its products made in this way, where the counts of owners and
-- readers are the circuit's, and each carried value is one of an earlier session and of the same width
abbrev pub part_of :
    (PartFault → List ℕ) → Netlist → Products → List JobOwner → List Members → List Session → Verdict Session
part_of line circuit products owners readers before =
    unless (part_fault circuit (map owner_of owners) readers before) line
    (with_products products (session_of circuit (map owner_of owners) readers))

-- the circuit of a program of expressions, or the program's first fault
unfoldable pub ExpressionsOf : (ExprFault → List ℕ) → ℕ → List ℕ → Verdict Netlist → Type 0
ExpressionsOf line bits text (accepted c) = IsCircuitOf bits text c
ExpressionsOf line bits text (missing name) = ⊥
ExpressionsOf line bits text (refused status told) =
    (fault : ExprFault) × IsProgramFault bits text fault × (status ≡ 3) × (told ≡ line fault)

-- numbers are of bits, so the ring has to be that of one bit
abbrev pub bits_alone : (CircuitFault → List ℕ) → ℕ → Verdict (Unit {0})
bits_alone line bits = unless (not (bits == 1) answers WrongRing (pos bits)) line tt

-- the circuit of a program of numbers, or the program's first fault
unfoldable pub ProgramOf : (NumberFault → List ℕ) → List ℕ → Verdict Netlist → Type 0
ProgramOf line text (accepted c) = IsCircuitOfNumbers text c
ProgramOf line text (missing name) = ⊥
ProgramOf line text (refused status told) =
    (fault : NumberFault) × IsNumberFault has_large_circuit text fault × (status ≡ 3) × (told ≡ line fault)

-- the circuit that the file of session s tells
unfoldable pub CircuitOf : SessionLayout → List ℕ → ℕ → ℕ → List ℕ → Verdict Netlist → Type 0
CircuitOf (Gates layout) file s bits bytes = Ends (verdict_of (circuit_line file s) (circuit_in layout bits bytes))
CircuitOf Expressions file s bits bytes = ExpressionsOf (expressions_line file s) bits bytes
CircuitOf Numbers file s bits bytes =
    Then (Ends (bits_alone (circuit_line file s) bits)) (λ _. ProgramOf (numbers_line file s) bytes)

abbrev pub is_numbers : SessionLayout → Bool
is_numbers Numbers = true
is_numbers _ = false

-- whether a session's words are numbers
abbrev pub has_numbers : SessionForm → Bool
has_numbers form = is_numbers form.layout

-- whether each session's words are numbers
abbrev pub numeric_sessions : JobForm → List Bool
numeric_sessions job = map has_numbers job.sessions

-- whether a session's gates go in layers: those of a program of numbers always do
abbrev pub has_layers : SessionForm → Bool
has_layers form = form.layered_gates || has_numbers form

-- the session behind those that were read: its circuit's file, its gates in layers or not, its counts of owners and
-- readers, and what it carries
unfoldable pub SessionAt :
    Contents → List ℕ → JobForm → List Session → SessionForm → Verdict Session → Type 0
SessionAt files dir job before form =
    Then (Ends (file_at files dir form.circuit)) (λ bytes.
    Then (CircuitOf form.layout form.circuit (length before) job.bits bytes) (λ circuit.
    Ends (part_of (session_line (length before)) (ordered (has_layers form) circuit) form.products form.owners
    (groups_in (length job.names) form.readers) before)))

-- these sessions, after those that were read
unfoldable pub SessionsAfter :
    Contents → List ℕ → JobForm → List Session → List SessionForm → Verdict (List Session) → Type 0
SessionsAfter files dir job before [] = Ends (accepted before)
SessionsAfter files dir job before (form ∷ forms) =
    Then (SessionAt files dir job before form) (λ s.
    SessionsAfter files dir job (before ++ (s ∷ [])) forms)

-- ---- the plan

-- a plan within the limits
unfoldable pub PlanOf : JobForm → Plan → Verdict Plan → Type 0
PlanOf job plan (accepted same) = (same ≡ plan) × IsPlanWithin plan
PlanOf job plan (missing name) = ⊥
PlanOf job plan (refused status line) =
    (fault : PlanFault)
    × IsPlanRefusal plan fault
    × ¬ (fault ≡ plan_fault.Memory)
    × (status ≡ 3)
    × (line ≡ plan_line job.names fault)

-- the names of the parties, the group that is asked for, the plan, and whether each session's words are numbers
pub record Planned : Type 0 where
  pub names : List (List ℕ)
  pub group : Option Members
  pub plan : Plan
  pub numeric : List Bool

-- the plan of a job over this structure, where its circuits are accepted and its sessions fit; each of them keeps what
-- later ones carry
unfoldable pub PlannedOf :
    Contents → List ℕ → JobForm → Option Members → Structure → Verdict Planned → Type 0
PlannedOf files dir job group s =
    Then (SessionsAfter files dir job [] job.sessions) (λ sessions.
    Then (PlanOf job (plan_of job.bits s (keeping sessions))) (λ plan.
    Ends (accepted (record {
      names = job.names;
      group = group;
      plan = plan;
      numeric = numeric_sessions job;
    }))))

-- the plan of a folder, for which no party's file is read, and the group that a text asks for
unfoldable pub PlanAt : Contents → List ℕ → Option (List ℕ) → Verdict Planned → Type 0
PlanAt files dir asked =
    Then (JobText false files dir) (λ job.
    Then (GroupOf job.names asked) (λ group.
    Then (StructureOf job) (PlannedOf files dir job group)))

-- ---- the parties

-- what party p gives, where the words of these sessions are numbers
unfoldable pub PartyAt :
    Contents → List ℕ → List Bool → Plan → ℕ → List ℕ → Verdict PartyForm → Type 0
PartyAt files dir numeric plan p name =
    Then (Ends (file_at files dir (file_names.party_file name))) (λ bytes.
    Ends (verdict_of (party_line (file_names.party_file name)) (party_in numeric plan p bytes)))

-- what the parties of these names give, after those whose files were read
unfoldable pub PartiesAfter :
    Contents → List ℕ → List Bool → Plan → List PartyForm → List (List ℕ) → Verdict (List PartyForm) → Type 0
PartiesAfter files dir numeric plan before [] = Ends (accepted before)
PartiesAfter files dir numeric plan before (name ∷ more) =
    Then (PartyAt files dir numeric plan (length before) name) (λ party.
    PartiesAfter files dir numeric plan (before ++ (party ∷ [])) more)
