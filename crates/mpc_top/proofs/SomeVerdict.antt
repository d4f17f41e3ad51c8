-- Each command is due a verdict: no walk through files gets stuck.
use Rattle.std.proofs.Common.{◌≡◌, ◌⊎◌, inl, inr, ℕ, zero, suc, ◌<◌, ◌≤◌, Bool, true, false, List, [], ◌∷◌, ◌++◌, length, Option, None, Some, Err, refl, sym, ap, subst, ◌∙◌, arith}
use Rattle.std.specs.Prelude.{slice_index}
use Rattle.std.proofs.lemmas.Bool.{cases_lt, cases_order, cases_Bool}
use Rattle.outer_io.specs.Files.{Told}
use Rattle.party_set.specs.Parties.{Structure, Members, IsQ2, covers}
use Rattle.party_names.specs.Names.{AreNames}
use Rattle.group_formula.proofs.OneAnswer.{one_answer}
use Rattle.number_circuit.specs.declared.fault.NumberFault.{NumberFault}
use Rattle.number_circuit.proofs.OneAnswer.{one_answer as one_number_program}
use Rattle.number_compiler.specs.Circuits.{has_large_circuit, circuit as circuit_of_numbers}
use Rattle.expr_circuit.specs.declared.fault.ExprFault.{ExprFault}
use Rattle.expr_circuit.specs.Circuits.{circuit}
use Rattle.expr_circuit.proofs.OneAnswer.{one_answer as one_program_only}
use Rattle.q2_test.specs.CoveringPairs.{IsFirstCovering}
use Rattle.q2_test.proofs.Orders.{q2_from}
use Rattle.session_slots.specs.Sessions.{Session}
use Rattle.plan_model.specs.Plans.{Plan}
use Rattle.plan_model.specs.Messages.{messages}
use Rattle.plan_model.specs.Tallies.{tape_length}
use Rattle.plan_model.specs.declared.key.Key.{Key}
use Rattle.plan_faults.specs.declared.plan_fault.PlanFault.TheVariants.{TooManyMessages, TooManyWords}
use Rattle.job_file.specs.Forms.{JobForm, SessionForm, AdversaryForm, by_formula, by_list}
use Rattle.job_file.specs.declared.layout.SessionLayout.{SessionLayout}
use Rattle.job_file.specs.declared.layout.SessionLayout.TheVariants.{Gates, Expressions, Numbers}
use Rattle.party_file.specs.Table.{PartyForm}
use Rattle.command_words.specs.Commands.{CommandForm, run, check, pair, node, sample, audit}
use Rattle.share_world.specs.Worlds.{view}
use Rattle.view_check.specs.Laws.{AreTold}
use Rattle.view_check.proofs.OneAnswer.{one_answer as one_view_only}
use Rattle.view_check.proofs.ViewLaws.{wrong_words}
use Rattle.view_check.proofs.ToldViews.{told_views}
use Rattle.refusal_text.specs.Lines.{formula_line, covering_line, plan_line, view_line}
use Rattle.job_walk.specs.Verdict.{Verdict, accepted, missing, refused, Ends, Then}
use Rattle.job_walk.specs.JobOf.{Contents, JobText, GroupOf, FormulaOf, GroupsOf, Q2Of, StructureOf, numeric_sessions, ExpressionsOf, ProgramOf, CircuitOf, SessionAt, SessionsAfter, PlanOf, PlannedOf, PlanAt, PartyAt, PartiesAfter}
use Rattle.job_walk.specs.NodeOf.{NodeAt}
use Rattle.mpc_top.specs.Texts.{usage_text}
use Rattle.mpc_top.specs.WholeJobs.{JobAt, OtherAt, PairAt}
use Rattle.mpc_top.specs.Audits.{Judged, AuditAt}
use Rattle.mpc_top.specs.Due.{Due, DueOf, IsDue}
use Rattle.mpc_top.proofs.WholeWorlds.{jobs_are_whole, jobs_are_named}

-- ---- walks

-- the walk ends with some verdict
abbrev pub EndsSomehow : {A : Type 0} → (Verdict A → Type 0) → Type 0
EndsSomehow {A} walk = (v : Verdict A) × walk v

ends : {A : Type 0} (v : Verdict A) → EndsSomehow (Ends v)
ends v = (v, refl)

module _ {A B : Type 0} (first : Verdict A → Type 0) (next : A → Verdict B → Type 0) where
  then_so : (a : A) (v : Verdict B) → first (accepted a) → next a v → Then first next v
  unfolding Then
  then_so a (accepted b) is n = (a, is, n)
  then_so a (missing name) is n = inr (a, is, n)
  then_so a (refused status line) is n = inr (a, is, n)

  then_from : (v : Verdict A) → first v → ((a : A) → first (accepted a) → EndsSomehow (next a)) → EndsSomehow (Then first next)
  unfolding Then
  then_from (accepted a) is f = let n = f a is in (n.0, then_so a n.0 is n.1)
  then_from (missing name) is f = (missing name, inl is)
  then_from (refused status line) is f = (refused status line, inl is)

  then_ends : EndsSomehow first → ((a : A) → first (accepted a) → EndsSomehow (next a)) → EndsSomehow (Then first next)
  then_ends e f = then_from e.0 e.1 f

-- ---- the first number that has a property

module _ {Has Lacks : ℕ → Type 0} (decide : (n : ℕ) → Has n ⊎ Lacks n) where
  pub record IsFirst (n : ℕ) : Type 0 where
    pub at : ℕ
    pub below : at < n
    pub has : Has at
    pub before : (m : ℕ) → m < at → Lacks m

  first_below : (n : ℕ) → IsFirst n ⊎ ((m : ℕ) → m < n → Lacks m)
  first_below zero = inr (λ m less. absurd (omega arith))
  first_below (suc n) = elim (first_below n) [
    | inl f ↦ inl (record { at = f.at; below = (let less = f.below in omega arith); has = f.has; before = f.before })
    | inr none ↦ elim (decide n) [
      | inl has ↦ inl (record { at = n; below = omega arith; has = has; before = none })
      | inr lacks ↦ inr (λ m less. elim (cases_order m n) [
        | inl same ↦ subst Lacks (sym same) lacks
        | inr (inl below) ↦ none m below
        | inr (inr above) ↦ absurd (omega arith)
      ])
    ]
  ]

-- ---- the structure

formula_ends : (names : List (List ℕ)) (text : List ℕ) → EndsSomehow (FormulaOf names text)
unfolding FormulaOf
formula_ends names text = elim (one_answer text names).some [
  | inl f ↦ (accepted f.0, f.1)
  | inr fault ↦ (refused 3 (formula_line fault.0), (fault.0, fault.1, refl, refl))
]

groups_end : (names : List (List ℕ)) (adversary : AdversaryForm) → EndsSomehow (GroupsOf names adversary)
unfolding GroupsOf
groups_end names (by_formula text) = then_ends _ _ (formula_ends names text) (λ formula is. ends _)
groups_end names (by_list masks) = ends _

module _ (s : Structure) where
  abbrev pair_covers : ℕ → ℕ → Bool
  pair_covers i j = covers s.parties (slice_index s.groups i) (slice_index s.groups j)

  -- a later group, or this one, makes all parties with group i
  abbrev Covers : ℕ → ℕ → Type 0
  Covers i j = (i ≤ j) × (pair_covers i j ≡ true)

  abbrev Leaves : ℕ → ℕ → Type 0
  Leaves i j = i ≤ j → pair_covers i j ≡ false

  decide_pair : (i j : ℕ) → Covers i j ⊎ Leaves i j
  decide_pair i j = elim (cases_Bool (pair_covers i j)) [
    | inl together ↦ elim (cases_lt j i) [
      | inl less ↦ inr (λ order. absurd (omega arith))
      | inr order ↦ inl (order, together)
    ]
    | inr apart ↦ inr (λ order. apart)
  ]

  abbrev RowCovers : ℕ → Type 0
  RowCovers i = IsFirst (decide_pair i) (length s.groups)

  abbrev RowLeaves : ℕ → Type 0
  RowLeaves i = (j : ℕ) → j < length s.groups → Leaves i j

  decide_row : (i : ℕ) → RowCovers i ⊎ RowLeaves i
  decide_row i = first_below (decide_pair i) (length s.groups)

  covering_or_q2 : ((i : ℕ) × (j : ℕ) × IsFirstCovering s i j) ⊎ IsQ2 s
  covering_or_q2 = elim (first_below decide_row (length s.groups)) [
    | inl row ↦ inl (
      row.at,
      row.has.at,
      record {
        order = row.has.has.0;
        group = row.has.below;
        covering = row.has.has.1;
        earlier_rows = λ a b less order below. row.before a less b below order;
        earlier = λ b order less. row.has.before b less order;
      },
    )
    | inr none ↦ inr (q2_from s (λ a b la order lb. none a la b lb order))
  ]

q2_ends : (job : JobForm) (s : Structure) → EndsSomehow (Q2Of job s)
unfolding Q2Of
q2_ends job s = elim (covering_or_q2 s) [
  | inl first ↦ (refused 4 (covering_line job.names (slice_index s.groups first.0) (slice_index s.groups first.1)), (first.0, first.1, first.2, refl, refl))
  | inr q2 ↦ (accepted s, (refl, q2))
]

structure_ends : (job : JobForm) → EndsSomehow (StructureOf job)
unfolding StructureOf
structure_ends job = then_ends _ _ (groups_end job.names job.adversary) (λ s is. q2_ends job s)

-- ---- the sessions

expressions_end : (line : ExprFault → List ℕ) (bits : ℕ) (text : List ℕ) → EndsSomehow (ExpressionsOf line bits text)
unfolding ExpressionsOf
expressions_end line bits text = elim (one_program_only bits text).some [
  | inl p ↦ (accepted (circuit bits p.0), record { program = p.0; is = p.1; made = refl })
  | inr fault ↦ (refused 3 (line fault.0), (fault.0, fault.1, refl, refl))
]

program_ends : (line : NumberFault → List ℕ) (text : List ℕ) → EndsSomehow (ProgramOf line text)
unfolding ProgramOf
program_ends line text = elim (one_number_program has_large_circuit text).some [
  | inl p ↦ (accepted (circuit_of_numbers p.0), record { program = p.0; is = p.1; made = refl })
  | inr fault ↦ (refused 3 (line fault.0), (fault.0, fault.1, refl, refl))
]

circuit_ends : (layout : SessionLayout) (file : List ℕ) (s bits : ℕ) (bytes : List ℕ) → EndsSomehow (CircuitOf layout file s bits bytes)
unfolding CircuitOf
circuit_ends (Gates layout) file s bits bytes = ends _
circuit_ends Expressions file s bits bytes = expressions_end _ bits bytes
circuit_ends Numbers file s bits bytes = then_ends _ _ (ends _) (λ passed is. program_ends _ bytes)

session_ends : (files : Contents) (dir : List ℕ) (job : JobForm) (before : List Session) (form : SessionForm) → EndsSomehow (SessionAt files dir job before form)
unfolding SessionAt
session_ends files dir job before form = then_ends _ _ (ends _) (λ bytes is. then_ends _ _ (circuit_ends form.layout form.circuit (length before) job.bits bytes) (λ circuit made. ends _))

sessions_end : (files : Contents) (dir : List ℕ) (job : JobForm) (before : List Session) (forms : List SessionForm) → EndsSomehow (SessionsAfter files dir job before forms)
unfolding SessionsAfter
sessions_end files dir job before [] = ends _
sessions_end files dir job before (form ∷ forms) = then_ends _ _ (session_ends files dir job before form) (λ s is. sessions_end files dir job (before ++ (s ∷ [])) forms)

-- ---- the plan

within_or_over : (count limit : ℕ) → (limit < count) ⊎ (count ≤ limit)
within_or_over count limit = cases_lt limit count

plan_ends : (job : JobForm) (plan : Plan) → EndsSomehow (PlanOf job plan)
unfolding PlanOf
plan_ends job plan = elim (within_or_over (length (messages plan)) 1048576) [
  | inl many ↦
      (refused 3 (plan_line job.names (TooManyMessages (length (messages plan)))), (TooManyMessages (length (messages plan)), (refl, many), (λ e. cc), refl, refl))
  | inr few ↦ elim (first_below (λ p. within_or_over (tape_length plan p) 1048576) plan.parties) [
    | inl f ↦ (
      refused 3 (plan_line job.names (TooManyWords f.at (tape_length plan f.at))),
      (TooManyWords f.at (tape_length plan f.at), (few, record { there = f.below; is = refl; over = f.has; first = f.before }), (λ e. cc), refl, refl),
    )
    | inr all ↦ (accepted plan, (refl, record { messages = few; words = all }))
  ]
]

text_ends : (for_node : Bool) (files : Contents) (dir : List ℕ) → EndsSomehow (JobText for_node files dir)
unfolding JobText
text_ends for_node files dir = then_ends _ _ (ends _) (λ bytes is. ends _)

group_ends : (names : List (List ℕ)) (asked : Option (List ℕ)) → EndsSomehow (GroupOf names asked)
unfolding GroupOf
group_ends names None = ends _
group_ends names (Some text) = then_ends _ _ (ends _) (λ group is. ends _)

planned_ends : (files : Contents) (dir : List ℕ) (job : JobForm) (group : Option Members) (s : Structure) → EndsSomehow (PlannedOf files dir job group s)
unfolding PlannedOf
planned_ends files dir job group s = then_ends _ _ (sessions_end files dir job [] job.sessions) (λ sessions read. then_ends _ _ (plan_ends job _) (λ plan is. ends _))

plan_at_ends : (files : Contents) (dir : List ℕ) (asked : Option (List ℕ)) → EndsSomehow (PlanAt files dir asked)
unfolding PlanAt
plan_at_ends files dir asked =
    then_ends _ _ (text_ends false files dir) (λ job is. then_ends _ _ (group_ends job.names asked) (λ group told. then_ends _ _ (structure_ends job) (λ s found. planned_ends files dir job group s)))

-- ---- the parties

party_ends : (files : Contents) (dir : List ℕ) (numeric : List Bool) (plan : Plan) (p : ℕ) (name : List ℕ) → EndsSomehow (PartyAt files dir numeric plan p name)
unfolding PartyAt
party_ends files dir numeric plan p name = then_ends _ _ (ends _) (λ bytes is. ends _)

parties_end : (files : Contents) (dir : List ℕ) (numeric : List Bool) (plan : Plan) (before : List PartyForm) (names : List (List ℕ)) → EndsSomehow (PartiesAfter files dir numeric plan before names)
unfolding PartiesAfter
parties_end files dir numeric plan before [] = ends _
parties_end files dir numeric plan before (name ∷ names) = then_ends _ _ (party_ends files dir numeric plan (length before) name) (λ party is. parties_end files dir numeric plan (before ++ (party ∷ [])) names)

job_ends : (files : Contents) (dir : List ℕ) (asked : Option (List ℕ)) → EndsSomehow (JobAt files dir asked)
unfolding JobAt
job_ends files dir asked = then_ends _ _ (plan_at_ends files dir asked) (λ planned is. then_ends _ _ (parties_end files dir planned.numeric planned.plan [] planned.names) (λ parties read. ends _))

-- ---- the commands

other_ends : (files : Contents) (dir : List ℕ) (numeric : List Bool) (plan : Plan) (names : List (List ℕ)) (inputs : List (List (List ℕ))) → EndsSomehow (OtherAt files dir numeric plan names inputs)
unfolding OtherAt
other_ends files dir numeric plan names inputs = then_ends _ _ (ends _) (λ bytes is. ends _)

pair_ends : (files : Contents) (dir asked : List ℕ) → EndsSomehow (PairAt files dir asked)
unfolding PairAt
pair_ends files dir asked = then_ends _ _ (job_ends files dir (Some asked)) (λ job is. then_ends _ _ (other_ends files dir job.numeric job.world.plan job.names job.world.inputs) (λ other read. ends _))

node_ends : (files : Contents) (dir name : List ℕ) → EndsSomehow (NodeAt files dir name)
unfolding NodeAt
node_ends files dir name =
    then_ends _ _ (text_ends true files dir) (λ job is. then_ends _ _ (ends _) (λ me named. then_ends _ _ (structure_ends job) (λ groups found.
    then_ends _ _ (sessions_end files dir job [] job.sessions) (λ sessions read. then_ends _ _ (plan_ends job _) (λ plan within.
    then_ends _ _ (party_ends files dir (numeric_sessions job) plan me name) (λ given gives. ends _))))))

judged_ends : (names : List (List ℕ)) (see : ℕ → List (Key × ℕ)) (text : List ℕ) → AreNames names → AreTold names see → EndsSomehow (Judged names see text)
judged_ends names see text are told = elim (one_view_only names see text are told).0 [
  | inl found ↦ (accepted found.0, found.1)
  | inr bad ↦ (
    refused 3 (view_line bad.0),
    (refl, record { fault = bad.0; line_is = refl; is_fault = bad.1; wrong = λ n wanted found same. wrong_words names see text n wanted found are told (bad.1 ∙ ap Err same) }),
  )
]

audit_ends : (files : Contents) (dir : List ℕ) → EndsSomehow (AuditAt files dir)
unfolding AuditAt
audit_ends files dir =
    then_ends _ _ (job_ends files dir None) (λ job is. then_ends _ _ (ends _) (λ text read.
    let named = jobs_are_named files dir None job is in
    judged_ends job.names (view job.world) text named.0 (told_views job.world (jobs_are_whole files dir None job is) job.names named.1)))

command_ends : (command : CommandForm) (files : Contents) → EndsSomehow (DueOf command files)
unfolding DueOf
command_ends (run dir workers view) files = then_ends _ _ (job_ends files dir view) (λ job is. ends _)
command_ends (check dir) files = then_ends _ _ (plan_at_ends files dir None) (λ planned is. ends _)
command_ends (pair dir group) files = then_ends _ _ (pair_ends files dir group) (λ job is. ends _)
command_ends (node dir name) files = then_ends _ _ (node_ends files dir name) (λ job is. ends _)
command_ends (sample count) files = ends _
command_ends (audit dir) files = then_ends _ _ (audit_ends files dir) (λ count is. ends _)

-- words are due some verdict, whatever the files tell
pub some_due : (command : Option CommandForm) (told : Told) → (verdict : Verdict Due) × IsDue command told verdict
some_due None told = (refused 2 usage_text, refl)
some_due (Some (sample count)) told = command_ends (sample count) (λ name. None)
some_due (Some (run dir workers view)) None = (missing [], tt)
some_due (Some (check dir)) None = (missing [], tt)
some_due (Some (pair dir group)) None = (missing [], tt)
some_due (Some (node dir name)) None = (missing [], tt)
some_due (Some (audit dir)) None = (missing [], tt)
some_due (Some (run dir workers view)) (Some files) = command_ends (run dir workers view) files
some_due (Some (check dir)) (Some files) = command_ends (check dir) files
some_due (Some (pair dir group)) (Some files) = command_ends (pair dir group) files
some_due (Some (node dir name)) (Some files) = command_ends (node dir name) files
some_due (Some (audit dir)) (Some files) = command_ends (audit dir) files
