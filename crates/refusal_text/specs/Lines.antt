-- The line of each refusal: the part that refuses, the number and the name of its fault, and what the fault carries.
use Rattle.std.specs.Prelude.{ℕ, nat_le, ◌&&◌, if◌then◌else◌, List, [], ◌∷◌, ◌++◌, length, slice_index, slice_index_or, codes, decimal, Some}
use Rattle.std.specs.Fmt.{signed_decimal}
use Rattle.std.specs.List.{flat_map}
use Rattle.list_laws.specs.Lists.{listed}
use Rattle.fault_table.specs.Tables.{KeyValue, Number, Signed, Text, Name, Party, Keys, Entry, fault, in_session}
use Rattle.group_formula.specs.declared.fault.FormulaFault.{FormulaFault}
use Rattle.group_formula.specs.ToldFaults.{told_formula_fault}
use Rattle.maximal_groups.specs.declared.find.GroupsFault.{GroupsFault}
use Rattle.maximal_groups.specs.declared.find.GroupsFault.TheVariants.{TooManyGroups, Memory}
use Rattle.group_text.specs.declared.fault.GroupFault.{GroupFault}
use Rattle.group_text.specs.ToldFaults.{told_group_fault}
use Rattle.circuit_model.specs.declared.fault.CircuitFault.{CircuitFault}
use Rattle.circuit_model.specs.ToldFaults.{told_circuit_fault}
use Rattle.expr_circuit.specs.declared.fault.ExprFault.{ExprFault}
use Rattle.expr_circuit.specs.ToldFaults.{told_expr_fault}
use Rattle.number_circuit.specs.declared.fault.NumberFault.{NumberFault}
use Rattle.number_circuit.specs.ToldFaults.{told_number_fault}
use Rattle.plan_faults.specs.declared.plan_fault.PlanFault.{PlanFault}
use Rattle.plan_faults.specs.declared.part_fault.PartFault.{PartFault}
use Rattle.plan_faults.specs.ToldFaults.{told_plan_fault, told_part_fault}
use Rattle.job_file.specs.declared.fault.JobFault.{JobFault}
use Rattle.job_file.specs.ToldFaults.{fault_part, told_job_fault}
use Rattle.party_file.specs.declared.fault.PartyFault.{PartyFault}
use Rattle.party_file.specs.ToldFaults.{told_party_fault}
use Rattle.other_file.specs.declared.fault.OtherFault.{OtherFault}
use Rattle.other_file.specs.ToldFaults.{told_other_fault}
use Rattle.tape_map.specs.declared.fault.MapFault.{MapFault}
use Rattle.tape_map.specs.ToldFaults.{told_map_fault}
use Rattle.view_check.specs.declared.fault.CheckFault.{CheckFault}
use Rattle.view_check.specs.ToldFaults.{told_check_fault}
use Rattle.text_parts.specs.Parts.{group_text}
use Rattle.job_limits.specs.declared.limits.TheConstants.{FILE_LIMIT}

-- a name from a file: a byte that isn't one of `!` to `~` is told as `?`
abbrev pub masked : List ℕ → List ℕ
masked name = listed (length name) (λ i. let c = slice_index name i in if nat_le 33 c && nat_le c 126 then c else 63)

-- what a key tells, where the parties have these names
abbrev pub value_text : List (List ℕ) → KeyValue → List ℕ
value_text names (Number n) = decimal n
value_text names (Signed z) = signed_decimal z
value_text names (Text text) = text
value_text names (Name name) = masked name
value_text names (Party p) = slice_index_or names p []

abbrev pub key_head : List ℕ → List ℕ
key_head key = codes " " ++ (key ++ codes "=")

abbrev pub keys_text : List (List ℕ) → Keys → List ℕ
keys_text names keys = flat_map (λ key. key_head key.0 ++ value_text names key.1) keys

-- the part that refuses, and the number and the name of its fault
abbrev pub head : List ℕ → Entry → List ℕ
head part entry = codes "refused " ++ (part ++ (codes " " ++ (decimal entry.number ++ (codes " " ++ entry.name))))

-- the line of a fault, with these keys in front of its own
abbrev pub refusal_line : List ℕ → List (List ℕ) → Keys → Entry → List ℕ
refusal_line part names front entry =
    head part entry ++ (keys_text names front ++ (keys_text names entry.keys ++ codes "\n"))

-- ---- each part

-- the file that has the fault
abbrev pub of_file : List ℕ → Keys
of_file file = (codes "file", Text file) ∷ []

-- the file of a session
abbrev pub of_session : List ℕ → ℕ → Keys
of_session file session = of_file file ++ in_session (Some session)

-- a file that is too long
unfoldable pub too_long_line : List ℕ → List ℕ
too_long_line file =
    refusal_line (codes "files") [] (of_file file) (fault 1 (codes "TooLong") ((codes "limit", Number FILE_LIMIT) ∷ []))

unfoldable pub job_line : JobFault → List ℕ
job_line f = refusal_line (fault_part f) [] [] (told_job_fault f)

unfoldable pub formula_line : FormulaFault → List ℕ
formula_line f = refusal_line (codes "formula") [] [] (told_formula_fault f)

-- a name that is no party's
unfoldable pub name_line : List ℕ
name_line = refusal_line (codes "name") [] [] (fault 1 (codes "UnknownParty") [])

-- a text that names no group
unfoldable pub group_line : GroupFault → List ℕ
group_line f = refusal_line (codes "group") [] [] (told_group_fault f)

-- more maximal tolerated groups than 64
abbrev pub told_groups_fault : GroupsFault → Entry
told_groups_fault (TooManyGroups found) = fault 1 (codes "TooManyGroups") ((codes "found", Number found) ∷ [])
told_groups_fault Memory = fault 0 (codes "Memory") []

unfoldable pub groups_line : ℕ → List ℕ
groups_line found = refusal_line (codes "groups") [] [] (told_groups_fault (TooManyGroups found))

-- two tolerated groups that together are all parties
unfoldable pub covering_line : List (List ℕ) → ℕ → ℕ → List ℕ
covering_line names first second =
    refusal_line (codes "q2") [] []
    (fault 1 (codes "Covering")
    ((codes "first", Text (group_text names first)) ∷ (codes "second", Text (group_text names second)) ∷ []))

-- a session's circuit
unfoldable pub circuit_line : List ℕ → ℕ → CircuitFault → List ℕ
circuit_line file session f = refusal_line (codes "circuit") [] (of_session file session) (told_circuit_fault f)

-- a session's expressions
unfoldable pub expressions_line : List ℕ → ℕ → ExprFault → List ℕ
expressions_line file session f = refusal_line (codes "expr") [] (of_session file session) (told_expr_fault f)

-- a session's program of numbers
unfoldable pub numbers_line : List ℕ → ℕ → NumberFault → List ℕ
numbers_line file session f = refusal_line (codes "numbers") [] (of_session file session) (told_number_fault f)

unfoldable pub session_line : ℕ → PartFault → List ℕ
session_line session f = refusal_line (codes "session") [] (in_session (Some session)) (told_part_fault f)

unfoldable pub plan_line : List (List ℕ) → PlanFault → List ℕ
plan_line names f = refusal_line (codes "plan") names [] (told_plan_fault f)

unfoldable pub party_line : List ℕ → PartyFault → List ℕ
party_line file f = refusal_line (codes "party") [] (of_file file) (told_party_fault f)

unfoldable pub other_line : List (List ℕ) → OtherFault → List ℕ
other_line names f = refusal_line (codes "other") names [] (told_other_fault f)

-- other inputs that can't be hidden from a group
unfoldable pub pair_line : List (List ℕ) → MapFault → List ℕ
pair_line names f = refusal_line (codes "pair") names [] (told_map_fault f)

-- a text that is not the view of its group
unfoldable pub view_line : CheckFault → List ℕ
view_line f = refusal_line (codes "view") [] [] (told_check_fault f)
