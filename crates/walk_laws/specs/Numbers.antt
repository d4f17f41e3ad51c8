-- What a run writes for a session of numbers.
use Rattle.std.specs.Prelude.{◌≡◌, ℕ, ◌<◌, false, List, [], length, map, take, Option, None, Some, slice_index, slice_index_or, slice_get, codes}
use Rattle.std.specs.List.{filter}
use Rattle.std.specs.Option.{unwrap_or}
use Rattle.toml.specs.Data.{Members}
use Rattle.toml_fields.specs.Fields.{texts_at}
use Rattle.toml_fields.specs.Documents.{document_of}
use Rattle.party_names.specs.Names.{name_at}
use Rattle.session_slots.specs.declared.values.InputValue.{InputValue}
use Rattle.session_slots.specs.declared.values.Owner.TheVariants.{Party}
use Rattle.plan_model.specs.Plans.{session}
use Rattle.party_file.specs.Table.{gives_value, numbers_in}
use Rattle.job_file.specs.Forms.{JobForm, SessionForm}
use Rattle.job_file.specs.declared.layout.SessionLayout.TheVariants.{Numbers}
use Rattle.number_circuit.specs.Programs.{Statement, input_widths, program_value}
use Rattle.number_circuit.specs.Laws.{IsProgram, numbers_from}
use Rattle.number_compiler.specs.Circuits.{has_large_circuit}
use Rattle.share_world.specs.Worlds.{World, first_values, plain}
use Rattle.job_walk.specs.Names.{party_file, path_of}
use Rattle.job_walk.specs.Verdict.{accepted}
use Rattle.job_walk.specs.JobOf.{Contents, JobText}
use Rattle.mpc_top.specs.WholeJobs.{WholeJob, JobAt}
use Rattle.walk_laws.specs.Expressions.{WritesValues}

-- the file of a session is this program of numbers
pub record IsNumbersOf (files : Contents) (dir : List ℕ) (form : SessionForm) (p : List Statement) : Type 0 where
  pub text : List ℕ
  pub file : files (path_of dir form.circuit) ≡ Some text
  pub is : IsProgram has_large_circuit text p

-- the number of input value i of session s, where the values have these widths: its bits are the words of its wires
abbrev pub input_number : World → ℕ → List ℕ → ℕ → ℕ
input_number w s widths i = slice_index_or (numbers_from (first_values w (plain w) s) 0 widths) i 0

-- ---- the numbers of the parties' files

-- the words for session s in a party's file, as numbers
abbrev pub told_numbers : Option Members → ℕ → List ℕ
told_numbers None s = []
told_numbers (Some fields) s = numbers_in (slice_index_or (texts_at (codes "inputs") fields) s [])

-- those of party p
abbrev pub file_numbers : Contents → List ℕ → List (List ℕ) → ℕ → ℕ → List ℕ
file_numbers files dir names p s =
    told_numbers (document_of (unwrap_or (files (path_of dir (party_file (name_at names p)))) [])) s

abbrev pub no_value : InputValue
no_value = record { width = 0; owner = Party 0 }

-- the widths of some values
abbrev pub widths_of : List InputValue → List ℕ
widths_of values = map (λ (value : InputValue). value.width) values

-- how many of the values before number i party p gives
abbrev pub given_among : ℕ → List InputValue → ℕ → ℕ
given_among p values i = length (filter (gives_value p) (take i values))

-- each input value of session s that a party gives is the next number of its file
abbrev pub AreOfFiles : Contents → List ℕ → WholeJob → ℕ → (ℕ → ℕ) → Type 0
AreOfFiles files dir whole s numbers =
    (i p : ℕ) → i < length (session whole.world.plan s).inputs → p < length whole.names
    → (slice_index_or (session whole.world.plan s).inputs i no_value).owner ≡ Party p
    → numbers i
    ≡ slice_index (file_numbers files dir whole.names p s) (given_among p (session whole.world.plan s).inputs i)

-- ---- the law

-- Of a job whose files are accepted, each session of numbers has a program for its file, and the numbers that a run
-- writes are the values of the program's output lines, by school arithmetic, at the numbers of its input values: those
-- of the parties' files, and for a carried value the number of its bits.
abbrev pub RunsWriteNumbers : Type 0
RunsWriteNumbers =
    (files : Contents) (dir : List ℕ) (asked : Option (List ℕ)) (job : JobForm) (whole : WholeJob)
    → JobText false files dir (accepted job) → JobAt files dir asked (accepted whole)
    → (s : ℕ) (form : SessionForm) → slice_get job.sessions s ≡ Some form → form.layout ≡ Numbers
    → (p : List Statement) × IsNumbersOf files dir form p
    × AreOfFiles files dir whole s (input_number whole.world s (input_widths p))
    × WritesValues whole.numeric whole.world s (program_value p (input_number whole.world s (input_widths p)))
