-- What a job computes in a session, by the circuit that the session's file has, whatever the order of its gates.
use Rattle.std.specs.Prelude.{◌≡◌, ℕ, ◌+◌, ◌-◌, ◌<◌, ◌≤◌, Bool, true, false, List, length, map, Option, Some, Ok, slice_index, slice_get}
use Rattle.list_laws.specs.Lists.{total}
use Rattle.circuit_model.specs.Netlists.{Netlist, output_wires, plain as value}
use Rattle.circuit_file.specs.CircuitFiles.{circuit_in}
use Rattle.expr_circuit.specs.Laws.{IsCircuitOf}
use Rattle.number_compiler.specs.Laws.{IsCircuitOf as IsCircuitOfNumbers}
use Rattle.layer_order.specs.Depths.{depth}
use Rattle.session_slots.specs.declared.values.InputValue.{InputValue}
use Rattle.session_slots.specs.Sessions.{Session}
use Rattle.job_session.specs.Batches.{batches}
use Rattle.layer_laws.specs.Layers.{preparing_batches}
use Rattle.plan_model.specs.Plans.{session}
use Rattle.share_world.specs.Worlds.{World, first_values, plain}
use Rattle.value_words.specs.Turned.{shown_words}
use Rattle.output_text.specs.OutText.{value_words}
use Rattle.job_file.specs.Forms.{JobForm, SessionForm}
use Rattle.job_file.specs.declared.layout.SessionLayout.{SessionLayout}
use Rattle.job_file.specs.declared.layout.SessionLayout.TheVariants.{Gates, Expressions, Numbers}
use Rattle.job_walk.specs.Names.{path_of}
use Rattle.job_walk.specs.Verdict.{accepted}
use Rattle.job_walk.specs.JobOf.{Contents, JobText, has_layers}
use Rattle.job_walk.specs.NodeOf.{NodeForm, NodeAt}
use Rattle.mpc_top.specs.WholeJobs.{WholeJob, JobAt}

-- the text has this circuit, as its layout reads it
abbrev pub IsCircuitIn : SessionLayout → ℕ → List ℕ → Netlist → Type 0
IsCircuitIn (Gates layout) bits text c = circuit_in layout bits text ≡ Ok c
IsCircuitIn Expressions bits text c = IsCircuitOf bits text c
IsCircuitIn Numbers bits text c = (bits ≡ 1) × IsCircuitOfNumbers text c

-- the file of a session has this circuit
pub record HasCircuit (files : Contents) (dir : List ℕ) (bits : ℕ) (form : SessionForm) (c : Netlist) : Type 0 where
  pub text : List ℕ
  pub file : files (path_of dir form.circuit) ≡ Some text
  pub is : IsCircuitIn form.layout bits text c

-- the word of wire i of output value v: the last wires are those of the output values, the first value's first
abbrev pub output_word : Netlist → (ℕ → ℕ) → ℕ → ℕ → ℕ
output_word c inputs v i = value c inputs (c.wires - output_wires c + (total v (slice_index c.outputs) + i))

-- session s computes this circuit: it has the circuit's input values, at the values of its input wires each wire has
-- the circuit's value, and what is written of each output value is what is written of the circuit's words
pub record ComputesCircuit (numeric : List Bool) (w : World) (s : ℕ) (c : Netlist) : Type 0 where
  pub values : (v : ℕ) → plain w s v ≡ value c (first_values w (plain w) s) v
  pub inputs : map (λ (value : InputValue). value.width) (session w.plan s).inputs ≡ c.inputs
  pub count : length (session w.plan s).outputs ≡ length c.outputs
  pub words : (v : ℕ) → v < length c.outputs
      → value_words numeric w s v
      ≡ shown_words numeric s w.plan.bits (slice_index c.outputs v) (output_word c (first_values w (plain w) s) v)

-- Each session of a job whose files are accepted computes the circuit of its file: its input wires have the inputs of
-- the parties' files, or the values of the wires that they carry.
abbrev pub RunsComputeCircuits : Type 0
RunsComputeCircuits =
    (files : Contents) (dir : List ℕ) (asked : Option (List ℕ)) (job : JobForm) (whole : WholeJob)
    → JobText false files dir (accepted job) → JobAt files dir asked (accepted whole)
    → (s : ℕ) (form : SessionForm) → slice_get job.sessions s ≡ Some form
    → (c : Netlist) × HasCircuit files dir job.bits form c × ComputesCircuit whole.numeric whole.world s c

-- ---- rounds

-- the batches of a session are few for the depth of this circuit: one for the inputs, one for each product of the
-- longest path, one for the outputs, and those of the preparation
pub record TakesFewBatches (s : Session) (c : Netlist) : Type 0 where
  pub direct : s.prepared ≡ false → batches s ≤ depth c.gates + 2
  pub prepared : batches s ≤ preparing_batches s + depth c.gates + 2
  pub ahead : s.ahead ≡ true → batches s ≤ depth c.gates + 3

-- each session of a job whose gates go in layers, as those of a program of numbers do, takes few for the circuit of its
-- file
abbrev pub LayersTakeFewBatches : Type 0
LayersTakeFewBatches =
    (files : Contents) (dir : List ℕ) (asked : Option (List ℕ)) (job : JobForm) (whole : WholeJob)
    → JobText false files dir (accepted job) → JobAt files dir asked (accepted whole)
    → (s : ℕ) (form : SessionForm) → slice_get job.sessions s ≡ Some form → has_layers form ≡ true
    → (c : Netlist) × HasCircuit files dir job.bits form c × TakesFewBatches (session whole.world.plan s) c

-- and so does each session of a node
abbrev pub NodesTakeFewBatches : Type 0
NodesTakeFewBatches =
    (files : Contents) (dir name : List ℕ) (job : JobForm) (node : NodeForm)
    → JobText true files dir (accepted job) → NodeAt files dir name (accepted node)
    → (s : ℕ) (form : SessionForm) → slice_get job.sessions s ≡ Some form → has_layers form ≡ true
    → (c : Netlist) × HasCircuit files dir job.bits form c × TakesFewBatches (session node.plan s) c
