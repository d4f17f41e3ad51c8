use Rattle.std.proofs.Common.{◌≡◌, ℕ, ◌<◌, [], length}
use Rattle.std.specs.Prelude.{slice_index}
use Rattle.list_laws.specs.Lists.{listed}
use Rattle.plan_model.specs.Plans.{given_before}
use Rattle.share_world.specs.Worlds.{input_of}
use Rattle.wire_tables.proofs.values.input_list.Given as goal

-- the words so far, and how many each party gave
abbrev pub invariant-loop-v : goal.invariant-loop-v
invariant-loop-v l = record {
  parties : length l.given.items ≡ l.plan.parties;
  given : (p : ℕ) → p < l.plan.parties → slice_index l.given.items p ≡ given_before l.plan p l.s l.v;
  list : l.list.items ≡ listed l.v (input_of (record { plan = l.plan; inputs = l.inputs; tapes = [] }) l.s);
}
