use Rattle.std.proofs.Common.{◌≡◌, ℕ, List, []}
use Rattle.list_laws.specs.Lists.{listed}
use Rattle.plan_model.specs.InputWords.{session_words}
use Rattle.wire_tables.specs.WireTables.{input_list}
use Rattle.wire_tables.proofs.ValueLists.{ListsSoFar}
use Rattle.wire_tables.proofs.values.value_lists.Given as goal

-- the words that are given so far
abbrev pub invariant-loop-s : goal.invariant-loop-s
invariant-loop-s l = session_words l.lists.items ≡ listed l.s (input_list (record { plan = l.plan; inputs = l.inputs; tapes = [] }))

-- the values of the sessions so far
abbrev pub invariant-loop-s-2 : goal.invariant-loop-s-2
invariant-loop-s-2 l = (tapes : List (List ℕ)) → ListsSoFar (record { plan = l.plan; inputs = l.inputs; tapes = tapes }) l.s l.s (session_words l.lists.items)
