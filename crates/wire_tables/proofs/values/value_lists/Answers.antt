use Rattle.std.proofs.Common.{◌≡◌, ℕ, ◌+◌, ◌^◌, ◌<◌, List, [], length, set, sym, ap, ◌∙◌, subst, arith, length-set}
use Rattle.std.specs.Prelude.{slice_index, slice_index_or}
use Rattle.std.specs.Global.{Vec}
use Rattle.std.specs.Vec.{with_item}
use Rattle.std.proofs.lemmas.List.{length-map, map-set, with_items_is}
use Rattle.list_laws.specs.Lists.{listed}
use Rattle.list_laws.proofs.JoinedLists.{length-listed}
use Rattle.circuit_model.specs.Circuits.{values}
use Rattle.session_slots.specs.Sessions.{Session, gate, owners}
use Rattle.plan_model.specs.InputWords.{session_words}
use Rattle.plan_model.specs.Plans.{session}
use Rattle.share_world.specs.Worlds.{World, first_values, plain, values_before}
use Rattle.wire_tables.specs.WireTables.{input_list}
use Rattle.wire_tables.proofs.ListedRows.{row_read}
use Rattle.wire_tables.proofs.ValueLists.{ListsSoFar, first_list, lists_first, gates_run, values_handed_on, lists_whole, small_list}
use Rattle.wire_tables.proofs.values.value_lists.Goals as goal

-- the lists, after the gates of session s made one of them anew
run_lists : (w : World) (s : ℕ) (lists : List (Vec ℕ)) (old new : Vec ℕ) → s < length w.plan.sessions → ListsSoFar w s s (session_words lists) → old ≡ slice_index_or lists s old
    → new.items ≡ listed (session w.plan s).wires (values (2 ^ w.plan.bits) (gate (session w.plan s)) (slice_index old.items) (length (session w.plan s).gates))
    → ListsSoFar w s (s + 1) (session_words (set lists s new))
run_lists w s lists old new ls h is made =
    let x : Session = session w.plan s in
    let read : old.items ≡ slice_index_or (session_words lists) s [] = row_read lists s old (omega (arith, ls, h.sessions, length-map lists (λ (list : Vec ℕ). list.items))) is in
    subst (ListsSoFar w s (s + 1)) (sym (map-set (λ (list : Vec ℕ). list.items) lists s new))
    (gates_run w s (session_words lists) new.items ls h (made ∙ ap (λ xs. listed x.wires (values (2 ^ w.plan.bits) (gate x) (slice_index xs) (length x.gates))) read))

pub loop-s-2-init : goal.loop-s-2-init
loop-s-2-init c tapes =
    let w : World = record { plan = c.args.plan.now; inputs = c.args.inputs.now; tapes = tapes } in
    let ended : c.loop-s.s ≡ length c.args.plan.now.sessions = omega (arith, c.loop-s-test.false, c.sessions-s-end.ensures, c.loop-s.auto.s-end) in
    lists_first w (session_words c.loop-s.lists.items) (c.loop-s.invariant ∙ ap (λ n. listed n (input_list w)) ended)

pub index_mut-requires : goal.index_mut-requires
index_mut-requires c =
    omega (arith, c.loop-s-2-test.true, c.sessions-s-end-2.ensures, length-map c.loop-s-2.lists.items (λ (list : Vec ℕ). list.items), (c.loop-s-2.invariant []).sessions)

pub run_gates-requires-clause-inputs : goal.run_gates-requires-clause-inputs
run_gates-requires-clause-inputs c =
    let w : World = record { plan = c.args.plan.now; inputs = c.args.inputs.now; tapes = [] } in
    let s = c.loop-s-2.s in
    let ls : s < length w.plan.sessions = omega (arith, c.loop-s-2-test.true, c.sessions-s-end-2.ensures) in
    let so_far = c.loop-s-2.invariant [] in
    let many = length-map c.loop-s-2.lists.items (λ (list : Vec ℕ). list.items) in
    let list_is : c.index_mut.result.now.items ≡ first_list w s s = row_read c.loop-s-2.lists.items s c.index_mut.result.now (omega (arith, ls, many, so_far.sessions)) c.index_mut.ensures.value ∙ so_far.behind s (omega arith) ls in
    ap length list_is ∙ length-listed (length (owners (session w.plan s))) (first_values w (values_before w s) s)

pub run_gates-requires-clause-words : goal.run_gates-requires-clause-words
run_gates-requires-clause-words c =
    let w : World = record { plan = c.args.plan.now; inputs = c.args.inputs.now; tapes = [] } in
    let s = c.loop-s-2.s in
    let ls : s < length w.plan.sessions = omega (arith, c.loop-s-2-test.true, c.sessions-s-end-2.ensures) in
    let so_far = c.loop-s-2.invariant [] in
    let many = length-map c.loop-s-2.lists.items (λ (list : Vec ℕ). list.items) in
    let list_is : c.index_mut.result.now.items ≡ first_list w s s = row_read c.loop-s-2.lists.items s c.index_mut.result.now (omega (arith, ls, many, so_far.sessions)) c.index_mut.ensures.value ∙ so_far.behind s (omega arith) ls in
    small_list w c.recall.ensures c.requires.inputs s s c.index_mut.result.now.items list_is

pub hand_on-requires-clause-sessions : goal.hand_on-requires-clause-sessions
hand_on-requires-clause-sessions c =
    ap (length {A = Vec ℕ}) c.deref_mut.ensures.value ∙ length-set c.loop-s-2.lists.items c.loop-s-2.s c.run_gates.new.list
    ∙ sym (length-map c.loop-s-2.lists.items (λ (list : Vec ℕ). list.items)) ∙ (c.loop-s-2.invariant []).sessions

pub hand_on-requires-clause-wires : goal.hand_on-requires-clause-wires
hand_on-requires-clause-wires c =
    let w : World = record { plan = c.args.plan.now; inputs = c.args.inputs.now; tapes = [] } in
    let s = c.loop-s-2.s in
    let ls : s < length w.plan.sessions = omega (arith, c.loop-s-2-test.true, c.sessions-s-end-2.ensures) in
    let run = run_lists w s c.loop-s-2.lists.items c.index_mut.result.now c.run_gates.new.list ls (c.loop-s-2.invariant []) c.index_mut.ensures.value c.in_ok-run_gates.ensures in
    ap (λ ls. length (slice_index_or (session_words ls) s [])) c.deref_mut.ensures.value ∙ ap length (run.made s (omega arith) ls) ∙ length-listed (session w.plan s).wires (plain w s)

pub hand_on-requires-clause-inputs : goal.hand_on-requires-clause-inputs
hand_on-requires-clause-inputs c u lu lp =
    let w : World = record { plan = c.args.plan.now; inputs = c.args.inputs.now; tapes = [] } in
    let s = c.loop-s-2.s in
    let ls : s < length w.plan.sessions = omega (arith, c.loop-s-2-test.true, c.sessions-s-end-2.ensures) in
    let run = run_lists w s c.loop-s-2.lists.items c.index_mut.result.now c.run_gates.new.list ls (c.loop-s-2.invariant []) c.index_mut.ensures.value c.in_ok-run_gates.ensures in
    ap (λ ls. length (slice_index_or (session_words ls) u [])) c.deref_mut.ensures.value ∙ ap length (run.behind u (omega (arith, lu)) lp) ∙ length-listed (length (owners (session w.plan u))) (first_values w (values_before w s) u)

pub loop-s-2-preserved : goal.loop-s-2-preserved
loop-s-2-preserved c tapes =
    let w : World = record { plan = c.args.plan.now; inputs = c.args.inputs.now; tapes = tapes } in
    let s = c.loop-s-2.s in
    let ls : s < length w.plan.sessions = omega (arith, c.loop-s-2-test.true, c.sessions-s-end-2.ensures) in
    let run = run_lists w s c.loop-s-2.lists.items c.index_mut.result.now c.run_gates.new.list ls (c.loop-s-2.invariant tapes) c.index_mut.ensures.value c.in_ok-run_gates.ensures in
    let old = set c.loop-s-2.lists.items s c.run_gates.new.list in
    let same : c.deref_mut.result.now ≡ old = c.deref_mut.ensures.value in
    let new = c.hand_on.new.lists in
    let run' : ListsSoFar w s (s + 1) (session_words c.deref_mut.result.now) = subst (λ xs. ListsSoFar w s (s + 1) (session_words xs)) (sym same) run in
    let next : ListsSoFar w (s + 1) (s + 1) (session_words new) =
    values_handed_on w s (session_words c.deref_mut.result.now) (session_words new) ls run'
    (length-map new (λ (list : Vec ℕ). list.items) ∙ c.hand_on.ensures.sessions) c.hand_on.ensures.lengths c.hand_on.ensures.handed_on c.recall.ensures in
    let many : length new ≡ length old = omega (arith, c.hand_on.ensures.sessions, length-set c.loop-s-2.lists.items s c.run_gates.new.list, length-map c.loop-s-2.lists.items (λ (list : Vec ℕ). list.items), (c.loop-s-2.invariant tapes).sessions) in
    subst (λ xs. ListsSoFar w (s + 1) (s + 1) (session_words xs)) (sym (with_items_is (with_item c.loop-s-2.lists s c.run_gates.new.list) new (omega (arith, many, c.deref_mut.ensures.len, ap (length {A = Vec ℕ}) same)))) next

pub returns : goal.returns
returns c tapes =
    lists_whole (record { plan = c.args.plan.now; inputs = c.args.inputs.now; tapes = tapes }) c.loop-s-2.s (session_words c.loop-s-2.lists.items)
    (omega (arith, c.loop-s-2-test.false, c.sessions-s-end-2.ensures, c.loop-s-2.auto.s-end)) (c.loop-s-2.invariant tapes)
