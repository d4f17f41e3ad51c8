use Rattle.std.proofs.Common.{◌≡◌, ℕ, ◌<◌, List, length, sym, ap, ap₂, ◌∙◌, arith}
use Rattle.std.specs.Prelude.{slice_index, slice_index_or}
use Rattle.std.specs.Global.{Vec}
use Rattle.std.proofs.lemmas.List.{length-map}
use Rattle.list_laws.specs.Checks.{first_fault}
use Rattle.list_laws.proofs.FirstFaults.{joined-stops, joined_more-passed}
use Rattle.plan_model.specs.InputWords.{session_words}
use Rattle.plan_model.specs.Plans.{Plan}
use Rattle.wire_tables.specs.WireTables.{value_at}
use Rattle.wire_tables.proofs.ListedRows.{row_read}
use Rattle.tape_map.specs.MapFaults.{value_checks}
use Rattle.tape_map.proofs.outputs.output_fault.Goals as goal

-- the checks of session s, as its lists were read
read_checks : (plan : Plan) (mask s : ℕ) (firsts seconds : List (Vec ℕ)) (first second : Vec ℕ) (a b : List ℕ) → s < length firsts → s < length seconds
    → first ≡ slice_index_or firsts s first → second ≡ slice_index_or seconds s second → a ≡ first.items → b ≡ second.items
    → value_checks plan mask s (slice_index a) (slice_index b) ≡ value_checks plan mask s (value_at (session_words firsts) s) (value_at (session_words seconds) s)
read_checks plan mask s firsts seconds first second a b lf ls ef es ea eb =
    ap₂ (λ xs ys. value_checks plan mask s (slice_index xs) (slice_index ys)) (ea ∙ row_read firsts s first lf ef) (eb ∙ row_read seconds s second ls es)

pub bounds-first-s : goal.bounds-first-s
bounds-first-s c = omega (arith, c.loop-s-test.true, c.sessions-s-end.ensures, c.requires.first.sessions, length-map c.args.first.now (λ (list : Vec ℕ). list.items))

pub bounds-second-s : goal.bounds-second-s
bounds-second-s c = omega (arith, c.loop-s-test.true, c.sessions-s-end.ensures, c.requires.second.sessions, length-map c.args.second.now (λ (list : Vec ℕ). list.items))

pub session_fault-requires-clause-first : goal.session_fault-requires-clause-first
session_fault-requires-clause-first c =
    let s = c.loop-s.s in
    let ls : s < length c.args.plan.now.sessions = omega (arith, c.loop-s-test.true, c.sessions-s-end.ensures) in
    let there : s < length c.args.first.now = omega (arith, ls, c.requires.first.sessions, length-map c.args.first.now (λ (list : Vec ℕ). list.items)) in
    ap length (c.deref.ensures.value ∙ row_read c.args.first.now s c.index-first-s.result there c.index-first-s.is) ∙ c.requires.first.wires s ls

pub session_fault-requires-clause-second : goal.session_fault-requires-clause-second
session_fault-requires-clause-second c =
    let s = c.loop-s.s in
    let ls : s < length c.args.plan.now.sessions = omega (arith, c.loop-s-test.true, c.sessions-s-end.ensures) in
    let there : s < length c.args.second.now = omega (arith, ls, c.requires.second.sessions, length-map c.args.second.now (λ (list : Vec ℕ). list.items)) in
    ap length (c.deref-in-loop-s.ensures.value ∙ row_read c.args.second.now s c.index-second-s.result there c.index-second-s.is) ∙ c.requires.second.wires s ls

pub returns-in-Some : goal.returns-in-Some
returns-in-Some c =
    let plan = c.args.plan.now in
    let s = c.loop-s.s in
    let mask = c.args.group.mask in
    let ls : s < length plan.sessions = omega (arith, c.loop-s-test.true, c.sessions-s-end.ensures) in
    let lf : s < length c.args.first.now = omega (arith, ls, c.requires.first.sessions, length-map c.args.first.now (λ (list : Vec ℕ). list.items)) in
    let lg : s < length c.args.second.now = omega (arith, ls, c.requires.second.sessions, length-map c.args.second.now (λ (list : Vec ℕ). list.items)) in
    let same = read_checks plan mask s c.args.first.now c.args.second.now _ _ _ _ lf lg c.index-first-s.is c.index-second-s.is c.deref.ensures.value c.deref-in-loop-s.ensures.value in
    sym (joined-stops (length plan.sessions) s (λ s. value_checks plan mask s (value_at (session_words c.args.first.now) s) (value_at (session_words c.args.second.now) s))
    c.in-Some.fault ls c.loop-s.invariant (ap first_fault (sym same) ∙ sym c.session_fault.ensures ∙ c.in-Some.is))

pub loop-s-preserved : goal.loop-s-preserved
loop-s-preserved c =
    let plan = c.args.plan.now in
    let s = c.loop-s.s in
    let mask = c.args.group.mask in
    let ls : s < length plan.sessions = omega (arith, c.loop-s-test.true, c.sessions-s-end.ensures) in
    let lf : s < length c.args.first.now = omega (arith, ls, c.requires.first.sessions, length-map c.args.first.now (λ (list : Vec ℕ). list.items)) in
    let lg : s < length c.args.second.now = omega (arith, ls, c.requires.second.sessions, length-map c.args.second.now (λ (list : Vec ℕ). list.items)) in
    let same = read_checks plan mask s c.args.first.now c.args.second.now _ _ _ _ lf lg c.index-first-s.is c.index-second-s.is c.deref.ensures.value c.deref-in-loop-s.ensures.value in
    joined_more-passed s (λ s. value_checks plan mask s (value_at (session_words c.args.first.now) s) (value_at (session_words c.args.second.now) s))
    c.loop-s.invariant (ap first_fault (sym same) ∙ sym c.session_fault.ensures ∙ c.in_default.is)
