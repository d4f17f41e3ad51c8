use Rattle.std.proofs.Common.{◌≡◌, ℕ, ◌+◌, ◌<◌, ◌≤◌, false, ◌++◌, List, length, sym, ap, ◌∙◌, subst, arith}
use Rattle.std.specs.Prelude.{All, slice_index_or}
use Rattle.std.specs.Global.{Vec}
use Rattle.std.proofs.lemmas.Bool.{cases_lt, ne_eqb}
use Rattle.std.proofs.lemmas.List.{get_or_past}
use mathlib.Core.Logic.{inl, inr}
use Rattle.list_laws.specs.Lists.{joined}
use Rattle.list_laws.proofs.JoinedLists.{joined_step, joined_step_none, length-listed, listed_at}
use Rattle.session_slots.specs.declared.source.Source.TheVariants.{Earlier}
use Rattle.session_slots.specs.Sessions.{Session, carries, first_output, no_session, readers, session_at, source}
use Rattle.session_slots.specs.Carries.{kept_for, AllFit, first_outputs}
use Rattle.session_slots.specs.declared.values.KeptWire.{KeptWire}
use Rattle.session_slots.specs.SoundSessions.{IsWired}
use Rattle.session_slots.proofs.KeptSessions.{kept_here, kept_not, there, value_of, IsValueOf}
use Rattle.job_session.proofs.keeping.push_carried.Goals as goal
use Rattle.job_session.proofs.keeping.push_carried.Goals.{in-Earlier+in_ok-push-in-Earlier, in-Earlier+else-session-r, in-Given}

-- the wire that is carried, where it is from session r
carried : (sessions : List Session) → AllFit sessions → (s v q c i r : ℕ) → source (session_at sessions s) v ≡ Earlier q c i → q ≡ r → IsValueOf (session_at sessions r) c i
carried sessions fit s v q c i r e same = subst (λ q. IsValueOf (session_at sessions q) c i) same (value_of sessions fit s v q c i e)

-- the wire that it carries, behind the first of its value
firsts_at : (x : Session) (firsts : List ℕ) (c : ℕ) → firsts ≡ first_outputs x → c < length x.outputs → slice_index_or firsts c 0 ≡ first_output x c
firsts_at x firsts c e l = ap (λ list. slice_index_or list c 0) e ∙ listed_at (length x.outputs) (first_output x) c 0 l

few_readers : (sessions : List Session) (r : ℕ) → All IsWired sessions → length (readers (session_at sessions r)) ≤ 131072
few_readers sessions r wired = elim (cases_lt r (length sessions)) [
  | inl l ↦ omega (arith, (wired r no_session l).wires, (wired r no_session l).output_wires)
  | inr past ↦ omega (arith, ap (λ x. length (readers x)) (get_or_past sessions r no_session past))
]

pub bounds-firsts-value : goal.bounds-firsts-value
bounds-firsts-value c =
    let sessions = c.args.parts.now in
    let x = session_at sessions c.args.r in
    let part = there sessions c.args.s c.index-parts-s.result c.requires.session c.index-parts-s.is in
    let from = ap (λ y. source y c.loop-wire.wire) (sym part) ∙ sym c.in-Earlier.ensures in
    let of = carried sessions c.requires.fit c.args.s c.loop-wire.wire c.in-Earlier.session c.in-Earlier.value c.in-Earlier.place c.args.r from c.if-session-r.true in
    omega (arith, of.value, ap length c.requires.firsts, length-listed (length x.outputs) (first_output x))

pub overflow_add-firsts : goal.overflow_add-firsts
overflow_add-firsts c =
    let sessions = c.args.parts.now in
    let x = session_at sessions c.args.r in
    let part = there sessions c.args.s c.index-parts-s.result c.requires.session c.index-parts-s.is in
    let from = ap (λ y. source y c.loop-wire.wire) (sym part) ∙ sym c.in-Earlier.ensures in
    let of = carried sessions c.requires.fit c.args.s c.loop-wire.wire c.in-Earlier.session c.in-Earlier.value c.in-Earlier.place c.args.r from c.if-session-r.true in
    let few : length (readers x) ≤ 131072 = few_readers sessions c.args.r c.requires.wired in
    omega (arith, of.wire, few, firsts_at x c.args.firsts.now c.in-Earlier.value c.requires.firsts of.value)

pub loop-wire-preserved : goal.loop-wire-preserved
loop-wire-preserved c =
    let sessions = c.args.parts.now in
    let x = session_at sessions c.args.r in
    let s = c.args.s in
    let v = c.loop-wire.wire in
    let part = there sessions s c.index-parts-s.result c.requires.session c.index-parts-s.is in
    let given = ap (λ y. source y v) (sym part) in
    let items : Vec KeptWire → List KeptWire = λ list. list.items in
    let unless : carries c.args.r (source (session_at sessions s) v) ≡ false → c.loop-wire.kept.items ≡ c.args.kept.now.items ++ joined (v + 1) (kept_for sessions c.args.r s) =
    λ e. joined_step_none v (kept_for sessions c.args.r s) c.args.kept.now.items c.loop-wire.kept.items c.loop-wire.invariant (kept_not sessions c.args.r s v e) in
    elim c.match-source.branch [
      | in-Earlier+in_ok-push-in-Earlier w ↦
          let from = given ∙ sym w.in-Earlier.ensures in
          let q = w.in-Earlier.session in
          let of = carried sessions c.requires.fit s v q w.in-Earlier.value w.in-Earlier.place c.args.r from w.if-session-r.true in
          let first = firsts_at x c.args.firsts.now w.in-Earlier.value c.requires.firsts of.value in
          ap items w.kept-is ∙ w.in_ok-push-in-Earlier.ensures.items
          ∙ joined_step v (kept_for sessions c.args.r s) c.args.kept.now.items c.loop-wire.kept.items _ c.loop-wire.invariant
          (kept_here sessions c.args.r s v q w.in-Earlier.value w.in-Earlier.place _ from w.if-session-r.true first)
      | in-Earlier+else-session-r w ↦ ap items w.kept-is ∙ unless (ap (carries c.args.r) (given ∙ sym w.in-Earlier.ensures) ∙ ne_eqb w.in-Earlier.session c.args.r w.if-session-r.false)
      | in-Given w ↦ ap items w.kept-is ∙ unless (ap (carries c.args.r) (given ∙ sym w.in-Given.ensures))
    ]
