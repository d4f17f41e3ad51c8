use Rattle.std.proofs.Common.{◌≡◌, ℕ, ◌+◌, ◌<◌, [], length, set, sym, ap, ◌∙◌, arith, length-set}
use Rattle.std.specs.Prelude.{slice_index}
use Rattle.std.specs.Global.{Vec}
use Rattle.std.proofs.lemmas.List.{with_items_is}
use Rattle.session_slots.specs.declared.source.Source.TheVariants.{Given}
use Rattle.session_slots.specs.Sessions.{Session, owners, source}
use Rattle.plan_model.specs.InputWords.{given}
use Rattle.plan_model.specs.Plans.{session, given_before, input_count}
use Rattle.plan_model.proofs.GrownLists.{listed_push}
use Rattle.share_world.specs.Worlds.{World, input_of, source_input}
use Rattle.wire_tables.proofs.ValueSteps.{given_next, carried_next, given_within}
use Rattle.wire_tables.proofs.values.input_list.Goals as goal
use Rattle.wire_tables.proofs.values.input_list.Goals.{in-Given, in-Earlier}

pub next_input-word-requires-clause-enough : goal.next_input-word-requires-clause-enough
next_input-word-requires-clause-enough c =
    let plan = c.args.plan.now in
    let s = c.args.s in
    let x : Session = session plan s in
    let v = c.loop-v.v in
    let p = c.in-Given.party in
    let lv : v < length (owners x) = omega (arith, c.loop-v-test.true, c.input_wires-v-end.ensures, ap (λ y. length (owners y)) c.part-part.ensures) in
    let from : source x v ≡ Given p = ap (λ (y : Session). source y v) (sym c.part-part.ensures) ∙ sym c.source.ensures ∙ c.in-Given.is in
    let lp : p < plan.parties = (c.parties.ensures.sound.sessions s c.requires.session).owned v p lv from in
    let count : length (given c.args.inputs.now p s) ≡ input_count plan p s = c.requires.inputs.counts p s lp c.requires.session in
    let within : given_before plan p s v < input_count plan p s = given_within (source x) v p (length (owners x)) lv from in
    omega (arith, ap (λ xs. slice_index xs p) c.deref_mut.ensures.value, c.loop-v.invariant.given p lp, within, count)

pub loop-v-preserved : goal.loop-v-preserved
loop-v-preserved c =
    let plan = c.args.plan.now in
    let s = c.args.s in
    let x : Session = session plan s in
    let w : World = record { plan = plan; inputs = c.args.inputs.now; tapes = [] } in
    let v = c.loop-v.v in
    let counts = c.loop-v.given.items in
    let lv : v < length (owners x) = omega (arith, c.loop-v-test.true, c.input_wires-v-end.ensures, ap (λ y. length (owners y)) c.part-part.ensures) in
    let read : source x v ≡ c.source.result = ap (λ (y : Session). source y v) (sym c.part-part.ensures) ∙ sym c.source.ensures in
    elim c.match-source.branch [
      | in-Given b ↦
          let p = b.in-Given.party in
          let from : source x v ≡ Given p = read ∙ b.in-Given.is in
          let lp : p < plan.parties = (c.parties.ensures.sound.sessions s c.requires.session).owned v p lv from in
          let old : b.deref_mut.result.now ≡ counts = b.deref_mut.ensures.value in
          let new = b.next_input-word.new.counts in
          let new_is : new ≡ set counts p (slice_index counts p + 1) = b.next_input-word.ensures.count ∙ ap (λ xs. set xs p (slice_index xs p + 1)) old in
          let items : c.match-source.given.items ≡ new = ap (λ (g : Vec ℕ). g.items) b.given-is ∙ with_items_is c.loop-v.given new (omega (arith, ap (length {A = ℕ}) new_is, length-set counts p (slice_index counts p + 1), b.deref_mut.ensures.len)) in
          let word : b.next_input-word.result ≡ input_of w s v =
          b.next_input-word.ensures.word ∙ ap (slice_index (given c.args.inputs.now p s)) (ap (λ xs. slice_index xs p) old ∙ c.loop-v.invariant.given p lp) ∙ ap (source_input w s v) (sym from) in
          record {
            parties = ap (length {A = ℕ}) (items ∙ new_is) ∙ length-set counts p (slice_index counts p + 1) ∙ c.loop-v.invariant.parties;
            given = λ q lq. ap (λ xs. slice_index xs q) (items ∙ new_is) ∙ given_next (source x) counts v p plan.parties c.loop-v.invariant.parties lp from c.loop-v.invariant.given q lq;
            list = c.in_ok-push.ensures.items ∙ listed_push v (input_of w s) c.loop-v.list.items c.match-source.word c.loop-v.invariant.list (b.word-is ∙ word);
          }
      | in-Earlier b ↦
          let from = read ∙ b.in-Earlier.is in
          let items : c.match-source.given.items ≡ counts = ap (λ (g : Vec ℕ). g.items) b.given-is in
          let none : (q : ℕ) → source x v ≡ Given q → ⊥ = λ q e. (let both = sym e ∙ from in cc) in
          record {
            parties = ap (length {A = ℕ}) items ∙ c.loop-v.invariant.parties;
            given = λ q lq. ap (λ xs. slice_index xs q) items ∙ c.loop-v.invariant.given q lq ∙ sym (carried_next (source x) v q none);
            list = c.in_ok-push.ensures.items ∙ listed_push v (input_of w s) c.loop-v.list.items c.match-source.word c.loop-v.invariant.list (b.word-is ∙ ap (source_input w s v) (sym from));
          }
    ]
