use Rattle.std.proofs.Common.{◌≡◌, ◌+◌, ◌<◌, ◌==◌, ◌&&◌, Bool, true, false, nat_lt, ap, ap₂, ◌∙◌, sym, subst, arith}
use Rattle.std.proofs.lemmas.Bool.{and_parts, eq-eqb, eqb-true, lt-ltb, ltb-true}
use Rattle.secret_sharing.specs.Schemes.{has_pair}
use Rattle.plan_model.specs.declared.pattern.Pattern.TheVariants.{Silent, Multiplied}
use Rattle.plan_model.specs.Plans.{Plan, scheme}
use Rattle.program_model.specs.declared.half.Half.TheVariants.{Head, Tail}
use Rattle.program_model.specs.States.{Given}
use Rattle.program_model.specs.Proper.{IsSlot, Multiplies}
use Rattle.party_program.specs.ProgramPlaces.{InProduct}
use Rattle.program_laws.specs.WordsRead.{gate_at}
use Rattle.party_desk.specs.declared.desk.Desk.{Desk}
use Rattle.desk_walks.specs.Walks.{IsBefore, IsDeskOfPlan}
use Rattle.desk_walks.proofs.GateWalks.{goes_stand}
use Rattle.desk_walks.proofs.ComputedGates.{linear_here, own_here, sum_here}
use Rattle.desk_walks.proofs.GatePosts.{none_sent, sent_all, sent_gate, sent_on}
use Rattle.desk_walks.proofs.OwnProducts.{own_slot}
use Rattle.desk_walks.proofs.walks.send_product.Goals as goal
use Rattle.desk_walks.proofs.walks.send_product.Goals.{then-not-is_first-via-then-not-is_first, then-not-is_first-via-else-not-is_first+then-not-multiplies}

-- a desk was found to stand at the first instruction of a product
is_at_first : (d : Desk) (first : Bool) → d.place.half ≡ Head → d.place.pattern ≡ Multiplied → first ≡ (d.place.done == 0 && nat_lt 0 d.place.count) → first ≡ true → InProduct Head d.place × (d.place.done ≡ 0)
is_at_first d first head product told is =
    let both = and_parts (d.place.done == 0) (nat_lt 0 d.place.count) (sym told ∙ is) in
    let none = eqb-true d.place.done 0 both.0 in
    let some = ltb-true 0 d.place.count both.1 in
    ((head, product, omega (arith, none, some)), none)

-- a desk that stands there is found to
is_first : (d : Desk) → d.place.done ≡ 0 → 0 < d.place.count → (d.place.done == 0 && nat_lt 0 d.place.count) ≡ true
is_first d none some = ap₂ (λ a b. a && b) (eq-eqb d.place.done 0 none) (lt-ltb 0 d.place.count some)

has_pair_here : (plan : Plan) (l : Given) (d : Desk) → IsDeskOfPlan plan l d → has_pair (scheme l.plan) l.party ≡ true → has_pair (scheme plan) d.party ≡ true
has_pair_here plan l d goes has =
    subst (λ z. has_pair (scheme z) d.party ≡ true) goes.same (subst (λ p. has_pair (scheme l.plan) p ≡ true) (sym goes.desk.party) has)

pub gate-gate-requires-clause-stands : goal.gate-gate-requires-clause-stands
gate-gate-requires-clause-stands g c = goes_stand c.args.plan.now c.requires.may.0 c.args.desk.now c.requires.may.1.goes

pub gate-gate-requires-clause-gate : goal.gate-gate-requires-clause-gate
gate-gate-requires-clause-gate g c =
    let plan = c.args.plan.now in
    let d = c.args.desk.now in
    let at_first = is_at_first d c.is_first.result c.requires.head c.requires.product c.is_first.ensures c.if-not-is_first.false in
    subst (λ k. IsSlot plan d.session k Multiplies) (sym c.slot.ensures)
    (own_slot plan c.requires.may.0 d c.requires.may.1.goes at_first.0 at_first.1 (sym c.multiplies.ensures ∙ c.if-not-multiplies.false))

pub deal_own-requires-clause-product : goal.deal_own-requires-clause-product
deal_own-requires-clause-product g c = (is_at_first c.args.desk.now c.is_first.result c.requires.head c.requires.product c.is_first.ensures c.if-not-is_first.false).0

pub deal_own-requires-clause-first : goal.deal_own-requires-clause-first
deal_own-requires-clause-first g c = (is_at_first c.args.desk.now c.is_first.result c.requires.head c.requires.product c.is_first.ensures c.if-not-is_first.false).1

pub deal_own-requires-clause-gate : goal.deal_own-requires-clause-gate
deal_own-requires-clause-gate g c = c.gate-gate.ensures.is ∙ ap (gate_at c.args.plan.now c.args.desk.now.session) c.slot.ensures

pub post_each-requires-clause-sends : goal.post_each-requires-clause-sends
post_each-requires-clause-sends g c = (c.requires.may.0, c.deal_own.ensures.sends c.requires.may.0 c.requires.may.1.goes, c.requires.may.1.promises)

pub post_each-requires-clause-wire : goal.post_each-requires-clause-wire
post_each-requires-clause-wire g c =
    ap (λ z. z.output) (c.gate-gate.ensures.is ∙ ap (gate_at c.args.plan.now c.args.desk.now.session) c.slot.ensures)
    ∙ ap (λ (z : Desk). (gate_at c.args.plan.now z.session z.place.slot).output) (sym c.deal_own.ensures.rest)

pub returns-clause-does : goal.returns-clause-does
returns-clause-does g c z given may =
    let plan = c.args.plan.now in
    let d = c.args.desk.now in
    let dealt = c.deal_own.new.desk in
    let posted = c.post_each.new.desk in
    let s = c.args.seat.now in
    let t = c.post_each.new.seat in
    let sent = c.post_each.ensures.walks given (c.deal_own.ensures.sends given may.goes) may.promises in
    let slot = ap (λ (z : Desk). z.place.slot) c.post_each.ensures.rest ∙ ap (λ (z : Desk). z.place.slot) c.deal_own.ensures.rest in
    let count = ap (λ (z : Desk). z.place.count) (sym c.post_each.ensures.rest) in
    let first = ap (λ (z : Desk). z.position) c.deal_own.ensures.rest in
    let second = sent.1.forth in
    record {
      gate = subst (λ k. IsSlot given.plan given.session k Multiplies) slot (sent_gate plan given dealt.place.count posted sent.0);
      before = subst (λ k. IsBefore plan given Head (k + 1) posted) slot (sent_all plan given dealt.place.count posted sent.0 count);
      on = omega (arith, first, second);
      sends = sent_on given s s t d.position dealt.position posted.position (none_sent given s d.position dealt.position (omega (arith, first)) (c.deal_own.ensures.no_post given may.goes)) sent.1;
    }

-- in the middle of a head there is nothing to compute
pub returns-then-not-is_first-clause-through : goal.returns-then-not-is_first-clause-through
returns-then-not-is_first-clause-through g c z given may =
    let d = c.args.desk.now in
    let goes = may.goes in (
      (λ k is.
          let here = own_here given d goes.desk k is in
          elim c.then-not-is_first.branch [
            | then-not-is_first-via-then-not-is_first w ↦
                let first = is_first d here.2 here.3 in
                let clash : false ≡ true = sym w.if-not-is_first.true ∙ c.is_first.ensures ∙ first in
                cc
            | then-not-is_first-via-else-not-is_first+then-not-multiplies w ↦
                let has : has_pair (scheme c.args.plan.now) d.party ≡ true = has_pair_here c.args.plan.now given d goes here.4 in
                let clash : false ≡ true = sym w.if-not-multiplies.true ∙ w.multiplies.ensures ∙ has in
                cc
          ]),
      (λ k is. let clash : Head ≡ Tail = sym c.requires.head ∙ (sum_here given d goes.desk k is).0 in cc),
      (λ k is. let clash : Multiplied ≡ Silent = sym c.requires.product ∙ (linear_here given d goes.desk k is).1 in cc),
    )
