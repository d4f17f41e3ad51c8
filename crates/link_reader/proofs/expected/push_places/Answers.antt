use Rattle.std.proofs.Common.{◌≡◌, ◌<◌, ◌≤◌, ◌+◌, ℕ, length, refl, sym, ap, subst, ◌∙◌, arith, length-append}
use Rattle.std.proofs.lemmas.List.{length-set}
use Rattle.std.specs.Prelude.{slice_index}
use Rattle.plan_model.specs.Firsts.{first}
use Rattle.plan_model.specs.Numbers.{message}
use Rattle.plan_model.specs.Patterns.{transfers}
use Rattle.plan_model.proofs.SlotStarts.{first_next}
use Rattle.link_reader.specs.Expected.{ArePlaced, sent_before}
use Rattle.link_reader.proofs.ExpectedMessages.{place_in, count_more, count_same, few_before, place_more, transfer_is}
use Rattle.plan_model.proofs.NamedTransfers.{count_is}
use Rattle.link_reader.proofs.expected.push_places.Goals as goal
use Rattle.link_reader.proofs.expected.push_places.Goals.{then-key-me, else-key-me}

pub bounds-counts-sender : goal.bounds-counts-sender
bounds-counts-sender c =
    let m = transfer_is c.args.plan.now c.args.s c.args.k c.transfers-transfers.result.now (c.transfers-transfers.ensures ∙ ap (transfers c.args.plan.now) c.pattern.ensures.is) c.requires.session c.requires.slot c.loop-i.i c.loop-i-test.true c.requires.sound c.named-key.result c.named-key.ensures in
    omega (arith, m.sender, c.loop-i.invariant.many)

pub bounds-counts-sender-then-key-me : goal.bounds-counts-sender-then-key-me
bounds-counts-sender-then-key-me c =
    let m = transfer_is c.args.plan.now c.args.s c.args.k c.transfers-transfers.result.now (c.transfers-transfers.ensures ∙ ap (transfers c.args.plan.now) c.pattern.ensures.is) c.requires.session c.requires.slot c.loop-i.i c.loop-i-test.true c.requires.sound c.named-key.result c.named-key.ensures in
    omega (arith, m.sender, c.loop-i.invariant.many)

pub bounds-counts-sender-then-key-me-2 : goal.bounds-counts-sender-then-key-me-2
bounds-counts-sender-then-key-me-2 c =
    let m = transfer_is c.args.plan.now c.args.s c.args.k c.transfers-transfers.result.now (c.transfers-transfers.ensures ∙ ap (transfers c.args.plan.now) c.pattern.ensures.is) c.requires.session c.requires.slot c.loop-i.i c.loop-i-test.true c.requires.sound c.named-key.result c.named-key.ensures in
    omega (arith, m.sender, c.loop-i.invariant.many)

pub overflow_add-counts : goal.overflow_add-counts
overflow_add-counts c =
    let plan = c.args.plan.now in
    let n : ℕ = first plan c.args.s c.args.k + c.loop-i.i in
    let m = transfer_is plan c.args.s c.args.k c.transfers-transfers.result.now (c.transfers-transfers.ensures ∙ ap (transfers plan) c.pattern.ensures.is) c.requires.session c.requires.slot c.loop-i.i c.loop-i-test.true c.requires.sound c.named-key.result c.named-key.ensures in
    let few : slice_index c.loop-i.counts c.named-key.result.sender ≤ n = omega (arith, c.loop-i.invariant.sent c.named-key.result.sender m.sender, few_before plan c.named-key.result.sender c.args.me n) in
    omega (arith, few, m.there, c.requires.sound.few_messages)

pub loop-i-preserved : goal.loop-i-preserved
loop-i-preserved c =
    let h = c.loop-i.invariant in
    let plan = c.args.plan.now in
    let n : ℕ = first plan c.args.s c.args.k + c.loop-i.i in
    let m = transfer_is plan c.args.s c.args.k c.transfers-transfers.result.now (c.transfers-transfers.ensures ∙ ap (transfers plan) c.pattern.ensures.is) c.requires.session c.requires.slot c.loop-i.i c.loop-i-test.true c.requires.sound c.named-key.result c.named-key.ensures in
    let q : ℕ = c.named-key.result.sender in
    let same : (message plan n).sender ≡ q = ap (λ k. k.sender) m.is in
    let here : slice_index c.loop-i.counts q ≡ place_in plan c.args.me n = h.sent q m.sender ∙ ap (λ z. sent_before plan z c.args.me n) (sym same) in
    let items = c.in_ok-push.ensures.items in
    let long : length c.push.new.self.items ≡ n + 1 = ap (λ z. length z) items ∙ length-append c.loop-i.places.items _ ∙ ap (λ z. z + 1) h.long in
    let each : (p : ℕ) → p < n + 1 → slice_index c.push.new.self.items p ≡ place_in plan c.args.me p = λ p lp. ap (λ z. slice_index z p) items ∙ place_more plan c.args.me n m.there c.loop-i.places.items _ h.long h.each here p lp in
    subst (λ z. ArePlaced plan c.args.me z c.push.new.self.items c.if-key-me.counts) (omega arith)
    (elim c.if-key-me.branch [
      | then-key-me w ↦
          record {
            long = long;
            each = each;
            many = ap (λ z. length z) w.counts-is ∙ length-set c.loop-i.counts q (slice_index c.loop-i.counts q + 1) ∙ h.many;
            sent = λ r lr. ap (λ z. slice_index z r) w.counts-is ∙ count_more plan c.args.me n m.there c.loop-i.counts h.many h.sent q (slice_index c.loop-i.counts q + 1) m.sender same (ap (λ k. k.receiver) m.is ∙ w.if-key-me.true) refl r lr;
          }
      | else-key-me w ↦
          record {
            long = long;
            each = each;
            many = ap (λ z. length z) w.counts-is ∙ h.many;
            sent = λ r lr. ap (λ z. slice_index z r) w.counts-is ∙ count_same plan c.args.me n m.there c.loop-i.counts h.many h.sent (λ e. w.if-key-me.false (sym (ap (λ k. k.receiver) m.is) ∙ e)) r lr;
          }
    ])

pub returns : goal.returns
returns c =
    let plan = c.args.plan.now in
    let many = count_is plan c.args.s c.args.k c.transfers-transfers.result.now (c.transfers-transfers.ensures ∙ ap (transfers plan) c.pattern.ensures.is) in
    subst (λ z. ArePlaced plan c.args.me z c.loop-i.places.items c.loop-i.counts) (omega (arith, many, first_next plan c.args.s c.args.k)) c.loop-i.invariant
