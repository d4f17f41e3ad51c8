use Rattle.std.proofs.Common.{◌≡◌, ◌+◌, ◌<◌, ap, sym, ◌∙◌, arith}
use Rattle.inbox_board.specs.Rule.{stores}
use Rattle.inbox_board.proofs.RuleSteps.{stores_keep, counts_keep}
use Rattle.inbox_board.proofs.inbox.Inbox.push.Goals as goal

pub store-requires : goal.store-requires
store-requires c =
    let pen : c.seat.inside.seat.me.0.pens ≡ 1 = ap (λ s. s.view.pens) c.seat.view_is ∙ c.requires.writes.0 in
    let length : c.seat.inside.seat.me.0.length ≡ c.args.seat.now.view.length = ap (λ s. s.view.length) c.seat.view_is in
    let places : c.self.inside.table.shared.key ≡ c.args.self.now.places = ap (λ p. p.places) c.self.view_is in
    let free : c.seat.inside.seat.me.0.length < c.self.inside.table.shared.key = (let f = c.requires.free in omega arith) in
    let at : c.seat.inside.length ≡ c.seat.inside.seat.me.0.length = c.seat.invariant.1.length in (
      ap (λ s. s.id) c.seat.view_is ∙ c.requires.seat ∙ sym (ap (λ p. p.id) c.self.view_is),
      (let e = c.self.invariant.0 in omega arith),
      stores_keep _ _ _ _ _ _ (omega arith) free (ap (λ n. n + 3) at),
    )

pub store-requires-2 : goal.store-requires-2
store-requires-2 c =
    let pen : c.seat.inside.seat.me.0.pens ≡ 1 = ap (λ s. s.view.pens) c.seat.view_is ∙ c.requires.writes.0 in
    let at : c.seat.inside.length ≡ c.seat.inside.seat.me.0.length = c.seat.invariant.1.length in
    let e : c.store.new.seat.me.0 ≡ stores c.seat.inside.seat.me.0 c.args.word = c.store.ensures.2.1 in
    let pen' : c.store.new.seat.me.0.pens ≡ 1 = ap (λ v. v.pens) e ∙ pen in
    let length : c.store.new.seat.me.0.length ≡ c.seat.inside.seat.me.0.length = ap (λ v. v.length) e in
    let from : c.from.result ≡ c.seat.inside.length = c.from.ensures in (
      c.store.ensures.0 ∙ ap (λ s. s.id) c.seat.view_is ∙ c.requires.seat ∙ sym (ap (λ p. p.id) c.self.view_is),
      (let e = c.self.invariant.0 in omega arith),
      counts_keep _ _ _ _ c.args.word _ (omega arith) (ap (λ v. v.ended) e ∙ ap (λ s. s.view.ended) c.seat.view_is ∙ c.requires.writes.1) (ap (λ v. v.stored) e) (ap (λ n. n + 1) (from ∙ at ∙ sym length)),
    )

pub overflow_add-seat : goal.overflow_add-seat
overflow_add-seat c =
    let length : c.seat.inside.seat.me.0.length ≡ c.args.seat.now.view.length = ap (λ s. s.view.length) c.seat.view_is in
    let places : c.self.inside.table.shared.key ≡ c.args.self.now.places = ap (λ p. p.places) c.self.view_is in
    let at : c.seat.inside.length ≡ c.seat.inside.seat.me.0.length = c.seat.invariant.1.length in
    let f = c.requires.free in
    let small = c.self.invariant.1 in
    omega arith
