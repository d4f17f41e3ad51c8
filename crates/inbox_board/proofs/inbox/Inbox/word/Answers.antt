use Rattle.std.proofs.Common.{◌≡◌, ◌<◌, Some, ap, sym, refl, ◌∙◌, subst, arith}
use Rattle.message_board.specs.Pairs.{Knows}
use Rattle.inbox_board.specs.Rule.{finds, gets}
use Rattle.inbox_board.specs.Seats.{IsAtRest}
use Rattle.inbox_board.proofs.RuleSteps.{finds_keep, gets_keep}
use Rattle.inbox_board.proofs.inbox.Inbox.word.Goals as goal

pub load-found-requires : goal.load-found-requires
load-found-requires c = (
  ap (λ s. s.id) c.seat.view_is ∙ c.requires.seat ∙ sym (ap (λ p. p.id) c.self.view_is),
  (let e = c.self.invariant.0 in omega arith),
  finds_keep _ _ _ _,
)

pub load-word-requires : goal.load-word-requires
load-word-requires c =
    let places : c.self.inside.table.shared.key ≡ c.args.self.now.places = ap (λ p. p.places) c.self.view_is in
    let upto : c.load-found.new.seat.me.0.upto ≡ c.load-found.result = ap (λ v. v.upto) c.load-found.ensures.2.1 in
    let from : c.from.result ≡ c.args.place = c.from.ensures in
    let less : c.args.place < c.load-found.new.seat.me.0.upto = (let f = c.if-found-from.false in omega arith) in (
      c.load-found.ensures.0 ∙ ap (λ s. s.id) c.seat.view_is ∙ c.requires.seat ∙ sym (ap (λ p. p.id) c.self.view_is),
      (let e = c.self.invariant.0 in let i = c.requires.inside in omega arith),
      gets_keep _ _ _ _ c.args.place _ less refl,
    )

pub invariant_of-seat-2 : goal.invariant_of-seat-2
invariant_of-seat-2 c =
    let t = c.load-found.ensures.2 in
    let u = c.load-word.ensures.2 c.args.place refl in
    let e : c.load-word.new.seat.me.0 ≡ gets (finds c.seat.inside.seat.me.0 c.load-found.result) c.args.place c.load-word.result = u.1 ∙ ap (λ v. gets v c.args.place c.load-word.result) t.1 in
    (u.0 ∙ t.0 ∙ c.seat.invariant.0, subst (IsAtRest c.seat.inside.length) (sym e) record { stored = c.seat.invariant.1.stored; length = c.seat.invariant.1.length; idle = c.seat.invariant.1.idle })

pub returns-clause-looks : goal.returns-clause-looks
returns-clause-looks c =
    let t = c.load-found.ensures.2 in
    let u = c.load-word.ensures.2 c.args.place refl in
    let from : c.from.result ≡ c.args.place = c.from.ensures in
    (c.load-found.result, (let f = c.if-found-from.false in omega arith), u.1 ∙ ap (λ v. gets v c.args.place c.load-word.result) t.1 ∙ ap (λ s. gets (finds s.view c.load-found.result) c.args.place c.load-word.result) c.seat.view_is)

pub returns-clause-known : goal.returns-clause-known
returns-clause-known c = λ w known.
    let t = c.load-found.ensures.2 in
    let u = c.load-word.ensures.2 c.args.place refl in
    ap Some (sym (u.2 w (subst (λ v. Knows v.seen c.args.place w) (sym t.1) (subst (λ s. Knows s.view.seen c.args.place w) (sym c.seat.view_is) known))))
