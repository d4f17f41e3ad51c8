use Rattle.std.proofs.Common.{◌≡◌, ◌<◌, length, Some, ap, sym, refl, ◌∙◌, subst, inl, arith}
use Rattle.message_board.specs.Pairs.{Knows}
use Rattle.message_board.specs.Rule.{sees, looks, unfinds, settled}
use Rattle.message_board.specs.Words.{blanks, full_word}
use Rattle.message_board.proofs.RuleSteps.{finds_keep_at, takes_keep}
use Rattle.message_board.proofs.FlagBits.{full_at, flag_full}
use Rattle.message_board.proofs.Pairs.{index_got}
use Rattle.message_board.proofs.board.Board.take.Goals as goal

pub load-full-requires : goal.load-full-requires
load-full-requires g c =
    let ws = g.W.Promise.list c.self.inside.table.shared.key.world in
    let inside : c.args.number < length ws = subst (λ p. c.args.number < length (g.W.Promise.list p.about.world)) (sym c.self.view_is) c.requires.inside in
    let count : c.self.inside.messages ≡ length ws = c.self.invariant.1 in (
      ap (λ s. s.id) c.seat.view_is ∙ c.requires.seat.0 ∙ sym (ap (λ p. p.id) c.self.view_is),
      (let e = c.self.invariant.0.words in let p = c.full_word_of.ensures in omega arith),
      finds_keep_at _ _ _ _ _ _ _ _ c.seat.invariant.1 _ (full_at count c.full_word_of.ensures),
    )

pub invariant_of-seat : goal.invariant_of-seat
invariant_of-seat g c =
    let t = c.load-full.ensures.2 c.args.self.now.about c.args.number (ap (λ s. s.view.about) c.seat.view_is ∙ c.requires.seat.1) (full_at (c.self.invariant.1 ∙ ap (λ p. length (g.W.Promise.list p.about.world)) c.self.view_is) c.full_word_of.ensures) in
    (t.0 ∙ c.seat.invariant.0 ∙ ap (λ v. blanks v.out) (sym t.1), subst (λ v. 0 < v.seats) (sym t.1) c.seat.invariant.1)

pub returns-then-flag-eq0-clause-seat : goal.returns-then-flag-eq0-clause-seat
returns-then-flag-eq0-clause-seat g c =
    let t = c.load-full.ensures.2 c.args.self.now.about c.args.number (ap (λ s. s.view.about) c.seat.view_is ∙ c.requires.seat.1) (full_at (c.self.invariant.1 ∙ ap (λ p. length (g.W.Promise.list p.about.world)) c.self.view_is) c.full_word_of.ensures) in
    (c.load-full.ensures.0 ∙ ap (λ s. s.id) c.seat.view_is ∙ c.requires.seat.0, ap (λ v. v.about) t.1 ∙ ap (λ s. s.view.about) c.seat.view_is ∙ c.requires.seat.1)

pub returns-then-flag-eq0-clause-view : goal.returns-then-flag-eq0-clause-view
returns-then-flag-eq0-clause-view g c =
    let t = c.load-full.ensures.2 c.args.self.now.about c.args.number (ap (λ s. s.view.about) c.seat.view_is ∙ c.requires.seat.1) (full_at (c.self.invariant.1 ∙ ap (λ p. length (g.W.Promise.list p.about.world)) c.self.view_is) c.full_word_of.ensures) in
    (c.load-full.result, sym c.flag_of-flag.ensures ∙ c.if-flag-eq0.true, ap settled t.1 ∙ ap (λ s. looks s.view (full_word c.args.number) c.load-full.result) c.seat.view_is)

pub returns-then-flag-eq0-clause-known : goal.returns-then-flag-eq0-clause-known
returns-then-flag-eq0-clause-known g c = λ w known.
    let t = c.load-full.ensures.2 c.args.self.now.about c.args.number (ap (λ s. s.view.about) c.seat.view_is ∙ c.requires.seat.1) (full_at (c.self.invariant.1 ∙ ap (λ p. length (g.W.Promise.list p.about.world)) c.self.view_is) c.full_word_of.ensures) in
    absurd (t.2 (sym c.flag_of-flag.ensures ∙ c.if-flag-eq0.true) w (subst (λ s. Knows s.view.seen c.args.number w) (sym c.seat.view_is) known))

pub load-value-requires : goal.load-value-requires
load-value-requires g c =
    let ws = g.W.Promise.list c.self.inside.table.shared.key.world in
    let inside : c.args.number < length ws = subst (λ p. c.args.number < length (g.W.Promise.list p.about.world)) (sym c.self.view_is) c.requires.inside in
    let t = c.load-full.ensures.2 c.args.self.now.about c.args.number (ap (λ s. s.view.about) c.seat.view_is ∙ c.requires.seat.1) (full_at (c.self.invariant.1 ∙ ap (λ p. length (g.W.Promise.list p.about.world)) c.self.view_is) c.full_word_of.ensures) in (
      c.load-full.ensures.0 ∙ ap (λ s. s.id) c.seat.view_is ∙ c.requires.seat.0 ∙ sym (ap (λ p. p.id) c.self.view_is),
      (let z = c.self.invariant.0.words in omega arith),
      takes_keep _ _ _ _ _ _ _ _ (subst (λ v. 0 < v.seats) (sym t.1) c.seat.invariant.1) (full_word c.args.number) c.load-full.result
          (subst (λ v. Knows v.found (full_word c.args.number) c.load-full.result) (sym t.1) (inl (refl, refl))) refl
          (flag_full c.args.number c.load-full.result (λ z. c.if-flag-eq0.false (c.flag_of-flag.ensures ∙ z))) inside,
    )

pub invariant_of-seat-2 : goal.invariant_of-seat-2
invariant_of-seat-2 g c =
    let t = c.load-full.ensures.2 c.args.self.now.about c.args.number (ap (λ s. s.view.about) c.seat.view_is ∙ c.requires.seat.1) (full_at (c.self.invariant.1 ∙ ap (λ p. length (g.W.Promise.list p.about.world)) c.self.view_is) c.full_word_of.ensures) in
    let u = c.load-value.ensures.2 c.args.self.now.about c.args.number (ap (λ v. v.about) t.1 ∙ ap (λ s. s.view.about) c.seat.view_is ∙ c.requires.seat.1) refl in
    let f = u.2 ∙ ap (λ v. unfinds (sees v c.args.number c.load-value.result)) t.1 in
    (u.0 ∙ t.0 ∙ c.seat.invariant.0 ∙ ap (λ v. blanks v.out) (sym f), subst (λ v. 0 < v.seats) (sym f) c.seat.invariant.1)

pub returns-clause-seat : goal.returns-clause-seat
returns-clause-seat g c =
    let t = c.load-full.ensures.2 c.args.self.now.about c.args.number (ap (λ s. s.view.about) c.seat.view_is ∙ c.requires.seat.1) (full_at (c.self.invariant.1 ∙ ap (λ p. length (g.W.Promise.list p.about.world)) c.self.view_is) c.full_word_of.ensures) in
    let about = ap (λ v. v.about) t.1 ∙ ap (λ s. s.view.about) c.seat.view_is ∙ c.requires.seat.1 in
    let u = c.load-value.ensures.2 c.args.self.now.about c.args.number about refl in
    (c.load-value.ensures.0 ∙ c.load-full.ensures.0 ∙ ap (λ s. s.id) c.seat.view_is ∙ c.requires.seat.0, ap (λ v. v.about) u.2 ∙ about)

pub returns-clause-view : goal.returns-clause-view
returns-clause-view g c =
    let t = c.load-full.ensures.2 c.args.self.now.about c.args.number (ap (λ s. s.view.about) c.seat.view_is ∙ c.requires.seat.1) (full_at (c.self.invariant.1 ∙ ap (λ p. length (g.W.Promise.list p.about.world)) c.self.view_is) c.full_word_of.ensures) in
    let u = c.load-value.ensures.2 c.args.self.now.about c.args.number (ap (λ v. v.about) t.1 ∙ ap (λ s. s.view.about) c.seat.view_is ∙ c.requires.seat.1) refl in
    ap settled u.2 ∙ ap (λ v. settled (unfinds (sees v c.args.number c.load-value.result))) t.1 ∙ ap (λ s. sees s.view c.args.number c.load-value.result) c.seat.view_is

pub returns-clause-promised : goal.returns-clause-promised
returns-clause-promised g c =
    let t = c.load-full.ensures.2 c.args.self.now.about c.args.number (ap (λ s. s.view.about) c.seat.view_is ∙ c.requires.seat.1) (full_at (c.self.invariant.1 ∙ ap (λ p. length (g.W.Promise.list p.about.world)) c.self.view_is) c.full_word_of.ensures) in
    let u = c.load-value.ensures.2 c.args.self.now.about c.args.number (ap (λ v. v.about) t.1 ∙ ap (λ s. s.view.about) c.seat.view_is ∙ c.requires.seat.1) refl in
    index_got (g.W.Promise.list c.args.self.now.about.world) c.args.number c.requires.inside ∙ ap Some u.1

pub returns-clause-known : goal.returns-clause-known
returns-clause-known g c = λ w known.
    let t = c.load-full.ensures.2 c.args.self.now.about c.args.number (ap (λ s. s.view.about) c.seat.view_is ∙ c.requires.seat.1) (full_at (c.self.invariant.1 ∙ ap (λ p. length (g.W.Promise.list p.about.world)) c.self.view_is) c.full_word_of.ensures) in
    let u = c.load-value.ensures.2 c.args.self.now.about c.args.number (ap (λ v. v.about) t.1 ∙ ap (λ s. s.view.about) c.seat.view_is ∙ c.requires.seat.1) refl in
    ap Some (sym (u.3 w (subst (λ v. Knows v.seen c.args.number w) (sym t.1) (subst (λ s. Knows s.view.seen c.args.number w) (sym c.seat.view_is) known))))
