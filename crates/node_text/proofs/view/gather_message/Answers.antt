use Rattle.std.proofs.Common.{◌≡◌, [], ◌∷◌, sym, ap, ap₂, ◌∙◌, arith, append-nil}
use Rattle.std.specs.Option.{unwrap_or}
use Rattle.std.proofs.lemmas.Bool.{cond-true, cond-false}
use Rattle.outer_io.proofs.GatheredTexts.{adds_nothing}
use Rattle.text_parts.proofs.GatheredTexts.{adds_same}
use Rattle.plan_model.specs.declared.key.Key.{Key}
use Rattle.plan_model.specs.Numbers.{message}
use Rattle.share_world.specs.Worlds.{touches}
use Rattle.link_reader.proofs.ExpectedMessages.{between_parties}
use Rattle.view_text.specs.ViewText.{message_line, message_lines}
use Rattle.node_talk.specs.Runs.{word_kept}
use Rattle.node_text.proofs.view.gather_message.Goals as goal

pub touches-requires-clause-sender : goal.touches-requires-clause-sender
touches-requires-clause-sender g c =
    let b = between_parties c.args.plan.now c.recall.ensures c.args.number c.requires.message in
    let same : c.message-key.result.sender ≡ (message c.args.plan.now c.args.number).sender = ap (λ (k : Key). k.sender) c.message-key.ensures.is in
    omega (arith, b.sender, same, c.requires.names, c.requires.group)

pub touches-requires-clause-receiver : goal.touches-requires-clause-receiver
touches-requires-clause-receiver g c =
    let b = between_parties c.args.plan.now c.recall.ensures c.args.number c.requires.message in
    let same : c.message-key.result.receiver ≡ (message c.args.plan.now c.args.number).receiver = ap (λ (k : Key). k.receiver) c.message-key.ensures.is in
    omega (arith, b.receiver, same, c.requires.names, c.requires.group)

pub gather_message_line-requires-clause-sender : goal.gather_message_line-requires-clause-sender
gather_message_line-requires-clause-sender g c =
    let b = between_parties c.args.plan.now c.recall.ensures c.args.number c.requires.message in
    let same : c.message-key.result.sender ≡ (message c.args.plan.now c.args.number).sender = ap (λ (k : Key). k.sender) c.message-key.ensures.is in
    omega (arith, b.sender, same, c.requires.names)

pub gather_message_line-requires-clause-receiver : goal.gather_message_line-requires-clause-receiver
gather_message_line-requires-clause-receiver g c =
    let b = between_parties c.args.plan.now c.recall.ensures c.args.number c.requires.message in
    let same : c.message-key.result.receiver ≡ (message c.args.plan.now c.args.number).receiver = ap (λ (k : Key). k.receiver) c.message-key.ensures.is in
    omega (arith, b.receiver, same, c.requires.names)

pub returns-then-touches : goal.returns-then-touches
returns-then-touches g c =
    let key : c.message-key.result ≡ message c.args.plan.now c.args.number = c.message-key.ensures.is in
    let own = sym (ap (touches c.args.group.mask) key) ∙ sym c.touches.ensures ∙ c.if-touches.true in
    let held = c.unwrap_or.ensures ∙ ap (λ o. unwrap_or o 0) c.kept.ensures in
    adds_same _ _ _ _
    (ap₂ (message_line c.args.names.now) key held
    ∙ sym (append-nil _)
    ∙ ap (message_lines c.args.names.now) (sym (cond-true (touches c.args.group.mask (message c.args.plan.now c.args.number)) ((message c.args.plan.now c.args.number, unwrap_or (word_kept c.args.done.now c.args.number) 0) ∷ []) [] own)))
    c.gather_message_line.ensures

pub returns-else-touches : goal.returns-else-touches
returns-else-touches g c =
    let key : c.message-key.result ≡ message c.args.plan.now c.args.number = c.message-key.ensures.is in
    let other = sym (ap (touches c.args.group.mask) key) ∙ sym c.touches.ensures ∙ c.if-touches.false in
    adds_same _ _ _ _
    (ap (message_lines c.args.names.now) (sym (cond-false (touches c.args.group.mask (message c.args.plan.now c.args.number)) ((message c.args.plan.now c.args.number, unwrap_or (word_kept c.args.done.now c.args.number) 0) ∷ []) [] other)))
    (adds_nothing _)
