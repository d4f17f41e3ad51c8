use Rattle.std.proofs.Common.{◌≡◌, ℕ, ◌+◌, [], ◌∷◌, length, ap, ◌∙◌, arith}
use Rattle.std.specs.Prelude.{slice_index_or}
use Rattle.list_laws.specs.Lists.{joined}
use Rattle.outer_io.proofs.GatheredTexts.{adds_nothing}
use Rattle.text_parts.proofs.GatheredTexts.{adds_same, adds_more}
use Rattle.plan_model.specs.Patterns.{named, transfers, pattern_at}
use Rattle.plan_model.proofs.RankSearch.{no_transfer}
use Rattle.output_text.specs.Seen.{seen_lines}
use Rattle.view_text.proofs.SeenMessages.{transfer_is, number_small}
use Rattle.output_text.proofs.SeenMessages.{slot_is}
use Rattle.output_text.proofs.view.gather_slot.Goals as goal

pub overflow_cast-i : goal.overflow_cast-i
overflow_cast-i g c =
    let plan = c.args.run.now.plan.now in
    let are : c.transfers-transfers.result.now ≡ transfers plan (pattern_at plan c.args.s c.args.k) = c.transfers-transfers.ensures ∙ ap (transfers plan) c.pattern.ensures.is in
    let small = number_small plan c.args.s c.args.k c.transfers-transfers.result.now c.requires.sound c.requires.session c.requires.slot are c.loop-i.i (omega arith) in
    omega (arith, small)

pub overflow_add-first : goal.overflow_add-first
overflow_add-first g c =
    let plan = c.args.run.now.plan.now in
    let are : c.transfers-transfers.result.now ≡ transfers plan (pattern_at plan c.args.s c.args.k) = c.transfers-transfers.ensures ∙ ap (transfers plan) c.pattern.ensures.is in
    let small = number_small plan c.args.s c.args.k c.transfers-transfers.result.now c.requires.sound c.requires.session c.requires.slot are c.loop-i.i (omega arith) in
    omega (arith, small, c.first-first.ensures.is)

pub gather_message-requires-clause-message : goal.gather_message-requires-clause-message
gather_message-requires-clause-message g c =
    let plan = c.args.run.now.plan.now in
    let are : c.transfers-transfers.result.now ≡ transfers plan (pattern_at plan c.args.s c.args.k) = c.transfers-transfers.ensures ∙ ap (transfers plan) c.pattern.ensures.is in
    transfer_is plan c.args.s c.args.k c.transfers-transfers.result.now c.requires.sound c.requires.session c.requires.slot are c.loop-i.i (omega arith) (c.first-first.result + c.loop-i.i) c.named-key.result (omega (arith, c.first-first.ensures.is)) c.named-key.ensures

pub loop-i-init : goal.loop-i-init
loop-i-init g c = λ w same f. adds_nothing _

pub loop-i-preserved : goal.loop-i-preserved
loop-i-preserved g c = λ w same f.
    let at = λ (i : ℕ). seen_lines c.args.run.now.names.now w c.args.group.mask (named c.args.s c.args.k (slice_index_or c.transfers-transfers.result.now i no_transfer) ∷ []) in
    adds_more c.loop-i.i at _ _ _ _ (ap (λ key. seen_lines c.args.run.now.names.now w c.args.group.mask (key ∷ [])) c.named-key.ensures) (c.loop-i.invariant w same f) (c.gather_message.ensures w same f)

pub returns : goal.returns
returns g c = λ w same f.
    let plan = c.args.run.now.plan.now in
    let at = λ (i : ℕ). seen_lines c.args.run.now.names.now w c.args.group.mask (named c.args.s c.args.k (slice_index_or c.transfers-transfers.result.now i no_transfer) ∷ []) in
    let are : c.transfers-transfers.result.now ≡ transfers plan (pattern_at plan c.args.s c.args.k) = c.transfers-transfers.ensures ∙ ap (transfers plan) c.pattern.ensures.is in
    let all : c.loop-i.i ≡ length c.transfers-transfers.result.now = omega arith in
    adds_same _ _ _ _ (ap (λ n. joined n at) all ∙ slot_is c.args.run.now.names.now w c.args.group.mask plan c.args.s c.args.k c.transfers-transfers.result.now same are) (c.loop-i.invariant w same f)
