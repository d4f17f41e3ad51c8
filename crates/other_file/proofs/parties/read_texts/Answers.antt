use Rattle.std.proofs.Common.{◌≡◌, false, length, map, Some, None, sym, ap₂, ◌∙◌, inl, inr}
use Rattle.std.specs.Prelude.{◌==◌}
use Rattle.std.proofs.lemmas.Bool.{eq-eqb, ne_eqb}
use Rattle.std.proofs.lemmas.List.{length-map}
use Rattle.std.proofs.lemmas.Result.{IfOk-weaker, IfErr-weaker}
use Rattle.toml.specs.View.{view}
use Rattle.toml_fields.specs.Fields.{text_of}
use Rattle.party_file.specs.declared.fault.PartyFault.TheVariants.{CountDiffers}
use Rattle.other_file.proofs.FaultRows.{count_fails, count_passes}
use Rattle.other_file.proofs.parties.read_texts.Goals as goal

pub returns-then-found-wanted-clause-fault : goal.returns-then-found-wanted-clause-fault
returns-then-found-wanted-clause-fault c =
    let plan = c.args.plan.now in
    let texts = map text_of (map view c.args.items.now) in
    let wanted : c.from-wanted.result ≡ length plan.sessions = c.from-wanted.ensures ∙ c.sessions.ensures in
    let count : length texts ≡ length c.args.items.now = length-map (map view c.args.items.now) text_of ∙ length-map c.args.items.now view in
    let differ : (length texts == length plan.sessions) ≡ false = ne_eqb (length texts) (length plan.sessions) (λ e. c.if-found-wanted.true (sym count ∙ e ∙ sym wanted)) in
    inr (count_fails c.args.numeric.now plan c.args.party texts differ ∙ ap₂ (λ w f. Some (CountDiffers None w f)) (sym wanted) count)

pub returns-clause-passed : goal.returns-clause-passed
returns-clause-passed c =
    let plan = c.args.plan.now in
    let texts = map text_of (map view c.args.items.now) in
    let wanted : c.from-wanted.result ≡ length plan.sessions = c.from-wanted.ensures ∙ c.sessions.ensures in
    let count : length texts ≡ length c.args.items.now = length-map (map view c.args.items.now) text_of ∙ length-map c.args.items.now view in
    let counted : length texts ≡ length plan.sessions = count ∙ c.if-found-wanted.false ∙ wanted in
    IfOk-weaker c.read_inputs.result _ _ (λ words h. (count_passes c.args.numeric.now plan c.args.party texts None (eq-eqb _ _ counted) h.0, h.1)) c.read_inputs.ensures.passed

pub returns-clause-fault : goal.returns-clause-fault
returns-clause-fault c =
    let plan = c.args.plan.now in
    let texts = map text_of (map view c.args.items.now) in
    let wanted : c.from-wanted.result ≡ length plan.sessions = c.from-wanted.ensures ∙ c.sessions.ensures in
    let count : length texts ≡ length c.args.items.now = length-map (map view c.args.items.now) text_of ∙ length-map c.args.items.now view in
    let counted : length texts ≡ length plan.sessions = count ∙ c.if-found-wanted.false ∙ wanted in
    IfErr-weaker c.read_inputs.result _ _
    (λ fault h. elim h [
      | inl memory ↦ inl memory
      | inr e ↦ inr (count_passes c.args.numeric.now plan c.args.party texts (Some fault) (eq-eqb _ _ counted) e)
    ])
    c.read_inputs.ensures.fault
