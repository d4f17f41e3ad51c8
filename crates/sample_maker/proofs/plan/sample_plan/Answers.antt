use Rattle.std.proofs.Common.{◌≡◌, ℕ, List, [], ◌∷◌, sym, subst, ap, ap₂, ◌∙◌}
use Rattle.party_set.specs.Parties.{Structure}
use Rattle.session_slots.specs.Sessions.{Session}
use Rattle.session_slots.specs.Carries.{AllFit, keeping}
use Rattle.plan_model.specs.Plans.{plan_of}
use Rattle.plan_model.specs.Multiply.{three_parties}
use Rattle.sample_maker.specs.Samples.{sample_plan, sample_session}
use Rattle.sample_maker.proofs.OneSession.{fit_one}
use Rattle.sample_maker.proofs.SampleLimits.{few_messages, few_words}
use Rattle.sample_maker.proofs.plan.sample_plan.Goals as goal

pub make-requires-3-clause-fit : goal.make-requires-3-clause-fit
make-requires-3-clause-fit c = subst AllFit (sym c.in_ok-parts.ensures.items) (fit_one c.in_ok-sample_part.field-0 c.in_ok-sample_part.ensures.fit)

-- the plan of a sample's parts, of which nothing is carried
of_sample : (bits : ℕ) (structure : Structure) (sessions : List Session) (n : ℕ) → bits ≡ 32 → structure ≡ three_parties → sessions ≡ sample_session n ∷ [] → plan_of bits structure (keeping sessions) ≡ sample_plan n
of_sample bits structure sessions n ring groups parts = ap (λ bits. plan_of bits structure (keeping sessions)) ring ∙ ap₂ (plan_of 32) groups (ap keeping parts)

pub unreachable-requires : goal.unreachable-requires
unreachable-requires c =
    let layout : c.in_ok-layout.layout ≡ three_parties = c.in_ok-layout.ensures ∙ c.in_ok-groups.ensures.groups in
    let parts : c.in_ok-parts.parts.items ≡ sample_session c.args.count ∷ [] = c.in_ok-parts.ensures.items ∙ ap (λ part. part ∷ []) c.in_ok-sample_part.ensures.is in
    let is = of_sample _ _ _ c.args.count c.sample_ring.ensures layout parts in
    few_messages c.args.count c.in-Err-TooManyMessages.field-0-0 _ c.requires.1 is (rw c.in-Err-TooManyMessages.field-0-is at c.in-Err-TooManyMessages.ensures.refusal)

pub unreachable-requires-in-Err-TooManyWords : goal.unreachable-requires-in-Err-TooManyWords
unreachable-requires-in-Err-TooManyWords c =
    let layout : c.in_ok-layout.layout ≡ three_parties = c.in_ok-layout.ensures ∙ c.in_ok-groups.ensures.groups in
    let parts : c.in_ok-parts.parts.items ≡ sample_session c.args.count ∷ [] = c.in_ok-parts.ensures.items ∙ ap (λ part. part ∷ []) c.in_ok-sample_part.ensures.is in
    let is = of_sample _ _ _ c.args.count c.sample_ring.ensures layout parts in
    few_words c.args.count c.in-Err-TooManyWords.field-0-0 c.in-Err-TooManyWords.field-0-1 _ c.requires.1 is (rw c.in-Err-TooManyWords.field-0-is at c.in-Err-TooManyWords.ensures.refusal)
