use Rattle.std.proofs.Common.{sym, ap, ◌∙◌}
use Rattle.session_slots.specs.Sessions.{Session}
use Rattle.party_program.proofs.deals.push_preparation.Goals as goal

pub push_masks-requires-clause-ahead : goal.push_masks-requires-clause-ahead
push_masks-requires-clause-ahead c = ap (λ (x : Session). x.ahead) (sym c.part.ensures) ∙ sym c.is_ahead.ensures ∙ c.if-is_ahead.true

pub push_mask_products-requires-clause-ahead : goal.push_mask_products-requires-clause-ahead
push_mask_products-requires-clause-ahead c = ap (λ (x : Session). x.ahead) (sym c.part.ensures) ∙ sym c.is_ahead.ensures ∙ c.if-is_ahead.true

pub push_turns-requires-clause-in_turn : goal.push_turns-requires-clause-in_turn
push_turns-requires-clause-in_turn c = ap (λ (x : Session). x.ahead) (sym c.part.ensures) ∙ sym c.is_ahead.ensures ∙ c.if-is_ahead.false
