use Rattle.plan_model.proofs.DistinctMessages.{places_differ}
use Rattle.plan_model.proofs.TapePlaces.{places_by_words, masks_have_words}
use Rattle.plan_model.proofs.laws.places_are_apart.Goals as goal

pub returns-clause-apart : goal.returns-clause-apart
returns-clause-apart c = places_differ

pub returns-clause-by_words : goal.returns-clause-by_words
returns-clause-by_words c = places_by_words

pub returns-clause-masks : goal.returns-clause-masks
returns-clause-masks c = masks_have_words
