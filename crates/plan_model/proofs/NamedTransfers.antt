-- The messages of a slot by the transfers of its pattern.
use Rattle.std.proofs.Common.{◌≡◌, ℕ, ◌+◌, ◌<◌, List, map, length, sym, ap, ◌∙◌, arith}
use Rattle.std.specs.Prelude.{slice_index_or}
use Rattle.plan_model.specs.declared.key.Key.{Key}
use Rattle.plan_model.specs.declared.pattern.Transfer.{Transfer}
use Rattle.plan_model.specs.Plans.{Plan, slot, slots}
use Rattle.plan_model.specs.Messages.{messages, slot_messages}
use Rattle.plan_model.specs.Numbers.{message, no_key}
use Rattle.plan_model.specs.Firsts.{count, first}
use Rattle.plan_model.specs.Patterns.{named, pattern_at, transfers}
use Rattle.plan_model.proofs.RankSearch.{named_at, no_transfer}
use Rattle.plan_model.proofs.SlotMessages.{message_at, number_within}
use Rattle.plan_model.proofs.SlotPatterns.{slots_follow_patterns}
use Rattle.plan_model.proofs.SlotStarts.{pattern_count}

module _ (plan : Plan) (s k : ℕ) (xs : List Transfer) (are : xs ≡ transfers plan (pattern_at plan s k)) where
  -- the messages of a slot are the transfers of its pattern, named
  pub named_slot : map (named s k) xs ≡ slot_messages plan s k (slot plan s k)
  named_slot = ap (map (named s k)) are ∙ sym (slots_follow_patterns plan s k (slot plan s k))

  pub count_is : length xs ≡ count plan s k
  count_is = ap length are ∙ pattern_count plan s k

  module _ (ls : s < length plan.sessions) (lk : k < slots plan s) (i : ℕ) (l : i < length xs) where
    here : i < count plan s k
    here = omega (arith, l, count_is)

    pub message_there : first plan s k + i < length (messages plan)
    message_there = number_within plan s k ls lk i here

    -- transfer i of a slot is the message of this number
    pub message_is : (key : Key) → key ≡ named s k (slice_index_or xs i no_transfer) → message plan (first plan s k + i) ≡ key
    message_is key told = message_at plan s k ls lk i here ∙ ap (λ keys. slice_index_or keys i no_key) (sym named_slot) ∙ named_at s k xs i l ∙ sym told
