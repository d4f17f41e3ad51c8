-- What a group sees, part by part of the messages, and the messages of a slot by the transfers of its pattern.
use Rattle.std.proofs.Common.{◌≡◌, ℕ, ◌+◌, ◌<◌, List, ◌++◌, map, length, ap, ◌∙◌, subst, arith, filter}
use Rattle.std.specs.Prelude.{slice_index_or}
use Rattle.std.proofs.lemmas.List.{map-append}
use Rattle.std.proofs.lemmas.List.Elements.{filter-append}
use Rattle.plan_model.specs.declared.key.Key.{Key}
use Rattle.plan_model.specs.declared.pattern.Transfer.{Transfer}
use Rattle.plan_model.specs.Plans.{Plan, slot, slots}
use Rattle.plan_model.specs.Sound.{IsSound}
use Rattle.plan_model.specs.Messages.{messages}
use Rattle.plan_model.specs.Numbers.{message}
use Rattle.plan_model.specs.Firsts.{first}
use Rattle.plan_model.specs.Patterns.{named, transfers, pattern_at}
use Rattle.plan_model.proofs.PlanSchemes.{plan_is}
use Rattle.plan_model.proofs.NamedTransfers.{message_is, message_there}
use Rattle.plan_model.proofs.RankSearch.{no_transfer}
use Rattle.program_laws.specs.Once.{IsBetweenParties}
use Rattle.program_laws.proofs.MessageParties.{between}
use Rattle.program_laws.proofs.SentMessages.{givers}
use Rattle.share_world.specs.Worlds.{World, touches, word}
use Rattle.view_text.specs.Seen.{seen_of, IsMessage}

-- what is seen of two parts
pub seen-append : (w : World) (group : ℕ) (xs ys : List Key) → seen_of w group (xs ++ ys) ≡ seen_of w group xs ++ seen_of w group ys
seen-append w group xs ys =
    ap (map with_word) (filter-append (touches group) xs ys) ∙ map-append with_word (filter (touches group) xs) (filter (touches group) ys)
  where
    with_word : Key → Key × ℕ
    with_word key = (key, word w key)

module _ (plan : Plan) (s k : ℕ) (xs : List Transfer) (sound : IsSound plan) (ls : s < length plan.sessions) (lk : k < slots plan s) (are : xs ≡ transfers plan (pattern_at plan s k)) (i : ℕ) (l : i < length xs) where
  there : first plan s k + i < length (messages plan)
  there = message_there plan s k xs are ls lk i l

  -- transfer i of a slot is the message of this number
  pub transfer_is : (n : ℕ) (key : Key) → n ≡ first plan s k + i → key ≡ named s k (slice_index_or xs i no_transfer) → IsMessage plan n key
  transfer_is n key place told =
      let within : n < length (messages plan) = omega (arith, there, place) in
      let is : message plan n ≡ key = ap (message plan) place ∙ message_is plan s k xs are ls lk i l key told in
      record {
        there = within;
        is = is;
        between = subst (IsBetweenParties plan) is (between plan n (plan_is plan sound) (givers plan sound) within);
      }

  -- its number is one of few
  pub number_small : first plan s k + i < 1048576
  number_small = omega (arith, there, sound.few_messages)
