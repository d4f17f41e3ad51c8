-- A pattern has few transfers, and so a wire is kept by few messages.
use Rattle.std.proofs.Common.{◌≡◌, ℕ, zero, suc, ◌+◌, ◌*◌, ◌≤◌, Bool, true, false, not, nat_eq, ◌&&◌, List, [], ◌∷◌, length, ap, ◌∙◌, arith}
use Rattle.std.proofs.lemmas.List.{length-map}
use Rattle.std.proofs.lemmas.Nat.{mul-le}
use Rattle.list_laws.specs.Lists.{total, joined, only_if}
use Rattle.list_laws.proofs.JoinedLists.{length-joined}
use Rattle.secret_sharing.specs.Schemes.{has_pair}
use Rattle.party_set.specs.Parties.{has_party}
use Rattle.plan_model.specs.declared.pattern.Transfer.{Transfer}
use Rattle.plan_model.specs.declared.pattern.Pattern.{Pattern}
use Rattle.plan_model.specs.declared.pattern.Pattern.TheVariants.{Silent, Dealt, Multiplied, Opened, HandedOut, OpenedToAll, Joined, Held, Received}
use Rattle.session_slots.specs.declared.source.Source.TheVariants.{Earlier}
use Rattle.session_slots.specs.Sessions.{source}
use Rattle.plan_model.specs.Firsts.{count}
use Rattle.plan_model.specs.Plans.{IsPlan, Plan, is_holder, holder_of, keeping_slot, scheme, session, slot}
use Rattle.plan_model.specs.Patterns.{deal_transfer, deal_transfers, held_transfer, named, open_transfers, pattern, pattern_at, transfers}
use Rattle.plan_model.specs.Sound.{IsSound}
use Rattle.plan_model.proofs.KeptPlaces.{kept_in}
use Rattle.plan_model.proofs.SlotPatterns.{slots_follow_patterns}

only_few : (b : Bool) (xs : List Transfer) (n : ℕ) → length xs ≤ n → length (only_if b xs) ≤ n
only_few true xs n l = l
only_few false xs n l = omega arith

total_few : (n c : ℕ) (f : ℕ → ℕ) → ((i : ℕ) → f i ≤ c) → total n f ≤ n * c
total_few zero c f h = omega arith
total_few (suc n) c f h =
    let before = total_few n c f h in
    let here = h n in
    let more : suc n * c ≡ n * c + c = omega arith in
    omega arith

-- few short parts are joined to a short list
joined_few : (n most c : ℕ) (f : ℕ → List Transfer) → n ≤ most → ((i : ℕ) → length (f i) ≤ c) → length (joined n f) ≤ most * c
joined_few n most c f l h =
    let long = length-joined n f in
    let few = total_few n c (λ i. length (f i)) h in
    let all = mul-le n c most c l (omega arith) in
    omega arith

module _ (plan : Plan) (sound : IsSound plan) where
  -- of one summand
  summand_few : (p i : ℕ) → length (joined plan.parties (deal_transfer plan p i)) ≤ 12
  summand_few p i = joined_few plan.parties 12 1 (deal_transfer plan p i) sound.parties (λ q. only_few (not (nat_eq q p) && is_holder plan q i) (record { share = i; sender = p; receiver = q } ∷ []) 1 (omega arith))

  deal_few : (p : ℕ) → length (deal_transfers plan p) ≤ 768
  deal_few p = joined_few (length plan.groups) 64 12 (λ i. joined plan.parties (deal_transfer plan p i)) sound.groups (λ i. summand_few p i)

  open_few : (r : ℕ) → length (open_transfers plan r) ≤ 64
  open_few r = joined_few (length plan.groups) 64 1 _ sound.groups (λ i. only_few (not (is_holder plan r i)) (record { share = i; sender = holder_of plan i; receiver = r } ∷ []) 1 (omega arith))

  pub held_few : length (transfers plan Held) ≤ 768
  held_few = joined_few (length plan.groups) 64 12 (λ i. joined plan.parties (held_transfer plan i)) sound.groups (λ i. joined_few plan.parties 12 1 (held_transfer plan i) sound.parties (λ p. only_few (is_holder plan p i) (record { share = i; sender = p; receiver = p } ∷ []) 1 (omega arith)))

  pub few_transfers : (pattern : Pattern) → length (transfers plan pattern) ≤ 9216
  few_transfers Silent = omega arith
  few_transfers (Dealt p) = let few = deal_few p in omega arith
  few_transfers Multiplied = joined_few plan.parties 12 768 _ sound.parties (λ p. only_few (has_pair (scheme plan) p) (deal_transfers plan p) 768 (deal_few p))
  few_transfers (Opened readers) = let few = joined_few plan.parties 12 64 _ sound.parties (λ r. only_few (has_party readers r) (open_transfers plan r) 64 (open_few r)) in omega arith
  few_transfers HandedOut = let few = joined_few (length plan.groups) 64 12 (λ i. joined plan.parties (deal_transfer plan (holder_of plan i) i)) sound.groups (λ i. summand_few (holder_of plan i) i) in omega arith
  few_transfers OpenedToAll = let few = joined_few plan.parties 12 64 (open_transfers plan) sound.parties open_few in omega arith
  few_transfers Joined = omega arith
  few_transfers Held = let few = held_few in omega arith
  few_transfers Received = omega arith

-- the messages of a slot are as many as the transfers of its pattern
pub length-transfers : (plan : Plan) (r m : ℕ) → count plan r m ≡ length (transfers plan (pattern_at plan r m))
length-transfers plan r m = ap length (slots_follow_patterns plan r m (slot plan r m)) ∙ length-map (transfers plan (pattern_at plan r m)) (named r m)

-- a wire is kept by few messages
pub few_kept : (plan : Plan) → IsPlan plan → IsSound plan → (s v r c i : ℕ) → source (session plan s) v ≡ Earlier r c i → count plan r (keeping_slot plan s v r) ≤ 768
few_kept plan is sound s v r c i e =
    let at = kept_in plan is s v r c i e in
    let m = keeping_slot plan s v r in
    omega (arith, length-transfers plan r m ∙ ap (λ z. length (transfers plan (pattern plan r z))) at.slot_is, held_few plan sound)
