-- The messages of a slot are those of its pattern.
use Rattle.std.proofs.Common.{◌≡◌, ℕ, zero, suc, Bool, true, false, not, ◌&&◌, nat_eq, if◌then◌else◌, List, [], ◌∷◌, ◌++◌, length, refl, sym, ap, ◌∙◌}
use Rattle.std.specs.Prelude.{map, slice_index}
use Rattle.std.proofs.lemmas.List.{map-append}
use Rattle.list_laws.specs.Lists.{joined, only_if}
use Rattle.list_laws.proofs.JoinedLists.{none_joined, joined_eq}
use Rattle.secret_sharing.specs.Schemes.{has_pair}
use Rattle.party_set.specs.Parties.{has_party}
use Rattle.plan_model.specs.declared.key.Key.{Key}
use Rattle.plan_model.specs.declared.pattern.Transfer.{Transfer}
use Rattle.plan_model.specs.declared.pattern.Pattern.TheVariants.{Silent, Multiplied, Joined, Held}
use Rattle.session_slots.specs.declared.source.Source.{Source}
use Rattle.session_slots.specs.declared.source.Source.TheVariants.{Given, Earlier}
use Rattle.session_slots.specs.Sessions.{Slot, readers, is_direct, is_prepared, source}
use Rattle.plan_model.specs.Plans.{Plan, is_holder, holder_of, scheme, session}
use Rattle.session_slots.specs.Sessions.Slot.{Input, At_gate, Output, Mask, Mask_product, Masked, Kept}
use Rattle.plan_model.specs.Messages.{deal_message, deal_messages, input_messages, kept_messages, open_messages, slot_messages}
use Rattle.plan_model.specs.Patterns.{named, deal_transfer, deal_transfers, held_transfer, input_pattern, open_transfers, transfers, pattern, SlotsFollowPatterns}

map_joined : {A B : Type 0} (f : A → B) (n : ℕ) (g : ℕ → List A) → map f (joined n g) ≡ joined n (λ k. map f (g k))
map_joined f zero g = refl
map_joined f (suc n) g = map-append f (joined n g) (g n) ∙ ap (λ xs. xs ++ map f (g n)) (map_joined f n g)

pub map_only_if : {A B : Type 0} (f : A → B) (b : Bool) (xs : List A) → map f (only_if b xs) ≡ only_if b (map f xs)
map_only_if f true xs = refl
map_only_if f false xs = refl

-- summand i of an opening to r
abbrev pub open_transfer : Plan → ℕ → ℕ → List Transfer
open_transfer plan r i = only_if (not (is_holder plan r i)) (record { share = i; sender = holder_of plan i; receiver = r } ∷ [])

module _ (plan : Plan) (s k : ℕ) where
  abbrev at : Transfer → Key
  at = named s k

  -- parts that are only there where a test passes
  parts : (n : ℕ) (test : ℕ → Bool) (keys : ℕ → List Key) (rest : ℕ → List Transfer) → ((p : ℕ) → keys p ≡ map at (rest p)) → joined n (λ p. only_if (test p) (keys p)) ≡ map at (joined n (λ p. only_if (test p) (rest p)))
  parts n test keys rest h = joined_eq n _ _ (λ p l. ap (only_if (test p)) (h p) ∙ sym (map_only_if at (test p) (rest p))) ∙ sym (map_joined at n (λ p. only_if (test p) (rest p)))

  -- summand i of a deal by another sender for each summand
  rows : (sender : ℕ → ℕ) → joined (length plan.groups) (λ i. joined plan.parties (deal_message plan s k (sender i) i)) ≡ map at (joined (length plan.groups) (λ i. joined plan.parties (deal_transfer plan (sender i) i)))
  rows sender =
      let cell : ℕ → ℕ → Transfer = λ i q. record { share = i; sender = sender i; receiver = q } in
      let test : ℕ → ℕ → Bool = λ i q. not (nat_eq q (sender i)) && is_holder plan q i in
      joined_eq (length plan.groups) _ _ (λ i li. parts plan.parties (test i) (λ q. at (cell i q) ∷ []) (λ q. cell i q ∷ []) (λ q. refl))
      ∙ sym (map_joined at (length plan.groups) (λ i. joined plan.parties (λ q. only_if (test i q) (cell i q ∷ []))))

  deals_are : (p : ℕ) → deal_messages plan s k p ≡ map at (deal_transfers plan p)
  deals_are p = rows (λ i. p)

  opens_are : (r : ℕ) → open_messages plan s k r ≡ map at (open_transfers plan r)
  opens_are r =
      let cell : ℕ → Transfer = λ i. record { share = i; sender = holder_of plan i; receiver = r } in
      parts (length plan.groups) (λ i. not (is_holder plan r i)) (λ i. at (cell i) ∷ []) (λ i. cell i ∷ []) (λ i. refl)

  -- what is dealt at a gate that is a direct product, a prepared one or neither
  gate_is : (direct prepared : Bool) → joined plan.parties (λ p. only_if (direct && has_pair (scheme plan) p) (deal_messages plan s k p)) ≡ map at (transfers plan (if direct then Multiplied else if prepared then Joined else Silent))
  gate_is true prepared = parts plan.parties (has_pair (scheme plan)) (deal_messages plan s k) (deal_transfers plan) deals_are
  gate_is false true = none_joined plan.parties _ (λ p. refl)
  gate_is false false = none_joined plan.parties _ (λ p. refl)

  input_is : (from : Source) → input_messages plan s k from ≡ map at (transfers plan (input_pattern from))
  input_is (Given p) = deals_are p
  input_is (Earlier r c i) = refl

  kept_is : kept_messages plan s k ≡ map at (transfers plan Held)
  kept_is =
      let cell : ℕ → ℕ → Transfer = λ i p. record { share = i; sender = p; receiver = p } in
      joined_eq (length plan.groups) _ _ (λ i li. parts plan.parties (λ p. is_holder plan p i) (λ p. at (cell i p) ∷ []) (λ p. cell i p ∷ []) (λ p. refl))
      ∙ sym (map_joined at (length plan.groups) (λ i. joined plan.parties (held_transfer plan i)))

  follow : (z : Slot) → slot_messages plan s k z ≡ map at (transfers plan (pattern plan s z))
  follow (Input v) = input_is (source (session plan s) v)
  follow (At_gate t) = gate_is (is_direct (session plan s) t) (is_prepared (session plan s) t)
  follow (Output o) = parts plan.parties (has_party (slice_index (readers (session plan s)) o)) (open_messages plan s k) (open_transfers plan) opens_are
  follow (Mask t side) = rows (holder_of plan)
  follow (Mask_product t) = parts plan.parties (has_pair (scheme plan)) (deal_messages plan s k) (deal_transfers plan) deals_are
  follow (Masked t side) = joined_eq plan.parties _ _ (λ r l. opens_are r) ∙ sym (map_joined at plan.parties (open_transfers plan))
  follow (Kept j) = kept_is

pub slots_follow_patterns : (plan : Plan) → SlotsFollowPatterns plan
slots_follow_patterns plan s k z = follow plan s k z
