-- Which messages a slot has: what goes from whom to whom.
use Rattle.std.proofs.Common.{◌≡◌, ℕ, ◌<◌, ◌≢◌, true, false, not, ◌&&◌, nat_eq, length, refl, sym, subst}
use Rattle.std.specs.List.{AllByRecursion}
use Rattle.std.proofs.lemmas.Bool.{and_parts, and_from, not-true, not_from_false, ne_eqb, eqb-false}
use Rattle.list_laws.specs.Lists.{joined}
use Rattle.list_laws.proofs.JoinedLists.{every_joined, every_only_if, at_joined, at_only_if}
use Rattle.session_slots.specs.declared.source.Source.{Source}
use Rattle.session_slots.specs.declared.source.Source.TheVariants.{Given, Earlier}
use Rattle.session_slots.specs.Sessions.{Slot, source}
use Rattle.session_slots.specs.Sessions.Slot.{Input, At_gate, Output, Mask, Mask_product, Masked, Kept}
use Rattle.plan_model.specs.declared.key.Key.{Key}
use Rattle.plan_model.specs.Plans.{Plan, session, is_holder, holder_of, deals_in, opens_to}
use Rattle.plan_model.specs.Messages.{slot_messages, input_messages, deal_message, deal_messages, open_messages, product_messages}

abbrev pub key_of : ℕ → ℕ → ℕ → ℕ → ℕ → Key
key_of s k i p q = record { session = s; slot = k; share = i; sender = p; receiver = q }

-- p gets summand i of what another party, q, deals
abbrev pub Deals : Plan → ℕ → ℕ → ℕ → Type 0
Deals plan i q p = (p ≢ q) × (is_holder plan p i ≡ true)

-- p gets summand i, which it lacks, from the least holder
abbrev pub Opens : Plan → ℕ → ℕ → ℕ → Type 0
Opens plan i q p = (holder_of plan i ≡ q) × (is_holder plan p i ≡ false)

-- p gets summand i of q's part of a product
abbrev pub Multiplies : Plan → ℕ → Slot → ℕ → ℕ → ℕ → Type 0
Multiplies plan s z i q p = (q < plan.parties) × (deals_in plan s q z ≡ true) × Deals plan i q p

-- p keeps summand i, which it holds: it goes from p to itself
abbrev pub Keeps : Plan → ℕ → ℕ → ℕ → Type 0
Keeps plan i q p = (q < plan.parties) × (q ≡ p) × (is_holder plan p i ≡ true)

-- summand i goes from q to p in a slot
abbrev pub Goes : Plan → ℕ → Slot → ℕ → ℕ → ℕ → Type 0
Goes plan s (Input v) i q p = (source (session plan s) v ≡ Given q) × Deals plan i q p
Goes plan s (At_gate t) i q p = Multiplies plan s (At_gate t) i q p
Goes plan s (Output o) i q p = (opens_to plan s p (Output o) ≡ true) × Opens plan i q p
Goes plan s (Mask t side) i q p = (holder_of plan i ≡ q) × Deals plan i q p
Goes plan s (Mask_product t) i q p = Multiplies plan s (Mask_product t) i q p
Goes plan s (Masked t side) i q p = Opens plan i q p
Goes plan s (Kept j) i q p = Keeps plan i q p

module _ (P : Key → Type 0) (plan : Plan) (s k : ℕ) where
  -- ---- what holds of all that goes holds of the messages

  every_deal : (i q : ℕ) → ((p : ℕ) → p < plan.parties → Deals plan i q p → P (key_of s k i q p)) → AllByRecursion P (joined plan.parties (deal_message plan s k q i))
  every_deal i q h = every_joined P plan.parties _ (λ p lp. every_only_if P (not (nat_eq p q) && is_holder plan p i) _ (λ e.
      let both = and_parts (not (nat_eq p q)) (is_holder plan p i) e in
      (h p lp (eqb-false p q (not-true (nat_eq p q) both.0), both.1), tt)))

  every_open : (p : ℕ) → ((i q : ℕ) → i < length plan.groups → Opens plan i q p → P (key_of s k i q p)) → AllByRecursion P (open_messages plan s k p)
  every_open p h = every_joined P (length plan.groups) _ (λ i li. every_only_if P (not (is_holder plan p i)) _ (λ e. (h i (holder_of plan i) li (refl, not-true (is_holder plan p i) e), tt)))

  every_product : (z : Slot) → ((i q p : ℕ) → i < length plan.groups → p < plan.parties → Multiplies plan s z i q p → P (key_of s k i q p)) → AllByRecursion P (product_messages plan s k z)
  every_product z h = every_joined P plan.parties _ (λ q lq. every_only_if P (deals_in plan s q z) _ (λ deals.
      every_joined P (length plan.groups) _ (λ i li. every_deal i q (λ p lp goes. h i q p li lp (lq, deals, goes)))))

  every_input : (v : ℕ) → ((i q p : ℕ) → i < length plan.groups → p < plan.parties → Goes plan s (Input v) i q p → P (key_of s k i q p)) → AllByRecursion P (slot_messages plan s k (Input v))
  every_input v h = each (source (session plan s) v) refl
    where
      each : (from : Source) → source (session plan s) v ≡ from → AllByRecursion P (input_messages plan s k from)
      each (Given q) is = every_joined P (length plan.groups) _ (λ i li. every_deal i q (λ p lp goes. h i q p li lp (is, goes)))
      each (Earlier r c at) is = tt

  pub every_going : (z : Slot) → ((i q p : ℕ) → i < length plan.groups → p < plan.parties → Goes plan s z i q p → P (key_of s k i q p)) → AllByRecursion P (slot_messages plan s k z)
  every_going (Input v) h = every_input v h
  every_going (At_gate t) h = every_product (At_gate t) h
  every_going (Output o) h = every_joined P plan.parties _ (λ p lp. every_only_if P (opens_to plan s p (Output o)) _ (λ reads. every_open p (λ i q li goes. h i q p li lp (reads, goes))))
  every_going (Mask t side) h = every_joined P (length plan.groups) _ (λ i li. every_deal i (holder_of plan i) (λ p lp goes. h i (holder_of plan i) p li lp (refl, goes)))
  every_going (Mask_product t) h = every_product (Mask_product t) h
  every_going (Masked t side) h = every_joined P plan.parties _ (λ p lp. every_open p (λ i q li goes. h i q p li lp goes))
  every_going (Kept j) h = every_joined P (length plan.groups) _ (λ i li. every_joined P plan.parties _ (λ p lp.
      every_only_if P (is_holder plan p i) _ (λ e. (h i p p li lp (lp, refl, e), tt))))

  -- ---- and the other way

  at_deal : (i q p : ℕ) → p < plan.parties → Deals plan i q p → AllByRecursion P (joined plan.parties (deal_message plan s k q i)) → P (key_of s k i q p)
  at_deal i q p lp goes all =
      (at_only_if P (not (nat_eq p q) && is_holder plan p i) _ (and_from _ _ (not_from_false _ (ne_eqb p q goes.0)) goes.1)
      (at_joined P plan.parties _ p lp all)).0

  at_open : (i q p : ℕ) → i < length plan.groups → Opens plan i q p → AllByRecursion P (open_messages plan s k p) → P (key_of s k i q p)
  at_open i q p li goes all =
      subst (λ r. P (key_of s k i r p)) goes.0
      (at_only_if P (not (is_holder plan p i)) _ (not_from_false _ goes.1) (at_joined P (length plan.groups) _ i li all)).0

  at_product : (z : Slot) (i q p : ℕ) → i < length plan.groups → p < plan.parties → Multiplies plan s z i q p → AllByRecursion P (product_messages plan s k z) → P (key_of s k i q p)
  at_product z i q p li lp goes all =
      at_deal i q p lp goes.2 (at_joined P (length plan.groups) _ i li
      (at_only_if P (deals_in plan s q z) (deal_messages plan s k q) goes.1 (at_joined P plan.parties _ q goes.0 all)))

  pub at_going : (z : Slot) (i q p : ℕ) → i < length plan.groups → p < plan.parties → Goes plan s z i q p → AllByRecursion P (slot_messages plan s k z) → P (key_of s k i q p)
  at_going (Input v) i q p li lp goes all =
      at_deal i q p lp goes.1 (at_joined P (length plan.groups) _ i li (subst (λ (from : Source). AllByRecursion P (input_messages plan s k from)) goes.0 all))
  at_going (At_gate t) i q p li lp goes all = at_product (At_gate t) i q p li lp goes all
  at_going (Output o) i q p li lp goes all =
      at_open i q p li goes.1 (at_only_if P (opens_to plan s p (Output o)) (open_messages plan s k p) goes.0 (at_joined P plan.parties _ p lp all))
  at_going (Mask t side) i q p li lp goes all =
      at_deal i q p lp goes.1 (subst (λ r. AllByRecursion P (joined plan.parties (deal_message plan s k r i))) goes.0 (at_joined P (length plan.groups) _ i li all))
  at_going (Mask_product t) i q p li lp goes all = at_product (Mask_product t) i q p li lp goes all
  at_going (Masked t side) i q p li lp goes all = at_open i q p li goes (at_joined P plan.parties _ p lp all)
  at_going (Kept j) i q p li lp goes all =
      subst (λ r. P (key_of s k i r p)) (sym goes.1) (at_only_if P (is_holder plan p i) _ goes.2 (at_joined P plan.parties _ p lp (at_joined P (length plan.groups) _ i li all))).0
