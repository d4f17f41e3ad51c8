-- What a party has to do in the slots of prepared products.
use Rattle.std.proofs.Common.{◌≡◌, ℕ, ◌+◌, ◌<◌, Bool, true, false, not, ◌&&◌, if◌then◌else◌, List, length, refl, sym, ap, ◌∙◌, subst, arith}
use Rattle.std.specs.Global.{Vec}
use Rattle.std.specs.Prelude.{slice_index_or}
use Rattle.std.proofs.lemmas.List.{length-append}
use Rattle.list_laws.proofs.Totals.{total_more}
use Rattle.circuit_model.specs.Circuits.{is_product}
use Rattle.circuit_model.specs.declared.gate.Gate.{Gate}
use Rattle.secret_sharing.specs.Schemes.{has_pair}
use Rattle.session_slots.specs.declared.side.Side.TheVariants.{First, Second}
use Rattle.session_slots.specs.Sessions.{Session, Slot, gate, no_gate, is_prepared, session_slot}
use Rattle.session_slots.specs.Sessions.Slot.{At_gate, Mask, Mask_product, Masked}
use Rattle.session_slots.specs.SlotNumbers.{first_of_gate, first_of_masks, mask_product_number, prepared_before, session_slot_number}
use Rattle.session_slots.specs.SoundSessions.{Inside}
use Rattle.session_slots.proofs.SessionSlots.{number_within, slot_there}
use Rattle.plan_model.specs.declared.pattern.Pattern.{Pattern}
use Rattle.plan_model.specs.declared.pattern.Pattern.TheVariants.{Silent, Multiplied, HandedOut, OpenedToAll, Joined}
use Rattle.plan_model.specs.Plans.{scheme, slots, deals_in}
use Rattle.plan_model.specs.Patterns.{pattern}
use Rattle.plan_model.specs.Sound.{IsSound}
use Rattle.plan_model.proofs.PlanSchemes.{plan_is}
use Rattle.party_program.specs.declared.deals.SessionSteps.{SessionSteps}
use Rattle.party_program.specs.declared.deals.ProductCounts.{ProductCounts}
use Rattle.party_program.specs.declared.deals.Tally.{Tally}
use Rattle.program_model.specs.declared.half.Half.{Half}
use Rattle.program_model.specs.declared.half.Half.TheVariants.{Head, Tail}
use Rattle.program_model.specs.Programs.{head, tail, half_program}
use Rattle.party_program.specs.PartySteps.{steps}
use Rattle.party_program.specs.ProgramPlaces.{AreDealsTo, AreProductCounts, AreSessionSteps, HasInSlot, HasInThree, HasInTwo, session_of, steps_in}
use Rattle.party_program.proofs.FollowedPatterns.{gate_pattern}
use Rattle.party_program.proofs.ProgramPlaces.{length-half}

-- the pattern and the deals of a gate in a session with prepared products
joined_pattern : (prepared product : Bool) → (prepared && product) ≡ true → gate_pattern prepared product ≡ Joined
joined_pattern true true is = refl
joined_pattern true false is = absurd cc
joined_pattern false product is = absurd cc

silent_pattern : (prepared product : Bool) → product ≡ false → gate_pattern prepared product ≡ Silent
silent_pattern true true is = absurd cc
silent_pattern false true is = absurd cc
silent_pattern true false is = refl
silent_pattern false false is = refl

not_direct : (prepared product has : Bool) → (prepared && product) ≡ true → ((not prepared && product) && has) ≡ false
not_direct true product has is = refl
not_direct false product has is = absurd cc

no_deal : (prepared product has : Bool) → product ≡ false → ((not prepared && product) && has) ≡ false
no_deal prepared true has is = absurd cc
no_deal true false has is = refl
no_deal false false has is = refl

-- the same deals, said of the same list and tally
pub same_deals : (own : SessionSteps) (k n : ℕ) (list longer : Vec ℕ) (tally more : Tally) → k ≡ n → longer ≡ list → more ≡ tally → AreDealsTo own k list tally → AreDealsTo own n longer more
same_deals own k n list longer tally more number lists tallies before =
    subst (λ (z : Tally). AreDealsTo own n longer z) (sym tallies) (subst (λ (z : Vec ℕ). AreDealsTo own n z tally) (sym lists) (subst (λ z. AreDealsTo own z list tally) number before))

-- a gate that was found among those of a session's part
module _ (x part : Session) (same : part ≡ x) (gates : List Gate) (of : gates ≡ part.gates) (t : ℕ) (less : t < length gates) where
  pub found_there : t < length x.gates
  found_there = let many = ap (length {A = Gate}) (of ∙ ap (λ (y : Session). y.gates) same) in omega (arith, less, many)

  pub found_product : (told product : Bool) → told ≡ is_product (slice_index_or gates t no_gate).operation → told ≡ product → is_product (gate x t).operation ≡ product
  found_product told product is_told told_is = ap (λ xs. is_product (slice_index_or xs t no_gate).operation) (sym (of ∙ ap (λ (y : Session). y.gates) same)) ∙ sym is_told ∙ told_is

module _ (own : SessionSteps) (are : AreSessionSteps own) (sound : IsSound own.plan.now) where
  abbrev x : Session
  x = session_of own

  -- in the slot of this kind
  module _ (k : ℕ) (z : Slot) (inside : Inside x z) (here : k ≡ session_slot_number x z) where
    slot_here : session_slot x k ≡ z
    slot_here = ap (session_slot x) here ∙ slot_there x z inside

    within : k < slots own.plan.now own.session
    within = let less = number_within x z inside in omega (arith, here, less)

    half_count : (half : Half) → length (half_program own.plan.now own.party own.session half k) ≡ length (steps own.plan.now own.party half (pattern own.plan.now own.session z))
    half_count half =
        length-half own.plan.now own.party own.session half k (plan_is own.plan.now sound) are.session within
        ∙ ap (λ y. length (steps own.plan.now own.party half (pattern own.plan.now own.session y))) slot_here

    pub has_in_slot : (its : Pattern) (n d : ℕ) → pattern own.plan.now own.session z ≡ its → n ≡ steps_in own its → d ≡ (if deals_in own.plan.now own.session own.party z then 1 else 0) → HasInSlot own k n d
    has_in_slot its n d is count dealt = record {
      there = within;
      instructions = (
          let both = length-append (head own.plan.now own.party own.session k) (tail own.plan.now own.party own.session k) in
          let in_head = half_count Head ∙ ap (λ y. length (steps own.plan.now own.party Head y)) is in
          let in_tail = half_count Tail ∙ ap (λ y. length (steps own.plan.now own.party Tail y)) is in
          omega (arith, both, in_head, in_tail, count));
      dealt = dealt ∙ ap (λ (y : Slot). if deals_in own.plan.now own.session own.party y then 1 else 0) (sym slot_here);
    }

  module _ (t : ℕ) (less : t < length x.gates) where
    module _ (counts : ProductCounts) (counted : AreProductCounts own counts) (is : is_prepared x t ≡ true) where
      -- in the slots of its masks, and in that of their product
      pub in_masks : (k : ℕ) → k ≡ first_of_masks x t → HasInTwo own k counts.mask
      in_masks k here = (
        has_in_slot k (Mask t First) (less, is) here HandedOut counts.mask 0 refl counted.mask refl,
        has_in_slot (k + 1) (Mask t Second) (less, is) (ap (λ n. n + 1) here) HandedOut counts.mask 0 refl counted.mask refl,
      )

      pub in_mask_product : (k : ℕ) → k ≡ mask_product_number x t → HasInSlot own k counts.product counts.deals
      in_mask_product k here = has_in_slot k (Mask_product t) (less, is) here Multiplied counts.product counts.deals refl counted.product counted.deals

      -- in those of what is opened for it, and in its own
      pub in_gate : (k : ℕ) → k ≡ first_of_gate x t → HasInThree own k counts.opening counts.join 0
      in_gate k here =
          let prepared = x.prepared in
          let product = is_product (gate x t).operation in
          let two : ◌≡◌ {A = ℕ} 2 (if is_prepared x t then 2 else 0) = ap (λ b. if b then 2 else 0) (sym is) in
          let last : k + 2 ≡ first_of_gate x t + (if is_prepared x t then 2 else 0) = omega (arith, here, two) in
          let none : ◌≡◌ {A = ℕ} 0 (if (not prepared && product) && has_pair (scheme own.plan.now) own.party then 1 else 0) = ap (λ b. if b then 1 else 0) (sym (not_direct prepared product (has_pair (scheme own.plan.now) own.party) is)) in (
            (
              has_in_slot k (Masked t First) (less, is) here OpenedToAll counts.opening 0 refl counted.opening refl,
              has_in_slot (k + 1) (Masked t Second) (less, is) (ap (λ n. n + 1) here) OpenedToAll counts.opening 0 refl counted.opening refl,
            ),
            has_in_slot (k + 2) (At_gate t) less last Joined counts.join 0 (joined_pattern prepared product is) counted.join none,
          )

    -- in that of a linear gate
    pub in_linear : is_product (gate x t).operation ≡ false → (k : ℕ) → k ≡ first_of_gate x t → HasInSlot own k 1 0
    in_linear is k here =
        let prepared = x.prepared in
        let product = is_product (gate x t).operation in
        let linear : is_prepared x t ≡ false = not_prepared prepared product is in
        let no_more : ◌≡◌ {A = ℕ} 0 (if is_prepared x t then 2 else 0) = ap (λ b. if b then 2 else 0) (sym linear) in
        let number : k ≡ first_of_gate x t + (if is_prepared x t then 2 else 0) = omega (arith, here, no_more) in
        let none : ◌≡◌ {A = ℕ} 0 (if (not prepared && product) && has_pair (scheme own.plan.now) own.party then 1 else 0) = ap (λ b. if b then 1 else 0) (sym (no_deal prepared product (has_pair (scheme own.plan.now) own.party) is)) in
        has_in_slot k (At_gate t) less number Silent 1 0 (silent_pattern prepared product is) refl none
      where
        not_prepared : (prepared product : Bool) → product ≡ false → (prepared && product) ≡ false
        not_prepared true product is = is
        not_prepared false product is = refl

    -- how many prepared products there are before the next gate, and its slots
    pub next_prepared : (b : Bool) → is_prepared x t ≡ b → prepared_before x (t + 1) ≡ prepared_before x t + (if b then 1 else 0)
    next_prepared b is = total_more t (λ u. if is_prepared x u then 1 else 0) ∙ ap (λ b. prepared_before x t + (if b then 1 else 0)) is

    pub next_gate : (b : Bool) → is_prepared x t ≡ b → first_of_gate x t + (if b then 3 else 1) ≡ first_of_gate x (t + 1)
    next_gate true is = omega (arith, next_prepared true is)
    next_gate false is = omega (arith, next_prepared false is)
