-- How many masks stand before the slot of a deal.
use Rattle.std.proofs.Common.{◌≡◌, ℕ, ◌+◌, ◌-◌, ◌*◌, ◌/◌, ◌%◌, ◌<◌, ◌≤◌, Bool, true, false, length, refl, sym, ap, ap₂, ◌∙◌, subst, arith}
use Rattle.std.proofs.lemmas.Bool.{cases_eq, cases_lt}
use mathlib.Core.Logic.{inl, inr}
use Rattle.list_laws.proofs.JoinedLists.{total_within}
use Rattle.secret_sharing.specs.Schemes.{has_pair}
use Rattle.session_slots.specs.declared.side.Side.TheVariants.{First, Second}
use Rattle.session_slots.specs.Sessions.{Session, Slot}
use Rattle.session_slots.specs.Sessions.Slot.{Input, At_gate, Output, Mask, Mask_product, Masked, Kept}
use Rattle.session_slots.specs.SoundSessions.{Inside}
use Rattle.session_slots.specs.SlotNumbers.{prepared_before}
use Rattle.session_slots.specs.Counts.{prepared_products}
use Rattle.session_slots.proofs.SessionSlots.{slot_kinds, slots_are_numbered, turn_first, turn_product}
use Rattle.plan_model.specs.Plans.{Plan, session, scheme, slot, slots, slot_number, deals_in, least_held, place}
use Rattle.plan_model.specs.Numbers.{is_mask, deals, deals_before, deal_slot, deal_place, masks_before}
use Rattle.plan_model.proofs.SlotSums.{one, prepared_are}
use Rattle.plan_model.proofs.TallyLaws.{masks_are, words_before_are}
use Rattle.plan_model.proofs.DealSlots.{IsCut, at_cut, rises, slot_of_deal, deals_before_slot}
use Rattle.plan_model.proofs.MaskPlaces.{sum_of_pairs, sum_of_triples, sum_to_product}

module _ (plan : Plan) (p s : ℕ) where
  abbrev x : Session
  x = session plan s

  abbrev pair : Bool
  pair = has_pair (scheme plan) p

  abbrev dealt : Slot → ℕ
  dealt z = one (deals_in plan s p z)

  -- the slots of the masks and their products end here
  abbrev behind : ℕ
  behind = 3 * prepared_before x (length x.gates)

  deal_each : (t : ℕ) → dealt (Mask t First) + dealt (Mask t Second) + dealt (Mask_product t) ≡ one pair
  deal_each t = omega arith

  mask_each : (t : ℕ) → one (is_mask (Mask t First)) + one (is_mask (Mask t Second)) + one (is_mask (Mask_product t)) ≡ 2
  mask_each t = omega arith

  products_are : prepared_before x (length x.gates) ≡ prepared_products x
  products_are = prepared_are x

  -- what stands before the third slot of a product, in which its masks' product is dealt
  record IsThird (k : ℕ) (z : Slot) : Type 0 where
    deals : deals_before plan p s k ≡ k / 3 * one pair
    masks : masks_before plan s k ≡ 2 * (k / 3 + 1)
    dealing : deals_in plan s p z ≡ pair

  third : x.ahead ≡ false → (k : ℕ) → k < slots plan s → k % 3 ≡ 2 → k < behind → IsThird k (slot plan s k)
  third in_turn = slot_kinds x (λ k z. k % 3 ≡ 2 → k < behind → IsThird k z) at
    where
      at : (z : Slot) → Inside x z → slot_number plan s z % 3 ≡ 2 → slot_number plan s z < behind → IsThird (slot_number plan s z) z
      at (Mask t First) inside e l = absurd (omega (arith, e, turn_first x in_turn t))
      at (Mask t Second) inside e l = absurd (omega (arith, e, turn_first x in_turn t))
      at (Mask_product t) inside e l =
          let n = prepared_before x t in
          let part : (3 * n + 2) / 3 ≡ n = omega arith in
          subst (λ k. IsThird k (Mask_product t)) (sym (turn_product x in_turn t)) (record {
            deals = omega (arith, sum_to_product plan s dealt in_turn (one pair) deal_each t inside.0 inside.1, ap (λ m. m * one pair) part);
            masks = omega (arith, sum_to_product plan s (λ z. one (is_mask z)) in_turn 2 mask_each t inside.0 inside.1, part);
            dealing = refl;
          })
      at (Input v) inside e l = absurd (omega (arith, l))
      at (Masked t First) inside e l = absurd (omega (arith, l))
      at (Masked t Second) inside e l = absurd (omega (arith, l))
      at (At_gate t) inside e l = absurd (omega (arith, l))
      at (Output o) inside e l = absurd (omega (arith, l))
      at (Kept j) inside e l = absurd (omega (arith, l))

  behind_within : behind ≤ slots plan s
  behind_within = omega (arith, (slots_are_numbered x).count)

  deals_behind : x.ahead ≡ false → deals_before plan p s behind ≡ prepared_products x * one pair
  deals_behind in_turn = sum_of_triples plan s dealt in_turn (one pair) deal_each (length x.gates) (omega arith) ∙ ap (λ n. n * one pair) products_are

  masks_rise : (j k : ℕ) → j ≤ k → masks_before plan s j ≤ masks_before plan s k
  masks_rise j k le = elim (cases_eq j k) [
    | inl e ↦ subst (λ z. masks_before plan s j ≤ masks_before plan s z) e (omega arith)
    | inr ne ↦ omega (arith, total_within k j (λ i. one (is_mask (slot plan s i))) (omega arith))
  ]

  -- a deal behind those of the prepared products has all masks before it
  pub late : x.ahead ≡ false → (d : ℕ) → prepared_products x * one pair ≤ d → masks_before plan s (deal_slot plan p s d) ≡ 2 * prepared_products x
  late in_turn d le =
      let c = deal_slot plan p s d in
      let cut : IsCut plan p s (slots plan s) d c = at_cut plan p s d in
      let past : behind ≤ c = elim (cases_lt c behind) [
        | inl less ↦ absurd (omega (arith, cut.many (omega (arith, less, behind_within)), rises plan p s (c + 1) behind (omega (arith, less)), deals_behind in_turn, le))
        | inr past ↦ omega (arith, past)
      ] in
      let masks = sum_of_triples plan s (λ z. one (is_mask z)) in_turn 2 mask_each (length x.gates) (omega arith) in
      omega (arith, masks, products_are, masks_are plan s, masks_rise behind c past, masks_rise c (slots plan s) cut.within)

  -- and one of a prepared product has the masks up to its own
  pub early : x.ahead ≡ false → (d : ℕ) → pair ≡ true → d < prepared_products x → masks_before plan s (deal_slot plan p s d) ≡ 2 * (d + 1)
  early in_turn d e l =
      let k = 3 * d + 2 in
      let part : k / 3 ≡ d = omega arith in
      let own : one pair ≡ 1 = ap one e in
      let at = third in_turn k (omega (arith, l, products_are, behind_within)) (omega arith) (omega (arith, l, products_are)) in
      let before : deals_before plan p s k ≡ d = at.deals ∙ ap₂ (λ m n. m * n) part own ∙ omega arith in
      let slot_is : deal_slot plan p s d ≡ k = ap (deal_slot plan p s) (sym before) ∙ slot_of_deal plan p s k (omega (arith, l, products_are, behind_within)) (at.dealing ∙ e) in
      ap (masks_before plan s) slot_is ∙ at.masks ∙ ap (λ m. 2 * (m + 1)) part

  -- where masks come ahead, each deal has all of them before it
  no_deals : (t : ℕ) → dealt (Mask t First) + dealt (Mask t Second) ≡ 0
  no_deals t = omega arith

  two_masks : (t : ℕ) → one (is_mask (Mask t First)) + one (is_mask (Mask t Second)) ≡ 2
  two_masks t = omega arith

  pub all_ahead : x.ahead ≡ true → (d : ℕ) → masks_before plan s (deal_slot plan p s d) ≡ 2 * prepared_products x
  all_ahead early d =
      let n = prepared_before x (length x.gates) in
      let c = deal_slot plan p s d in
      let cut : IsCut plan p s (slots plan s) d c = at_cut plan p s d in
      let none : deals_before plan p s (2 * n) ≡ 0 = sum_of_pairs plan s dealt early 0 no_deals (length x.gates) (omega arith) ∙ omega arith in
      let past : 2 * n ≤ c = elim (cases_lt c (2 * n)) [
        | inl less ↦ absurd (omega (arith, cut.many (omega (arith, less, behind_within)), rises plan p s (c + 1) (2 * n) (omega (arith, less)), none))
        | inr past ↦ omega (arith, past)
      ] in
      let masks = sum_of_pairs plan s (λ z. one (is_mask z)) early 2 two_masks (length x.gates) (omega arith) in
      omega (arith, masks, products_are, masks_are plan s, masks_rise (2 * n) c past, masks_rise c (slots plan s) cut.within)

-- the words of a deal stand behind those of the masks and of the deals before it
pub deal_place_is : (plan : Plan) (p s d : ℕ) → d ≤ deals plan p s
    → deal_place plan p s d ≡ place plan p s 0 + least_held plan p (length plan.groups) * masks_before plan s (deal_slot plan p s d) + (length plan.groups - 1) * d
deal_place_is plan p s d le =
    let words = words_before_are plan p s (deal_slot plan p s d) in
    let dealt = ap (λ n. (length plan.groups - 1) * n) (deals_before_slot plan p s d le) in
    omega (arith, words, dealt)
