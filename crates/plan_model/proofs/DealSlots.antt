-- The slots of a party's deals.
use Rattle.std.proofs.Common.{◌≡◌, ℕ, zero, suc, ◌+◌, ◌<◌, ◌≤◌, Bool, true, false, nat_le, if◌then◌else◌, ap, subst, arith}
use Rattle.std.proofs.lemmas.Bool.{cases_eq, cases_lt, cond-true, cond-false, le-leb, lt-leb}
use mathlib.Core.Logic.{inl, inr}
use Rattle.list_laws.specs.Lists.{total}
use Rattle.list_laws.proofs.Totals.{total_more}
use Rattle.list_laws.proofs.JoinedLists.{total_within}
use Rattle.plan_model.specs.Plans.{Plan, slot, slots, deals_in}
use Rattle.plan_model.specs.Numbers.{deals_before, deals, deal_slot, DealsHaveSlots}
use Rattle.plan_model.proofs.SlotSums.{one}

module _ (plan : Plan) (p s : ℕ) where
  abbrev before : ℕ → ℕ
  before k = deals_before plan p s k

  next : (k : ℕ) → before (k + 1) ≡ before k + one (deals_in plan s p (slot plan s k))
  next k = total_more k (λ j. one (deals_in plan s p (slot plan s j)))

  pub rises : (j k : ℕ) → j ≤ k → before j ≤ before k
  rises j k le = elim (cases_eq j k) [
    | inl e ↦ subst (λ z. before j ≤ before z) e (omega arith)
    | inr ne ↦ omega (arith, total_within k j (λ i. one (deals_in plan s p (slot plan s i))) (omega arith))
  ]

  -- of n slots the first c have at most d deals up to and with them
  pub record IsCut (n d c : ℕ) : Type 0 where
    pub within : c ≤ n
    pub few : before c ≤ d
    pub many : c < n → d < before (c + 1)

  abbrev passed : ℕ → ℕ → ℕ
  passed d k = if nat_le (before (k + 1)) d then 1 else 0

  cut : (n d : ℕ) → IsCut n d (total n (passed d))
  cut zero d = record { within = omega arith; few = omega arith; many = λ l. omega arith }
  cut (suc n) d =
      let h = cut n d in
      let c = total n (passed d) in
      elim (cases_lt d (before (n + 1))) [
        | inl over ↦
            let here : passed d n ≡ 0 = cond-false (nat_le (before (n + 1)) d) 1 0 (lt-leb (before (n + 1)) d over) in
            let same : c ≡ total (suc n) (passed d) = omega (arith, here) in
            subst (IsCut (suc n) d) same (record {
              within = omega (arith, h.within);
              few = h.few;
              many = λ l. elim (cases_lt c n) [
                | inl less ↦ h.many less
                | inr all ↦ (let last : n ≡ c = omega (arith, h.within) in subst (λ z. d < before (z + 1)) last over)
              ];
            })
        | inr under ↦
            let here : passed d n ≡ 1 = cond-true (nat_le (before (n + 1)) d) 1 0 (le-leb (before (n + 1)) d under) in
            let all : c ≡ n = elim (cases_lt c n) [
              | inl less ↦ absurd (omega (arith, h.many less, rises (c + 1) (n + 1) (omega arith)))
              | inr past ↦ omega (arith, h.within)
            ] in
            let same : n + 1 ≡ total (suc n) (passed d) = omega (arith, here, all) in
            subst (IsCut (suc n) d) same (record { within = omega arith; few = under; many = λ l. absurd (omega (arith, l)) })
      ]

  pub at_cut : (d : ℕ) → IsCut (slots plan s) d (deal_slot plan p s d)
  at_cut d = cut (slots plan s) d

  pub slot_within : (d : ℕ) → deal_slot plan p s d ≤ slots plan s
  slot_within d = (at_cut d).within

  -- so many deals stand before the slot of a deal as before it
  pub deals_before_slot : (d : ℕ) → d ≤ deals plan p s → before (deal_slot plan p s d) ≡ d
  deals_before_slot d le =
      let c = deal_slot plan p s d in
      let h = at_cut d in
      elim (cases_lt c (slots plan s)) [
        | inl less ↦ (let bound = at_most_one (deals_in plan s p (slot plan s c)) in omega (arith, h.few, h.many less, next c, bound))
        | inr past ↦ (let all : c ≡ slots plan s = omega (arith, h.within) in omega (arith, h.few, ap before all))
      ]
    where
      at_most_one : (b : Bool) → one b ≤ 1
      at_most_one true = omega arith
      at_most_one false = omega arith

  pub slot_of_deal : (k : ℕ) → k < slots plan s → deals_in plan s p (slot plan s k) ≡ true → deal_slot plan p s (before k) ≡ k
  slot_of_deal k lk e =
      let c = deal_slot plan p s (before k) in
      let h = at_cut (before k) in
      let own : one (deals_in plan s p (slot plan s k)) ≡ 1 = cond-true (deals_in plan s p (slot plan s k)) 1 0 e in
      elim (cases_lt c k) [
        | inl less ↦ absurd (omega (arith, h.many (omega arith), rises (c + 1) k (omega arith)))
        | inr past ↦ elim (cases_eq c k) [
          | inl same ↦ same
          | inr ne ↦ absurd (omega (arith, h.few, own, next k, rises (k + 1) c (omega arith)))
        ]
      ]

pub deals_have_slots : (plan : Plan) (p : ℕ) → DealsHaveSlots plan p
deals_have_slots plan p s k lk e = slot_of_deal plan p s k lk e
