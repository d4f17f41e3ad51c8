-- Where parties post before they take, some party of the least session that has instructions left can go on, whatever the
-- order of each of their programs.
use Rattle.std.proofs.Common.{◌≡◌, ◌⊎◌, ℕ, zero, suc, ◌<◌, ◌≤◌, ◌≢◌, List, length, refl, sym, ap, ◌∙◌, subst, arith}
use Rattle.std.proofs.lemmas.Bool.{cases_lt}
use mathlib.Core.Logic.{inl, inr}
use Rattle.plan_model.specs.Plans.{Plan}
use Rattle.plan_model.specs.Numbers.{message}
use Rattle.program_model.specs.declared.instruction.Instruction.{Instruction}
use Rattle.program_model.specs.declared.instruction.Instruction.TheVariants.{Draw, Deal, Post, Take, Linear, Own, Sum, Open, Join, Deliver, End}
use Rattle.program_model.specs.Programs.{at, post}
use Rattle.program_laws.specs.Once.{take_slot}
use Rattle.program_laws.specs.Orders.{ComesTo, EarlierEnded, PostsFirst, IsPosted, SomeCanMove}

abbrev slot_taken : Plan → Instruction → ℕ
slot_taken plan (Take n i) = take_slot plan n
slot_taken plan _ = 0

abbrev IsNoTake : Instruction → Type 0
IsNoTake e = (n i : ℕ) → e ≢ Take n i

take_or_not : (e : Instruction) → ((n : ℕ) × (i : ℕ) × (e ≡ Take n i)) ⊎ IsNoTake e
take_or_not (Take n i) = inl (n, i, refl)
take_or_not (Draw k) = inr (λ n i e. cc)
take_or_not (Deal k d) = inr (λ n i e. cc)
take_or_not (Post m j) = inr (λ n i e. cc)
take_or_not (Linear k) = inr (λ n i e. cc)
take_or_not (Own k) = inr (λ n i e. cc)
take_or_not (Sum k) = inr (λ n i e. cc)
take_or_not (Open k) = inr (λ n i e. cc)
take_or_not (Join k) = inr (λ n i e. cc)
take_or_not (Deliver k) = inr (λ n i e. cc)
take_or_not End = inr (λ n i e. cc)

module _ (plan : Plan) (es : ℕ → ℕ → List Instruction) (position : ℕ → ℕ → ℕ) (s : ℕ) (orders : (t r : ℕ) → t ≤ s → r < plan.parties → PostsFirst plan t r (es t r)) (ended : EarlierEnded plan es position s) where
  abbrev next : ℕ → Instruction
  next p = at (es s p) (position s p)

  abbrev Moves : Type 0
  Moves = SomeCanMove plan es position s

  free : (p : ℕ) → p < plan.parties → position s p < length (es s p) → IsNoTake (next p) → Moves
  free p lp left other = (p, lp, (left, λ n i e. absurd (other n i e)))

  -- a take whose message was posted can be done
  done : (p n i : ℕ) → p < plan.parties → position s p < length (es s p) → next p ≡ Take n i → IsPosted plan es position n → Moves
  done p n i lp left is posted = (
    p,
    lp,
    (
      left,
      λ m j e.
          let same : Take n i ≡ Take m j = sym is ∙ e in
          let one : n ≡ m = cc in
          subst (IsPosted plan es position) one posted,
    ),
  )

  -- so is one that is taken behind its session
  kept : (n : ℕ) → ComesTo plan s n → (message plan n).session < s → IsPosted plan es position n
  kept n it earlier =
      let t : ℕ = (message plan n).session in
      let d : ℕ = (message plan n).sender in
      let c = (orders t d (omega (arith, earlier)) it.sender).posts n it.number refl refl in
      (c.0, omega (arith, c.1, ended t d earlier it.sender), c.2)

  -- a take can be done, or its sender stands at one of an earlier slot, or at no take
  moves : (r p : ℕ) → slot_taken plan (next p) < r → p < plan.parties → position s p < length (es s p) → Moves
  moves zero p low lp left = absurd (omega arith)
  moves (suc r) p low lp left = elim (take_or_not (next p)) [
    | inr other ↦ free p lp left other
    | inl t ↦
        let n : ℕ = t.0 in
        let is : next p ≡ Take n t.1 = t.2 in
        let it = (orders s p (omega arith) lp).takes (position s p) n t.1 left is in
        elim it.order [
          | inr later ↦ done p n t.1 lp left is (kept n it (omega (arith, later, it.session)))
          | inl here ↦
              let in_session : (message plan n).session ≡ s = sym (ap (λ (at : ℕ × ℕ). at.0) here) ∙ it.session in
              let in_slot : take_slot plan n ≡ (message plan n).slot = ap (λ (at : ℕ × ℕ). at.1) here in
              let d : ℕ = (message plan n).sender in
              let c = (orders s d (omega arith) it.sender).posts n it.number in_session refl in
              elim (cases_lt c.0 (position s d)) [
                | inl past ↦ done p n t.1 lp left is (c.0, subst (λ z. c.0 < position z d) (sym in_session) past, subst (λ z. at (es z d) c.0 ≡ post plan n) (sym in_session) c.2)
                | inr before ↦
                    let his : position s d < length (es s d) = omega (arith, before, c.1) in
                    elim (take_or_not (next d)) [
                      | inr other ↦ free d it.sender his other
                      | inl u ↦
                          let m : ℕ = u.0 in
                          elim (cases_lt (take_slot plan m) (take_slot plan n)) [
                            | inl less ↦
                                let a : slot_taken plan (next d) ≡ take_slot plan m = ap (slot_taken plan) u.2 in
                                let b : slot_taken plan (next p) ≡ take_slot plan n = ap (slot_taken plan) is in
                                moves r d (omega (arith, a, b, less, low)) it.sender his
                            | inr more ↦ absurd (
                                let sooner = (orders s d (omega arith) it.sender).order c.0 (position s d) n (message plan n).share m u.1 c.2 u.2 (omega (arith, more, in_slot)) in
                                omega (arith, sooner, before))
                          ]
                    ]
              ]
        ]
  ]

  pub some_moves : (p : ℕ) → p < plan.parties → position s p < length (es s p) → SomeCanMove plan es position s
  some_moves p lp left = moves (suc (slot_taken plan (next p))) p (omega arith) lp left
