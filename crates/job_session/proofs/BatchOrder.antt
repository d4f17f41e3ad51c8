-- Batches follow one another.
use Rattle.std.proofs.Common.{◌≡◌, ℕ, zero, suc, ◌+◌, ◌-◌, ◌<◌, ◌≤◌, Bool, true, false, ◌&&◌, ◌||◌, nat_eq, nat_le, refl, sym, ap, ◌∙◌, subst, arith}
use Rattle.std.proofs.lemmas.Bool.{cases_Bool, cases_eq, cond-true, cond-false, cond_both, and_cases, and_parts, both_ways, eq-eqb, eqb-true, le-leb, leb-true, or_parts, or_from}
use mathlib.Core.Logic.{inl, inr}
use Rattle.list_laws.specs.Lists.{some_below}
use Rattle.session_slots.specs.Sessions.{Session, session_slots}
use Rattle.job_session.specs.Batches.{waits_for, waits, batch, is_last}
use Rattle.job_session.specs.BatchLaws.{AreLongestRuns}
use Rattle.session_slots.proofs.KeptRows.{some_found}
use Rattle.list_laws.proofs.Totals.{total_most}

pub none_below : (n : ℕ) (f : ℕ → Bool) (j : ℕ) → some_below n f ≡ false → j < n → f j ≡ false
none_below zero f j e l = absurd (omega arith)
none_below (suc n) f j e l =
    let both = or_parts (some_below n f) (f n) e in
    elim (cases_eq j n) [
      | inl same ↦ ap f same ∙ both.1
      | inr ne ↦ none_below n f j both.0 (omega arith)
    ]

module _ (x : Session) where
  -- a slot begins a batch, or is of that of the slot before it, for none of which it waits
  pub next_begins : (k : ℕ) → waits x (batch x k) (suc k) ≡ true → batch x (suc k) ≡ suc k
  next_begins k e = cond-true (waits x (batch x k) (suc k)) (suc k) (batch x k) e

  pub next_joins : (k : ℕ) → waits x (batch x k) (suc k) ≡ false → batch x (suc k) ≡ batch x k
  next_joins k e = cond-false (waits x (batch x k) (suc k)) (suc k) (batch x k) e

  pub batch_within : (k : ℕ) → batch x k ≤ k
  batch_within zero = omega arith
  batch_within (suc k) = cond_both (waits x (batch x k) (suc k)) (suc k) (batch x k) (λ b. b ≤ suc k) (λ e. omega arith) (λ e. let h = batch_within k in omega arith)

  -- a slot waits for none before it in its batch
  pub no_wait : (k j : ℕ) → batch x k ≤ j → j < k → waits_for x k j ≡ false
  no_wait zero j from to = absurd (omega arith)
  no_wait (suc k) j from to = elim (cases_Bool (waits x (batch x k) (suc k))) [
    | inl e ↦ absurd (let begins = next_begins k e in omega arith)
    | inr e ↦
        let same : batch x (suc k) ≡ batch x k = next_joins k e in
        elim (and_cases (nat_le (batch x k) j) (waits_for x (suc k) j) (none_below (suc k) (λ i. nat_le (batch x k) i && waits_for x (suc k) i) j e to)) [
          | inl not' ↦ absurd (both_ways (nat_le (batch x k) j) not' (le-leb (batch x k) j (omega arith)))
          | inr none ↦ none
        ]
  ]

  -- the slots of a batch have the same first one
  pub same_batch : (j k : ℕ) → batch x k ≤ j → j ≤ k → batch x j ≡ batch x k
  same_batch j zero from to = let e : j ≡ 0 = omega arith in ap (batch x) e
  same_batch j (suc k) from to = elim (cases_eq j (suc k)) [
    | inl e ↦ ap (batch x) e
    | inr ne ↦ elim (cases_Bool (waits x (batch x k) (suc k))) [
      | inl w ↦ absurd (let b = next_begins k w in omega arith)
      | inr w ↦ let b = next_joins k w in same_batch j k (omega arith) (omega arith) ∙ sym b
    ]
  ]

  -- which is of it
  pub first_same : (k : ℕ) → batch x (batch x k) ≡ batch x k
  first_same k = same_batch (batch x k) k (omega arith) (batch_within k)

  pub next_later : (k : ℕ) → batch x k ≤ batch x (suc k)
  next_later k = elim (cases_Bool (waits x (batch x k) (suc k))) [
    | inl w ↦ let b = next_begins k w in let c = batch_within k in omega arith
    | inr w ↦ let b = next_joins k w in omega arith
  ]

  -- batches rise
  pub later_batch : (j n : ℕ) → batch x j ≤ batch x (j + n)
  later_batch j zero = let e : j + 0 ≡ j = omega arith in let f = ap (batch x) e in omega arith
  later_batch j (suc n) =
      let e : j + suc n ≡ suc (j + n) = omega arith in
      let f = ap (batch x) e in
      let a = later_batch j n in
      let b = next_later (j + n) in
      omega arith

  pub rising : (j k : ℕ) → j ≤ k → batch x j ≤ batch x k
  rising j k le = let e : j + (k - j) ≡ k = omega arith in subst (λ z. batch x j ≤ batch x z) e (later_batch j (k - j))

  -- behind the last slot of a batch begins another
  pub next_batch : (k : ℕ) → suc k < session_slots x → is_last x k ≡ true → batch x (suc k) ≡ suc k
  next_batch k l e = elim (cases_Bool (nat_eq (batch x (suc k)) (suc k))) [
    | inl b ↦ eqb-true (batch x (suc k)) (suc k) b
    | inr b ↦ elim (cases_Bool (nat_le (session_slots x) (suc k))) [
      | inl c ↦ absurd (let d = leb-true (session_slots x) (suc k) c in omega arith)
      | inr c ↦ absurd (both_ways (is_last x k) (or_from (nat_le (session_slots x) (suc k)) (nat_eq (batch x (suc k)) (suc k)) c b) e)
    ]
  ]

  -- each slot's batch has a last slot
  pub last_of : (n j : ℕ) → j + suc n ≡ session_slots x → (k : ℕ) × (j ≤ k) × (k < session_slots x) × (is_last x k ≡ true) × (batch x k ≡ batch x j)
  last_of zero j e = (j, omega arith, omega arith, ap (λ b. b || nat_eq (batch x (suc j)) (suc j)) (le-leb (session_slots x) (suc j) (omega arith)), refl)
  last_of (suc n) j e = elim (cases_Bool (is_last x j)) [
    | inl b ↦ (j, omega arith, omega arith, b, refl)
    | inr b ↦
        let both = or_parts (nat_le (session_slots x) (suc j)) (nat_eq (batch x (suc j)) (suc j)) b in
        let next : batch x (suc j) ≡ batch x j = elim (cases_Bool (waits x (batch x j) (suc j))) [
          | inl w ↦ absurd (both_ways (nat_eq (batch x (suc j)) (suc j)) both.1 (eq-eqb (batch x (suc j)) (suc j) (next_begins j w)))
          | inr w ↦ next_joins j w
        ] in
        let rest = last_of n (suc j) (omega arith) in
        let after : suc j ≤ rest.0 = rest.1 in
        (rest.0, omega arith, rest.2, rest.3, rest.4 ∙ next)
  ]

  -- ---- the law

  -- a slot that begins a batch, but for the first, waits for a slot of the batch before it
  pub begins_waiting : (k : ℕ) → batch x (suc k) ≡ suc k → (j : ℕ) × (batch x j ≡ batch x k) × (j < suc k) × (waits_for x (suc k) j ≡ true)
  begins_waiting k e = elim (cases_Bool (waits x (batch x k) (suc k))) [
    | inl w ↦
        let found = some_found (suc k) (λ j. nat_le (batch x k) j && waits_for x (suc k) j) w in
        let parts = and_parts (nat_le (batch x k) found.0) (waits_for x (suc k) found.0) found.2 in
        (found.0, same_batch found.0 k (leb-true (batch x k) found.0 parts.0) (omega (arith, found.1)), found.1, parts.1)
    | inr w ↦ absurd (let b = next_joins k w in let c = batch_within k in omega arith)
  ]

  pub longest_runs : AreLongestRuns x
  longest_runs = record {
    within = λ k l. batch_within k;
    same = λ j k l from to. same_batch j k from to;
    no_wait = λ j k l from to. no_wait k j from to;
    begins = λ k some l e.
        let next : suc (k - 1) ≡ k = omega arith in
        let found = begins_waiting (k - 1) (subst (λ (z : ℕ). batch x z ≡ z) (sym next) e) in
        (found.0, found.1, omega (arith, found.2), subst (λ (z : ℕ). waits_for x z found.0 ≡ true) next found.3);
    few = total_most (session_slots x) (λ k. nat_eq (batch x k) k);
  }
