-- Tests of every number below a bound.
use Rattle.std.proofs.Common.{◌≡◌, ℕ, zero, suc, ◌<◌, ◌⊎◌, inl, inr, Bool, true, false, not, ◌&&◌, ◌||◌, refl, ◌∙◌, ap, arith}
use Rattle.std.proofs.lemmas.Bool.Decides.{eqb_tells}
use Rattle.std.proofs.lemmas.Bool.{and_parts, and_from}
use Rattle.party_set.specs.Parties.{every_below}

pub and_not : (a b : Bool) → (a && b) ≡ false → (a ≡ false) ⊎ ((a ≡ true) × (b ≡ false))
and_not true true e = cc
and_not true false e = inr (refl, refl)
and_not false b e = inl refl

-- an implication as a test
pub implies_from : (a b : Bool) → (a ≡ true → b ≡ true) → (not a || b) ≡ true
implies_from true b f = f refl
implies_from false b f = refl

pub implies_at : (a b : Bool) → (not a || b) ≡ true → a ≡ true → b ≡ true
implies_at true b e f = e
implies_at false b e f = cc

pub implies_not : (a b : Bool) → (not a || b) ≡ false → (a ≡ true) × (b ≡ false)
implies_not true false e = (refl, refl)
implies_not true true e = cc
implies_not false b e = cc

pub every_from : (n : ℕ) (test : ℕ → Bool) → ((k : ℕ) → k < n → test k ≡ true) → every_below n test ≡ true
every_from zero test h = refl
every_from (suc n) test h = and_from _ _ (every_from n test (λ k l. h k (omega arith))) (h n (omega arith))

pub every_at : (n : ℕ) (test : ℕ → Bool) → every_below n test ≡ true → (k : ℕ) → k < n → test k ≡ true
every_at zero test e k l = absurd (omega arith)
every_at (suc n) test e k l =
    let both : (every_below n test ≡ true) × (test n ≡ true) = and_parts _ _ e in
    elim (eqb_tells k n) [ inl same ↦ ap test same.1 ∙ both.1 | inr other ↦ every_at n test both.0 k (omega (arith, other.1)) ]

-- a number that fails
pub every_not : (n : ℕ) (test : ℕ → Bool) → every_below n test ≡ false → (k : ℕ) × (k < n) × (test k ≡ false)
every_not zero test e = cc
every_not (suc n) test e =
    elim (and_not _ _ e) [
      | inl f ↦ (let found : (k : ℕ) × (k < n) × (test k ≡ false) = every_not n test f in (found.0, omega arith, found.2))
      | inr f ↦ (n, omega arith, f.1)
    ]
