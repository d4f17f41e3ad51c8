-- The inputs of a sample are those of its plan.
use Rattle.std.proofs.Common.{◌≡◌, ℕ, zero, suc, ◌^◌, ◌<◌, ◌≤◌, if◌then◌else◌, [], ◌∷◌, length, refl, arith}
use Rattle.std.specs.Prelude.{slice_index, slice_index_or}
use Rattle.list_laws.specs.Lists.{total}
use Rattle.session_slots.specs.Sessions.{owners}
use Rattle.plan_model.specs.InputWords.{AreInputs, given}
use Rattle.plan_model.specs.Plans.{gives, session}
use Rattle.sample_maker.specs.Samples.{sample_inputs, sample_plan, sample_word}

-- a and b give a word for each of their two wires, at most 262144, and c gives none
pub inputs_fit : (n : ℕ) → n ≤ 65536 → AreInputs (sample_plan n) (sample_inputs n)
inputs_fit n l = record { parties = refl; sessions = sessions; counts = counts; below = below }
  where
    sessions : (p : ℕ) → p < 3 → length (slice_index_or (sample_inputs n) p []) ≡ 1
    sessions zero lp = refl
    sessions (suc zero) lp = refl
    sessions (suc (suc zero)) lp = refl
    sessions (suc (suc (suc p))) lp = absurd (omega arith)

    counts : (p s : ℕ) → p < 3 → s < 1 → length (given (sample_inputs n) p s) ≡ total (length (owners (session (sample_plan n) s))) (λ v. if gives (sample_plan n) s p v then 1 else 0)
    counts zero zero lp ls = refl
    counts (suc zero) zero lp ls = refl
    counts (suc (suc zero)) zero lp ls = refl
    counts (suc (suc (suc p))) zero lp ls = absurd (omega arith)
    counts p (suc s) lp ls = absurd (omega arith)

    two : (a b k : ℕ) → a < 2 ^ 32 → b < 2 ^ 32 → slice_index (a ∷ b ∷ []) k < 2 ^ 32
    two a b zero la lb = la
    two a b (suc zero) la lb = lb
    two a b (suc (suc k)) la lb = omega arith

    below : (p s k : ℕ) → slice_index (given (sample_inputs n) p s) k < 2 ^ 32
    below zero zero k = two (sample_word n 0) (sample_word n 1) k (omega (arith, l)) (omega (arith, l))
    below (suc zero) zero k = two (sample_word n 2) (sample_word n 3) k (omega (arith, l)) (omega (arith, l))
    below (suc (suc zero)) zero k = omega arith
    below (suc (suc (suc p))) s k = omega arith
    below zero (suc s) k = omega arith
    below (suc zero) (suc s) k = omega arith
    below (suc (suc zero)) (suc s) k = omega arith
