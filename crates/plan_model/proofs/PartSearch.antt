-- Which part a place lies in, by the parts' beginnings.
use Rattle.std.proofs.Common.{◌≡◌, ℕ, ◌+◌, ◌-◌, ◌<◌, ◌≤◌, true, false, leb, List, length, ap, arith}
use Rattle.std.specs.Prelude.{slice_index}
use Rattle.std.specs.List.Sorted.{IsPartitionPoint}
use Rattle.std.proofs.lemmas.Bool.{cases_lt}
use Rattle.std.proofs.lemmas.Bool.Decides.{nat_tests}
use mathlib.Core.Logic.{inl, inr}

-- so many parts begin at place n or before it
module _ (xs : List ℕ) (n past : ℕ) (bound : past ≤ length xs) (point : IsPartitionPoint (λ x. leb x n ≡ true) (λ x. leb x n ≡ false) xs past) where
  below : (k : ℕ) → k < past → slice_index xs k ≤ n
  below k l = let h = point.0 k 0 (omega arith) l in grind (arith, nat_tests)

  above : (k : ℕ) → past ≤ k → k < length xs → n < slice_index xs k
  above k l b = let h = point.1 k 0 l b in grind (arith, nat_tests)

  pub some_past : 0 < length xs → slice_index xs 0 ≤ n → 1 ≤ past
  some_past some begin = elim (cases_lt 0 past) [
    | inl l ↦ l
    | inr none ↦ (let over = above 0 none some in omega arith)
  ]

  pub not_all_past : 0 < length xs → n < slice_index xs (length xs - 1) → past < length xs
  not_all_past some end = elim (cases_lt past (length xs)) [
    | inl l ↦ l
    | inr all ↦ (let under = below (length xs - 1) (omega arith) in omega arith)
  ]

  pub begins_before : 1 ≤ past → slice_index xs (past - 1) ≤ n
  begins_before some = below (past - 1) (omega arith)

  pub ends_behind : 1 ≤ past → past < length xs → n < slice_index xs (past - 1 + 1)
  ends_behind some less = let same : past ≡ past - 1 + 1 = omega arith in omega (arith, above past (omega arith) less, ap (slice_index xs) same)
