-- Two groups cover all parties in either order.
use Rattle.std.proofs.Common.{◌≡◌, ℕ, zero, suc, ◌<◌, ◌≤◌, inl, inr, Bool, true, false, ◌&&◌, ◌||◌, length, refl, sym, ◌∙◌, ap, arith}
use Rattle.std.specs.Prelude.{slice_index}
use Rattle.std.proofs.lemmas.Bool.{cases_lt}
use Rattle.party_set.specs.Parties.{Structure, IsQ2, every_below, has_party, covers}
use Rattle.party_set.proofs.EveryNumber.{every_from, every_at}
use Rattle.q2_test.specs.CoveringPairs.{IsFirstCovering, StartsWithAll}

every_eq : (n : ℕ) (f g : ℕ → Bool) → ((p : ℕ) → f p ≡ g p) → every_below n f ≡ every_below n g
every_eq zero f g h = refl
every_eq (suc n) f g h = ap (λ b. b && f n) (every_eq n f g h) ∙ ap (λ b. every_below n g && b) (h n)

or_comm : (a b : Bool) → (a || b) ≡ (b || a)
or_comm true true = refl
or_comm true false = refl
or_comm false true = refl
or_comm false false = refl

covers_comm : (n a b : ℕ) → covers n a b ≡ covers n b a
covers_comm n a b = every_eq n _ _ (λ p. or_comm (has_party a p) (has_party b p))

-- where no pair i ≤ j covers, none does
pub q2_from : (s : Structure) → ((a b : ℕ) → a < length s.groups → a ≤ b → b < length s.groups → covers s.parties (slice_index s.groups a) (slice_index s.groups b) ≡ false) → IsQ2 s
q2_from s h = record {
  no_cover = λ i j li lj. elim (cases_lt j i) [
    | inl less ↦ covers_comm s.parties (slice_index s.groups i) (slice_index s.groups j) ∙ h j i lj (omega arith) li
    | inr more ↦ h i j li more lj
  ];
}

-- ---- the group of all parties

or_same : (a : Bool) → a ≡ true → (a || a) ≡ true
or_same true e = refl
or_same false e = cc

covers_itself : (s : Structure) → StartsWithAll s → covers s.parties (slice_index s.groups 0) (slice_index s.groups 0) ≡ true
covers_itself s is =
    every_from s.parties _ (λ p l. or_same _ (every_at s.parties (has_party (slice_index s.groups 0)) is.everyone p l))

pub all_fails : (s : Structure) → StartsWithAll s → IsQ2 s → ⊥
all_fails s is q2 =
    let together : covers s.parties (slice_index s.groups 0) (slice_index s.groups 0) ≡ true = covers_itself s is in
    let apart : covers s.parties (slice_index s.groups 0) (slice_index s.groups 0) ≡ false = q2.no_cover 0 0 is.group is.group in
    cc

pub all_pair : (s : Structure) (i j : ℕ) → StartsWithAll s → IsFirstCovering s i j → (i ≡ 0) × (j ≡ 0)
all_pair s i j is first = elim (cases_lt 0 i) [
  | inl later ↦ absurd (clash (first.earlier_rows 0 0 later (omega arith) is.group))
  | inr row ↦ (let zero_row : i ≡ 0 = omega arith in elim (cases_lt 0 j) [
    | inl later ↦ absurd (clash (ap (λ k. covers s.parties (slice_index s.groups k) (slice_index s.groups 0)) (sym zero_row) ∙ first.earlier 0 row later))
    | inr column ↦ (zero_row, omega arith)
  ])
]
  where
    clash : covers s.parties (slice_index s.groups 0) (slice_index s.groups 0) ≡ false → ⊥
    clash apart = let together : covers s.parties (slice_index s.groups 0) (slice_index s.groups 0) ≡ true = covers_itself s is in cc
