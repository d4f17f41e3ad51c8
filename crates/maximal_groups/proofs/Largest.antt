-- A tolerated group is maximal where no single party can join it.
use Rattle.std.proofs.Common.{◌≡◌, ℕ, ◌*◌, ◌%◌, ◌^◌, ◌<◌, ◌≤◌, inl, inr, Bool, true, false, not, ◌&&◌, ◌||◌, refl, sym, ◌∙◌, ap, arith, nat_eq}
use Rattle.std.specs.Prelude.{bit_or}
use Rattle.std.specs.Int.{bit_at}
use Rattle.std.proofs.lemmas.Nat.Bits.{same_from_bits, bit_at-lt}
use Rattle.std.proofs.lemmas.Nat.{or_lt}
use Rattle.std.proofs.lemmas.Bool.Decides.{eqb_tells}
use Rattle.std.proofs.lemmas.Bool.{and_parts, and_from, not_from_false, not-true, false_from_ne_true, or_right, or_left}
use Rattle.party_set.specs.Parties.{has_party, every_below, within}
use Rattle.party_set.proofs.EveryNumber.{implies_from, implies_at, implies_not, every_from, every_at, every_not}
use Rattle.party_set.proofs.Masks.{has_with, bit_power}
use Rattle.maximal_groups.specs.Families.{IsClosed, is_larger, is_maximal}

-- g with party p
abbrev pub joined : ℕ → ℕ → ℕ
joined g p = bit_or g (1 * 2 ^ p % 2 ^ 32)

same_bit : (a b : ℕ) → a < 2 → b < 2 → nat_eq a 1 ≡ nat_eq b 1 → a ≡ b
same_bit a b l h e = grind (arith, eqb_tells a 1, eqb_tells b 1)

-- a group with the parties of g and p is that one
pub is_joined : (g p r : ℕ) → p < 32 → ((q : ℕ) → has_party r q ≡ (has_party g q || nat_eq q p)) → r ≡ joined g p
is_joined g p r l e =
    same_from_bits r (joined g p) (λ q. same_bit (bit_at r q) (bit_at (joined g p) q) (bit_at-lt r q) (bit_at-lt (joined g p) q) (e q ∙ sym (has_with g p q l)))

or_no_side : (a b : Bool) → b ≡ false → (a || b) ≡ a
or_no_side true b e = refl
or_no_side false b e = e

has_joined : (g p : ℕ) → p < 32 → has_party (joined g p) p ≡ true
has_joined g p l = has_with g p p l ∙ or_right (has_party g p) (nat_eq p p) (elim (eqb_tells p p) [ inl same ↦ same.0 | inr other ↦ absurd (other.1 refl) ])

has_joined_of : (g p q : ℕ) → p < 32 → has_party g q ≡ true → has_party (joined g p) q ≡ true
has_joined_of g p q l e = has_with g p q l ∙ or_left (has_party g q) (nat_eq q p) e

has_joined_other : (g p q : ℕ) → p < 32 → nat_eq q p ≡ false → has_party (joined g p) q ≡ has_party g q
has_joined_other g p q l ne = has_with g p q l ∙ or_no_side (has_party g q) (nat_eq q p) ne

pub joined_below : (n g p : ℕ) → n ≤ 12 → g < 2 ^ n → p < n → joined g p < 2 ^ n
joined_below n g p l b h = or_lt n g (1 * 2 ^ p % 2 ^ 32) b (bit_power n p l h)

joined_within : (n g h p : ℕ) → n ≤ 12 → within n g h ≡ true → p < n → has_party h p ≡ true → within n (joined g p) h ≡ true
joined_within n g h p l w b e = every_from n _ (λ q lq. implies_from (has_party (joined g p) q) (has_party h q)
    (λ t. elim (eqb_tells q p) [
      | inl same ↦ ap (has_party h) same.1 ∙ e
      | inr other ↦ implies_at (has_party g q) (has_party h q) (every_at n (λ r. not (has_party g r) || has_party h r) w q lq) (sym (has_joined_other g p q (omega arith) other.0) ∙ t)
    ]))

joined_larger : (n g p : ℕ) → n ≤ 12 → p < n → has_party g p ≡ false → is_larger n g (joined g p) ≡ true
joined_larger n g p l b e = and_from _ _
    (every_from n _ (λ q lq. implies_from (has_party g q) (has_party (joined g p) q) (has_joined_of g p q (omega arith))))
    (not_from_false _ (false_from_ne_true _ (λ t.
    let f : has_party g p ≡ true = implies_at (has_party (joined g p) p) (has_party g p) (every_at n (λ q. not (has_party (joined g p) q) || has_party g q) t p b) (has_joined g p (omega arith)) in cc)))

-- a party of h that is not in g
outside : (n g h : ℕ) → within n h g ≡ false → (p : ℕ) × (p < n) × (has_party h p ≡ true) × (has_party g p ≡ false)
outside n g h e =
    let found : (p : ℕ) × (p < n) × ((not (has_party h p) || has_party g p) ≡ false) = every_not n (λ p. not (has_party h p) || has_party g p) e in
    let parts = implies_not (has_party h found.0) (has_party g found.0) found.2 in
    (found.0, found.1, parts.0, parts.1)

-- each strictly larger group is qualified
abbrev pub none_larger : ℕ → (ℕ → Bool) → ℕ → Bool
none_larger n t g = every_below (2 ^ n) (λ h. not (is_larger n g h) || not (t h))

pub maximal_yes : (n : ℕ) (t : ℕ → Bool) (g : ℕ) → n ≤ 12 → g < 2 ^ n → IsClosed n t → t g ≡ true
    → ((p : ℕ) → p < n → has_party g p ≡ false → t (joined g p) ≡ false) → is_maximal n t g ≡ true
maximal_yes n t g l b closed e alone = and_from _ _ e (every_from (2 ^ n) _ (λ h lh.
    implies_from (is_larger n g h) (not (t h)) (λ more.
    let parts : (within n g h ≡ true) × (not (within n h g) ≡ true) = and_parts _ _ more in
    let found : (p : ℕ) × (p < n) × (has_party h p ≡ true) × (has_party g p ≡ false) = outside n g h (not-true _ parts.1) in
    not_from_false (t h) (false_from_ne_true (t h) (λ th.
    let one : t (joined g found.0) ≡ true = closed (joined g found.0) h (joined_below n g found.0 l b found.1) lh (joined_within n g h found.0 l parts.0 found.1 found.2) th in
    let none : t (joined g found.0) ≡ false = alone found.0 found.1 found.3 in
    cc)))))

pub maximal_no_self : (n : ℕ) (t : ℕ → Bool) (g : ℕ) → t g ≡ false → is_maximal n t g ≡ false
maximal_no_self n t g e = ap (λ b. b && none_larger n t g) e

pub maximal_no_more : (n : ℕ) (t : ℕ → Bool) (g p : ℕ) → n ≤ 12 → g < 2 ^ n → p < n → has_party g p ≡ false → t (joined g p) ≡ true → is_maximal n t g ≡ false
maximal_no_more n t g p l b lp e f = false_from_ne_true _ (λ yes_all.
    let parts : (t g ≡ true) × (none_larger n t g ≡ true) = and_parts (t g) (none_larger n t g) yes_all in
    let at : (not (is_larger n g (joined g p)) || not (t (joined g p))) ≡ true = every_at (2 ^ n) (λ h. not (is_larger n g h) || not (t h)) parts.1 (joined g p) (joined_below n g p l b lp) in
    let none : t (joined g p) ≡ false = not-true _ (implies_at (is_larger n g (joined g p)) _ at (joined_larger n g p l lp e)) in
    cc)
