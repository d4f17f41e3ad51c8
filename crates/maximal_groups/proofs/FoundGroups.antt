-- The maximal groups as a list.
use Rattle.std.proofs.Common.{◌≡◌, ◌≢◌, ℕ, suc, ◌+◌, ◌^◌, ◌<◌, ◌≤◌, inl, inr, Bool, true, false, not, ◌&&◌, ◌||◌, List, [], ◌∷◌, ◌++◌, length, map, refl, sym, ◌∙◌, ap, ap₂, subst, arith, nat_lt, length-append}
use Rattle.std.specs.Prelude.{bit_or, slice_index, filter, All}
use Rattle.std.specs.List.{range_with_len}
use Rattle.std.proofs.lemmas.Nat.{le_or_l, pow_pos}
use Rattle.std.proofs.lemmas.Bool.{ltb-true, ltb-false, and_parts, and_from, not_from_false, not-true, false_from_ne_true}
use Rattle.std.proofs.lemmas.Bool.Decides.{eqb_tells}
use Rattle.std.proofs.lemmas.Grind.{common_steps}
use Rattle.std.proofs.lemmas.List.{map-append}
use Rattle.party_set.specs.Parties.{Members, Structure, has_party, within, IsAntichain}
use Rattle.party_set.proofs.EveryNumber.{implies_from, implies_at, every_from, every_at}
use Rattle.party_set.proofs.Masks.{within_word}
use Rattle.maximal_groups.specs.Families.{IsClosed, is_larger, is_maximal, maximal_structure, LiesWithin, TellsTolerated}
use Rattle.maximal_groups.proofs.Largest.{none_larger}
use Rattle.maximal_groups.proofs.NumberFilters.{Listed, listed, rising, place, IsGreatest, greatest, filter_yes, filter_grows}

pub within_self : (n g : ℕ) → within n g g ≡ true
within_self n g = every_from n _ (λ p lp. implies_from (has_party g p) (has_party g p) (λ e. e))

pub within_both : (n a b c : ℕ) → within n a b ≡ true → within n b c ≡ true → within n a c ≡ true
within_both n a b c e f = every_from n _ (λ p lp. implies_from (has_party a p) (has_party c p) (λ h.
    implies_at (has_party b p) (has_party c p) (every_at n (λ q. not (has_party b q) || has_party c q) f p lp)
    (implies_at (has_party a p) (has_party b p) (every_at n (λ q. not (has_party a q) || has_party b q) e p lp) h)))

or_is : (n a b : ℕ) → a < 2 ^ n → b < 2 ^ n → within n a b ≡ true → bit_or a b ≡ b
or_is n a b la lb e = elim (eqb_tells (bit_or a b) b) [
  | inl same ↦ same.1
  | inr other ↦ (let bad : false ≡ true = sym other.0 ∙ within_word n a b la lb ∙ e in absurd cc)
]

pub within_le : (n a b : ℕ) → a < 2 ^ n → b < 2 ^ n → within n a b ≡ true → a ≤ b
within_le n a b la lb e = omega (arith, le_or_l a b, or_is n a b la lb e)

-- two groups within each other are one
within_same : (n a b : ℕ) → a < 2 ^ n → b < 2 ^ n → within n a b ≡ true → within n b a ≡ true → a ≡ b
within_same n a b la lb e f = omega (arith, within_le n a b la lb e, within_le n b a lb la f)

pub larger_lt : (n a b : ℕ) → a < 2 ^ n → b < 2 ^ n → is_larger n a b ≡ true → a < b
larger_lt n a b la lb e =
    let parts : (within n a b ≡ true) × (not (within n b a) ≡ true) = and_parts _ _ e in
    elim (eqb_tells a b) [
      | inl same ↦ (let bad : true ≡ false = sym (within_self n a) ∙ ap (λ m. within n m a) same.1 ∙ not-true _ parts.1 in absurd cc)
      | inr other ↦ omega (arith, within_le n a b la lb parts.0, other.1)
    ]

-- each tolerated group lies within a maximal one
pub some_maximal : (n : ℕ) (t : ℕ → Bool) (a : ℕ) → a < 2 ^ n → t a ≡ true → LiesWithin (maximal_structure n t) a
some_maximal n t a la e =
    let above : ℕ → Bool = λ m. t m && within n a m in
    let top : (m : ℕ) × IsGreatest (2 ^ n) above m = greatest (2 ^ n) above a la (and_from _ _ e (within_self n a)) in
    let parts : (t top.0 ≡ true) × (within n a top.0 ≡ true) = and_parts (t top.0) (within n a top.0) top.1.passes in
    let alone : none_larger n t top.0 ≡ true = every_from (2 ^ n) _ (λ h lh. implies_from (is_larger n top.0 h) (not (t h)) (λ more.
    not_from_false (t h) (false_from_ne_true (t h) (λ th.
    let both : (within n top.0 h ≡ true) × (not (within n h top.0) ≡ true) = and_parts _ _ more in
    let at : above h ≡ true = and_from (t h) (within n a h) th (within_both n a top.0 h parts.1 both.0) in
    let none : above h ≡ false = top.1.above h (larger_lt n top.0 h top.1.below lh more) lh in
    cc)))) in
    let at = place (is_maximal n t) 0 (2 ^ n) top.0 (and_from _ _ parts.0 alone) (omega arith) (omega (arith, top.1.below)) in
    (at.0, at.1, ap (within n a) at.2 ∙ parts.1)

pub tells : (n : ℕ) (t : ℕ → Bool) → IsClosed n t → TellsTolerated n t
tells n t closed a la = (
  some_maximal n t a la,
  λ (i, li, e).
      let found : Listed (is_maximal n t) 0 (2 ^ n) (slice_index (maximal_structure n t).groups i) = listed (is_maximal n t) 0 (2 ^ n) i li in
      closed a (slice_index (maximal_structure n t).groups i) la (omega (arith, found.below)) e (and_parts _ _ found.passes).0,
)

-- of two listed groups none lies within the other
apart : (n : ℕ) (t : ℕ → Bool) (a b : ℕ) → Listed (is_maximal n t) 0 (2 ^ n) a → Listed (is_maximal n t) 0 (2 ^ n) b → a ≢ b → within n a b ≡ false
apart n t a b la lb ne = false_from_ne_true _ (λ e. ne (within_same n a b (omega (arith, la.below)) (omega (arith, lb.below)) e (back (within n b a) refl e)))
  where
    back : (w : Bool) → within n b a ≡ w → within n a b ≡ true → within n b a ≡ true
    back true f e = f
    back false f e =
        let larger : is_larger n a b ≡ true = and_from (within n a b) (not (within n b a)) e (ap not f) in
        let both : (t a ≡ true) × (none_larger n t a ≡ true) = and_parts (t a) (none_larger n t a) la.passes in
        let one : (not (is_larger n a b) || not (t b)) ≡ true = every_at (2 ^ n) (λ h. not (is_larger n a h) || not (t h)) both.1 b (omega (arith, lb.below)) in
        let none : t b ≡ false = not-true _ (implies_at (is_larger n a b) (not (t b)) one larger) in
        let some : t b ≡ true = (and_parts (t b) (none_larger n t b) lb.passes).0 in
        absurd cc

pub antichain : (n : ℕ) (t : ℕ → Bool) → 1 ≤ n → n ≤ 12 → t 0 ≡ true → length (maximal_structure n t).groups ≤ 64 → IsAntichain (maximal_structure n t)
antichain n t some few nobody fits = record {
  some_party = some;
  few_parties = few;
  some_group = (let first = some_maximal n t 0 (pow_pos n) nobody in omega (arith, first.1));
  few_groups = fits;
  masks = λ i l. omega (arith, (listed (is_maximal n t) 0 (2 ^ n) i l).below);
  rising = rising (is_maximal n t) 0 (2 ^ n);
  apart = λ i j li lj ne. apart n t _ _ (listed (is_maximal n t) 0 (2 ^ n) i li) (listed (is_maximal n t) 0 (2 ^ n) j lj) (differ i j li lj ne);
}
  where
    differ : (i j : ℕ) → i < length (maximal_structure n t).groups → j < length (maximal_structure n t).groups → i ≢ j
        → slice_index (maximal_structure n t).groups i ≢ slice_index (maximal_structure n t).groups j
    differ i j li lj ne e = go (nat_lt i j) refl
      where
        go : (b : Bool) → nat_lt i j ≡ b → ⊥
        go true f = omega (arith, rising (is_maximal n t) 0 (2 ^ n) i j (ltb-true i j f) lj, e)
        go false f = omega (arith, rising (is_maximal n t) 0 (2 ^ n) j i (omega (arith, ltb-false i j f, ne)) li, e)

abbrev pub masks : List Members → List ℕ
masks groups = map (λ (m : Members). m.mask) groups

length_masks : (groups : List Members) → length (masks groups) ≡ length groups
length_masks [] = refl
length_masks (g ∷ groups) = ap suc (length_masks groups)

-- one more group
pub more_yes : (p : ℕ → Bool) (k : ℕ) (old new : List Members) (g : Members) → masks old ≡ filter p (range_with_len 0 k) → p k ≡ true → new ≡ old ++ (g ∷ []) → g.mask ≡ k → masks new ≡ filter p (range_with_len 0 (k + 1))
more_yes p k old new g found e is at =
    ap masks is ∙ map-append (λ (m : Members). m.mask) old (g ∷ []) ∙ ap₂ (λ xs m. xs ++ (m ∷ [])) found at ∙ sym (filter_yes p k e)

pub all_more : (n : ℕ) (old new : List Members) (g : Members) → All (λ (m : Members). m.parties ≡ n) old → new ≡ old ++ (g ∷ []) → g.parties ≡ n → All (λ (m : Members). m.parties ≡ n) new
all_more n old new g h is e = rw is (grind (arith, common_steps))

pub one_too_many : (p : ℕ → Bool) (k n : ℕ) (old : List Members) → masks old ≡ filter p (range_with_len 0 k) → p k ≡ true → k < n → length old ≡ 64 → 64 < length (filter p (range_with_len 0 n))
one_too_many p k n old found e l full =
    omega (arith, filter_grows p (k + 1) n (omega arith), ap length (filter_yes p k e), length-append (filter p (range_with_len 0 k)) (k ∷ []), ap length found, length_masks old, full)

-- all groups were looked at
pub all_found : (n : ℕ) (t : ℕ → Bool) (k parties : ℕ) (groups : List Members) → masks groups ≡ filter (is_maximal n t) (range_with_len 0 k) → k ≡ 2 ^ n → parties ≡ n
    → record { parties = parties; groups = masks groups } ≡ maximal_structure n t
all_found n t k parties groups found all same = ap₂ (λ m gs. record { parties = m; groups = gs }) same (found ∙ ap (λ m. filter (is_maximal n t) (range_with_len 0 m)) all)

pub antichain_found : (n : ℕ) (t : ℕ → Bool) (s : Structure) (groups : List Members) → s ≡ maximal_structure n t → s.groups ≡ masks groups → 1 ≤ n → n ≤ 12 → t 0 ≡ true → length groups ≤ 64 → IsAntichain s
antichain_found n t s groups is listed_so some few nobody fits =
    subst IsAntichain (sym is) (antichain n t some few nobody (omega (arith, ap (λ (a : Structure). length a.groups) is, ap length listed_so, length_masks groups)))
