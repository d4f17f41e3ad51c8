-- Families that a list of groups tells, and families that say the same.
use Rattle.std.proofs.Common.{◌≡◌, ◌≢◌, ℕ, zero, suc, ◌-◌, ◌^◌, ◌<◌, inl, inr, Bool, true, false, not, ◌&&◌, ◌||◌, List, [], ◌∷◌, ◌++◌, length, map, refl, sym, ◌∙◌, ap, ap₂, arith, cond, nat_eq, eq-eqb, ne_eqb}
use Rattle.std.specs.Prelude.{slice_index, filter}
use Rattle.std.specs.List.{list_any, range_with_len}
use Rattle.std.proofs.lemmas.Nat.{pow_pos}
use Rattle.std.proofs.lemmas.Nat.Bits.{bit_at_ones}
use Rattle.std.proofs.lemmas.Bool.Decides.{eqb_tells}
use Rattle.std.proofs.lemmas.List.Folds.{list_any_at}
use Rattle.std.proofs.lemmas.Bool.{and_parts, and_from, not-true, false_from_ne_true, or_cases, or_left, or_right}
use Rattle.party_set.specs.Parties.{Structure, Members, has_party, within, every_below}
use Rattle.party_set.proofs.EveryNumber.{implies_from, every_from, every_at, implies_at}
use Rattle.maximal_groups.specs.Families.{is_tolerated_by, is_larger, is_maximal, maximal_structure, IsFamily, IsCoveredBy, LiesWithin}
use Rattle.maximal_groups.proofs.FoundGroups.{within_both, within_le, some_maximal, tells}
use Rattle.maximal_groups.proofs.Largest.{none_larger}
use Rattle.maximal_groups.proofs.NumberFilters.{filter_suc}

pub find_any : (p : ℕ → Bool) (xs : List ℕ) → list_any p xs ≡ true → (i : ℕ) × (i < length xs) × (p (slice_index xs i) ≡ true)
find_any p [] e = cc
find_any p (x ∷ xs) e =
    elim (or_cases (p x) (list_any p xs) e) [
      | inl here ↦ (0, omega arith, here)
      | inr more ↦ (let found : (i : ℕ) × (i < length xs) × (p (slice_index xs i) ≡ true) = find_any p xs more in (suc found.0, omega (arith, found.1), found.2))
    ]

none_is : (a : ℕ) → nat_eq a 0 ≡ true → a ≡ 0
none_is a e = grind (arith, eqb_tells a 0)

-- the masks of some groups, in the place of the groups
pub any_mask : (p : ℕ → Bool) (groups : List Members) → list_any (λ (m : Members). p m.mask) groups ≡ list_any p (map (λ (m : Members). m.mask) groups)
any_mask p [] = refl
any_mask p (g ∷ groups) = ap (λ b. p g.mask || b) (any_mask p groups)

-- ---- what a list tolerates

by_none : (n a : ℕ) (groups : List ℕ) → a ≡ 0 → is_tolerated_by n groups a ≡ true
by_none n a groups e = or_left (nat_eq a 0) (list_any (within n a) groups) (eq-eqb a 0 e)

by_group : (n a : ℕ) (groups : List ℕ) (i : ℕ) → i < length groups → within n a (slice_index groups i) ≡ true → is_tolerated_by n groups a ≡ true
by_group n a groups i l e = or_right (nat_eq a 0) (list_any (within n a) groups) (list_any_at (within n a) groups i 0 l e)

-- a group that has a member is tolerated where it lies within a listed group
pub by_masks : (s : Structure) (n : ℕ) (g : Members) (read groups : List Members) (r : Bool) → record { parties = n; groups = map (λ (m : Members). m.mask) groups } ≡ s → read ≡ groups
    → g.parties ≡ s.parties → g.mask ≢ 0 → r ≡ list_any (λ (m : Members). within g.parties g.mask m.mask) read → r ≡ is_tolerated_by s.parties s.groups g.mask
by_masks s n g read groups r view same parties some e =
    e ∙ ap (list_any (λ (m : Members). within g.parties g.mask m.mask)) same ∙ any_mask (within g.parties g.mask) groups
    ∙ ap (λ (t : Structure). list_any (within g.parties g.mask) t.groups) view ∙ ap (λ k. list_any (within k g.mask) s.groups) parties
    ∙ sym (ap (λ b. b || list_any (within s.parties g.mask) s.groups) (ne_eqb g.mask 0 some))

-- a part of what a list tolerates is tolerated by it
part_of : (n a b : ℕ) (groups : List ℕ) → a < 2 ^ n → b < 2 ^ n → within n a b ≡ true → is_tolerated_by n groups b ≡ true → is_tolerated_by n groups a ≡ true
part_of n a b groups la lb w e =
    elim (or_cases (nat_eq b 0) (list_any (within n b) groups) e) [
      | inl none ↦ by_none n a groups (omega (arith, within_le n a b la lb w, none_is b none))
      | inr some ↦ (let found : (i : ℕ) × (i < length groups) × (within n b (slice_index groups i) ≡ true) = find_any (within n b) groups some in
          by_group n a groups found.0 found.1 (within_both n a b (slice_index groups found.0) w found.2))
    ]

pub list_is_family : (n : ℕ) (groups : List ℕ) → IsFamily n (is_tolerated_by n groups)
list_is_family n groups = record { parts = λ a b la lb. part_of n a b groups la lb; nobody = refl }

-- ---- families that say the same of each group

every_same : (n : ℕ) (f g : ℕ → Bool) → ((k : ℕ) → k < n → f k ≡ g k) → every_below n f ≡ every_below n g
every_same zero f g h = refl
every_same (suc n) f g h = ap₂ (λ a b. a && b) (every_same n f g (λ k l. h k (omega arith))) (h n (omega arith))

filter_same : (p q : ℕ → Bool) (n : ℕ) → ((k : ℕ) → k < n → p k ≡ q k) → filter p (range_with_len 0 n) ≡ filter q (range_with_len 0 n)
filter_same p q zero h = refl
filter_same p q (suc n) h =
    filter_suc p n ∙ ap₂ (λ xs b. xs ++ cond b (n ∷ []) []) (filter_same p q n (λ k l. h k (omega arith))) (h n (omega arith)) ∙ sym (filter_suc q n)

maximal_same : (n : ℕ) (t u : ℕ → Bool) → ((a : ℕ) → a < 2 ^ n → t a ≡ u a) → maximal_structure n t ≡ maximal_structure n u
maximal_same n t u h = ap (λ gs. record { parties = n; groups = gs }) (filter_same (is_maximal n t) (is_maximal n u) (2 ^ n)
    (λ a la. ap₂ (λ b c. b && c) (h a la) (every_same (2 ^ n) _ _ (λ b lb. ap (λ c. not (is_larger n a b) || not c) (h b lb)))))

-- a test that passes exactly where another does
same_test : (a b : Bool) → (a ≡ true → b ≡ true) → (b ≡ true → a ≡ true) → a ≡ b
same_test true b f g = sym (f refl)
same_test false true f g = g refl
same_test false false f g = refl

-- what the covered list tolerates, the other one does
covered : (n : ℕ) (first second : List ℕ) → IsCoveredBy n first second → (a : ℕ) → a < 2 ^ n → is_tolerated_by n first a ≡ true → is_tolerated_by n second a ≡ true
covered n first second is a la e =
    elim (or_cases (nat_eq a 0) (list_any (within n a) first) e) [
      | inl none ↦ by_none n a second (none_is a none)
      | inr some ↦ (let found : (i : ℕ) × (i < length first) × (within n a (slice_index first i) ≡ true) = find_any (within n a) first some in
          up (slice_index first found.0) found.2 (is found.0 0 found.1))
    ]
  where
    up : (g : ℕ) → within n a g ≡ true → is_tolerated_by n second g ≡ true → is_tolerated_by n second a ≡ true
    up g w t = elim (or_cases (nat_eq g 0) (list_any (within n g) second) t) [
      | inl none ↦ by_none n a second (omega (arith, within_le n a 0 la (pow_pos n) (sym (ap (within n a) (none_is g none)) ∙ w)))
      | inr some ↦ (let found : (i : ℕ) × (i < length second) × (within n g (slice_index second i) ≡ true) = find_any (within n g) second some in
          by_group n a second found.0 found.1 (within_both n a g (slice_index second found.0) w found.2))
    ]

pub lists_differ : (n : ℕ) (first second : List ℕ) → IsCoveredBy n first second → IsCoveredBy n second first
    → maximal_structure n (is_tolerated_by n first) ≡ maximal_structure n (is_tolerated_by n second)
lists_differ n first second there back =
    maximal_same n (is_tolerated_by n first) (is_tolerated_by n second) (λ a la. same_test _ _ (covered n first second there a la) (covered n second first back a la))

pub as_list : (n : ℕ) (t : ℕ → Bool) → IsFamily n t → maximal_structure n (is_tolerated_by n (maximal_structure n t).groups) ≡ maximal_structure n t
as_list n t family = maximal_same n (is_tolerated_by n groups) t (λ a la. same_test _ _ (down a la) (up a la))
  where
    groups : List ℕ
    groups = (maximal_structure n t).groups

    up : (a : ℕ) → a < 2 ^ n → t a ≡ true → is_tolerated_by n groups a ≡ true
    up a la e = let found : LiesWithin (maximal_structure n t) a = some_maximal n t a la e in by_group n a groups found.0 found.1 found.2

    down : (a : ℕ) → a < 2 ^ n → is_tolerated_by n groups a ≡ true → t a ≡ true
    down a la e = elim (or_cases (nat_eq a 0) (list_any (within n a) groups) e) [
      | inl none ↦ ap t (none_is a none) ∙ family.nobody
      | inr some ↦ (tells n t family.parts a la).1 (find_any (within n a) groups some)
    ]

-- ---- the group of all

within_all : (n a : ℕ) → within n a (2 ^ n - 1) ≡ true
within_all n a = every_from n _ (λ p lp. implies_from (has_party a p) (has_party (2 ^ n - 1) p) (λ _. eq-eqb _ 1 (bit_at_ones n p lp)))

all_maximal : (n : ℕ) (t : ℕ → Bool) → t (2 ^ n - 1) ≡ true → is_maximal n t (2 ^ n - 1) ≡ true
all_maximal n t e = and_from (t (2 ^ n - 1)) (none_larger n t (2 ^ n - 1)) e (every_from (2 ^ n) _ (λ b _. implies_from (is_larger n (2 ^ n - 1) b) (not (t b)) (λ more.
    let both : (within n (2 ^ n - 1) b ≡ true) × (not (within n b (2 ^ n - 1)) ≡ true) = and_parts _ _ more in
    let outside : within n b (2 ^ n - 1) ≡ false = not-true _ both.1 in
    let inside : within n b (2 ^ n - 1) ≡ true = within_all n b in
    cc)))

no_other : (n : ℕ) (t : ℕ → Bool) → t (2 ^ n - 1) ≡ true → (a : ℕ) → a < 2 ^ n - 1 → is_maximal n t a ≡ false
no_other n t e a la = false_from_ne_true _ (λ top.
    let positive : 0 < 2 ^ n = pow_pos n in
    let both : (t a ≡ true) × (none_larger n t a ≡ true) = and_parts (t a) (none_larger n t a) top in
    let at : (not (is_larger n a (2 ^ n - 1)) || not (t (2 ^ n - 1))) ≡ true = every_at (2 ^ n) (λ b. not (is_larger n a b) || not (t b)) both.1 (2 ^ n - 1) (omega arith) in
    let apart : within n (2 ^ n - 1) a ≡ false = false_from_ne_true _ (λ w. omega (arith, within_le n (2 ^ n - 1) a (omega arith) (omega arith) w)) in
    let larger : is_larger n a (2 ^ n - 1) ≡ true = and_from _ _ (within_all n a) (ap not apart) in
    let none : t (2 ^ n - 1) ≡ false = not-true _ (implies_at (is_larger n a (2 ^ n - 1)) (not (t (2 ^ n - 1))) at larger) in
    cc)

filter_none : (p : ℕ → Bool) (n : ℕ) → ((k : ℕ) → k < n → p k ≡ false) → filter p (range_with_len 0 n) ≡ []
filter_none p zero h = refl
filter_none p (suc n) h = filter_suc p n ∙ ap₂ (λ xs b. xs ++ cond b (n ∷ []) []) (filter_none p n (λ k l. h k (omega arith))) (h n (omega arith))

pub all_alone : (n : ℕ) (t : ℕ → Bool) → t (2 ^ n - 1) ≡ true → maximal_structure n t ≡ record { parties = n; groups = (2 ^ n - 1) ∷ [] }
all_alone n t e =
    let positive : 0 < 2 ^ n = pow_pos n in
    let last : 2 ^ n ≡ suc (2 ^ n - 1) = omega arith in
    ap (λ gs. record { parties = n; groups = gs })
    (ap (λ m. filter (is_maximal n t) (range_with_len 0 m)) last ∙ filter_suc (is_maximal n t) (2 ^ n - 1)
    ∙ ap₂ (λ xs b. xs ++ cond b ((2 ^ n - 1) ∷ []) []) (filter_none (is_maximal n t) (2 ^ n - 1) (no_other n t e)) (all_maximal n t e))
