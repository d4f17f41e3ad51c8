-- Sums over the pairs of one party.
use Rattle.std.proofs.Common.{◌≡◌, ℕ, zero, suc, ◌+◌, ◌-◌, ◌*◌, ◌%◌, ◌^◌, ◌<◌, ◌≤◌, true, false, List, [], ◌∷◌, ◌++◌, length, nat_eq, if◌then◌else◌, refl, sym, ap, ◌∙◌, subst, arith, zero-add, add-zero}
use Rattle.std.specs.Prelude.{slice_index, sum_by}
use Rattle.std.proofs.lemmas.Nat.{pow_pos}
use Rattle.std.proofs.lemmas.List.Sums.{sum_by-append, sum_by-cons}
use Rattle.std.proofs.Math.Nat.{mod-eq_of_lt}
use Rattle.std.proofs.Math.Pow.{mod-mod-pow}
use Rattle.list_laws.specs.Lists.{total, joined, only_if}
use Rattle.mpc_ring.proofs.Remainders.{same_refl, same_trans, same_add, same_mod, mods_of_same}
use Rattle.list_laws.proofs.Totals.{total_eq}
use Rattle.party_set.specs.Parties.{Structure}
use Rattle.secret_sharing.specs.Schemes.{own_product}
use Rattle.product_duty.specs.Duties.{pairs_of, pairs_where}
use Rattle.secret_sharing.specs.Duties.{duty, scheme_of}

-- the numbers of each pair are below n and below m
abbrev pub Within : ℕ → ℕ → List (ℕ × ℕ) → Type 0
Within n m [] = Unit {0}
Within n m (pair ∷ pairs) = (pair.0 < n) × (pair.1 < m) × Within n m pairs

within-append : (n m : ℕ) (xs ys : List (ℕ × ℕ)) → Within n m xs → Within n m ys → Within n m (xs ++ ys)
within-append n m [] ys h k = k
within-append n m (x ∷ xs) ys h k = (h.0, h.1, within-append n m xs ys h.2 k)

within-joined : (n m k : ℕ) (g : ℕ → List (ℕ × ℕ)) → ((i : ℕ) → i < k → Within n m (g i)) → Within n m (joined k g)
within-joined n m zero g h = tt
within-joined n m (suc k) g h = within-append n m (joined k g) (g k) (within-joined n m k g (λ i l. h i (omega arith))) (h k (omega arith))

within-pairs_where : (f : ℕ → ℕ → ℕ) (p m : ℕ) → Within m m (pairs_where f p m)
within-pairs_where f p m =
    within-joined m m m _ (λ i li. within-joined m m m _ (λ j lj. elim (nat_eq (f i j) p) as (λ b. Within m m (only_if b ((i, j) ∷ []))) [ true ↦ (li, lj, tt) | false ↦ tt ]))

sum_by-joined : (n : ℕ) (f : ℕ × ℕ → ℕ) (g : ℕ → List (ℕ × ℕ)) → sum_by f (joined n g) ≡ total n (λ i. sum_by f (g i))
sum_by-joined zero f g = refl
sum_by-joined (suc n) f g = sum_by-append f (joined n g) (g n) ∙ ap (λ z. z + sum_by f (g n)) (sum_by-joined n f g)

-- the sum over a party's pairs is the sum over all pairs of those that are the party's
sum_by-pairs_where : (f : ℕ → ℕ → ℕ) (p m : ℕ) (x y : ℕ → ℕ) → sum_by (λ (pair : ℕ × ℕ). x pair.0 * y pair.1) (pairs_where f p m) ≡ total m (λ i. total m (λ j. if nat_eq (f i j) p then x i * y j else 0))
sum_by-pairs_where f p m x y =
    let product : ℕ × ℕ → ℕ = λ (pair : ℕ × ℕ). x pair.0 * y pair.1 in
    sum_by-joined m product _ ∙ total_eq m _ _ (λ i li. sum_by-joined m product _ ∙ total_eq m _ _ (λ j lj.
    elim (nat_eq (f i j) p) as (λ b. sum_by product (only_if b ((i, j) ∷ [])) ≡ (if b then x i * y j else 0)) [ true ↦ omega arith | false ↦ refl ]))

-- one more product moves from the rest to the sum
moved : (q sum a rest : ℕ) → ((sum + a % q) % q + rest) % q ≡ (sum + (a + rest)) % q
moved q sum a rest =
    mods_of_same (same_trans
    (same_add (same_trans (same_mod q (sum + a % q)) (same_add (same_refl q sum sum refl) (same_mod q a))) (same_refl q rest rest refl))
    (same_refl q (sum + a + rest) (sum + (a + rest)) (omega arith)))

within_pairs : (f : ℕ → ℕ → ℕ) (p m a b : ℕ) (pairs : List (ℕ × ℕ)) → a ≡ m → b ≡ m → pairs ≡ pairs_where f p m → Within a b pairs
within_pairs f p m a b pairs ea eb e =
    subst (λ a. Within a b pairs) (sym ea) (subst (λ b. Within m b pairs) (sym eb) (subst (Within m m) (sym e) (within-pairs_where f p m)))

-- ---- the loop over a party's pairs

abbrev product : List ℕ → List ℕ → ℕ × ℕ → ℕ
product x y = λ (pair : ℕ × ℕ). slice_index x pair.0 * slice_index y pair.1

-- the sum so far, with the products of the pairs that are left
abbrev pub SumsUp : ℕ → Structure → ℕ → List ℕ → List ℕ → List (ℕ × ℕ) → ℕ → Type 0
SumsUp bits s p x y left sum = record {
  whole : (sum + sum_by (λ (pair : ℕ × ℕ). slice_index x pair.0 * slice_index y pair.1) left) % 2 ^ bits
      ≡ sum_by (λ (pair : ℕ × ℕ). slice_index x pair.0 * slice_index y pair.1) (pairs_of s p) % 2 ^ bits;
  small : sum < 2 ^ bits;
  within : Within (length x) (length y) left;
}

module _ (bits : ℕ) (s : Structure) (p : ℕ) (x y : List ℕ) where
  pub none_yet : (pairs : List (ℕ × ℕ)) → length x ≡ length s.groups → length y ≡ length s.groups → pairs ≡ pairs_of s p → SumsUp bits s p x y pairs 0
  none_yet pairs first second all = record {
    whole = ap (λ pairs. (0 + sum_by (product x y) pairs) % 2 ^ bits) all ∙ ap (λ z. z % 2 ^ bits) (zero-add (sum_by (product x y) (pairs_of s p)));
    small = pow_pos bits;
    within = within_pairs (duty s) p (length s.groups) _ _ pairs first second all;
  }

  pub one_more : (left rest : List (ℕ × ℕ)) (i j sum term next : ℕ) → left ≡ (i, j) ∷ rest → term ≡ (slice_index x i * slice_index y j) % 2 ^ bits → next ≡ (sum + term) % 2 ^ bits → next < 2 ^ bits
      → SumsUp bits s p x y left sum → SumsUp bits s p x y rest next
  one_more left rest i j sum term next steps term_is next_is below h =
      let q : ℕ = 2 ^ bits in
      let here : ℕ = product x y (i, j) in
      let others : ℕ = sum_by (product x y) rest in record {
        whole = ap (λ z. (z + others) % q) (next_is ∙ ap (λ z. (sum + z) % q) term_is)
            ∙ moved q sum here others
            ∙ ap (λ z. (sum + z) % q) (sym (sum_by-cons (product x y) (i, j) rest))
            ∙ ap (λ pairs. (sum + sum_by (product x y) pairs) % q) (sym steps)
            ∙ h.whole;
        small = below;
        within = (subst (Within (length x) (length y)) steps h.within).2;
      }

  -- in a ring of no more bits the sum is the own product
  pub all_summed : (k : ℕ) (left : List (ℕ × ℕ)) (sum result : ℕ) → k ≤ bits → left ≡ [] → SumsUp bits s p x y left sum → result ≡ sum % 2 ^ k → result ≡ own_product (scheme_of k s) p (slice_index x) (slice_index y)
  all_summed k left sum result few none h is =
      let q : ℕ = 2 ^ bits in
      let all : ℕ = sum_by (product x y) (pairs_of s p) in
      let split : bits ≡ (bits - k) + k = omega (arith, few) in
      let whole : sum ≡ all % q = sym (ap (λ pairs. (sum + sum_by (product x y) pairs) % q) none ∙ ap (λ z. z % q) (add-zero sum) ∙ mod-eq_of_lt h.small) ∙ h.whole in
      is ∙ ap (λ z. z % 2 ^ k) whole
      ∙ ap (λ n. all % 2 ^ n % 2 ^ k) split ∙ mod-mod-pow all (bits - k) k
      ∙ ap (λ z. z % 2 ^ k) (sum_by-pairs_where (duty s) p (length s.groups) (slice_index x) (slice_index y))
