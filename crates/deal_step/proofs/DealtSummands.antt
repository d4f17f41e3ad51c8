-- Summands that are written one by one, the last one last.
use Rattle.std.proofs.Common.{◌≡◌, ℕ, suc, ◌+◌, ◌-◌, ◌%◌, ◌<◌, ◌++◌, List, All, length, nat_lt, set, get_or, take, drop, sym, ap, ◌∙◌, subst, arith, get_or-set_other, get_or-set_same}
use Rattle.std.specs.Prelude.{slice_index}
use Rattle.std.proofs.lemmas.Bool.{cond-true, cond-false, lt-ltb, le-ltb, cases_lt}
use Rattle.std.proofs.lemmas.List.{length-append, length-set, length-drop, length-take-le, take-append-drop, get_or-take}
use Rattle.std.proofs.lemmas.Grind.{get_or_default_zero}
use Rattle.std.proofs.Math.ListN.{get_or-append}
use Rattle.std.proofs.Math.Nat.{mod-eq_of_lt, mod-lt}
use mathlib.Core.Logic.{inl, inr}
use Rattle.list_laws.specs.Lists.{total}
use Rattle.mpc_ring.specs.Differences.{difference}
use Rattle.secret_sharing.specs.Schemes.{Scheme, dealt}

-- what is taken away may be taken modulo q before
difference_mod : (q a b : ℕ) → 0 < q → difference q a (b % q) ≡ difference q a b
difference_mod q a b h = ap (λ z. (a + (q - z)) % q) (mod-eq_of_lt (mod-lt b h))

-- the last summand is what is missing
pub missing : (q value n i sum x : ℕ) (words : ℕ → ℕ) → 0 < q → i ≡ n → sum ≡ total i words % q → x ≡ difference q value sum → x ≡ difference q value (total n words)
missing q value n i sum x words h done is e =
    e ∙ ap (difference q value) (is ∙ ap (λ z. total z words % q) done) ∙ difference_mod q value (total n words) h

-- what holds of n elements, each with its place, and of one more
filled : (n x : ℕ) (front rest : List ℕ) → length front ≡ n → length rest ≡ 1 → (P : ℕ → ℕ → Type 0) → ((k : ℕ) → k < n → P k (get_or front k 0)) → P n x
    → (k d : ℕ) → k < suc n → P k (get_or (set (front ++ rest) n x) k d)
filled n x front rest lf lr P low high k d l = elim (cases_lt k n) [
  | inl lk ↦ subst (P k) (sym (get_or-set_other (front ++ rest) n k x d (omega arith) ∙ get_or-append front rest d k (omega arith) ∙ get_or_default_zero front k d (omega arith))) (low k lk)
  | inr past ↦
      let last : n ≡ k = omega arith in
      subst (λ k. P k (get_or (set (front ++ rest) n x) k d)) last (subst (P n) (sym (get_or-set_same (front ++ rest) n x d (omega (arith, length-append front rest)))) high)
]

pub filled_below : (q n x : ℕ) (front rest : List ℕ) → length front ≡ n → length rest ≡ 1 → ((k : ℕ) → k < n → slice_index front k < q) → x < q → All (λ word. word < q) (set (front ++ rest) n x)
filled_below q n x front rest lf lr low high k d l =
    filled n x front rest lf lr (λ k z. z < q) low high k d (omega (arith, length-set (front ++ rest) n x, length-append front rest))

pub filled_dealt : (s : Scheme) (value n x : ℕ) (words : ℕ → ℕ) (front rest : List ℕ) → s.shares ≡ suc n → length front ≡ n → length rest ≡ 1 → ((k : ℕ) → k < n → slice_index front k ≡ words k) → x ≡ difference s.modulus value (total n words)
    → (k : ℕ) → k < s.shares → slice_index (set (front ++ rest) n x) k ≡ dealt s value words k
filled_dealt s value n x words front rest shares lf lr low high k l =
    let less : s.shares - 1 ≡ n = omega arith in
    filled n x front rest lf lr (λ k z. z ≡ dealt s value words k)
    (λ k l. low k l ∙ sym (cond-true (nat_lt (suc k) s.shares) _ _ (lt-ltb (suc k) s.shares (omega arith))))
    (high ∙ ap (λ z. difference s.modulus value (total z words)) (sym less) ∙ sym (cond-false (nat_lt (suc n) s.shares) _ _ (le-ltb (suc n) s.shares (omega arith))))
    k 0 (omega arith)

-- three summands that are written one after another
pub three_dealt : (s : Scheme) (value a b x : ℕ) (words : ℕ → ℕ) (out : List ℕ) → s.shares ≡ 3 → length out ≡ 3 → a ≡ words 0 → b ≡ words 1 → x ≡ difference s.modulus value (total 2 words)
    → (k : ℕ) → k < s.shares → slice_index (set (set (set out 0 a) 1 b) 2 x) k ≡ dealt s value words k
three_dealt s value a b x words out shares long first second last k l =
    let both : List ℕ = set (set out 0 a) 1 b in
    let still : length (set out 0 a) ≡ 3 = length-set out 0 a ∙ long in
    let whole : length both ≡ 3 = length-set (set out 0 a) 1 b ∙ still in
    let at_zero : slice_index both 0 ≡ words 0 = get_or-set_other (set out 0 a) 1 0 b 0 (omega arith) ∙ get_or-set_same out 0 a 0 (omega arith) ∙ first in
    let at_one : slice_index both 1 ≡ words 1 = get_or-set_same (set out 0 a) 1 b 0 (omega arith) ∙ second in
    let front : (j : ℕ) → j < 2 → slice_index (take 2 both) j ≡ words j =
    λ j lj. get_or-take 2 both j 0 lj ∙ elim (cases_lt j 1) [
      | inl none ↦
          let is : 0 ≡ j = omega arith in
          subst (λ j. slice_index both j ≡ words j) is at_zero
      | inr past ↦
          let is : 1 ≡ j = omega arith in
          subst (λ j. slice_index both j ≡ words j) is at_one
    ] in
    subst (λ z. slice_index (set z 2 x) k ≡ dealt s value words k) (take-append-drop 2 both)
    (filled_dealt s value 2 x words (take 2 both) (drop 2 both) shares
    (length-take-le 2 both (omega arith)) (omega (arith, length-drop 2 both)) front last k l)
