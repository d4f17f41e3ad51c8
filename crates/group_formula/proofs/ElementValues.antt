-- The elements in postfix order have the value of the tree.
use Rattle.std.proofs.Common.{◌≡◌, ℕ, zero, suc, ◌+◌, ◌-◌, ◌/◌, ◌%◌, ◌^◌, ◌≤◌, ◌<◌, nat_le, nat_eq, Bool, false, cond, List, [], ◌∷◌, ◌++◌, length, take, drop, get_or, refl, sym, ◌∙◌, ap, ap₂, arith, drop-cons}
use Rattle.std.specs.Prelude.{bit_and}
use Rattle.std.proofs.lemmas.Nat.Bits.{shr_and_one}
use Rattle.std.proofs.Math.Pow.{pow_mono}
use Rattle.std.proofs.Math.Nat.{div-eq_of_lt}
use Rattle.std.proofs.lemmas.List.{drop_all}
use Rattle.party_set.specs.Parties.{has_party}
use Rattle.group_formula.specs.declared.element.FormulaElement.{FormulaElement}
use Rattle.group_formula.specs.declared.element.FormulaElement.TheVariants.{Name, And, Or, AtLeast}
use Rattle.group_formula.specs.Trees.{Tree, Trees, tree_count, value, true_ones}
use Rattle.group_formula.specs.Postfix.{postfix, postfix_all}
use Rattle.group_formula.specs.Trees.Tree.{leaf, both, either, at_least}
use Rattle.group_formula.specs.Trees.Trees.{one_tree, more_trees}
use Rattle.group_formula.specs.Values.{top, how_many, after_value}

pub has_bit : (g p : ℕ) → p < 32 → nat_eq (bit_and (g / 2 ^ p) 1) 1 ≡ has_party g p
has_bit g p l = ap (λ b. nat_eq b 1) (shr_and_one g p)

pub has_none : (g p : ℕ) → g < 2 ^ 32 → 32 ≤ p → false ≡ has_party g p
has_none g p small l =
    let big : 2 ^ 32 ≤ 2 ^ p = pow_mono l in
    sym (ap (λ q. nat_eq (q % 2) 1) (div-eq_of_lt (omega arith)))

pub counts : (s : List Bool) (k : ℕ) → 0 < k → how_many (take k s) ≡ cond (top s) 1 0 + how_many (take (k - 1) (drop 1 s))
counts s zero l = absurd (omega arith)
counts [] (suc k) l = let z : suc k - 1 ≡ k = omega arith in rw z (none k)
  where
    none : (k : ℕ) → 0 ≡ 0 + how_many (take k [])
    none zero = refl
    none (suc k) = refl
counts (b ∷ s) (suc k) l = ap (λ j. cond b 1 0 + how_many (take j s)) (let z : k ≡ suc k - 1 = omega arith in z)

pub drops : (s : List Bool) (k : ℕ) → 0 < k → drop k s ≡ drop (k - 1) (drop 1 s)
drops s zero l = absurd (omega arith)
drops [] (suc k) l = none (suc k - 1)
  where
    none : (j : ℕ) → ◌≡◌ {A = List Bool} [] (drop j [])
    none zero = refl
    none (suc j) = refl
drops (b ∷ s) (suc k) l = ap (λ j. drop j s) (let z : k ≡ suc k - 1 = omega arith in z)

unfoldable pub after_values : (ℕ → Bool) → List FormulaElement → List Bool → List Bool
after_values g [] s = s
after_values g (n ∷ ns) s = after_values g ns (after_value g n s)

pub element_step : (g : ℕ → Bool) (ns : List FormulaElement) (i : ℕ) (d : FormulaElement) (s : List Bool) → i < length ns → after_values g (drop i ns) s ≡ after_values g (drop (i + 1) ns) (after_value g (get_or ns i d) s)
unfolding after_values
element_step g ns i d s l = ap (λ xs. after_values g xs s) (drop-cons ns i d l) ∙ ap (λ k. after_values g (drop k ns) (after_value g (get_or ns i d) s)) (let n : suc i ≡ i + 1 = omega arith in n)

pub element_end : (g : ℕ → Bool) (ns : List FormulaElement) (i : ℕ) (s : List Bool) → length ns ≤ i → after_values g (drop i ns) s ≡ s
unfolding after_values
element_end g ns i s l = ap (λ xs. after_values g xs s) (drop_all i ns l)

after_append : (g : ℕ → Bool) (xs ys : List FormulaElement) (s : List Bool) → after_values g (xs ++ ys) s ≡ after_values g ys (after_values g xs s)
unfolding after_values
after_append g [] ys s = refl
after_append g (x ∷ xs) ys s = after_append g xs ys (after_value g x s)

after_one : (g : ℕ → Bool) (n : FormulaElement) (s : List Bool) → after_values g (n ∷ []) s ≡ after_value g n s
unfolding after_values
after_one g n s = refl

-- the values of the trees, the last one first
abbrev pub values : (ℕ → Bool) → Trees → List Bool
values g (one_tree t) = value g t ∷ []
values g (more_trees ts t) = value g t ∷ values g ts

how_many_true : (g : ℕ → Bool) (ts : Trees) → how_many (values g ts) ≡ true_ones g ts
how_many_true g (one_tree t) = omega arith
how_many_true g (more_trees ts t) = omega (arith, how_many_true g ts)

taken : (g : ℕ → Bool) (ts : Trees) (s : List Bool) → take (tree_count ts) (values g ts ++ s) ≡ values g ts
taken g (one_tree t) s = refl
taken g (more_trees ts t) s = let n : tree_count ts + 1 ≡ suc (tree_count ts) = omega arith in ap (λ k. take k (value g t ∷ (values g ts ++ s))) n ∙ ap (λ bs. value g t ∷ bs) (taken g ts s)

left : (g : ℕ → Bool) (ts : Trees) (s : List Bool) → drop (tree_count ts) (values g ts ++ s) ≡ s
left g (one_tree t) s = refl
left g (more_trees ts t) s = let n : tree_count ts + 1 ≡ suc (tree_count ts) = omega arith in ap (λ k. drop k (value g t ∷ (values g ts ++ s))) n ∙ left g ts s

two : (g : ℕ → Bool) (a b : List FormulaElement) (n : FormulaElement) (x y : Bool) (s : List Bool) → after_values g a s ≡ x ∷ s → after_values g b (x ∷ s) ≡ y ∷ x ∷ s → after_values g ((a ++ b) ++ (n ∷ [])) s ≡ after_value g n (y ∷ x ∷ s)
two g a b n x y s e f =
    after_append g (a ++ b) (n ∷ []) s ∙ ap (after_values g (n ∷ [])) (after_append g a b s ∙ ap (after_values g b) e ∙ f) ∙ after_one g n (y ∷ x ∷ s)

mutual
  pub after_tree : (g : ℕ → Bool) (t : Tree) (s : List Bool) → after_values g (postfix t) s ≡ value g t ∷ s
  after_tree g (leaf p) s = after_one g (Name p) s
  after_tree g (both a b) s = two g (postfix a) (postfix b) And (value g a) (value g b) s (after_tree g a s) (after_tree g b (value g a ∷ s))
  after_tree g (either a b) s = two g (postfix a) (postfix b) Or (value g a) (value g b) s (after_tree g a s) (after_tree g b (value g a ∷ s))
  after_tree g (at_least n ts) s =
      after_append g (postfix_all ts) (AtLeast n (tree_count ts) ∷ []) s
      ∙ ap (after_values g (AtLeast n (tree_count ts) ∷ [])) (after_trees g ts s)
      ∙ after_one g (AtLeast n (tree_count ts)) (values g ts ++ s)
      ∙ ap₂ (λ bs r. nat_le n (how_many bs) ∷ r) (taken g ts s) (left g ts s)
      ∙ ap (λ k. nat_le n k ∷ s) (how_many_true g ts)

  pub after_trees : (g : ℕ → Bool) (ts : Trees) (s : List Bool) → after_values g (postfix_all ts) s ≡ values g ts ++ s
  after_trees g (one_tree t) s = after_tree g t s
  after_trees g (more_trees ts t) s = after_append g (postfix_all ts) (postfix t) s ∙ ap (after_values g (postfix t)) (after_trees g ts s) ∙ after_tree g t (values g ts ++ s)
