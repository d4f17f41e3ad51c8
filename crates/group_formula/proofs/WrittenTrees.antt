-- A tree is what its elements write.
use Rattle.std.proofs.Common.{◌≡◌, suc, ◌+◌, List, [], ◌∷◌, ◌++◌, take, drop, refl, ◌∙◌, ap, ap₂, arith}
use Rattle.group_formula.specs.declared.element.FormulaElement.{FormulaElement}
use Rattle.group_formula.specs.declared.element.FormulaElement.TheVariants.{Name, And, Or, AtLeast}
use Rattle.group_formula.specs.Trees.{Tree, Trees, tree_count}
use Rattle.group_formula.specs.Postfix.{postfix, postfix_all, last, joined_trees, after_element, after_elements, tree_of}
use Rattle.group_formula.specs.Trees.Tree.{leaf, both, either, at_least}
use Rattle.group_formula.specs.Trees.Trees.{one_tree, more_trees}

pub after_append : (xs ys : List FormulaElement) (s : List Tree) → after_elements (xs ++ ys) s ≡ after_elements ys (after_elements xs s)
unfolding after_elements
after_append [] ys s = refl
after_append (x ∷ xs) ys s = after_append xs ys (after_element x s)

after_one : (n : FormulaElement) (s : List Tree) → after_elements (n ∷ []) s ≡ after_element n s
unfolding after_elements
after_one n s = refl

-- the trees, the last one first
abbrev pub listed : Trees → List Tree
listed (one_tree t) = t ∷ []
listed (more_trees ts t) = t ∷ listed ts

joined_listed : (ts : Trees) → joined_trees (listed ts) ≡ ts
joined_listed (one_tree t) = refl
joined_listed (more_trees (one_tree u) t) = refl
joined_listed (more_trees (more_trees ts u) t) = ap (λ us. more_trees us t) (joined_listed (more_trees ts u))

taken : (ts : Trees) (s : List Tree) → take (tree_count ts) (listed ts ++ s) ≡ listed ts
taken (one_tree t) s = refl
taken (more_trees ts t) s = let n : tree_count ts + 1 ≡ suc (tree_count ts) = omega arith in ap (λ k. take k (t ∷ (listed ts ++ s))) n ∙ ap (λ us. t ∷ us) (taken ts s)

left : (ts : Trees) (s : List Tree) → drop (tree_count ts) (listed ts ++ s) ≡ s
left (one_tree t) s = refl
left (more_trees ts t) s = let n : tree_count ts + 1 ≡ suc (tree_count ts) = omega arith in ap (λ k. drop k (t ∷ (listed ts ++ s))) n ∙ left ts s

two : (a b : Tree) (n : FormulaElement) (s : List Tree) → after_elements (postfix a) s ≡ a ∷ s → after_elements (postfix b) (a ∷ s) ≡ b ∷ a ∷ s → after_elements ((postfix a ++ postfix b) ++ (n ∷ [])) s ≡ after_element n (b ∷ a ∷ s)
two a b n s e f =
    after_append (postfix a ++ postfix b) (n ∷ []) s
    ∙ ap (after_elements (n ∷ [])) (after_append (postfix a) (postfix b) s ∙ ap (after_elements (postfix b)) e ∙ f)
    ∙ after_one n (b ∷ a ∷ s)

mutual
  pub after_tree : (t : Tree) (s : List Tree) → after_elements (postfix t) s ≡ t ∷ s
  after_tree (leaf p) s = after_one (Name p) s
  after_tree (both a b) s = two a b And s (after_tree a s) (after_tree b (a ∷ s))
  after_tree (either a b) s = two a b Or s (after_tree a s) (after_tree b (a ∷ s))
  after_tree (at_least n ts) s =
      after_append (postfix_all ts) (AtLeast n (tree_count ts) ∷ []) s
      ∙ ap (after_elements (AtLeast n (tree_count ts) ∷ [])) (after_trees ts s)
      ∙ after_one (AtLeast n (tree_count ts)) (listed ts ++ s)
      ∙ ap₂ (λ us r. at_least n (joined_trees us) ∷ r) (taken ts s) (left ts s)
      ∙ ap (λ us. at_least n us ∷ s) (joined_listed ts)

  pub after_trees : (ts : Trees) (s : List Tree) → after_elements (postfix_all ts) s ≡ listed ts ++ s
  after_trees (one_tree t) s = after_tree t s
  after_trees (more_trees ts t) s = after_append (postfix_all ts) (postfix t) s ∙ ap (after_elements (postfix t)) (after_trees ts s) ∙ after_tree t (listed ts ++ s)

pub tree_of-postfix : (t : Tree) → tree_of (postfix t) ≡ t
unfolding tree_of
tree_of-postfix t = ap last (after_tree t [])
