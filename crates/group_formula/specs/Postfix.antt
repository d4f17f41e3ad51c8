-- The elements of a formula in postfix order, as the code keeps them.
use Rattle.std.specs.Prelude.{◌≡◌, ℕ, ◌≤◌, List, [], ◌∷◌, ◌++◌, length, take, drop}
use Rattle.group_formula.specs.declared.element.FormulaElement.{FormulaElement}
use Rattle.group_formula.specs.declared.element.FormulaElement.TheVariants.{Name, And, Or, AtLeast}
use Rattle.group_formula.specs.Trees.{Tree, Trees, tree_count, IsSoundTree}
use Rattle.group_formula.specs.Trees.Tree.{leaf, both, either, at_least}
use Rattle.group_formula.specs.Trees.Trees.{one_tree, more_trees}
use Rattle.party_set.specs.declared.limits.TheConstants.{MOST_PARTIES}
use Rattle.group_formula.specs.declared.limits.TheConstants.{MOST_NODES}

-- the elements of a tree, each after its operands
abbrev mutual
  pub postfix : Tree → List FormulaElement
  postfix (leaf p) = Name p ∷ []
  postfix (both a b) = (postfix a ++ postfix b) ++ (And ∷ [])
  postfix (either a b) = (postfix a ++ postfix b) ++ (Or ∷ [])
  postfix (at_least n ts) = postfix_all ts ++ (AtLeast n (tree_count ts) ∷ [])

  pub postfix_all : Trees → List FormulaElement
  postfix_all (one_tree t) = postfix t
  postfix_all (more_trees ts t) = postfix_all ts ++ postfix t

-- the last tree
abbrev pub last : List Tree → Tree
last [] = leaf 0
last (t ∷ ts) = t

-- trees of which the last one stands first
abbrev pub joined_trees : List Tree → Trees
joined_trees [] = one_tree (leaf 0)
joined_trees (t ∷ []) = one_tree t
joined_trees (t ∷ u ∷ ts) = more_trees (joined_trees (u ∷ ts)) t

-- what an element makes of the trees before it, the last one first
abbrev pub after_element : FormulaElement → List Tree → List Tree
after_element (Name p) s = leaf p ∷ s
after_element And s = both (last (drop 1 s)) (last s) ∷ drop 2 s
after_element Or s = either (last (drop 1 s)) (last s) ∷ drop 2 s
after_element (AtLeast n k) s = at_least n (joined_trees (take k s)) ∷ drop k s

-- what the elements make of the trees before them
unfoldable pub after_elements : List FormulaElement → List Tree → List Tree
after_elements [] s = s
after_elements (n ∷ ns) s = after_elements ns (after_element n s)

-- the tree that the elements write
unfoldable pub tree_of : List FormulaElement → Tree
tree_of ns = last (after_elements ns [])

-- the elements write a formula over `parties` parties, with at most 256 elements
pub record WritesFormula (parties : ℕ) (elements : List FormulaElement) : Type 0 where
  pub some : 1 ≤ parties
  pub few : parties ≤ MOST_PARTIES
  pub small : length elements ≤ MOST_NODES
  pub written : postfix (tree_of elements) ≡ elements
  pub sound : IsSoundTree parties (tree_of elements)
