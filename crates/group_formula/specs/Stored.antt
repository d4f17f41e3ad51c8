-- How the logic stores a formula: each constructor has a shape of its own, so the tree is read back from it.
use mathlib.Core.Path.{◌≡◌, refl, sym, ap, ap₂, ◌∙◌}
use base.Stored.{Gv, gnil, gnum, gcons, num, Coded, coded_ℕ, coded×, coded_via}
use Rattle.group_formula.specs.Trees.{Tree, Trees, Meaning}
use Rattle.group_formula.specs.Trees.Tree.{leaf, both, either, at_least}
use Rattle.group_formula.specs.Trees.Trees.{one_tree, more_trees}

abbrev mutual
  stored : Tree → Gv
  stored (leaf p) = gnum p
  stored (both a b) = gcons gnil (gcons (stored a) (stored b))
  stored (either a b) = gcons (gnum 0) (gcons (stored a) (stored b))
  stored (at_least n ts) = gcons (gcons gnil (gnum n)) (all_stored ts)

  all_stored : Trees → Gv
  all_stored (one_tree t) = gcons gnil (stored t)
  all_stored (more_trees ts t) = gcons (gnum 0) (gcons (all_stored ts) (stored t))

-- the tree that is stored so
abbrev mutual
  read_back : Gv → Tree
  read_back (gnum p) = leaf p
  read_back (gcons gnil (gcons a b)) = both (read_back a) (read_back b)
  read_back (gcons (gnum n) (gcons a b)) = either (read_back a) (read_back b)
  read_back (gcons (gcons a b) ts) = at_least (num b) (all_read_back ts)
  read_back _ = leaf 0

  all_read_back : Gv → Trees
  all_read_back (gcons (gnum n) (gcons ts t)) = more_trees (all_read_back ts) (read_back t)
  all_read_back (gcons gnil t) = one_tree (read_back t)
  all_read_back _ = one_tree (leaf 0)

mutual
  pub comes_back : (t : Tree) → read_back (stored t) ≡ t
  comes_back (leaf p) = refl
  comes_back (both a b) = ap₂ both (comes_back a) (comes_back b)
  comes_back (either a b) = ap₂ either (comes_back a) (comes_back b)
  comes_back (at_least n ts) = ap (at_least n) (all_come_back ts)

  pub all_come_back : (ts : Trees) → all_read_back (all_stored ts) ≡ ts
  all_come_back (one_tree t) = ap one_tree (comes_back t)
  all_come_back (more_trees ts t) = ap₂ more_trees (all_come_back ts) (comes_back t)

abbrev pub tree_coded : Coded Tree
tree_coded = record { code = stored; inj = λ s t e. sym (comes_back s) ∙ ap read_back e ∙ comes_back t }

abbrev pub formula_coded : Coded Meaning
formula_coded =
    coded_via (coded× coded_ℕ tree_coded) (λ (f : Meaning). (f.parties, f.tree))
    (λ f g e i. record { parties = (e i).0; tree = (e i).1 })
