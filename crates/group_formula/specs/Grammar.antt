-- The grammar of formulas over tokens.
use Rattle.std.specs.Prelude.{ℕ, List, [], ◌∷◌, ◌++◌}
use Rattle.text_tokens.specs.FirstFaults as faults
use Rattle.group_formula.specs.declared.token.FormulaToken.{FormulaToken}
use Rattle.group_formula.specs.declared.token.FormulaToken.TheVariants.{Name, Number, Of, Bar, Ampersand, Open, Close, Comma}
use Rattle.group_formula.specs.Trees.{Tree, Trees}
use Rattle.group_formula.specs.Trees.Tree.{leaf, both, either, at_least}
use Rattle.group_formula.specs.Trees.Trees.{one_tree, more_trees}

-- names and numbers are told by their places in the text
mutual
  -- expr = term {"|" term}
  pub data Expr : Type 0 where
    one_term : Term → Expr
    or_term : Expr → Term → Expr

  -- term = factor {"&" factor}
  pub data Term : Type 0 where
    one_factor : Factor → Term
    and_factor : Term → Factor → Term

  -- factor = name | "(" expr ")" | number "of" "(" expr {"," expr} ")"
  pub data Factor : Type 0 where
    named : ℕ → Factor
    grouped : Expr → Factor
    counted : ℕ → Parts → Factor

  pub data Parts : Type 0 where
    one_part : Expr → Parts
    more_parts : Parts → Expr → Parts

-- the tokens of a formula
abbrev mutual
  pub spell : Expr → List FormulaToken
  spell (one_term t) = spell_term t
  spell (or_term e t) = spell e ++ (Bar ∷ spell_term t)

  pub spell_term : Term → List FormulaToken
  spell_term (one_factor f) = spell_factor f
  spell_term (and_factor t f) = spell_term t ++ (Ampersand ∷ spell_factor f)

  pub spell_factor : Factor → List FormulaToken
  spell_factor (named at) = Name at ∷ []
  spell_factor (grouped e) = Open ∷ (spell e ++ (Close ∷ []))
  spell_factor (counted at ps) = Number at ∷ Of ∷ Open ∷ (spell_parts ps ++ (Close ∷ []))

  pub spell_parts : Parts → List FormulaToken
  spell_parts (one_part e) = spell e
  spell_parts (more_parts ps e) = spell_parts ps ++ (Comma ∷ spell e)

-- some formula begins with the tokens
abbrev pub IsViable : List FormulaToken → Type 0
IsViable ts = faults.IsViable spell ts

-- what a formula says
abbrev mutual
  pub shape : Expr → Tree
  shape (one_term t) = shape_term t
  shape (or_term e t) = either (shape e) (shape_term t)

  pub shape_term : Term → Tree
  shape_term (one_factor f) = shape_factor f
  shape_term (and_factor t f) = both (shape_term t) (shape_factor f)

  pub shape_factor : Factor → Tree
  shape_factor (named at) = leaf at
  shape_factor (grouped e) = shape e
  shape_factor (counted at ps) = at_least at (shape_parts ps)

  pub shape_parts : Parts → Trees
  shape_parts (one_part e) = one_tree (shape e)
  shape_parts (more_parts ps e) = more_trees (shape_parts ps) (shape e)
