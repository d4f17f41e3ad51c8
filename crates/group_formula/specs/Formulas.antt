-- The formula that a text stands for, or its fault.
use Rattle.std.specs.Prelude.{◌≡◌, ℕ, ◌+◌, ◌-◌, ◌*◌, ◌⊎◌, ◌&&◌, nat_le, List, [], ◌∷◌, length, drop, if◌then◌else◌, Option, Some, None, is_some, unwrap_or}
use Rattle.std.specs.List.{take_while}
use Rattle.std.specs.Char.{is_ascii_digit}
use Rattle.party_names.specs.Names.{party_named}
use Rattle.text_tokens.specs.RunTokens.{is_word_byte}
use Rattle.group_formula.specs.declared.fault.FormulaFault.{FormulaFault}
use Rattle.group_formula.specs.declared.fault.FormulaFault.TheVariants.{UnknownName, BadCount, Memory}
use Rattle.group_formula.specs.Trees.{Tree, Trees, Meaning, tree_count}
use Rattle.group_formula.specs.Trees.Tree.{leaf, both, either, at_least}
use Rattle.group_formula.specs.Trees.Trees.{one_tree, more_trees}
use Rattle.group_formula.specs.Grammar.{Expr, shape}
use Rattle.group_formula.specs.Faults.{Parses, IsFirstFault}

-- the number that the digits write, after a number
abbrev pub decimal_after : ℕ → List ℕ → ℕ
decimal_after n [] = n
decimal_after n (c ∷ cs) = decimal_after (10 * n + (c - 48)) cs

-- the number that the digits write
abbrev pub decimal : List ℕ → ℕ
decimal digits = decimal_after 0 digits

-- what stands at a place of a text: the party of the name there, and the number there
pub record Reading : Type 0 where
  pub party : ℕ → Option ℕ
  pub number : ℕ → ℕ

-- the name at a place of the text
abbrev pub name_in_text : List ℕ → ℕ → List ℕ
name_in_text text at = take_while is_word_byte (drop at text)

-- the number at a place of the text
abbrev pub number_in_text : List ℕ → ℕ → ℕ
number_in_text text at = decimal (take_while is_ascii_digit (drop at text))

-- what stands at the places of a text, over these names
abbrev pub reading : List ℕ → List (List ℕ) → Reading
reading text names = record { party = λ at. party_named names (name_in_text text at); number = number_in_text text }

-- the tree of parties and numbers, from the tree of places
abbrev mutual
  pub resolved : Reading → Tree → Tree
  resolved r (leaf at) = leaf (unwrap_or (r.party at) 0)
  resolved r (both a b) = both (resolved r a) (resolved r b)
  resolved r (either a b) = either (resolved r a) (resolved r b)
  resolved r (at_least at ts) = at_least (r.number at) (all_resolved r ts)

  pub all_resolved : Reading → Trees → Trees
  all_resolved r (one_tree t) = one_tree (resolved r t)
  all_resolved r (more_trees ts t) = more_trees (all_resolved r ts) (resolved r t)

-- the first fault, if there is one, and else the second
abbrev pub or_else : Option FormulaFault → Option FormulaFault → Option FormulaFault
or_else None y = y
or_else (Some x) y = Some x

-- the fault of the name at a place, if it is no party's
abbrev pub bad_name : Reading → ℕ → Option FormulaFault
bad_name r at = if is_some (r.party at) then None else Some (UnknownName at)

-- the fault of the number at a place, if it is 0 or more than its parts
abbrev pub bad_count : Reading → ℕ → ℕ → Option FormulaFault
bad_count r at parts = if nat_le 1 (r.number at) && nat_le (r.number at) parts then None else Some (BadCount at)

-- the first name that is no party's, or number that is 0 or more than its parts, in the order of the text
abbrev mutual
  pub bad : Reading → Tree → Option FormulaFault
  bad r (leaf at) = bad_name r at
  bad r (both a b) = or_else (bad r a) (bad r b)
  bad r (either a b) = or_else (bad r a) (bad r b)
  bad r (at_least at ts) = or_else (bad_count r at (tree_count ts)) (some_bad r ts)

  pub some_bad : Reading → Trees → Option FormulaFault
  some_bad r (one_tree t) = bad r t
  some_bad r (more_trees ts t) = or_else (some_bad r ts) (bad r t)

-- the text is a formula over these names
pub record IsFormula (text : List ℕ) (names : List (List ℕ)) (f : Meaning) : Type 0 where
  pub expr : Expr
  pub parsed : Parses text expr
  pub good : bad (reading text names) (shape expr) ≡ None
  pub parties : f.parties ≡ length names
  pub tree : f.tree ≡ resolved (reading text names) (shape expr)

-- the text has no fault of the first pass, and this one in the second
pub record IsSecondFault (text : List ℕ) (names : List (List ℕ)) (fault : FormulaFault) : Type 0 where
  pub expr : Expr
  pub parsed : Parses text expr
  pub found : bad (reading text names) (shape expr) ≡ Some fault

-- the fault of a text
abbrev pub IsFault : List ℕ → List (List ℕ) → FormulaFault → Type 0
IsFault text names fault = IsFirstFault text fault ⊎ IsSecondFault text names fault

-- what a reader answers in place of a formula
abbrev pub Refuses : List ℕ → List (List ℕ) → FormulaFault → Type 0
Refuses text names Memory = Unit {0}
Refuses text names fault = IsFault text names fault
