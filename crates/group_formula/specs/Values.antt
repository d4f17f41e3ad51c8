-- The truth of a formula, element by element.
use Rattle.std.specs.Prelude.{ℕ, ◌+◌, nat_le, Bool, false, ◌&&◌, ◌||◌, List, [], ◌∷◌, take, drop, if◌then◌else◌}
use Rattle.group_formula.specs.declared.element.FormulaElement.{FormulaElement}
use Rattle.group_formula.specs.declared.element.FormulaElement.TheVariants.{Name, And, Or, AtLeast}

-- the last value, false where there is none
abbrev pub top : List Bool → Bool
top [] = false
top (b ∷ bs) = b

-- how many values are true
abbrev pub how_many : List Bool → ℕ
how_many [] = 0
how_many (b ∷ bs) = (if b then 1 else 0) + how_many bs

-- what an element makes of the values before it, the last one first
abbrev pub after_value : (ℕ → Bool) → FormulaElement → List Bool → List Bool
after_value g (Name p) s = g p ∷ s
after_value g And s = (top (drop 1 s) && top s) ∷ drop 2 s
after_value g Or s = (top (drop 1 s) || top s) ∷ drop 2 s
after_value g (AtLeast n k) s = nat_le n (how_many (take k s)) ∷ drop k s
