-- What a reader answers for a line, element by element, from bounds alone.
use Rattle.std.specs.Prelude.{ℕ, max, List, [], ◌∷◌, Bool, true, false, drop, Option, Some, None, Result, Ok, Err, if◌then◌else◌}
use Rattle.list_laws.specs.Answers.{◌>>=◌}
use Rattle.line_grammar.specs.declared.element.ExprElement.{ExprElement}
use Rattle.line_grammar.specs.declared.element.ExprElement.TheVariants as elements
use Rattle.number_circuit.specs.declared.fault.NumberFault.{NumberFault}
use Rattle.number_circuit.specs.declared.fault.NumberFault.TheVariants.{UnknownName, BadConstant, TooWide}
use Rattle.number_circuit.specs.Values.{most, extreme}
use Rattle.line_grammar.specs.Places.{name_at, number_at}
use Rattle.number_circuit.specs.Faults.{Bounds, fits}

abbrev pub top : List ℕ → ℕ
top [] = 0
top (b ∷ bs) = b

abbrev pub named_bound : ℕ → ℕ → List ℕ → Option ℕ → Result (List ℕ) NumberFault
named_bound n at bs None = Err (UnknownName n at)
named_bound n at bs (Some b) = Ok (b ∷ bs)

-- the bound, if it fits
abbrev pub if_fits : ℕ → List ℕ → NumberFault → Result (List ℕ) NumberFault
if_fits b bs fault = if fits b then Ok (b ∷ bs) else Err fault

-- what the element says is a number of the text
abbrev pub says_number : ExprElement → Bool
says_number (elements.Number at) = true
says_number _ = false

-- what an element of line n makes of the bounds before it, the last one first, where the element before it was such a
-- number or not
abbrev pub element_in : Bounds → List ℕ → ℕ → Bool → ExprElement → List ℕ → Result (List ℕ) NumberFault
element_in known line n by_number (elements.Name at) bs = named_bound n at bs (known (name_at line at))
element_in known line n by_number (elements.Number at) bs = if_fits (number_at line at) bs (BadConstant n at)
element_in known line n by_number (elements.Prefix x) bs = Ok (1 ∷ drop 1 bs)
element_in known line n by_number (elements.Infix o at) bs =
    if_fits (most o (top (drop 1 bs)) (top bs) by_number) (drop 2 bs) (TooWide n at)
element_in known line n by_number (elements.Pair p) bs = Ok (extreme p (top (drop 1 bs)) (top bs) ∷ drop 2 bs)
element_in known line n by_number elements.Choose bs = Ok (max (top (drop 1 bs)) (top bs) ∷ drop 3 bs)

abbrev pub elements_in : Bounds → List ℕ → ℕ → Bool → List ExprElement → List ℕ → Result (List ℕ) NumberFault
elements_in known line n by_number [] bs = Ok bs
elements_in known line n by_number (x ∷ xs) bs =
    element_in known line n by_number x bs >>= elements_in known line n (says_number x) xs
