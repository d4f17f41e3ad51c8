-- The output values of a program that a text is have 64 bits at most.
use Rattle.std.proofs.Common.{ℕ, ◌^◌, ◌<◌, ◌≤◌, List, [], ◌∷◌, map, sym, subst, arith}
use Rattle.std.specs.List.{AllByRecursion}
use Rattle.number_circuit.specs.Programs.{Statement, program_bounds}
use Rattle.number_circuit.specs.Laws.{IsProgram}
use Rattle.number_circuit.specs.Faults.{lines}
use Rattle.number_circuit.proofs.FittingBounds.{bounds_fit}
use Rattle.number_compiler.specs.Widths.{digits, bits_of}
use Rattle.number_compiler.specs.Circuits.{circuit, has_large_circuit}
use Rattle.number_compiler.proofs.WidthValues.{digits_few, not_more}
use Rattle.number_compiler.proofs.ValidCircuits.{compiled_right}

few_bits : (m : ℕ) → m < 2 ^ 64 → bits_of m ≤ 64
few_bits m l = (let few : digits m m ≤ 64 = not_more m 64 (digits m m) l (digits_few m m) in omega (arith, few))

all_few : (bounds : List ℕ) → AllByRecursion (λ m. m < 2 ^ 64) bounds → AllByRecursion (λ k. k ≤ 64) (map bits_of bounds)
all_few [] fit = tt
all_few (m ∷ bounds) fit = (few_bits m fit.0, all_few bounds fit.1)

pub narrow_outputs : (text : List ℕ) (p : List Statement) → IsProgram has_large_circuit text p → AllByRecursion (λ k. k ≤ 64) (circuit p).outputs
narrow_outputs text p is = subst (AllByRecursion (λ k. k ≤ 64)) (sym (compiled_right p is.small).outputs) (all_few (program_bounds p) (bounds_fit (lines text) p is.said))
