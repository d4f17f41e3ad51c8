-- The three header lines of a circuit file, and their faults in the order of the checks.
use Rattle.std.specs.Prelude.{ℕ, ◌+◌, not, ◌||◌, nat_lt, List, [], ◌∷◌, length, sum, Result, Option}
use Rattle.gate_lines.specs.Rows.{Row}
use Rattle.list_laws.specs.Checks.{◌answers◌, first_fault, or_fault}
use Rattle.circuit_model.specs.declared.fault.CircuitFault.{CircuitFault}
use Rattle.circuit_model.specs.declared.fault.CircuitFault.TheVariants.{BadNumber, ShortLine, LongLine, TooLarge, HeaderWidths}
use Rattle.circuit_file.specs.Tokens.{token, tokens_after, is_number, number_in, all_numbers, numbers_in}
use Rattle.circuit_file.specs.declared.header.Counts.{Counts}
use Rattle.job_limits.specs.declared.limits.TheConstants.{MOST_GATES, MOST_WIRES, MOST_VALUES}

-- line one: how many gates and how many wires
unfoldable pub count_checks : Row → List (Option CircuitFault)
count_checks line =
    (nat_lt (length line.tokens) 2 answers ShortLine line.number)
    ∷ (nat_lt 2 (length line.tokens) answers LongLine line.number)
    ∷ (not (all_numbers (tokens_after 0 2 line)) answers BadNumber line.number)
    ∷ ((nat_lt MOST_GATES (number_in (token line 0)) || nat_lt MOST_WIRES
    (number_in (token line 1))) answers TooLarge line.number)
    ∷ []

abbrev pub counts_of : Row → Counts
counts_of line = record { gates = number_in (token line 0); wires = number_in (token line 1) }

unfoldable pub counts_in : Row → Result Counts CircuitFault
counts_in line = or_fault (first_fault (count_checks line)) (counts_of line)

-- lines two and three: how many values, then the width of each, which together are at most the wires
abbrev pub width_tokens : Row → List (List ℕ)
width_tokens line = tokens_after 1 (number_in (token line 0)) line

unfoldable pub width_checks : ℕ → Row → List (Option CircuitFault)
width_checks wires line =
    (not (is_number (token line 0)) answers BadNumber line.number)
    ∷ (nat_lt MOST_VALUES (number_in (token line 0)) answers TooLarge line.number)
    ∷ (nat_lt (length line.tokens) (number_in (token line 0) + 1) answers ShortLine line.number)
    ∷ (nat_lt (number_in (token line 0) + 1) (length line.tokens) answers LongLine line.number)
    ∷ (not (all_numbers (width_tokens line)) answers BadNumber line.number)
    ∷ (nat_lt wires (sum (numbers_in (width_tokens line))) answers HeaderWidths line.number)
    ∷ []

unfoldable pub widths_in : ℕ → Row → Result (List ℕ) CircuitFault
widths_in wires line = or_fault (first_fault (width_checks wires line)) (numbers_in (width_tokens line))
