-- What a line says, and what it makes.
use Rattle.std.proofs.Common.{◌≡◌, ℕ, Bool, true, false, cond, List, Option, Some, None, refl, ◌∙◌, ap}
use Rattle.std.specs.Option.{is_some, option_or}
use Rattle.std.specs.Str.{bytes_eq}
use Rattle.circuit_model.proofs.SetWires.{funext}
use Rattle.line_grammar.specs.declared.dialect.Dialect.TheVariants.{Numbers}
use Rattle.line_grammar.specs.Grammar.{Expr, IsLine}
use Rattle.line_grammar.specs.Grammar.LineForm.{wide_input_line, let_line, output_line}
use Rattle.line_grammar.specs.LineFaults.{shallow}
use Rattle.number_gates.specs.Steps.{done, Kept}
use Rattle.number_gates.proofs.RunSteps.{runs_result, runs_then}
use Rattle.number_circuit.specs.declared.fault.NumberFault.TheVariants.{TwiceNamed}
use Rattle.number_circuit.specs.Values.{bound}
use Rattle.number_circuit.specs.Programs.{bind, widest, term}
use Rattle.line_grammar.specs.Places.{name_at, number_at}
use Rattle.number_circuit.specs.Programs.Statement.{input, define, output}
use Rattle.number_circuit.specs.Faults.{of_name, bad_width, twice, Parses}
use Rattle.number_compiler.specs.Terms.{Value, fitted}
use Rattle.number_compiler.specs.Circuits.{Names, Draft, input_bits, with_input, with_name, with_output}
use Rattle.number_compiler.specs.Elements.{most_known, bounds_of}
use Rattle.number_compiler.specs.Progress.{IsSaid}
use Rattle.number_compiler.proofs.ExpressedTerms.{IsTerm}

bind_bounds : (of : Names) (x : List ℕ) (v : Value) (m : ℕ) → v.most ≡ m → bounds_of (bind of x (Some v)) ≡ bind (bounds_of of) x (Some m)
bind_bounds of x v m e = funext (bounds_of (bind of x (Some v))) (bind (bounds_of of) x (Some m)) (λ y. go y (bytes_eq x y))
  where
    go : (y : List ℕ) (b : Bool) → most_known (cond b (Some v) (of y)) ≡ cond b (Some m) (most_known (of y))
    go y true = ap Some e
    go y false = refl

pub known_if : (o : Option Value) → is_some (most_known o) ≡ is_some o
known_if None = refl
known_if (Some v) = refl

-- a name that wasn't known
once : (of : Names) (line : List ℕ) (n at : ℕ) → is_some (of (name_at line at)) ≡ false → twice (bounds_of of) line n at ≡ None
once of line n at e = ap (λ b. cond b (Some (TwiceNamed n)) None) (known_if (of (name_at line at)) ∙ e)

pub said_input : (d : Draft) (line : List ℕ) (n x w : ℕ) (is : IsLine Numbers shallow (wide_input_line x w)) (k : Kept) → Parses line (record { form = wide_input_line x w; is = is }) → bad_width line n w ≡ None → is_some (d.of (name_at line x)) ≡ false
    → IsSaid d line n (input (name_at line x) (number_at line w)) k (with_input d (name_at line x) (number_at line w)) k
said_input d line n x w is k parsed wide new = record {
  says = record { form = record { form = wide_input_line x w; is = is }; parsed = parsed; good = ap (λ o. option_or o (twice (bounds_of d.of) line n x)) wide ∙ once d.of line n x new; meant = refl };
  made = runs_result (done (with_input d (name_at line x) (number_at line w))) k (with_input d (name_at line x) (number_at line w)) refl;
  known = bind_bounds d.of (name_at line x) (fitted (widest (number_at line w)) (input_bits d.wires (number_at line w))) (widest (number_at line w)) refl;
}

pub said_define : (d : Draft) (line : List ℕ) (n x : ℕ) (e : Expr) (is : IsLine Numbers shallow (let_line x e)) (old new : Kept) (v : Value) → Parses line (record { form = let_line x e; is = is }) → IsTerm d.of line n e old v new → is_some (d.of (name_at line x)) ≡ false
    → IsSaid d line n (define (name_at line x) (term line e)) old (with_name d (name_at line x) v) new
said_define d line n x e is old new v parsed t fresh = record {
  says = record { form = record { form = let_line x e; is = is }; parsed = parsed; good = ap (λ o. option_or o (twice (bounds_of d.of) line n x)) t.good ∙ once d.of line n x fresh; meant = refl };
  made = runs_then (λ u. done (with_name d (name_at line x) u)) t.made (runs_result (done (with_name d (name_at line x) v)) new (with_name d (name_at line x) v) refl);
  known = bind_bounds d.of (name_at line x) v (bound (of_name (bounds_of d.of)) (term line e)) t.most;
}

pub said_output : (d : Draft) (line : List ℕ) (n : ℕ) (e : Expr) (is : IsLine Numbers shallow (output_line e)) (old new : Kept) (v : Value) → Parses line (record { form = output_line e; is = is }) → IsTerm d.of line n e old v new
    → IsSaid d line n (output (term line e)) old (with_output d v) new
said_output d line n e is old new v parsed t = record {
  says = record { form = record { form = output_line e; is = is }; parsed = parsed; good = t.good; meant = refl };
  made = runs_then (λ u. done (with_output d u)) t.made (runs_result (done (with_output d v)) new (with_output d v) refl);
  known = refl;
}
