use Rattle.std.proofs.Common.{◌≡◌, nat_lt, Err, sym, ◌∙◌, ap}
use Rattle.std.specs.Prelude.{MatchResult}
use Rattle.std.proofs.lemmas.Bool.{ltb-true}
use Rattle.circuit_model.specs.declared.fault.CircuitFault.TheVariants.{WrongArity}
use Rattle.circuit_model.specs.Netlists.{Netlist}
use Rattle.circuit_file.specs.CircuitFiles.{gate_in}
use Rattle.circuit_file.specs.Steps.{IsParsedGate}
use Rattle.circuit_file.proofs.ReaderSteps.{sent, form_fails, chosen}
use Rattle.circuit_file.proofs.GateScans.{wrong_arity}
use Rattle.circuit_file.proofs.gate_line.read_gate.Goals as goal

pub returns-in_err-form : goal.returns-in_err-form
returns-in_err-form c =
    sent (λ r. MatchResult r (IsParsedGate c.args.layout c.args.row.now) (λ fault. (d : Netlist) → gate_in c.args.layout d c.args.row.now ≡ Err fault)) c.from_residual.result c.in_err-form.field-0.0 c.from_residual.ensures
    (λ d. sym (form_fails c.args.layout d c.args.row.now c.in_err-form.field-0.0 c.in_err-form.ensures.form))

pub returns-in_err-check : goal.returns-in_err-check
returns-in_err-check c =
    let k = chosen (nat_lt 3 c.in_ok-form.form.wires) (WrongArity c.number-line.result) c.in_err-check.field-0.0 c.in_err-check.ensures in
    sent (λ r. MatchResult r (IsParsedGate c.args.layout c.args.row.now) (λ fault. (d : Netlist) → gate_in c.args.layout d c.args.row.now ≡ Err fault)) c.from_residual-in_err-check.result c.in_err-check.field-0.0 c.from_residual-in_err-check.ensures
    (λ d. wrong_arity c.args.layout d c.args.row.now c.in_ok-form.form c.in_ok-form.ensures.form (ltb-true 3 c.in_ok-form.form.wires k.0) ∙ ap (λ n. Err (WrongArity n)) (sym c.number-line.ensures) ∙ ap Err (sym k.1))
