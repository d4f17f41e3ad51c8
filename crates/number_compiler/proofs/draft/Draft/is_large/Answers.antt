use Rattle.std.proofs.Common.{◌≡◌, ◌≤◌, ◌-◌, nat_lt, length, sym, ◌∙◌, ap, arith}
use Rattle.number_compiler.specs.Circuits.{all_bits}
use Rattle.number_compiler.proofs.Sizes.{inputs_large, outputs_large, gates_large, wires_tell, kept_bits, outputs_long}
use Rattle.number_compiler.proofs.draft.Draft.is_large.Goals as goal

pub returns-then-len-gt-MOST_VALUES : goal.returns-then-len-gt-MOST_VALUES
returns-then-len-gt-MOST_VALUES c = λ d keeps.
    sym (inputs_large (record { result = d; kept = c.args.self.now.gates }) (omega (arith, c.if-len-gt-MOST_VALUES.true, c.len.ensures, ap length keeps.inputs)))

pub returns-then-len-gt-MOST_VALUES-2 : goal.returns-then-len-gt-MOST_VALUES-2
returns-then-len-gt-MOST_VALUES-2 c = λ d keeps.
    sym (outputs_large (record { result = d; kept = c.args.self.now.gates }) (omega (arith, c.if-len-gt-MOST_VALUES-2.true, c.len-2.ensures, outputs_long c.args.self.now d keeps)))

pub returns-then-gates-gt-MOST_GATES : goal.returns-then-gates-gt-MOST_GATES
returns-then-gates-gt-MOST_GATES c = λ d keeps.
    sym (gates_large (record { result = d; kept = c.args.self.now.gates }) (omega (arith, c.if-gates-gt-MOST_GATES.true, c.gates-gates.ensures)))

pub returns-then-copies-gates : goal.returns-then-copies-gates
returns-then-copies-gates c = λ d keeps.
    let few : length d.outputs ≤ 1024 = omega (arith, c.if-len-gt-MOST_VALUES-2.false, c.len-2.ensures, outputs_long c.args.self.now d keeps) in
    let copies : c.len-copies.result ≡ length (all_bits d.outputs) = omega (arith, c.len-copies.ensures, ap length (kept_bits c.args.self.now d keeps few)) in
    sym (gates_large (record { result = d; kept = c.args.self.now.gates }) (omega (arith, c.if-copies-gates.true, c.if-gates-gt-MOST_GATES.false, c.gates-gates.ensures, copies)))

pub returns : goal.returns
returns c = λ d keeps.
    let few : length d.outputs ≤ 1024 = omega (arith, c.if-len-gt-MOST_VALUES-2.false, c.len-2.ensures, outputs_long c.args.self.now d keeps) in
    let ins : length d.inputs ≤ 1024 = omega (arith, c.if-len-gt-MOST_VALUES.false, c.len.ensures, ap length keeps.inputs) in
    let copies : c.len-copies.result ≡ length (all_bits d.outputs) = omega (arith, c.len-copies.ensures, ap length (kept_bits c.args.self.now d keeps few)) in
    ap (nat_lt (131072 - c.gates-gates.result - c.len-copies.result)) keeps.wires ∙ wires_tell (record { result = d; kept = c.args.self.now.gates }) (131072 - c.gates-gates.result - c.len-copies.result) ins few
    (omega (arith, c.if-copies-gates.false, c.if-gates-gt-MOST_GATES.false, c.gates-gates.ensures, copies)) (omega (arith, c.if-copies-gates.false, c.if-gates-gt-MOST_GATES.false, c.gates-gates.ensures, copies))
