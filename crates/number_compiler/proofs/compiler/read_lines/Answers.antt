use Rattle.std.proofs.Common.{◌+◌, ◌<◌, ◌≤◌, length, sym, ◌∙◌, subst, arith}
use Rattle.circuit_file.proofs.FileLaws.{text_grounded}
use Rattle.number_gates.specs.Steps.{Kept}
use Rattle.number_compiler.specs.Circuits.{no_lines}
use Rattle.number_compiler.specs.Progress.{IsReadTo}
use Rattle.number_compiler.proofs.CutLines.{goes_on}
use Rattle.number_compiler.proofs.ReadLines.{read_none}
use Rattle.number_compiler.proofs.ReadSteps.{some_bytes, none_bytes, line_goes, line_refuses, all_read, whole_answer}
use Rattle.number_compiler.proofs.compiler.read_lines.Goals as goal

pub loop-rest-init : goal.loop-rest-init
loop-rest-init c = record {
  made = (no_lines, c.new-draft.ensures.keeps, subst (λ (k : Kept). IsReadTo c.args.bytes.now 1 c.args.bytes.now no_lines k) (sym c.new-draft.ensures.gates) (read_none c.args.bytes.now));
  room = omega arith;
}

pub returns-in-Err : goal.returns-in-Err
returns-in-Err c =
    let made = c.loop-rest.invariant.made in
    let on = goes_on c.loop-rest.rest.now c.cut_line.result.0.now c.cut_line.result.1.now c.told-text.result.now c.told-text.ensures c.cut_line.ensures.cut in
    line_refuses c.args.bytes.now c.loop-rest.rest.now c.told-text.result.now c.cut_line.result.1.now c.loop-rest.number made.0 c.loop-rest.draft on made.2
    (text_grounded c.args.bytes.now c.requires) c.line.new.self c.line.result c.in-Err.fault c.in-Err.is (c.line.ensures made.0 made.1)

pub loop-rest-preserved : goal.loop-rest-preserved
loop-rest-preserved c =
    let made = c.loop-rest.invariant.made in
    let some : 0 < length c.loop-rest.rest.now = some_bytes (length c.loop-rest.rest.now) (sym c.is_empty.ensures ∙ c.loop-rest-test.true) in
    let less : length c.cut_line.result.1.now < length c.loop-rest.rest.now = c.cut_line.ensures.shorter some in
    let room : c.loop-rest.number + length c.loop-rest.rest.now ≤ 1 + length c.args.bytes.now = c.loop-rest.invariant.room in
    let on = goes_on c.loop-rest.rest.now c.cut_line.result.0.now c.cut_line.result.1.now c.told-text.result.now c.told-text.ensures c.cut_line.ensures.cut in
    record {
      made = line_goes c.args.bytes.now c.loop-rest.rest.now c.told-text.result.now c.cut_line.result.1.now c.loop-rest.number made.0 c.loop-rest.draft on made.2
          c.line.new.self c.line.result c.in-Ok.field-0 c.in-Ok.is (c.line.ensures made.0 made.1);
      room = omega arith;
    }

pub circuit-requires : goal.circuit-requires
circuit-requires c =
    let made = c.loop-rest.invariant.made in
    let all = all_read c.args.bytes.now c.loop-rest.rest.now c.loop-rest.number made.0 c.loop-rest.draft made.2 made.1 (none_bytes (length c.loop-rest.rest.now) (sym c.is_empty.ensures ∙ c.loop-rest-test.false)) in
    (all.0, all.1)

pub returns : goal.returns
returns c =
    let made = c.loop-rest.invariant.made in
    let all = all_read c.args.bytes.now c.loop-rest.rest.now c.loop-rest.number made.0 c.loop-rest.draft made.2 made.1 (none_bytes (length c.loop-rest.rest.now) (sym c.is_empty.ensures ∙ c.loop-rest-test.false)) in
    whole_answer c.args.bytes.now all.0 (text_grounded c.args.bytes.now c.requires) all.2 c.circuit.result (c.circuit.ensures all.0 all.1)
