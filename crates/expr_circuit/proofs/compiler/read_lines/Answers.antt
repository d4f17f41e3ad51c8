use Rattle.std.proofs.Common.{◌+◌, ◌<◌, ◌≤◌, ◌^◌, length, refl, sym, ◌∙◌, subst, arith}
use Rattle.expr_circuit.specs.Circuits.{no_lines}
use Rattle.expr_circuit.specs.Walks.{line_in}
use Rattle.expr_circuit.specs.Kept.{Gives}
use Rattle.expr_circuit.proofs.CompileSteps.{line_goes, line_faulty, line_read, line_fails, lines_read, some_bytes, none_bytes, lines_sound}
use Rattle.expr_circuit.proofs.CutLines.{cut_in, no_line}
use Rattle.expr_circuit.proofs.compiler.read_lines.Goals as goal

pub loop-rest-init : goal.loop-rest-init
loop-rest-init c = record { made = (no_lines, c.new-draft.ensures, refl); room = omega arith }

pub returns-in-Err : goal.returns-in-Err
returns-in-Err c =
    let made = c.loop-rest.invariant.made in
    line_fails c.args.ring c.loop-rest.number c.args.bytes.now made.0 c.loop-rest.rest.now c.cut_line.result.0.now c.cut_line.result.1.now c.in-Err.fault c.requires made.2 (cut_in (2 ^ c.args.ring) c.loop-rest.number made.0 c.loop-rest.rest.now c.cut_line.result.0.now c.cut_line.result.1.now c.cut_line.ensures.cut)
    (line_faulty c.line.result c.in-Err.fault c.line.new.self (line_in (2 ^ c.args.ring) made.0 c.loop-rest.number c.cut_line.result.0.now) c.in-Err.is (c.line.ensures made.0 made.1))

pub loop-rest-preserved : goal.loop-rest-preserved
loop-rest-preserved c =
    let made = c.loop-rest.invariant.made in
    let next = line_goes c.line.result c.in-Ok.field-0 c.line.new.self (line_in (2 ^ c.args.ring) made.0 c.loop-rest.number c.cut_line.result.0.now) c.in-Ok.is (c.line.ensures made.0 made.1) in
    let some : 0 < length c.loop-rest.rest.now = some_bytes (length c.loop-rest.rest.now) (sym c.is_empty.ensures ∙ c.loop-rest-test.true) in
    let less : length c.cut_line.result.1.now < length c.loop-rest.rest.now = c.cut_line.ensures.shorter some in
    let room : c.loop-rest.number + length c.loop-rest.rest.now ≤ 1 + length c.args.bytes.now = c.loop-rest.invariant.room in
    record {
      made = (next.0, next.2, line_read (2 ^ c.args.ring) c.loop-rest.number made.0 next.0 c.loop-rest.rest.now c.cut_line.result.0.now c.cut_line.result.1.now _ made.2 (cut_in (2 ^ c.args.ring) c.loop-rest.number made.0 c.loop-rest.rest.now c.cut_line.result.0.now c.cut_line.result.1.now c.cut_line.ensures.cut) next.1);
      room = omega arith;
    }

pub circuit-requires : goal.circuit-requires
circuit-requires c =
    let made = c.loop-rest.invariant.made in
    let all = made.2 ∙ no_line (2 ^ c.args.ring) c.loop-rest.number made.0 c.loop-rest.rest.now (none_bytes (length c.loop-rest.rest.now) (sym c.is_empty.ensures ∙ c.loop-rest-test.false)) in
    (made.0, made.1, lines_sound c.args.ring c.args.bytes.now made.0 (omega (arith, c.recall.ensures.some)) (omega (arith, c.recall.ensures.few)) all)

pub returns : goal.returns
returns c =
    let made = c.loop-rest.invariant.made in
    subst (Gives c.circuit.result)
    (sym (lines_read c.args.ring c.loop-rest.number c.args.bytes.now made.0 c.loop-rest.rest.now c.requires made.2 (none_bytes (length c.loop-rest.rest.now) (sym c.is_empty.ensures ∙ c.loop-rest-test.false))))
    (c.circuit.ensures made.0 made.1)
