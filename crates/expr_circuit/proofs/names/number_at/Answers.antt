use Rattle.std.proofs.Common.{◌^◌, sym, ◌∙◌, arith}
use Rattle.line_grammar.proofs.WrittenNumbers.{none_written, number_found, number_fits, number_exceeds}
use Rattle.expr_circuit.proofs.names.number_at.Goals as goal

pub returns-then-found-largest : goal.returns-then-found-largest
returns-then-found-largest c =
    number_fits c.args.text.now c.args.at c.in-Some.found (2 ^ c.args.ring)
    (number_found c.args.text.now c.args.at c.in-Some.found c.number_at-digits.result.now c.number_at-digits.ensures (sym c.is_empty.ensures ∙ c.if-is_empty.false) (sym c.number.ensures ∙ c.in-Some.is)) (omega (arith, c.largest-largest.ensures.is, c.if-found-largest.true))

pub returns-else-found-largest : goal.returns-else-found-largest
returns-else-found-largest c =
    number_exceeds c.args.text.now c.args.at c.in-Some.found (2 ^ c.args.ring)
    (number_found c.args.text.now c.args.at c.in-Some.found c.number_at-digits.result.now c.number_at-digits.ensures (sym c.is_empty.ensures ∙ c.if-is_empty.false) (sym c.number.ensures ∙ c.in-Some.is)) (omega (arith, c.largest-largest.ensures.is, c.if-found-largest.false))

pub returns-in-None : goal.returns-in-None
returns-in-None c =
    none_written c.args.text.now c.args.at (2 ^ c.args.ring) c.number_at-digits.result.now
    (omega (arith, c.largest-largest.ensures.is, c.largest-largest.type_inv)) c.number_at-digits.ensures (sym c.is_empty.ensures ∙ c.if-is_empty.false) (sym c.number.ensures ∙ c.in-None.is)
