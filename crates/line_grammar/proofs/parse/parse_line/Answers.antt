use Rattle.line_grammar.proofs.Readings.{stands}
use Rattle.line_grammar.proofs.parse.parse_line.Goals as goal

pub returns : goal.returns
returns c = stands c.args.dialect c.args.text.now c.scan_line.new.parser c.scan_line.result c.scan_line.ensures
