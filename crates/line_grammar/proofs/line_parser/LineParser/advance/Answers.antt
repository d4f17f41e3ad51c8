use Rattle.line_grammar.specs.declared.limits.TheConstants.{MOST_OPEN}
use Rattle.line_grammar.proofs.CountedSigns.{gathered_few}
use Rattle.line_grammar.proofs.line_parser.LineParser.advance.Goals as goal

pub step-requires : goal.step-requires
step-requires c = gathered_few c.power.result MOST_OPEN c.args.self.now c.gathered.new.self c.in_ok-gathered.ensures c.requires
