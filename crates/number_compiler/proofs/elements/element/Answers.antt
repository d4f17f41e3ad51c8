use Rattle.number_compiler.proofs.ElementSteps.{moves_same}
use Rattle.number_compiler.proofs.elements.element.Goals as goal

pub returns-in-Name : goal.returns-in-Name
returns-in-Name c = λ of are. moves_same of c.args.line.now.text.now c.args.by_number c.args.line.now.number _ _ _ _ _ _ c.name.result c.in-Name.is (c.name.ensures of are c.args.by_number c.args.gates.now)

pub returns-in-Number : goal.returns-in-Number
returns-in-Number c = λ of are. moves_same of c.args.line.now.text.now c.args.by_number c.args.line.now.number _ _ _ _ _ _ c.literal.result c.in-Number.is (c.literal.ensures of c.args.by_number c.args.gates.now)

pub returns-in-Prefix : goal.returns-in-Prefix
returns-in-Prefix c = λ of are. moves_same of c.args.line.now.text.now c.args.by_number c.args.line.now.number _ _ _ _ _ _ c.prefix.result c.in-Prefix.is (c.prefix.ensures of c.args.by_number)

pub returns-in-Infix : goal.returns-in-Infix
returns-in-Infix c = λ of are. moves_same of c.args.line.now.text.now c.args.by_number c.args.line.now.number _ _ _ _ _ _ c.infix.result c.in-Infix.is (c.infix.ensures of)

pub returns-in-Pair : goal.returns-in-Pair
returns-in-Pair c = λ of are. moves_same of c.args.line.now.text.now c.args.by_number c.args.line.now.number _ _ _ _ _ _ c.extreme.result c.in-Pair.is (c.extreme.ensures of c.args.by_number)

pub returns-in-Choose : goal.returns-in-Choose
returns-in-Choose c = λ of are. moves_same of c.args.line.now.text.now c.args.by_number c.args.line.now.number _ _ _ _ _ _ c.choose.result c.in-Choose.is (c.choose.ensures of c.args.by_number)
