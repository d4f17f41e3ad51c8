use Rattle.std.proofs.Common.{refl, subst}
use Rattle.number_compiler.specs.Named.{Binds}
use Rattle.number_compiler.specs.Seen.{seen}
use Rattle.number_compiler.proofs.DraftSteps.{define_takes, define_fails}
use Rattle.number_compiler.proofs.draft.Draft.define.Goals as goal

pub returns-in-Ok : goal.returns-in-Ok
returns-in-Ok c = λ d e keeps is.
    define_takes d c.args.line.now.text.now c.args.line.now.number c.args.name e c.args.elements.now c.args.self.now _ c.in-Ok.number c.expression.result c.bind.result keeps is c.in-Ok.is (c.expression.ensures d.of keeps.names)
    (subst (λ x. Binds d.of c.args.line.now.number x (seen c.in-Ok.number) c.bind.result c.bind.new.self) c.word_bytes.ensures (c.bind.ensures d.of keeps.names)) refl refl refl refl

pub returns-in-Err : goal.returns-in-Err
returns-in-Err c = λ d e keeps is.
    define_fails d c.args.line.now.text.now c.args.line.now.number c.args.name e c.args.elements.now c.args.self.now _ c.expression.new.gates c.in-Err.fault c.expression.result is c.in-Err.is (c.expression.ensures d.of keeps.names)
