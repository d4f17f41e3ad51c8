use Rattle.std.proofs.Common.{sym, ◌∙◌, ap, cond, Some}
use Rattle.std.specs.Option.{is_some}
use Rattle.std.specs.Str.{bytes_eq}
use Rattle.std.proofs.lemmas.Map.Text.{hash_map_updates_str}
use Rattle.expr_circuit.proofs.names.NamedWires.bind.Goals as goal

pub returns-in-Ok-None : goal.returns-in-Ok-None
returns-in-Ok-None c = λ of are. (
  ap is_some (sym (are c.args.name.now)) ∙ ap is_some (sym c.in-Ok-None.ensures.old ∙ c.in-Ok-None.field-0-is),
  λ x. hash_map_updates_str c.args.name.now c.args.self.now.map c.insert.new.self (Some c.args.wire) c.in-Ok-None.ensures.updates x ∙ ap (cond (bytes_eq c.args.name.now x) (Some c.args.wire)) (are x),
)
