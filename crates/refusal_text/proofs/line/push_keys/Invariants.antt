use Rattle.std.proofs.Common.{◌≡◌, ◌++◌, [], map}
use Rattle.std.specs.Prelude.{take}
use Rattle.std.specs.Option.{option_map_or}
use Rattle.fault_table.specs.Tables.{told_key}
use Rattle.refusal_text.specs.Lines.{keys_text}
use Rattle.refusal_text.proofs.line.push_keys.Given as goal

abbrev pub invariant-loop-key : goal.invariant-loop-key
invariant-loop-key l =
    l.text.items
    ≡ l.initial.text.items ++ keys_text (option_map_or (λ n. n.now) l.names []) (map told_key (take l.key-index l.keys))
