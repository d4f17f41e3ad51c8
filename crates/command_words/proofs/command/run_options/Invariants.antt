use Rattle.std.proofs.Common.{◌≡◌, length, map, None, string_bytes}
use Rattle.command_words.specs.Commands.{with_options, options_form, AreInRange}
use Rattle.command_words.proofs.command.run_options.Given as goal

abbrev pub invariant-loop-rest : goal.invariant-loop-rest
invariant-loop-rest l = record {
  form : with_options (record { workers = None; view = None }) (map string_bytes l.fn.words)
      ≡ with_options (options_form l.options) (map string_bytes l.rest);
  range : AreInRange l.options;
}

abbrev pub decreases-loop-rest : goal.decreases-loop-rest
decreases-loop-rest l = length l.rest
