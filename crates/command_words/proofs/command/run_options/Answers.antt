use Rattle.std.proofs.Common.{◌∙◌, map, IfSome, string_bytes, sym, ap, subst, arith, option_map}
use Rattle.std.proofs.lemmas.List.{take_rest}
use Rattle.command_words.specs.Commands.{with_options, options_form, AreInRange}
use Rattle.command_words.proofs.OptionPairs.{two_more}
use Rattle.command_words.proofs.command.run_options.Goals as goal

pub loop-rest-preserved : goal.loop-rest-preserved
loop-rest-preserved c =
    let one_more = sym c.with.ensures.form ∙ ap (option_map options_form) c.in_ok-options.was in
    record {
      form = c.loop-rest.invariant.form
          ∙ two_more string_bytes c.loop-rest.rest.now _ _ c.index-rest-0.result c.index-rest-1.result _ _ (omega (arith, c.loop-rest-test.true))
          (c.as_str.ensures.value ∙ ap string_bytes c.index-rest-0.is) (c.as_str-in-loop-rest.ensures.value ∙ ap string_bytes c.index-rest-1.is) one_more
          ∙ ap (λ rest. with_options (options_form c.in_ok-options.options) (map string_bytes rest)) (sym (take_rest c.loop-rest.rest.now 2));
      range = subst (λ options. IfSome options AreInRange) c.in_ok-options.was (c.with.ensures.range c.loop-rest.invariant.range);
    }
