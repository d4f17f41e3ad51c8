use Rattle.std.proofs.Common.{◌≡◌, ◌≤◌, ◌++◌, ◌∙◌, ap, sym, arith, length}
use Rattle.std.specs.Option.{option_to_list}
use Rattle.group_formula.proofs.ParserStates.{parts_of, parts_room}
use Rattle.group_formula.proofs.formula_parser.FormulaParser.separate.Goals as goal

pub overflow_add-parts : goal.overflow_add-parts
overflow_add-parts c =
    let room : parts_of c.in-Some.frame.bracket ≤ length c.join.new.self.out =
    parts_room c.args.self.now c.join.new.self c.pop.new.self.items c.in-Some.frame c.requires c.in_ok-join.ensures
    (sym (ap (λ s. s.frames) c.self.view_is) ∙ c.pop.ensures.items ∙ ap (λ o. c.pop.new.self.items ++ option_to_list o) c.in-Some.is) in
    let parts : parts_of c.in-Some.frame.bracket ≡ c.in-List.parts = ap parts_of c.in-List.is in
    let same : c.self.inside.out.items ≡ c.join.new.self.out = ap (λ s. s.out) c.self.view_is in
    let n = ap length same in
    let long = c.self.inside.out.small in
    let ok = c.self.inside.out.ok in
    omega arith
