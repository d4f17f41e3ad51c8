use Rattle.std.proofs.Common.{◌≡◌, ◌≤◌, true, Bool, Ok, sym, ◌∙◌, ap, subst, arith, inl, inr}
use Rattle.group_formula.specs.Tokens.{is_element}
use Rattle.group_formula.specs.Machine.{step}
use Rattle.group_formula.specs.Kept.{Advances}
use Rattle.text_tokens.specs.RunTokens.{bare}
use Rattle.group_formula.proofs.FaultlessTokens.{one_if, Going, Moved, moves, stuck, stops, goes_next, too_deep, too_many, few, not_done, parsed, begins}
use Rattle.group_formula.proofs.parse.parse.Goals as goal
use Rattle.group_formula.proofs.parse.parse.Goals.{then-is_element+else-elements-eq-MOST_NODES, else-is_element}

pub loop-cut-init : goal.loop-cut-init
loop-cut-init c = record { within = omega arith; going = begins c.args.text.now c.new-parser.result c.new-parser.ensures }

pub overflow_add-elements : goal.overflow_add-elements
overflow_add-elements c = let small : c.loop-cut.elements ≤ 256 = few c.args.text.now c.loop-cut.from c.loop-cut.elements c.loop-cut.parser c.loop-cut.invariant.going in omega arith

pub returns-then-not-goes_on : goal.returns-then-not-goes_on
returns-then-not-goes_on c =
    let g : Going c.args.text.now c.loop-cut.from c.loop-cut.elements c.loop-cut.parser = c.loop-cut.invariant.going in
    inl (stops c.args.text.now c.loop-cut.from c.loop-cut.elements c.in-Some.cut.end c.loop-cut.parser (record { at = c.in-Some.cut.at; token = c.in-Some.cut.token }) _ g c.in-Some.ensures.found
    (stuck c.args.text.now c.loop-cut.from c.loop-cut.elements c.loop-cut.parser c.advance.new.self c.in-Some.cut.token g
    (subst (λ (b : Bool). Advances (step g.state c.in-Some.cut.token) (Ok b) c.advance.new.self) c.if-not-goes_on.true (c.in-Ok.ensures g.state g.is))))

pub returns-then-depth-gt-MOST_OPEN : goal.returns-then-depth-gt-MOST_OPEN
returns-then-depth-gt-MOST_OPEN c =
    let g : Going c.args.text.now c.loop-cut.from c.loop-cut.elements c.loop-cut.parser = c.loop-cut.invariant.going in
    let m : Moved (bare g.done) c.in-Some.cut.token c.advance.new.self = moves (bare g.done) c.in-Some.cut.token g.state c.advance.new.self g.ran
    (subst (λ (b : Bool). Advances (step g.state c.in-Some.cut.token) (Ok b) c.advance.new.self) c.if-not-goes_on.false (c.in-Ok.ensures g.state g.is)) in
    stops c.args.text.now c.loop-cut.from c.loop-cut.elements c.in-Some.cut.end c.loop-cut.parser (record { at = c.in-Some.cut.at; token = c.in-Some.cut.token }) _ g c.in-Some.ensures.found
    (too_deep (bare g.done) c.in-Some.cut.token c.advance.new.self m (omega arith))

pub returns-then-elements-eq-MOST_NODES : goal.returns-then-elements-eq-MOST_NODES
returns-then-elements-eq-MOST_NODES c =
    let g : Going c.args.text.now c.loop-cut.from c.loop-cut.elements c.loop-cut.parser = c.loop-cut.invariant.going in
    let m : Moved (bare g.done) c.in-Some.cut.token c.advance.new.self = moves (bare g.done) c.in-Some.cut.token g.state c.advance.new.self g.ran
    (subst (λ (b : Bool). Advances (step g.state c.in-Some.cut.token) (Ok b) c.advance.new.self) c.if-not-goes_on.false (c.in-Ok.ensures g.state g.is)) in
    stops c.args.text.now c.loop-cut.from c.loop-cut.elements c.in-Some.cut.end c.loop-cut.parser (record { at = c.in-Some.cut.at; token = c.in-Some.cut.token }) _ g c.in-Some.ensures.found
    (too_many (bare g.done) c.in-Some.cut.token c.advance.new.self m (omega arith) (sym g.counted ∙ c.if-elements-eq-MOST_NODES.true) (sym c.is_element.ensures ∙ c.if-is_element.true))

pub loop-cut-preserved : goal.loop-cut-preserved
loop-cut-preserved c =
    let g : Going c.args.text.now c.loop-cut.from c.loop-cut.elements c.loop-cut.parser = c.loop-cut.invariant.going in
    let m : Moved (bare g.done) c.in-Some.cut.token c.advance.new.self = moves (bare g.done) c.in-Some.cut.token g.state c.advance.new.self g.ran
    (subst (λ (b : Bool). Advances (step g.state c.in-Some.cut.token) (Ok b) c.advance.new.self) c.if-not-goes_on.false (c.in-Ok.ensures g.state g.is)) in
    let small : c.loop-cut.elements ≤ 256 = few c.args.text.now c.loop-cut.from c.loop-cut.elements c.loop-cut.parser g in
    record {
      within = c.in-Some.ensures.ahead.1;
      going = goes_next c.args.text.now c.loop-cut.from c.loop-cut.elements c.if-is_element.elements c.in-Some.cut.end c.loop-cut.parser c.advance.new.self (record { at = c.in-Some.cut.at; token = c.in-Some.cut.token }) g c.in-Some.ensures.found m (omega arith)
          (elim c.if-is_element.branch [
            | then-is_element+else-elements-eq-MOST_NODES w ↦ (let one : one_if (is_element c.in-Some.cut.token) ≡ 1 = ap one_if (sym c.is_element.ensures ∙ w.if-is_element.true) in omega (arith, one, w.elements-is))
            | else-is_element w ↦ (let none : one_if (is_element c.in-Some.cut.token) ≡ 0 = ap one_if (sym c.is_element.ensures ∙ w.if-is_element.false) in omega (arith, none, w.elements-is))
          ])
          (elim c.if-is_element.branch [
            | then-is_element+else-elements-eq-MOST_NODES w ↦ omega (arith, w.elements-is, w.if-elements-eq-MOST_NODES.false, small)
            | else-is_element w ↦ omega (arith, w.elements-is, small)
          ]);
    }

pub returns-then-not-is_done : goal.returns-then-not-is_done
returns-then-not-is_done c =
    inr (not_done c.args.text.now c.loop-cut.from c.loop-cut.elements c.loop-cut.parser c.loop-cut.invariant.going c.in_default.ensures.found
    (λ h. let t : c.is_done.result ≡ true = c.is_done.ensures.1 h in cc))

pub returns-in-Ok-into_elements : goal.returns-in-Ok-into_elements
returns-in-Ok-into_elements c =
    let ends = c.is_done.ensures.0 c.if-not-is_done.false in
    parsed c.args.text.now c.loop-cut.from c.loop-cut.elements c.loop-cut.parser c.in-Ok-into_elements.elements.items c.loop-cut.invariant.going c.in_default.ensures.found ends.0 ends.1 c.in-Ok-into_elements.ensures
