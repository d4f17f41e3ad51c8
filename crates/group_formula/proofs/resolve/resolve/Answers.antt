use Rattle.std.proofs.Common.{◌≡◌, ℕ, List, length, take, drop, ◌++◌, map, sym, ◌∙◌, ap, subst, arith}
use Rattle.group_formula.specs.declared.element.FormulaElement.{FormulaElement}
use Rattle.group_formula.specs.Trees.{IsSoundTree, Meaning}
use Rattle.group_formula.specs.Postfix.{postfix, tree_of}
use Rattle.group_formula.specs.Formulas.{reading}
use Rattle.group_formula.specs.Resolved.{resolved_element, least}
use Rattle.group_formula.proofs.ResolvedElements.{lent}
use Rattle.group_formula.proofs.Meaning.{least_is, few_elements, tree_is, writes_back, is_sound}
use Rattle.group_formula.proofs.resolve.resolve.Goals as goal

-- what is lent comes back with the same length
whole : (n : ℕ) (new items now : List FormulaElement) → n ≡ length items → length new ≡ length now → now ≡ items → take n (new ++ drop (length new) items) ≡ new
whole n new items now e f g = lent n new items e (f ∙ ap length g)

sound_there : (n m : ℕ) (xs ys : List FormulaElement) → n ≡ m → xs ≡ ys → IsSoundTree m (tree_of ys) → IsSoundTree n (tree_of xs)
sound_there n m xs ys e f h = subst (λ (k : ℕ). IsSoundTree k (tree_of xs)) (sym e) (subst (λ ns. IsSoundTree m (tree_of ns)) (sym f) h)

pub of-requires : goal.of-requires
of-requires c =
    let ok = c.args.elements.ok in
    let same = whole c.args.elements.len c.resolve_elements.new.elements c.args.elements.items c.deref_mut.result.now (omega arith) c.resolve_elements.auto.elements c.deref_mut.ensures.value in
    let meant = c.resolve_elements.ensures.resolved c.in-None.is ∙ ap (map (resolved_element (reading c.args.text.now c.args.names.now))) c.deref_mut.ensures.value in
    let none = sym c.in-None.is ∙ c.resolve_elements.ensures.first ∙ ap (least (reading c.args.text.now c.args.names.now)) c.deref_mut.ensures.value in
    record {
      some = c.len.ensures.some;
      few = c.len.ensures.few;
      small = omega (arith, ap length same, c.resolve_elements.auto.elements, ap length c.deref_mut.ensures.value, few_elements c.args.text.now c.args.elements.items c.requires);
      written = ap (λ ns. postfix (tree_of ns)) same ∙ writes_back c.args.text.now c.args.names.now c.args.elements.items c.resolve_elements.new.elements c.requires meant ∙ sym same;
      sound = sound_there c.len.result (length c.args.names.now) (take c.args.elements.len (c.resolve_elements.new.elements ++ drop (length c.resolve_elements.new.elements) c.args.elements.items)) c.resolve_elements.new.elements c.len.ensures.is same
          (is_sound c.args.text.now c.args.names.now c.args.elements.items c.resolve_elements.new.elements c.requires meant none);
    }

pub returns-in-Some : goal.returns-in-Some
returns-in-Some c =
    record {
      expr = c.requires.expr;
      parsed = c.requires.parsed;
      found = sym (sym c.in-Some.is ∙ c.resolve_elements.ensures.first ∙ ap (least (reading c.args.text.now c.args.names.now)) c.deref_mut.ensures.value ∙ least_is c.args.text.now c.args.names.now c.args.elements.items c.requires);
    }

pub returns-in-None : goal.returns-in-None
returns-in-None c =
    let ok = c.args.elements.ok in
    let same = whole c.args.elements.len c.resolve_elements.new.elements c.args.elements.items c.deref_mut.result.now (omega arith) c.resolve_elements.auto.elements c.deref_mut.ensures.value in
    let meant = c.resolve_elements.ensures.resolved c.in-None.is ∙ ap (map (resolved_element (reading c.args.text.now c.args.names.now))) c.deref_mut.ensures.value in
    record {
      expr = c.requires.expr;
      parsed = c.requires.parsed;
      good = sym (sym c.in-None.is ∙ c.resolve_elements.ensures.first ∙ ap (least (reading c.args.text.now c.args.names.now)) c.deref_mut.ensures.value ∙ least_is c.args.text.now c.args.names.now c.args.elements.items c.requires);
      parties = ap (λ (f : Meaning). f.parties) c.of.ensures ∙ c.len.ensures.is;
      tree = ap (λ (f : Meaning). f.tree) c.of.ensures ∙ ap tree_of same ∙ tree_is c.args.text.now c.args.names.now c.args.elements.items c.resolve_elements.new.elements c.requires meant;
    }
