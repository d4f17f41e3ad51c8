use Rattle.std.proofs.Common.{rules, arith, refl, ap, sym, ◌∙◌, Some, drop, length-append}
use Rattle.std.proofs.lemmas.Bool.{false≢true}
use Rattle.std.proofs.lemmas.List.{length-take}
use Rattle.outer_io.proofs.PastCalls.{all_past-next, all_past-coming}
use Rattle.outer_io.proofs.NetRefusals.{first_of_both, second_of_both, both_true}
use Rattle.outer_io.proofs.HandedBytes.{handed, none_left}
use Rattle.outer_io.proofs.list_inlet.ListInletInlet.read.Goals as goal

pub returns-then-contains : goal.returns-then-contains
returns-then-contains c = record {
  answers = search rules;
  failed = search rules;
  quiet = search rules;
  faults_grow = search rules;
  ends = search rules;
  goes_on = search rules;
  keeps_steady = λ steady. both_true _ _ (first_of_both _ _ steady) (all_past-next c.args.self.now.failing.items c.args.self.now.calls c.saturating_add-self-2.result (omega arith) c.saturating_add-self-2.ensures (second_of_both _ _ steady));
  same_closed = refl;
  after_close = λ closed. absurd (false≢true (sym c.if-self.false ∙ closed));
  by_itself = λ steady failed. all_past-coming _ _ _ _ c.deref.ensures.value c.contains.ensures.value c.if-contains.true (second_of_both _ _ steady);
}

pub returns-then-left-eq0 : goal.returns-then-left-eq0
returns-then-left-eq0 c = record {
  answers = (refl, none_left c.args.self.now.bytes.items c.args.self.now.taken (omega arith));
  failed = search rules;
  quiet = search rules;
  faults_grow = search rules;
  ends = search rules;
  goes_on = search rules;
  keeps_steady = λ steady. both_true _ _ (first_of_both _ _ steady) (all_past-next c.args.self.now.failing.items c.args.self.now.calls c.saturating_add-self-2.result (omega arith) c.saturating_add-self-2.ensures (second_of_both _ _ steady));
  same_closed = refl;
  after_close = λ closed. absurd (false≢true (sym c.if-self.false ∙ closed));
  by_itself = search rules;
}

pub returns : goal.returns
returns c = record {
  answers = record {
    some = (let a = c.piece.ensures in omega arith);
    within = omega (arith, c.copy_from_slice.ensures.len, length-append c.copy_from_slice.new.self (drop c.min-count.result c.args.into.now), length-take c.min-count.result c.args.into.now);
    bytes = ap Some (handed _ _ c.copy_from_slice.new.self _ c.args.self.now.taken c.min-count.result c.deref-2.ensures.value c.copy_from_slice.ensures.after (omega (arith, c.copy_from_slice.ensures.len, length-take c.min-count.result c.args.into.now)));
  };
  failed = search rules;
  quiet = search rules;
  faults_grow = search rules;
  ends = search rules;
  goes_on = search rules;
  keeps_steady = λ steady. both_true _ _ (first_of_both _ _ steady) (all_past-next c.args.self.now.failing.items c.args.self.now.calls c.saturating_add-self-2.result (omega arith) c.saturating_add-self-2.ensures (second_of_both _ _ steady));
  same_closed = refl;
  after_close = λ closed. absurd (false≢true (sym c.if-self.false ∙ closed));
  by_itself = search rules;
}
