use Rattle.std.proofs.Common.{rules, arith, refl, subst, sym}
use Rattle.outer_io.proofs.PastCalls.{all_past-next, all_past-coming}
use Rattle.outer_io.proofs.inline_spawner.InlineSpawnerSpawner.start.Goals as goal

pub returns-then-contains : goal.returns-then-contains
returns-then-contains g c = record {
  started = tt;
  handed_back = search rules;
  refused = search rules;
  quiet = tt;
  refusals_grow = search rules;
  keeps_steady = all_past-next c.args.self.now.refusing.items c.args.self.now.starts c.saturating_add-self.result (omega arith) c.saturating_add-self.ensures;
  by_itself = λ steady. absurd (all_past-coming _ _ _ _ c.deref.ensures.value c.contains.ensures.value c.if-contains.true steady);
}

pub returns : goal.returns
returns g c = record {
  started = λ end is. let Left : g.row.J.Denot → Type 0 = g.J.Task.worked c.args.job in subst Left (sym is) c.work.ensures;
  handed_back = tt;
  refused = tt;
  quiet = refl;
  refusals_grow = search rules;
  keeps_steady = all_past-next c.args.self.now.refusing.items c.args.self.now.starts c.saturating_add-self.result (omega arith) c.saturating_add-self.ensures;
  by_itself = λ steady. refl;
}
