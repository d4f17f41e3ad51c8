use Rattle.std.proofs.Common.{◌≡◌, ◌+◌, length, sym, ap, ◌∙◌, subst}
use Rattle.std.proofs.lemmas.Bool.{eqb-true}
use Rattle.session_slots.specs.declared.values.KeptWire.{KeptWire}
use Rattle.session_slots.specs.Sessions.{Session}
use Rattle.plan_model.specs.Plans.{session}
use Rattle.share_world.specs.Worlds.{World}
use Rattle.wire_tables.specs.WireTables.{AreCarried, world_of}
use Rattle.wire_tables.proofs.HandedOn.{carried_same}
use Rattle.wire_tables.proofs.word.carried_before.Goals as goal
use Rattle.wire_tables.proofs.word.carried_before.Goals.{then-not-is_empty+in_ok-make, else-not-is_empty}

pub loop-r-preserved : goal.loop-r-preserved
loop-r-preserved c =
    let w : World = world_of c.args.world.now in
    let r = c.loop-r.r in
    elim c.if-not-is_empty.branch [
      | then-not-is_empty+in_ok-make b ↦ subst (AreCarried w (r + 1)) (sym b.carried-is) b.in_ok-make.ensures.carried
      | else-not-is_empty b ↦
          let none : length (session w.plan r).kept ≡ 0 =
          sym (ap (length {A = KeptWire}) (c.kept.ensures ∙ ap (λ (y : Session). y.kept) c.part.ensures)) ∙ eqb-true (length c.kept.result.now) 0 (sym b.if-not-is_empty.ensures) in
          subst (AreCarried w (r + 1)) (sym b.carried-is) (carried_same w r c.loop-r.carried c.requires.whole.sound none c.loop-r.invariant)
    ]
