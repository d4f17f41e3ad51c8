use Rattle.std.proofs.Common.{true, sym, ap, ◌∙◌}
use Rattle.std.specs.Prelude.{not, ◌&&◌}
use Rattle.std.specs.List.{list_any}
use Rattle.session_slots.specs.Wirings.{session_in}
use Rattle.session_slots.specs.SoundSessions.{slot_of_kind}
use Rattle.session_slots.specs.KeptWires.{sets_in}
use Rattle.session_slots.proofs.WiringSlots.{some_set}
use Rattle.session_slots.proofs.wiring.Wiring.sets_early.Goals as goal

pub returns-then-not-is_join : goal.returns-then-not-is_join
returns-then-not-is_join c =
    let sets = sets_in (session_in c.args.self.now) (slot_of_kind c.args.kind) in
    c.is_some.ensures ∙ some_set sets c.sets.result c.sets.ensures
    ∙ ap (λ b. not b && list_any (λ w. true) sets) (sym c.if-not-is_join.true ∙ c.is_join.ensures)
