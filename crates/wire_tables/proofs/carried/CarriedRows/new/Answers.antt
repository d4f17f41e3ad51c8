use Rattle.std.proofs.Common.{ℕ, length, ap, ◌∙◌, arith}
use Rattle.std.specs.Global.{Vec}
use Rattle.std.proofs.lemmas.List.{length-map}
use Rattle.plan_model.specs.InputWords.{input_words, session_words}
use Rattle.plan_model.specs.Plans.{Plan}
use Rattle.wire_tables.proofs.HandedOn.{carried_first}
use Rattle.wire_tables.proofs.carried.CarriedRows.new.Goals as goal

pub returns : goal.returns
returns c w is =
    carried_first w (input_words c.loop-session.rows.items)
    (length-map c.loop-session.rows.items (λ (rows : Vec (Vec ℕ)). session_words rows.items)
    ∙ omega (arith, c.loop-session.invariant, c.loop-session-test.false, c.sessions-session-end.ensures, c.loop-session.auto._session-end, ap (λ (plan : Plan). length plan.sessions) is))
