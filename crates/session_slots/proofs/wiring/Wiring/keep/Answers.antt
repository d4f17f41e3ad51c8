use Rattle.std.proofs.Common.{◌≡◌, ℕ, ◌+◌, ◌-◌, ◌++◌, length, sym, ap, ◌∙◌, subst, arith}
use Rattle.std.specs.Prelude.{map, take}
use Rattle.std.proofs.lemmas.Bool.{both_ways}
use Rattle.list_laws.specs.Lists.{listed}
use Rattle.session_slots.specs.declared.wiring.Wiring.{Wiring}
use Rattle.session_slots.specs.Sessions.Slot.{Kept}
use Rattle.session_slots.specs.SoundSessions.{slot_of_kind}
use Rattle.session_slots.specs.Wirings.{IsWiring, session_in}
use Rattle.session_slots.proofs.GateOrder.{wired_with}
use Rattle.session_slots.proofs.SessionSlots.{slot_count}
use Rattle.session_slots.proofs.WiringSlots.{kept_relisted, kinds_count}
use Rattle.session_slots.proofs.wiring.Wiring.keep.Goals as goal
use Rattle.session_slots.proofs.wiring.Wiring.keep.Goals.{then-wiring+in_ok-push_kept, else-wiring}

pub overflow_sub-others : goal.overflow_sub-others
overflow_sub-others c = omega (arith, c.len.ensures, c.len-then-wiring.ensures, kinds_count c.args.self c.requires.wiring c.if-wiring.true, slot_count (session_in c.args.self))

pub returns-clause-tables : goal.returns-clause-tables
returns-clause-tables c =
    let before = c.requires.wiring in
    let wired = wired_with (session_in c.args.self) c.args.self.prepared c.args.self.ahead c.args.kept.items before.wired c.requires.kept in
    elim c.if-wiring.branch [
      | then-wiring+in_ok-push_kept w ↦
          subst (λ (v : Wiring). IsWiring (record v { kept = c.args.kept })) (sym w.wiring-is) (record {
            owned = before.owned;
            sources = before.sources;
            read = before.read;
            products = before.products;
            wired = wired;
            kinds = λ e.
                let old = c.args.self in
                let n = w.len.result - w.len-then-wiring.result in
                let all = kinds_count old before e in
                let long : n + length old.kept.items ≡ length old.kinds.items = omega (arith, w.len.ensures, w.len-then-wiring.ensures, all, slot_count (session_in old)) in
                let count : w.len-then-wiring-2.result ≡ length c.args.kept.items = omega (arith, w.len-then-wiring-2.ensures) in
                let cut : w.truncate.new.self.items ≡ take n old.kinds.items = w.truncate.ensures.items in
                w.in_ok-push_kept.ensures
                ∙ ap (λ xs. map slot_of_kind xs ++ listed w.len-then-wiring-2.result (λ j. Kept j)) cut
                ∙ ap (λ (m : ℕ). map slot_of_kind (take n old.kinds.items) ++ listed m (λ j. Kept j)) count
                ∙ kept_relisted old c.args.kept.items n before e long;
          })
      | else-wiring w ↦
          subst (λ (v : Wiring). IsWiring (record v { kept = c.args.kept })) (sym w.wiring-is) (record {
            owned = before.owned;
            sources = before.sources;
            read = before.read;
            products = before.products;
            wired = wired;
            kinds = λ e. absurd (both_ways c.args.self.prepared w.if-wiring.false e);
          })
    ]
