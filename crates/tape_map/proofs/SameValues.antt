-- Values in the clear don't depend on the tapes.
use Rattle.std.proofs.Common.{◌≡◌, ℕ, zero, suc, List, length, refl, ap, ap₂}
use Rattle.circuit_model.specs.Circuits.{set_at}
use Rattle.mpc_ring.specs.Differences.{difference}
use Rattle.std.specs.Prelude.{◌^◌}
use Rattle.plan_model.specs.Plans.{session}
use Rattle.share_world.specs.Worlds.{World, plain, value_before, values_after, values_before}
use Rattle.tape_map.specs.TapeMaps.{delta, second_world, changed_tapes, with_inputs, with_tapes}

ends_stay : (w : World) (tapes : List (List ℕ)) (n : ℕ) → values_before (with_tapes w tapes) n ≡ values_before w n
ends_stay w tapes zero = refl
ends_stay w tapes (suc n) = ap (λ (before : ℕ → ℕ → ℕ). set_at before n (values_after w before n (length (session w.plan n).gates))) (ends_stay w tapes n)

pub value_stays : (w : World) (tapes : List (List ℕ)) (s t v : ℕ) → value_before (with_tapes w tapes) s t v ≡ value_before w s t v
value_stays w tapes s t v = ap (λ (before : ℕ → ℕ → ℕ). values_after w before s t v) (ends_stay w tapes s)

pub plain_stays : (w : World) (tapes : List (List ℕ)) (s v : ℕ) → plain (with_tapes w tapes) s v ≡ plain w s v
plain_stays w tapes s v = value_stays w tapes s (length (session w.plan s).gates) v

-- on the way back from the second world each wire grows from its value there to that of the first
pub delta_back : (w : World) (other : List (List (List ℕ))) (group s t v : ℕ)
    → delta (second_world w other group) w.inputs s t v ≡ difference (2 ^ w.plan.bits) (value_before w s t v) (value_before (with_inputs w other) s t v)
delta_back w other group s t v =
    ap₂ (difference (2 ^ w.plan.bits)) (value_stays w (changed_tapes w other group) s t v) (value_stays (with_inputs w other) (changed_tapes w other group) s t v)
