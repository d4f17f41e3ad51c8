-- Contents of slots that are the same name the same rows, and those of different kinds are never the same.
use Rattle.std.proofs.Common.{◌≡◌, ℕ}
use Rattle.circuit_model.specs.declared.gate.Gate.{Gate}
use Rattle.session_slots.specs.declared.side.Side.{Side}
use Rattle.session_slots.specs.declared.slot_content.SlotContent.TheVariants.{Row, Excess, Product}

pub row_name : {a b : ℕ} → Row a ≡ Row b → b ≡ a
row_name e = cc

pub the_gate : {a b : Gate} → Product a ≡ Product b → b ≡ a
the_gate e = cc

pub the_wire : {a b c d : ℕ} {f g : Side} → Excess a b f ≡ Excess c d g → c ≡ a
the_wire e = cc

pub the_mask : {a b c d : ℕ} {f g : Side} → Excess a b f ≡ Excess c d g → d ≡ b
the_mask e = cc

pub not_product : {a : ℕ} {g : Gate} → Row a ≡ Product g → ⊥
not_product e = cc

pub not_excess : {a b c : ℕ} {f : Side} → Row a ≡ Excess b c f → ⊥
not_excess e = cc

pub no_excess : {b c : ℕ} {f : Side} {g : Gate} → Excess b c f ≡ Product g → ⊥
no_excess e = cc
