-- States that have rows in place of wires.
use Rattle.std.proofs.Common.{◌≡◌, ℕ, ◌^◌, List, [], ◌∷◌, length, refl, sym, ap, ◌∙◌}
use Rattle.std.proofs.lemmas.Bool.{cases_eq}
use mathlib.Core.Logic.{inl, inr}
use Rattle.circuit_model.specs.Circuits.{set_at}
use Rattle.circuit_model.proofs.SetAt.{set_here, set_there}
use Rattle.circuit_model.specs.declared.gate.Gate.{Gate}
use Rattle.secret_sharing.specs.Schemes.{local}
use Rattle.session_slots.specs.Sessions.{Session, Slot, gate, product_in}
use Rattle.session_slots.specs.Sessions.Slot.{Input, At_gate, Output, Mask, Mask_product, Masked, Kept}
use Rattle.session_slots.specs.KeptWires.{sets_in}
use Rattle.plan_model.specs.Plans.{Plan, session}
use Rattle.program_model.specs.Proper.{Multiplies}
use Rattle.program_model.specs.States.{State, computed, dealt_as, dealt_in, posted, took_in}
use Rattle.party_desk.specs.Memories.{added, into_rows, on_rows, on_wires, Alike}
use Rattle.row_steps.specs.Rows.{FillsRow, SameRows, gate_on_rows, row}

-- the new summands of one wire go into its row
pub put_new : (row_of : ℕ → ℕ) (v : ℕ) (new : ℕ → ℕ) (wires rows : ℕ → ℕ → ℕ) → set_at rows (row_of v) new ≡ into_rows row_of (v ∷ []) (set_at wires v new) rows
put_new row_of v new wires rows = ap (set_at rows (row_of v)) (sym (set_here wires v v new refl))

-- what a row has anyway changes nothing
same_put : (rows : ℕ → ℕ → ℕ) (r u i : ℕ) → set_at rows r (rows r) u i ≡ rows u i
same_put rows r u i = elim (cases_eq u r) [
  | inl e ↦ ap (λ f. f i) (set_here rows r u (rows r) e) ∙ ap (λ z. rows z i) (sym e)
  | inr ne ↦ ap (λ f. f i) (set_there rows r u (rows r) ne)
]

-- a row that a gate fills is that of its output
pub gate_filled : (q m : ℕ) (row_of : ℕ → ℕ) (g : Gate) (table table' : List ℕ) (σ : State) → σ.rows ≡ row m table → FillsRow q m g.operation (gate_on_rows row_of g) table table'
    → SameRows m (row m table') (on_rows row_of (g.output ∷ []) (computed q g) σ).rows
gate_filled q m row_of g table table' σ is fill v i li =
    fill v i li
    ∙ ap (λ (rows : ℕ → ℕ → ℕ). set_at rows (row_of g.output) (λ j. local q g.operation g.constant j (rows (row_of g.first) j) (rows (row_of g.second) j)) v i) (sym is)
    ∙ ap (λ f. f v i) (put_new row_of g.output (λ j. local q g.operation g.constant j (σ.rows (row_of g.first) j) (σ.rows (row_of g.second) j)) (on_wires row_of σ).rows σ.rows)

-- ---- slots

-- no word is taken into a row in the slot
abbrev pub AddsUp : Slot → Type 0
AddsUp (Input v) = ⊥
AddsUp (Mask t side) = ⊥
AddsUp _ = Unit {0}

module _ (plan : Plan) (s : ℕ) where
  abbrev x : Session
  x = session plan s

  abbrev m : ℕ
  m = length plan.groups

  module _ (row_of : ℕ → ℕ) (σ τ : State) (i w : ℕ) (alike : Alike m τ (added (2 ^ plan.bits) i w σ)) where
    stays_put : (u : ℕ) → Alike m τ (on_rows row_of (u ∷ []) (added (2 ^ plan.bits) i w) σ)
    stays_put u = record {
      rows = λ v j lj. alike.rows v j lj ∙ sym (same_put σ.rows (row_of u) v j);
      own = alike.own;
      sums = alike.sums;
      excess = alike.excess;
      given = alike.given;
      outputs = alike.outputs;
    }

    none_put : Alike m τ (on_rows row_of [] (added (2 ^ plan.bits) i w) σ)
    none_put = record { rows = alike.rows; own = alike.own; sums = alike.sums; excess = alike.excess; given = alike.given; outputs = alike.outputs }

    pub added_on_rows : (z : Slot) → AddsUp z → Alike m τ (on_rows row_of (sets_in x z) (took_in plan s z i w) σ)
    added_on_rows (At_gate t) h = stays_put (gate x t).output
    added_on_rows (Mask_product t) h = stays_put (product_in x (Mask_product t)).output
    added_on_rows (Output o) h = none_put
    added_on_rows (Masked t side) h = none_put
    added_on_rows (Input v) h = absurd h
    added_on_rows (Mask t side) h = absurd h
    added_on_rows (Kept place) h = none_put

  pub products_add_up : (z : Slot) → Multiplies z → AddsUp z
  products_add_up (At_gate t) h = tt
  products_add_up (Mask_product t) h = tt
  products_add_up (Input v) h = absurd h
  products_add_up (Output o) h = absurd h
  products_add_up (Mask t side) h = absurd h
  products_add_up (Masked t side) h = absurd h
  products_add_up (Kept place) h = absurd h

  -- the deal of a product, and its posts, are of its wire
  pub dealt_at_product : (row_of words : ℕ → ℕ) (input : ℕ) (z : Slot) (σ : State) → Multiplies z
      → on_rows row_of ((product_in x z).output ∷ []) (dealt_as plan words σ.own (product_in x z).output) σ ≡ on_rows row_of (sets_in x z) (dealt_in plan s words input z) σ
  dealt_at_product row_of words input (At_gate t) σ h = refl
  dealt_at_product row_of words input (Mask_product t) σ h = refl
  dealt_at_product row_of words input (Input v) σ h = absurd h
  dealt_at_product row_of words input (Output o) σ h = absurd h
  dealt_at_product row_of words input (Mask t side) σ h = absurd h
  dealt_at_product row_of words input (Masked t side) σ h = absurd h
  dealt_at_product row_of words input (Kept place) σ h = absurd h

  pub posted_of_product : (z : Slot) (i : ℕ) (σ : State) → Multiplies z → posted plan s z i σ ≡ σ.rows (product_in x z).output i
  posted_of_product (At_gate t) i σ h = refl
  posted_of_product (Mask_product t) i σ h = refl
  posted_of_product (Input v) i σ h = absurd h
  posted_of_product (Output o) i σ h = absurd h
  posted_of_product (Mask t side) i σ h = absurd h
  posted_of_product (Masked t side) i σ h = absurd h
  posted_of_product (Kept place) i σ h = absurd h
