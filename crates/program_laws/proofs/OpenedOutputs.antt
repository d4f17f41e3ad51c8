-- A party opens only the outputs that it reads, and as it computes them by itself, whatever words it got.
use Rattle.std.proofs.Common.{◌≡◌, ℕ, zero, suc, ◌<◌, true, length, refl, sym, ap, ◌∙◌, subst, Some, None}
use Rattle.std.proofs.lemmas.Bool.{cases_eq, cases_lt}
use Rattle.std.proofs.lemmas.List.{get_or_past}
use mathlib.Core.Logic.{inl, inr}
use Rattle.circuit_model.proofs.SetAt.{set_here, set_there}
use Rattle.session_slots.specs.Sessions.{Slot, output_wire}
use Rattle.session_slots.specs.Sessions.Slot.{Input, At_gate, Mask, Mask_product, Masked}
use Rattle.plan_model.specs.Plans.{Plan, session, reads, slot}
use Rattle.plan_model.specs.Sound.{IsSound}
use Rattle.plan_model.specs.declared.key.Key.{Key}
use Rattle.share_world.specs.Worlds.{World}
use Rattle.share_world.specs.Locals.{local_output}
use Rattle.program_model.specs.declared.instruction.Instruction.{Instruction}
use Rattle.program_model.specs.declared.instruction.Instruction.TheVariants.{Draw, Deal, Post, Take, Linear, Own, Sum, Open, Join, Deliver, End}
use Rattle.program_model.specs.Programs.{program, at}
use Rattle.program_model.specs.States.{Given, State, new_state, state, next, drawn_in, dealt_in, took_in, opened, opened_in, joined_in, word_after, taking_slot, output_in_slot}
use Rattle.program_model.proofs.InstructionLists.{along_at, state_is}
use Rattle.program_laws.specs.Meets.{local_given, Goes, SmallTape}
use Rattle.program_laws.proofs.LocalPrograms.{met}

-- what is neither delivered nor ends leaves the outputs as they were
module _ (plan : Plan) (p s : ℕ) where
  drawn_outputs : (words : ℕ → ℕ) (z : Slot) (σ : State) → (drawn_in plan p s words z σ).outputs ≡ σ.outputs
  drawn_outputs words (Mask t side) σ = refl
  drawn_outputs words _ σ = refl

  dealt_outputs : (words : ℕ → ℕ) (input : ℕ) (z : Slot) (σ : State) → (dealt_in plan s words input z σ).outputs ≡ σ.outputs
  dealt_outputs words input (Input v) σ = refl
  dealt_outputs words input (At_gate t) σ = refl
  dealt_outputs words input (Mask_product t) σ = refl
  dealt_outputs words input _ σ = refl

  took_outputs : (z : Slot) (i x : ℕ) (σ : State) → (took_in plan s z i x σ).outputs ≡ σ.outputs
  took_outputs (Input v) i x σ = refl
  took_outputs (Mask t side) i x σ = refl
  took_outputs _ i x σ = refl

  opened_outputs : (z : Slot) (σ : State) → (opened_in plan p s z σ).outputs ≡ σ.outputs
  opened_outputs (Masked t side) σ = refl
  opened_outputs _ σ = refl

  joined_outputs : (z : Slot) (σ : State) → (joined_in plan s z σ).outputs ≡ σ.outputs
  joined_outputs (At_gate t) σ = refl
  joined_outputs _ σ = refl

module _ (w : World) (sound : IsSound w.plan) (got : Key → ℕ) (s p : ℕ) (ls : s < length w.plan.sessions) (lp : p < w.plan.parties) (small : SmallTape w s p) where
  abbrev l : Given
  l = local_given w got s p

  pub goes : (q : ℕ) (e : Instruction) → at (program w.plan p s) q ≡ e → (e ≡ End → ⊥) → Goes w got s p e (state (local_given w got s p) q)
  goes q e is ne = elim (cases_lt q (length (program w.plan p s))) [
    | inl b ↦
        let along = along_at (Goes w got s p) l (program w.plan p s) new_state q b (met w sound got s p ls lp small).0 in
        subst (λ z. Goes w got s p z (state l q)) is (subst (Goes w got s p (at (program w.plan p s) q)) (sym (state_is l q)) along)
    | inr past ↦ absurd (ne (sym is ∙ get_or_past (program w.plan p s) q End past))
  ]

  -- p reads the output, and the word is what it computes
  abbrev Opens : ℕ → ℕ → Type 0
  Opens o v = (reads w.plan p s o ≡ true) × (v ≡ local_output w got p s o)

  opens_next : (q o v : ℕ) (e : Instruction) → at (program w.plan p s) q ≡ e → ((o v : ℕ) → (state l q).outputs o ≡ Some v → Opens o v) → (next l e (state l q)).outputs o ≡ Some v → Opens o v
  opens_next q o v (Draw k) is before f = before o v (sym (ap (λ z. z o) (drawn_outputs w.plan p s (word_after l (state l q).drawn) (slot w.plan s k) (state l q))) ∙ f)
  opens_next q o v (Deal k d) is before f = before o v (sym (ap (λ z. z o) (dealt_outputs w.plan p s _ _ (slot w.plan s k) (state l q))) ∙ f)
  opens_next q o v (Take n i) is before f = before o v (sym (ap (λ z. z o) (took_outputs w.plan p s (taking_slot w.plan n) i _ (state l q))) ∙ f)
  opens_next q o v (Open k) is before f = before o v (sym (ap (λ z. z o) (opened_outputs w.plan p s (slot w.plan s k) (state l q))) ∙ f)
  opens_next q o v (Join k) is before f = before o v (sym (ap (λ z. z o) (joined_outputs w.plan p s (slot w.plan s k) (state l q))) ∙ f)
  opens_next q o v (Deliver k) is before f =
      let u : ℕ = output_in_slot (slot w.plan s k) in
      let right = (goes q (Deliver k) is (λ e. cc)).1 in
      elim (cases_eq o u) [
        | inl e ↦
            let same : Some (opened w.plan p ((state l q).rows (output_wire (session w.plan s) u)) (state l q).sums) ≡ Some v = sym (set_here (state l q).outputs u o _ e) ∙ f in
            let word : v ≡ local_output w got p s u = (let x : opened w.plan p ((state l q).rows (output_wire (session w.plan s) u)) (state l q).sums ≡ v = cc in sym x ∙ right.1) in
            subst (λ z. Opens z v) (sym e) (right.0, word)
        | inr ne ↦ before o v (sym (set_there (state l q).outputs u o _ ne) ∙ f)
      ]
  opens_next q o v (Post n i) is before f = before o v f
  opens_next q o v (Linear k) is before f = before o v f
  opens_next q o v (Own k) is before f = before o v f
  opens_next q o v (Sum k) is before f = before o v f
  opens_next q o v End is before f = before o v f

  pub opens_right : (q o v : ℕ) → (state (local_given w got s p) q).outputs o ≡ Some v → (reads w.plan p s o ≡ true) × (v ≡ local_output w got p s o)
  opens_right zero o v e = absurd (let none : None ≡ Some v = e in cc)
  opens_right (suc q) o v e = opens_next q o v (at (program w.plan p s) q) refl (opens_right q) e
