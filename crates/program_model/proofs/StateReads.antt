-- A state reads only the words of the takes before it.
use Rattle.std.proofs.Common.{◌≡◌, ℕ, zero, suc, ◌<◌, refl, ap, ◌∙◌, arith}
use Rattle.program_model.specs.declared.instruction.Instruction.{Instruction}
use Rattle.program_model.specs.declared.instruction.Instruction.TheVariants.{Draw, Deal, Post, Take, Linear, Own, Sum, Open, Join, Deliver, End}
use Rattle.program_model.specs.Programs.{program, at}
use Rattle.program_model.specs.States.{Given, State, next, state, took_in, taking_slot}
use Rattle.program_model.specs.Proper.{with_got}

next_same : (l : Given) (got : ℕ → ℕ) (e : Instruction) (σ : State) → ((n i : ℕ) → e ≡ Take n i → l.got n ≡ got n) → next l e σ ≡ next (with_got l got) e σ
next_same l got (Draw k) σ h = refl
next_same l got (Deal k d) σ h = refl
next_same l got (Post n i) σ h = refl
next_same l got (Take n i) σ h = ap (λ z. took_in l.plan l.session (taking_slot l.plan n) i z σ) (h n i refl)
next_same l got (Linear k) σ h = refl
next_same l got (Own k) σ h = refl
next_same l got (Sum k) σ h = refl
next_same l got (Open k) σ h = refl
next_same l got (Join k) σ h = refl
next_same l got (Deliver k) σ h = refl
next_same l got End σ h = refl

pub state_same : (l : Given) (got : ℕ → ℕ) (q : ℕ) → ((p n i : ℕ) → p < q → at (program l.plan l.party l.session) p ≡ Take n i → l.got n ≡ got n) → state l q ≡ state (with_got l got) q
state_same l got zero h = refl
state_same l got (suc q) h =
    next_same l got (at (program l.plan l.party l.session) q) (state l q) (λ n i e. h q n i (omega arith) e)
    ∙ ap (next (with_got l got) (at (program l.plan l.party l.session) q)) (state_same l got q (λ p n i b e. h p n i (omega arith) e))
