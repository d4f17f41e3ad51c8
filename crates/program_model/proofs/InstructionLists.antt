-- What holds along a list of instructions.
use Rattle.std.proofs.Common.{◌≡◌, ℕ, zero, suc, ◌+◌, ◌<◌, List, [], ◌∷◌, ◌++◌, map, length, refl, sym, ap, ◌∙◌, subst, arith, append_assoc}
use Rattle.std.specs.List.{AllByRecursion}
use Rattle.list_laws.specs.Lists.{joined}
use Rattle.program_model.specs.declared.instruction.Instruction.{Instruction}
use Rattle.program_model.specs.Programs.{program, at, post}
use Rattle.program_model.specs.States.{Given, State, next, new_state, state, after_all}
use Rattle.program_model.specs.Along.{AllAlong, run_from}

run_shift : (l : Given) (e : Instruction) (es : List Instruction) (σ : State) (q : ℕ) → run_from l (e ∷ es) σ (suc q) ≡ run_from l es (next l e σ) q
run_shift l e es σ zero = refl
run_shift l e es σ (suc q) = ap (next l (at es q)) (run_shift l e es σ q)

pub along_at : (P : Instruction → State → Type 0) (l : Given) (es : List Instruction) (σ : State) (q : ℕ) → q < length es → AllAlong P l es σ → P (at es q) (run_from l es σ q)
along_at P l [] σ q b h = absurd (omega arith)
along_at P l (e ∷ es) σ zero b h = h.0
along_at P l (e ∷ es) σ (suc q) b h = subst (P (at es q)) (sym (run_shift l e es σ q)) (along_at P l es (next l e σ) q (omega arith) h.1)

pub state_is : (l : Given) (q : ℕ) → state l q ≡ run_from l (program l.plan l.party l.session) new_state q
state_is l zero = refl
state_is l (suc q) = ap (next l (at (program l.plan l.party l.session) q)) (state_is l q)

pub after_append : (l : Given) (xs ys : List Instruction) (σ : State) → after_all l (xs ++ ys) σ ≡ after_all l ys (after_all l xs σ)
after_append l [] ys σ = refl
after_append l (x ∷ xs) ys σ = after_append l xs ys (next l x σ)

pub along_append : (P : Instruction → State → Type 0) (l : Given) (xs ys : List Instruction) (σ : State) → AllAlong P l xs σ → AllAlong P l ys (after_all l xs σ) → AllAlong P l (xs ++ ys) σ
along_append P l [] ys σ h k = k
along_append P l (x ∷ xs) ys σ h k = (h.0, along_append P l xs ys (next l x σ) h.1 k)

-- a list leaves this
abbrev pub Leaves : (Instruction → State → Type 0) → Given → List Instruction → (State → Type 0) → State → Type 0
Leaves P l es Q σ = AllAlong P l es σ × Q (after_all l es σ)

pub leaves_append : (P : Instruction → State → Type 0) (l : Given) (xs ys : List Instruction) (R Q : State → Type 0) (σ : State) → Leaves P l xs R σ → ((τ : State) → R τ → Leaves P l ys Q τ) → Leaves P l (xs ++ ys) Q σ
leaves_append P l xs ys R Q σ h k =
    let b = k (after_all l xs σ) h.1 in
    (along_append P l xs ys σ h.0 b.0, subst Q (sym (after_append l xs ys σ)) b.1)

pub leaves_joined : (P : Instruction → State → Type 0) (l : Given) (f : ℕ → List Instruction) (I : ℕ → State → Type 0) (n : ℕ) (σ : State) → I 0 σ → ((k : ℕ) (τ : State) → k < n → I k τ → Leaves P l (f k) (I (suc k)) τ) → Leaves P l (joined n f) (I n) σ
leaves_joined P l f I zero σ h k = (tt, h)
leaves_joined P l f I (suc n) σ h k = leaves_append P l (joined n f) (f n) (I n) (I (suc n)) σ (leaves_joined P l f I n σ h (λ j τ b. k j τ (omega arith))) (λ τ. k n τ (omega arith))

pub joined_add : {A : Type 0} (a b : ℕ) (f : ℕ → List A) → joined (a + b) f ≡ joined a f ++ joined b (λ j. f (a + j))
joined_add {A} a zero f = let none : a + 0 ≡ a = omega arith in ap (λ z. joined {A = A} z f) none ∙ sym (append_nil (joined a f))
  where
    append_nil : (xs : List A) → xs ++ [] ≡ xs
    append_nil [] = refl
    append_nil (x ∷ xs) = ap (λ z. x ∷ z) (append_nil xs)
joined_add {A} a (suc b) f =
    let more : a + suc b ≡ suc (a + b) = omega arith in
    ap (λ z. joined {A = A} z f) more ∙ ap (λ z. z ++ f (a + b)) (joined_add a b f) ∙ append_assoc (joined a f) (joined b (λ j. f (a + j))) (f (a + b))

-- ---- posts change nothing

pub after_posts : (l : Given) (ns : List ℕ) (σ : State) → after_all l (map (post l.plan) ns) σ ≡ σ
after_posts l [] σ = refl
after_posts l (n ∷ ns) σ = after_posts l ns σ

pub along_posts : (P : Instruction → State → Type 0) (l : Given) (ns : List ℕ) (σ : State) → AllByRecursion (λ n. P (post l.plan n) σ) ns → AllAlong P l (map (post l.plan) ns) σ
along_posts P l [] σ h = tt
along_posts P l (n ∷ ns) σ h = (h.0, along_posts P l ns σ h.1)

-- at the end of a list
pub run_all : (l : Given) (es : List Instruction) (σ : State) → run_from l es σ (length es) ≡ after_all l es σ
run_all l [] σ = refl
run_all l (e ∷ es) σ = run_shift l e es σ (length es) ∙ run_all l es (next l e σ)
