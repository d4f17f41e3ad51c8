-- The words that a node keeps, as a function of messages.
use Rattle.std.proofs.Common.{◌≡◌, ◌≢◌, ℕ, zero, suc, ◌<◌, List, [], ◌∷◌, length, refl, sym, ap, ◌∙◌, arith, Bool, true, false, Option, Some, None}
use Rattle.std.specs.Option.{is_some}
use Rattle.std.proofs.lemmas.Bool.{cases_eq}
use mathlib.Core.Logic.{inl, inr}
use Rattle.plan_model.specs.declared.key.Key.{Key}
use Rattle.plan_model.specs.Messages.{messages}
use Rattle.plan_model.specs.Numbers.{number}
use Rattle.plan_model.proofs.DistinctMessages.{numbers_are_inverse}
use Rattle.message_board.specs.Plain.{plain_cell}
use Rattle.program_model.specs.declared.instruction.Instruction.TheVariants.{Post, Take}
use Rattle.program_model.specs.Programs.{at}
use Rattle.node_talk.specs.Talks.{Node, acts}
use Rattle.node_run.specs.Progress.{Agrees, HasTaken, HasPosted}

abbrev or_zero : Option ℕ → ℕ
or_zero None = 0
or_zero (Some v) = v

abbrev pub known : Node → List (Option ℕ) → Key → ℕ
known n cells key = or_zero (plain_cell cells (number n.world.plan key))

pub cell_there : (cells : List (Option ℕ)) (m v : ℕ) → plain_cell cells m ≡ Some v → m < length cells
cell_there [] m v e = absurd (let f : None ≡ Some v = e in cc)
cell_there (x ∷ xs) zero v e = omega arith
cell_there (x ∷ xs) (suc m) v e = let a = cell_there xs m v e in omega (arith, a)

pub agrees_known : (n : Node) (cells : List (Option ℕ)) → length cells ≡ length (messages n.world.plan) → Agrees n cells (known n cells)
agrees_known n cells long m v to e =
    let there : m < length (messages n.world.plan) = (let a = cell_there cells m v e in omega (arith, a, long)) in
    ap (λ z. or_zero (plain_cell cells z)) ((numbers_are_inverse n.world.plan).0 m there) ∙ ap or_zero e

pub later_taken : (n : Node) (k : ℕ) (cells : List (Option ℕ)) → HasTaken n k cells → ((m i : ℕ) → at (acts n) k ≡ Take m i → (v : ℕ) × (plain_cell cells m ≡ Some v)) → HasTaken n (suc k) cells
later_taken n k cells h here j m i l e = elim (cases_eq j k) [
  | inl same ↦ here m i (ap (at (acts n)) (sym same) ∙ e)
  | inr ne ↦ h j m i (omega arith) e
]

pub later_posted : (n : Node) (k : ℕ) (cells : List (Option ℕ)) → HasPosted n k cells → ((m i : ℕ) → at (acts n) k ≡ Post m i → (v : ℕ) × (plain_cell cells m ≡ Some v)) → HasPosted n (suc k) cells
later_posted n k cells h here j m i l e = elim (cases_eq j k) [
  | inl same ↦ here m i (ap (at (acts n)) (sym same) ∙ e)
  | inr ne ↦ h j m i (omega arith) e
]

-- ---- whether there is something

pub is_there : (o : Option ℕ) (b : Bool) → is_some o ≡ b → b ≡ true → o ≢ None
is_there None b e f none = (let g : false ≡ true = e ∙ f in cc)
is_there (Some x) b e f none = (let g : Some x ≡ None = none in cc)

pub is_missing : (o : Option ℕ) (b : Bool) → is_some o ≡ b → b ≡ false → o ≡ None
is_missing None b e f = refl
is_missing (Some x) b e f = absurd (let g : true ≡ false = e ∙ f in cc)
