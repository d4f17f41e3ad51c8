-- What holds of the slots one after another and stays when a head goes before tails of its batch holds of the program.
use Rattle.std.proofs.Common.{◌≡◌, ℕ, zero, suc, ◌+◌, ◌-◌, ◌<◌, ◌≤◌, if◌then◌else◌, List, [], ◌++◌, refl, sym, ap, ◌∙◌, subst, arith, append_assoc, append-nil}
use Rattle.std.proofs.lemmas.Bool.{cases_Bool}
use mathlib.Core.Logic.{inl, inr}
use Rattle.list_laws.specs.Lists.{joined, only_if}
use Rattle.session_slots.specs.Sessions.{Session, session_slots}
use Rattle.job_session.specs.Batches.{batch, is_last}
use Rattle.program_model.specs.declared.instruction.Instruction.{Instruction}
use Rattle.job_session.proofs.BatchOrder.{batch_within}
use Rattle.program_model.proofs.BegunBatches.{begun, begun_is, begun_end}

-- lists that become one another, also within others, and one after another
pub record IsKept (B : List Instruction → List Instruction → Type 0) : Type 0 where
  pub equal : (xs ys : List Instruction) → xs ≡ ys → B xs ys
  pub on : (xs ys zs : List Instruction) → B xs ys → B ys zs → B xs zs
  pub within : (fs xs ys bs : List Instruction) → B xs ys → B (fs ++ xs ++ bs) (fs ++ ys ++ bs)

module _ (x : Session) (head tail : ℕ → List Instruction) where
  abbrev pub from : ℕ → ℕ → List Instruction
  from a b = joined (b - a) (λ j. tail (a + j))

  abbrev turn_of : ℕ → List Instruction
  turn_of k = head k ++ only_if (is_last x k) (from (batch x k) (suc k))

  abbrev both_of : ℕ → List Instruction
  both_of k = head k ++ tail k

  none_from : (a : ℕ) → from a a ≡ []
  none_from a = let none : a - a ≡ 0 = omega arith in ap (λ n. joined n (λ j. tail (a + j))) none

  one_more : (a k : ℕ) → a ≤ k → from a (suc k) ≡ from a k ++ tail k
  one_more a k le =
      let more : suc k - a ≡ suc (k - a) = omega arith in
      let at : a + (k - a) ≡ k = omega arith in
      ap (λ n. joined n (λ j. tail (a + j))) more ∙ ap (λ z. from a k ++ tail z) at

  module _ (B : List Instruction → List Instruction → Type 0) (kept : IsKept B) (goes : (k : ℕ) → k < session_slots x → B (from (batch x k) k ++ head k) (head k ++ from (batch x k) k)) where
    -- k turns and the tails still to come are what k slots are one after another
    runs : (k : ℕ) → k ≤ session_slots x → B (joined k both_of) (joined k turn_of ++ from (begun x k) k)
    runs zero le = kept.equal [] ([] ++ from 0 0) (sym (none_from 0))
    runs (suc k) le =
        let lk : k < session_slots x = omega arith in
        let a : ℕ = batch x k in
        let ts : List Instruction = joined k turn_of in
        let here : B (joined k both_of) (ts ++ from a k) = subst (λ z. B (joined k both_of) (ts ++ from z k)) (begun_is x k lk) (runs k (omega arith)) in
        let one : B (joined k both_of ++ (head k ++ tail k)) ((ts ++ from a k) ++ (head k ++ tail k)) = kept.within [] (joined k both_of) (ts ++ from a k) (head k ++ tail k) here in
        let cut : (ts ++ from a k) ++ (head k ++ tail k) ≡ ts ++ (from a k ++ head k) ++ tail k =
        append_assoc ts (from a k) (head k ++ tail k) ∙ ap (λ z. ts ++ z) (sym (append_assoc (from a k) (head k) (tail k))) ∙ sym (append_assoc ts (from a k ++ head k) (tail k)) in
        let two : B (ts ++ (from a k ++ head k) ++ tail k) (ts ++ (head k ++ from a k) ++ tail k) = kept.within ts (from a k ++ head k) (head k ++ from a k) (tail k) (goes k lk) in
        let put : ts ++ (head k ++ from a k) ++ tail k ≡ ts ++ head k ++ from a (suc k) =
        append_assoc ts (head k ++ from a k) (tail k) ∙ ap (λ z. ts ++ z) (append_assoc (head k) (from a k) (tail k)) ∙ sym (append_assoc ts (head k) (from a k ++ tail k)) ∙ ap (λ z. ts ++ head k ++ z) (sym (one_more a k (batch_within x k))) in
        let shape : ts ++ head k ++ from a (suc k) ≡ (ts ++ (head k ++ only_if (is_last x k) (from a (suc k)))) ++ from (if is_last x k then suc k else a) (suc k) =
        elim (cases_Bool (is_last x k)) [
          | inl e ↦
              subst (λ c. ts ++ head k ++ from a (suc k) ≡ (ts ++ (head k ++ only_if c (from a (suc k)))) ++ from (if c then suc k else a) (suc k)) (sym e)
              (append_assoc ts (head k) (from a (suc k)) ∙ sym (append-nil (ts ++ (head k ++ from a (suc k)))) ∙ ap (λ z. (ts ++ (head k ++ from a (suc k))) ++ z) (sym (none_from (suc k))))
          | inr e ↦
              subst (λ c. ts ++ head k ++ from a (suc k) ≡ (ts ++ (head k ++ only_if c (from a (suc k)))) ++ from (if c then suc k else a) (suc k)) (sym e)
              (ap (λ z. ts ++ z ++ from a (suc k)) (sym (append-nil (head k))))
        ] in
        kept.on _ _ _ one (kept.on _ _ _ (kept.equal _ _ cut) (kept.on _ _ _ two (kept.equal _ _ (put ∙ shape))))

    ended : (k : ℕ) → k ≤ session_slots x → begun x k ≡ k → B (joined k both_of) (joined k turn_of)
    ended k le e = kept.on _ _ _ (runs k le) (kept.equal _ _ (ap (λ z. joined k turn_of ++ z) (ap (λ z. from z k) e ∙ none_from k) ∙ append-nil (joined k turn_of)))

    -- at the end the turns are what the slots are
    pub whole : B (joined (session_slots x) both_of) (joined (session_slots x) turn_of)
    whole = ended (session_slots x) (omega arith) (begun_end x (session_slots x) refl)

    -- and so they are where a batch begins
    pub at_beginnings : (k : ℕ) → k < session_slots x → batch x k ≡ k → B (joined k both_of) (joined k turn_of)
    at_beginnings k lk e = ended k (omega arith) (begun_is x k lk ∙ e)
