-- Which tails are still to come after the first turns.
use Rattle.std.proofs.Common.{◌≡◌, ℕ, zero, suc, ◌<◌, ◌≤◌, true, false, nat_eq, nat_le, if◌then◌else◌, refl, sym, ◌∙◌, arith}
use Rattle.std.proofs.lemmas.Bool.{cases_Bool, cond-true, cond-false, cond_both, le-leb, lt-leb, eq-eqb, ne_eqb, or_left, or_right, or_from}
use mathlib.Core.Logic.{inl, inr}
use Rattle.session_slots.specs.Sessions.{Session, session_slots}
use Rattle.job_session.specs.Batches.{waits, batch, is_last}
use Rattle.job_session.proofs.BatchOrder.{next_begins, next_joins, batch_within}

module _ (x : Session) where
  -- the first slot whose tail is still to come after the first k turns
  abbrev pub begun : ℕ → ℕ
  begun zero = 0
  begun (suc k) = if is_last x k then suc k else batch x k

  pub begun_within : (k : ℕ) → begun k ≤ k
  begun_within zero = omega arith
  begun_within (suc k) = cond_both (is_last x k) (suc k) (batch x k) (λ b. b ≤ suc k) (λ e. omega arith) (λ e. let h = batch_within x k in omega arith)

  -- before slot k it is the first of its batch
  pub begun_is : (k : ℕ) → k < session_slots x → begun k ≡ batch x k
  begun_is zero l = refl
  begun_is (suc k) l = elim (cases_Bool (waits x (batch x k) (suc k))) [
    | inl e ↦
        let begins = next_begins x k e in
        let last : is_last x k ≡ true = or_right (nat_le (session_slots x) (suc k)) (nat_eq (batch x (suc k)) (suc k)) (eq-eqb (batch x (suc k)) (suc k) begins) in
        cond-true (is_last x k) (suc k) (batch x k) last ∙ sym begins
    | inr e ↦
        let joins = next_joins x k e in
        let ne : batch x (suc k) ≡ suc k → ⊥ = λ same. (let h = batch_within x k in omega arith) in
        let last : is_last x k ≡ false = or_from (nat_le (session_slots x) (suc k)) (nat_eq (batch x (suc k)) (suc k)) (lt-leb (session_slots x) (suc k) l) (ne_eqb (batch x (suc k)) (suc k) ne) in
        cond-false (is_last x k) (suc k) (batch x k) last ∙ sym joins
  ]

  -- at the end no tail is to come
  pub begun_end : (k : ℕ) → session_slots x ≡ k → begun k ≡ k
  begun_end zero e = refl
  begun_end (suc k) e = cond-true (is_last x k) (suc k) (batch x k) (or_left (nat_le (session_slots x) (suc k)) (nat_eq (batch x (suc k)) (suc k)) (le-leb (session_slots x) (suc k) (omega arith)))
