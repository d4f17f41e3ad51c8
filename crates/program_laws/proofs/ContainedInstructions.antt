-- An instruction stands in a list.
use Rattle.std.proofs.Common.{◌≡◌, ℕ, zero, suc, ◌+◌, ◌<◌, Bool, true, List, [], ◌∷◌, ◌++◌, map, length, sym, ap, ◌∙◌, subst, arith, length-append}
use Rattle.std.specs.List.{range_with_len, filter}
use Rattle.std.proofs.lemmas.Bool.{cases_eq, cases_Bool, cond-true, cond-false}
use Rattle.std.proofs.lemmas.List.{get_or-append-add}
use Rattle.std.proofs.Math.ListN.{get_or-append}
use mathlib.Core.Logic.{inl, inr}
use Rattle.list_laws.specs.Lists.{joined}
use Rattle.program_model.specs.declared.instruction.Instruction.{Instruction}
use Rattle.program_model.specs.declared.instruction.Instruction.TheVariants.{End}
use Rattle.program_model.specs.Programs.{at}

abbrev pub Contains : List Instruction → Instruction → Type 0
Contains es e = (q : ℕ) × (q < length es) × (at es q ≡ e)

pub contains_left : (xs ys : List Instruction) (e : Instruction) → Contains xs e → Contains (xs ++ ys) e
contains_left xs ys e h = (h.0, (let a = h.1 in omega (arith, length-append xs ys)), get_or-append xs ys End h.0 h.1 ∙ h.2)

pub contains_right : (xs ys : List Instruction) (e : Instruction) → Contains ys e → Contains (xs ++ ys) e
contains_right xs ys e h = (length xs + h.0, (let a = h.1 in omega (arith, length-append xs ys)), get_or-append-add xs ys h.0 End ∙ h.2)

pub contains_joined : (n k : ℕ) (f : ℕ → List Instruction) (e : Instruction) → k < n → Contains (f k) e → Contains (joined n f) e
contains_joined zero k f e l h = absurd (omega arith)
contains_joined (suc n) k f e l h = elim (cases_eq k n) [
  | inl eq ↦ contains_right (joined n f) (f n) e (subst (λ z. Contains (f z) e) eq h)
  | inr ne ↦ contains_left (joined n f) (f n) e (contains_joined n k f e (omega arith) h)
]

pub contains_kept : (f : ℕ → Instruction) (test : ℕ → Bool) (a n j : ℕ) → j < n → test (a + j) ≡ true → Contains (map f (filter test (range_with_len a n))) (f (a + j))
contains_kept f test a zero j l e = absurd (omega arith)
contains_kept f test a (suc n) zero l e =
    let same : a + 0 ≡ a = omega arith in
    subst (λ ns. Contains (map f ns) (f (a + 0))) (sym (cond-true (test a) (a ∷ filter test (range_with_len (a + 1) n)) (filter test (range_with_len (a + 1) n)) (ap test (sym same) ∙ e))) (0, omega arith, ap f (sym same))
contains_kept f test a (suc n) (suc j) l e =
    let others : List ℕ = filter test (range_with_len (a + 1) n) in
    let same : a + 1 + j ≡ a + suc j = omega arith in
    let rest : Contains (map f others) (f (a + suc j)) = subst (λ z. Contains (map f others) (f z)) same (contains_kept f test (a + 1) n j (omega arith) (ap test same ∙ e)) in
    elim (cases_Bool (test a)) [
      | inl yes' ↦ subst (λ ns. Contains (map f ns) (f (a + suc j))) (sym (cond-true (test a) (a ∷ others) others yes')) (contains_right (f a ∷ []) (map f others) (f (a + suc j)) rest)
      | inr no' ↦ subst (λ ns. Contains (map f ns) (f (a + suc j))) (sym (cond-false (test a) (a ∷ others) others no')) rest
    ]
