-- Exchanges of instructions, one after another.
use Rattle.std.proofs.Common.{◌≡◌, List, [], ◌∷◌, ◌++◌, refl, sym, ap, ◌∙◌, subst, append_assoc, append-nil}
use Rattle.std.specs.List.{AllByRecursion}
use Rattle.program_model.specs.declared.instruction.Instruction.{Instruction}
use Rattle.program_model.specs.States.{Given, State, next, after_all}
use Rattle.program_model.specs.Along.{AllAlong}
use Rattle.program_model.proofs.InstructionLists.{after_append, along_append}
use Rattle.program_laws.specs.Exchanges.{MayGoFirst, Becomes}
use Rattle.program_laws.proofs.BatchRuns.{IsKept}

module _ (P : Instruction → State → Type 0) (l : Given) where
  abbrev B : List Instruction → List Instruction → Type 0
  B = Becomes P l

  along_first : (xs ys : List Instruction) (σ : State) → AllAlong P l (xs ++ ys) σ → AllAlong P l xs σ
  along_first [] ys σ h = tt
  along_first (x ∷ xs) ys σ h = (h.0, along_first xs ys (next l x σ) h.1)

  along_second : (xs ys : List Instruction) (σ : State) → AllAlong P l (xs ++ ys) σ → AllAlong P l ys (after_all l xs σ)
  along_second [] ys σ h = h
  along_second (x ∷ xs) ys σ h = along_second xs ys (next l x σ) h.1

  stays : (xs : List Instruction) → B xs xs
  stays xs = record { same = λ σ. refl; along = λ σ h. h }

  -- in the midst of other instructions
  within : (fs xs ys bs : List Instruction) → B xs ys → B (fs ++ xs ++ bs) (fs ++ ys ++ bs)
  within fs xs ys bs h =
      let lead : (zs : List Instruction) (σ : State) → after_all l (fs ++ zs ++ bs) σ ≡ after_all l bs (after_all l zs (after_all l fs σ)) =
      λ zs σ. after_append l (fs ++ zs) bs σ ∙ ap (after_all l bs) (after_append l fs zs σ) in
      record {
        same = λ σ. lead xs σ ∙ ap (after_all l bs) (h.same (after_all l fs σ)) ∙ sym (lead ys σ);
        along = λ σ all.
            let front : AllAlong P l (fs ++ xs) σ = along_first (fs ++ xs) bs σ all in
            let at : after_all l (fs ++ xs) σ ≡ after_all l (fs ++ ys) σ = after_append l fs xs σ ∙ h.same (after_all l fs σ) ∙ sym (after_append l fs ys σ) in
            along_append P l (fs ++ ys) bs σ (along_append P l fs ys σ (along_first fs xs σ front) (h.along (after_all l fs σ) (along_second fs xs σ front)))
            (subst (AllAlong P l bs) at (along_second (fs ++ xs) bs σ all));
      }

  pub becoming : IsKept B
  becoming = record {
    equal = λ xs ys e. subst (λ z. B xs z) e (stays xs);
    on = λ xs ys zs a b. record { same = λ σ. a.same σ ∙ b.same σ; along = λ σ h. b.along σ (a.along σ h) };
    within = within;
  }

  -- e may go before each of these
  abbrev pub GoesFirst : List Instruction → Instruction → Type 0
  GoesFirst ts e = AllByRecursion (λ t. MayGoFirst P l t e) ts

  one_first : (ts : List Instruction) (e : Instruction) → GoesFirst ts e → B (ts ++ e ∷ []) (e ∷ ts)
  one_first [] e h = stays (e ∷ [])
  one_first (t ∷ ts) e h =
      let rest : B (ts ++ e ∷ []) (e ∷ ts) = one_first ts e h.1 in
      record {
        same = λ σ. rest.same (next l t σ) ∙ ap (after_all l ts) (h.0.same σ);
        along = λ σ all.
            let a = rest.along (next l t σ) all.1 in
            (h.0.first σ a.0, (h.0.second σ all.0, subst (AllAlong P l ts) (h.0.same σ) a.1));
      }

  pub all_first : (ts es : List Instruction) → AllByRecursion (GoesFirst ts) es → B (ts ++ es) (es ++ ts)
  all_first ts [] h = becoming.equal (ts ++ []) ts (append-nil ts)
  all_first ts (e ∷ es) h =
      let a : B (ts ++ e ∷ es) (e ∷ ts ++ es) =
      subst (λ z. B z (e ∷ ts ++ es)) (append_assoc ts (e ∷ []) es) (within [] (ts ++ e ∷ []) (e ∷ ts) es (one_first ts e h.0)) in
      let b : B (e ∷ ts ++ es) (e ∷ (es ++ ts)) =
      subst (λ z. B (e ∷ ts ++ es) z) (append-nil (e ∷ (es ++ ts)))
      (subst (λ z. B z (e ∷ (es ++ ts) ++ [])) (append-nil (e ∷ (ts ++ es))) (within (e ∷ []) (ts ++ es) (es ++ ts) [] (all_first ts es h.1))) in
      becoming.on (ts ++ e ∷ es) (e ∷ ts ++ es) (e ∷ (es ++ ts)) a b
