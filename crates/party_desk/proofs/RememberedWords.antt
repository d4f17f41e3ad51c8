-- What a desk remembers after an instruction.
use Rattle.std.proofs.Common.{◌≡◌, ◌⊎◌, ℕ, suc, ◌+◌, ◌<◌, List, [], ◌∷◌, length, refl, sym, ap, ◌∙◌, subst, arith}
use Rattle.std.specs.Prelude.{slice_index}
use Rattle.std.proofs.lemmas.Bool.{cases_eq}
use mathlib.Core.Logic.{inl, inr}
use Rattle.circuit_model.proofs.SetAt.{set_here, set_there}
use Rattle.plan_model.specs.Plans.{IsPlan, Plan}
use Rattle.program_model.specs.declared.instruction.Instruction.{Instruction}
use Rattle.program_model.specs.Programs.{program, at}
use Rattle.program_model.specs.Proper.{Proper}
use Rattle.program_model.specs.States.{State, after}
use Rattle.program_laws.specs.WordsRead.{SetsSummand, ReadsSummand, IsSet, IsToRead, ReadsWhatIsSet, KeepsRowsApart}
use Rattle.party_desk.specs.Desks.{after_on_rows, wires_set}
use Rattle.party_desk.specs.Memories.{into_rows, on_wires}
use Rattle.party_desk.proofs.StateSteps.{IsWordOf, SameParts, SameAfter, Stays, ReadsByGate, HeldLater, after_same, after_word, set_or_stays, set_wire}

module _ (plan : Plan) (s p : ℕ) where
  abbrev m : ℕ
  m = length plan.groups

  abbrev es : List Instruction
  es = program plan p s

  -- the same in what is set before position q and read from there on
  pub record SameRead (q : ℕ) (ρ σ : State) : Type 0 where
    pub rows : (v i : ℕ) → i < m → IsSet plan p s q v i → IsToRead plan p s q v i → ρ.rows v i ≡ σ.rows v i
    pub parts : SameParts plan s p ρ σ

  module _ (is_plan : IsPlan plan) (list : List ℕ) (set : ReadsWhatIsSet plan p s) (apart : KeepsRowsApart plan p s list) where
    abbrev row_of : ℕ → ℕ
    row_of = slice_index list

    -- a state that has rows in place of wires, and one that has not, which are the same before position q
    module _ (q : ℕ) (τ σ : State) (h : SameRead q (on_wires row_of τ) σ) (words : ℕ → ℕ) (input w : ℕ) (got : ℕ → ℕ) where
      abbrev e : Instruction
      e = at es q

      abbrev ρ : State
      ρ = on_wires row_of τ

      abbrev does : State → State
      does = after plan p s words input (λ n. w) e

      abbrev later : ℕ → ℕ → Type 0
      later v i = IsToRead plan p s (suc q) v i

      sooner : (v i : ℕ) → later v i → IsToRead plan p s q v i
      sooner v i r = (r.0, (let l = r.1 in omega arith), r.2)

      -- what the instruction reads is the same in both
      known : (v i : ℕ) → i < m → ReadsSummand plan p s e v i → ρ.rows v i ≡ σ.rows v i
      known v i li r = h.rows v i li (set q v i li r) (q, omega arith, r)

      -- it was set before or is set now
      when : (v i : ℕ) → IsSet plan p s (suc q) v i → SetsSummand plan p s e v i ⊎ IsSet plan p s q v i
      when v i was = elim (cases_eq was.0 q) [
        | inl here ↦ inl (subst (λ z. SetsSummand plan p s (at es z) v i) here was.2)
        | inr ne ↦ inr (was.0, (let l = was.1 in omega arith), was.2)
      ]

      -- what the instruction leaves of a wire stays in its row, whatever goes into rows
      left : (v i : ℕ) → Stays plan s p does v i → IsSet plan p s q v i → later v i → (wires : List ℕ) → into_rows row_of wires (does ρ).rows τ.rows (row_of v) i ≡ ρ.rows v i
      left v i stays was l [] = refl
      left v i stays was l (u ∷ rest) = elim (cases_eq (row_of v) (row_of u)) [
        | inr ne ↦ ap (λ f. f i) (set_there (into_rows row_of rest (does ρ).rows τ.rows) (row_of u) (row_of v) ((does ρ).rows u) ne) ∙ left v i stays was l rest
        | inl same ↦
            ap (λ f. f i) (set_here (into_rows row_of rest (does ρ).rows τ.rows) (row_of u) (row_of v) ((does ρ).rows u) same)
            ∙ elim (set_or_stays plan s p words input (λ n. w) e u i) [
              | inr leaves ↦ leaves ρ ∙ ap (λ z. τ.rows z i) (sym same)
              | inl sets ↦ elim (cases_eq v u) [
                | inl here ↦ subst (λ z. (does ρ).rows z i ≡ ρ.rows z i) here (stays ρ) ∙ ap (λ z. τ.rows z i) (sym same)
                | inr other ↦ absurd (apart q v u i i sets was later' other same)
              ]
            ]
      ]
        where
          later' : IsToRead plan p s (q + 1) v i
          later' = (l.0, (let more = l.1 in omega arith), l.2)

      -- what it sets goes into the row
      set_now : (v i : ℕ) → SetsSummand plan p s e v i → into_rows row_of (wires_set plan s e) (does ρ).rows τ.rows (row_of v) i ≡ (does ρ).rows v i
      set_now v i sets =
          ap (λ ws. into_rows row_of ws (does ρ).rows τ.rows (row_of v) i) (set_wire plan s p e v i sets)
          ∙ ap (λ f. f i) (set_here τ.rows (row_of v) (row_of v) ((does ρ).rows v) refl)

      module _ (proper : Proper plan s e) (reads : ReadsByGate plan s p e) (held : HeldLater plan s p later ρ σ h.parts e) where
        all_same : SameAfter plan s p later ρ σ h.parts e (does ρ) (does σ)
        all_same = after_same plan s p later ρ σ h.parts words input (λ n. w) is_plan e proper reads known held

        now : (v i : ℕ) → i < m → SetsSummand plan p s e v i → later v i → into_rows row_of (wires_set plan s e) (does ρ).rows τ.rows (row_of v) i ≡ (does σ).rows v i
        now v i li sets l = set_now v i sets ∙ all_same.rows v i li sets l

        done : SameRead (suc q) (on_wires row_of (after_on_rows row_of plan p s words input w e τ)) (does σ)
        done = record {
          rows = λ v i li was l. elim (set_or_stays plan s p words input (λ n. w) e v i) [
            | inl sets ↦ now v i li sets l
            | inr stays ↦ elim (when v i was) [
              | inl sets ↦ now v i li sets l
              | inr old ↦ left v i stays old l (wires_set plan s e) ∙ h.rows v i li old (sooner v i l) ∙ sym (stays σ)
            ]
          ];
          parts = record {
            own = all_same.same_parts.own;
            sums = all_same.same_parts.sums;
            excess = all_same.same_parts.excess;
            given = all_same.same_parts.given;
            outputs = all_same.same_parts.outputs;
          };
        }

        pub goes_on : IsWordOf got w e → SameRead (suc q) (on_wires row_of (after_on_rows row_of plan p s words input w e τ)) (after plan p s words input got e σ)
        goes_on is = subst (SameRead (suc q) (on_wires row_of (after_on_rows row_of plan p s words input w e τ))) (after_word plan p s words input w got e σ is) done
