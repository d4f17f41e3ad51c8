-- Line by line through a text.
use Rattle.std.proofs.Common.{◌≡◌, ℕ, ◌+◌, inl, inr, List, [], ◌∷◌, length, map, refl, sym, ◌∙◌, ap, subst, arith}
use Rattle.line_grammar.specs.Lines.{IsCut}
use Rattle.number_circuit.specs.declared.fault.NumberFault.{NumberFault}
use Rattle.number_circuit.specs.Programs.{Statement}
use Rattle.number_circuit.specs.Faults.{Bounds, knows, AreLines, IsFaultIn, told, lines}
use Rattle.number_circuit.proofs.OneAnswer.{not_blank, not_blank_fault}
use Rattle.number_compiler.specs.Progress.{GoesOn}

-- a line without bytes says nothing
no_more : (known : Bounds) (n : ℕ) (p : List Statement) → AreLines known n ([] ∷ []) p → p ≡ []
no_more known n p (inl h) = h.1
no_more known n p (inr h) = absurd (not_blank known [] n h.0 refl h.3)

no_fault : (known : Bounds) (n : ℕ) (f : NumberFault) → IsFaultIn known n ([] ∷ []) f → ⊥
no_fault known n f (inl h) = h.1
no_fault known n f (inr (inl h)) = not_blank_fault known [] n f refl h
no_fault known n f (inr (inr h)) = not_blank known [] n h.0 refl h.1

last_says : (known : Bounds) (n : ℕ) (line : List ℕ) (p : List Statement) → AreLines known n (line ∷ [] ∷ []) p → AreLines known n (line ∷ []) p
last_says known n line p (inl h) = inl (h.0, no_more known (n + 1) p h.1)
last_says known n line p (inr h) = inr (h.0, h.1, h.2, h.3, no_more (knows known h.0) (n + 1) h.1 h.4)

last_fails : (known : Bounds) (n : ℕ) (line : List ℕ) (f : NumberFault) → IsFaultIn known n (line ∷ [] ∷ []) f → IsFaultIn known n (line ∷ []) f
last_fails known n line f (inl h) = absurd (no_fault known (n + 1) f h.1)
last_fails known n line f (inr (inl h)) = inr (inl h)
last_fails known n line f (inr (inr h)) = absurd (no_fault (knows known h.0) (n + 1) f h.2)

-- the first line, up to its comment, and then the others
pub goes_on : (text line rest said : List ℕ) → said ≡ told line → IsCut text line rest → GoesOn text said rest
goes_on text line rest said is (inl e) =
    let same : said ∷ lines rest ≡ lines text = ap (λ x. x ∷ lines rest) is ∙ sym (ap (map told) e) in
    record {
      says = λ known n p h. subst (λ ls. AreLines known n ls p) same h;
      fails = λ known n f h. subst (λ ls. IsFaultIn known n ls f) same h;
    }
goes_on text line rest said is (inr e) =
    let one : lines text ≡ said ∷ [] = ap (map told) e.0 ∙ ap (λ x. x ∷ []) (sym is) in
    let all : said ∷ lines rest ≡ said ∷ [] ∷ [] = ap (λ y. said ∷ lines y) e.1 in
    record {
      says = λ known n p h. subst (λ ls. AreLines known n ls p) (sym one) (last_says known n said p (subst (λ ls. AreLines known n ls p) all h));
      fails = λ known n f h. subst (λ ls. IsFaultIn known n ls f) (sym one) (last_fails known n said f (subst (λ ls. IsFaultIn known n ls f) all h));
    }

-- no line is left
pub no_line : (known : Bounds) (n : ℕ) (text : List ℕ) → length text ≡ 0 → AreLines known n (lines text) []
no_line known n [] e = inl (refl, refl)
no_line known n (c ∷ cs) e = absurd (omega arith)
