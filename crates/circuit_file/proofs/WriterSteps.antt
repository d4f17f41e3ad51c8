-- The text of a circuit, piece by piece.
use Rattle.std.proofs.Common.{◌≡◌, ℕ, ◌+◌, ◌<◌, List, [], ◌∷◌, ◌++◌, length, map, take, get_or, refl, sym, ◌∙◌, ap, append_assoc}
use Rattle.std.specs.Prelude.{decimal}
use Rattle.std.proofs.lemmas.List.{append-nil, take_more, map-append}
use Rattle.circuit_model.specs.declared.gate.Gate.{Gate}
use Rattle.circuit_model.specs.Netlists.{Netlist, arity}
use Rattle.circuit_file.specs.Grammar.{listed_wires}
use Rattle.circuit_file.specs.CircuitTexts.{operation_name, spaced, parts_text, lines_text, gate_numbers, gate_parts, circuit_text}

spaced_push : (xs : List (List ℕ)) (x : List ℕ) → spaced (xs ++ (x ∷ [])) ≡ spaced xs ++ (32 ∷ x)
spaced_push [] x = ap (λ y. 32 ∷ y) (append-nil x)
spaced_push (y ∷ xs) x = ap (λ t. 32 ∷ (y ++ t)) (spaced_push xs x) ∙ ap (λ t. 32 ∷ t) (sym (append_assoc y (spaced xs) (32 ∷ x)))

-- one number more after those that were written
pub numbers_more : (old : List ℕ) (numbers : List ℕ) (i : ℕ) (d : ℕ) → i < length numbers
    → (old ++ spaced (map decimal (take i numbers))) ++ (32 ∷ decimal (get_or numbers i d)) ≡ old ++ spaced (map decimal (take (i + 1) numbers))
numbers_more old numbers i d l =
    append_assoc old (spaced (map decimal (take i numbers))) (32 ∷ decimal (get_or numbers i d))
    ∙ ap (λ t. old ++ t) (sym (spaced_push (map decimal (take i numbers)) (decimal (get_or numbers i d))))
    ∙ ap (λ t. old ++ spaced t) (sym (ap (map decimal) (take_more numbers i d l) ∙ map-append decimal (take i numbers) (get_or numbers i d ∷ [])))

parts_push : (x : List ℕ) (xs : List (List ℕ)) (y : List ℕ) → parts_text ((x ∷ xs) ++ (y ∷ [])) ≡ parts_text (x ∷ xs) ++ (32 ∷ y)
parts_push x xs y = ap (λ t. x ++ t) (spaced_push xs y) ∙ sym (append_assoc x (spaced xs) (32 ∷ y))

-- the line of a gate
pub gate_line : (old : List ℕ) (g : Gate) → (((old ++ parts_text (map decimal (gate_numbers g))) ++ (32 ∷ [])) ++ operation_name g.operation) ++ (10 ∷ []) ≡ old ++ lines_text (gate_parts g ∷ [])
gate_line old g =
    let numbers : List ℕ = parts_text (map decimal (gate_numbers g)) in
    ap (λ t. t ++ (10 ∷ [])) (append_assoc (old ++ numbers) (32 ∷ []) (operation_name g.operation))
    ∙ append_assoc (old ++ numbers) (32 ∷ operation_name g.operation) (10 ∷ [])
    ∙ append_assoc old numbers ((32 ∷ operation_name g.operation) ++ (10 ∷ []))
    ∙ ap (λ t. old ++ t) (sym (append_assoc numbers (32 ∷ operation_name g.operation) (10 ∷ [])))
    ∙ ap (λ t. old ++ (t ++ (10 ∷ []))) (sym (parts_push (decimal (arity g.operation)) (map decimal (1 ∷ (listed_wires g ++ (g.output ∷ [])))) (operation_name g.operation)))

lines_append : (xs ys : List (List (List ℕ))) → lines_text (xs ++ ys) ≡ lines_text xs ++ lines_text ys
lines_append [] ys = refl
lines_append (x ∷ xs) ys = ap (λ t. parts_text x ++ (10 ∷ t)) (lines_append xs ys) ∙ sym (append_assoc (parts_text x) (10 ∷ lines_text xs) (lines_text ys))

-- one gate more after those that were written
pub gates_more : (old : List ℕ) (gates : List Gate) (i : ℕ) (d : Gate) → i < length gates
    → (old ++ lines_text (map gate_parts (take i gates))) ++ lines_text (gate_parts (get_or gates i d) ∷ []) ≡ old ++ lines_text (map gate_parts (take (i + 1) gates))
gates_more old gates i d l =
    append_assoc old (lines_text (map gate_parts (take i gates))) (lines_text (gate_parts (get_or gates i d) ∷ []))
    ∙ ap (λ t. old ++ t) (sym (lines_append (map gate_parts (take i gates)) (gate_parts (get_or gates i d) ∷ [])))
    ∙ ap (λ t. old ++ lines_text t) (sym (ap (map gate_parts) (take_more gates i d l) ∙ map-append gate_parts (take i gates) (get_or gates i d ∷ [])))

-- the pieces of a text
pub whole_text : (c : Netlist)
    → ((lines_text (map decimal (length c.gates ∷ c.wires ∷ []) ∷ []) ++ lines_text (map decimal (length c.inputs ∷ c.inputs) ∷ [])) ++ lines_text (map decimal (length c.outputs ∷ c.outputs) ∷ [])) ++ lines_text (map gate_parts c.gates)
    ≡ circuit_text c
unfolding circuit_text
whole_text c =
    joined (parts_text (map decimal (length c.gates ∷ c.wires ∷ []))) (parts_text (map decimal (length c.inputs ∷ c.inputs))) (parts_text (map decimal (length c.outputs ∷ c.outputs))) (lines_text (map gate_parts c.gates))
  where
    joined : (a b c x : List ℕ) → (((a ++ (10 ∷ [])) ++ (b ++ (10 ∷ []))) ++ (c ++ (10 ∷ []))) ++ x ≡ a ++ (10 ∷ (b ++ (10 ∷ (c ++ (10 ∷ x)))))
    joined a b c x = simp append_assoc
