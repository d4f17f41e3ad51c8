-- The plain values of a compiled circuit are those of the program.
use Rattle.std.proofs.Common.{◌≡◌, ℕ, zero, suc, ◌+◌, ◌-◌, ◌*◌, ◌%◌, ◌<◌, ◌≤◌, Bool, true, false, cond, nat_eq, List, [], ◌∷◌, ◌++◌, length, map, get_or, sum, refl, sym, ◌∙◌, ap, ap₂, subst, arith, length-append}
use Rattle.std.proofs.lemmas.List.{length-map}
use Rattle.std.proofs.lemmas.List.Sums.{sum_by-cons}
use Rattle.std.proofs.Math.Nat.{mod-lt}
use Rattle.circuit_model.specs.declared.gate.Gate.{Gate}
use Rattle.circuit_model.specs.declared.gate.Operation.{Operation}
use Rattle.circuit_model.specs.declared.gate.Operation.TheVariants.{Add, Sub, Neg, Mul, Xor, And, Inv, Eq, Eqw}
use Rattle.circuit_model.specs.Circuits.{operate, values}
use Rattle.binary_numbers.specs.Numbers.{worth}
use Rattle.number_gates.specs.declared.wire.Wire.{Wire}
use Rattle.number_gates.specs.declared.wire.Wire.TheVariants as wires
use Rattle.number_gates.specs.declared.wire.DraftGate.{DraftGate}
use Rattle.number_gates.specs.declared.wire.Bit.{Bit}
use Rattle.number_gates.specs.declared.wire.Bit.TheVariants.{Zero, One, On}
use Rattle.number_laws.specs.Making.{no_gate, AreSet}
use Rattle.number_laws.specs.Values.{bit, number_on, made, IsMade}
use Rattle.number_laws.proofs.OperationBits.{operate_bits}
use Rattle.number_circuit.specs.Laws.{number_from, numbers_from}
use Rattle.number_compiler.specs.Terms.{Value}
use Rattle.number_compiler.specs.Circuits.{input_bits, all_bits, copy, number_of, widths_of}
use Rattle.number_compiler.proofs.ProgramValues.{numbers_on, AreGiven}
use Rattle.number_compiler.proofs.GateLists.{get_copy}

-- ---- words of one bit

operate_small : (o : Operation) (c a b : ℕ) → a < 2 → operate 2 o c a b < 2
operate_small Eqw c a b l = l
operate_small Add c a b l = mod-lt (a + b) (omega arith)
operate_small Sub c a b l = mod-lt (a + (2 - b % 2)) (omega arith)
operate_small Neg c a b l = mod-lt (0 + (2 - a % 2)) (omega arith)
operate_small Mul c a b l = mod-lt (a * b) (omega arith)
operate_small Xor c a b l = mod-lt (a + b) (omega arith)
operate_small And c a b l = mod-lt (a * b) (omega arith)
operate_small Inv c a b l = mod-lt (a + 1) (omega arith)
operate_small Eq c a b l = mod-lt c (omega arith)

pub either_small : (b : Bool) (x y : ℕ) → x < 2 → y < 2 → cond b x y < 2
either_small true x y l k = l
either_small false x y l k = k

pub values_small : (gates : ℕ → Gate) (start : ℕ → ℕ) → ((w : ℕ) → start w < 2) → (t w : ℕ) → values 2 gates start t w < 2
values_small gates start h zero w = h w
values_small gates start h (suc t) w =
    let before : ℕ → ℕ = values 2 gates start t in
    either_small (nat_eq w (gates t).output) (operate 2 (gates t).operation (gates t).constant (before (gates t).first) (before (gates t).second)) (before w)
    (operate_small (gates t).operation (gates t).constant (before (gates t).first) (before (gates t).second) (values_small gates start h t (gates t).first)) (values_small gates start h t w)

worth_eq : (n : ℕ) → n < 2 → n ≡ worth (nat_eq n 1)
worth_eq zero l = refl
worth_eq (suc zero) l = refl
worth_eq (suc (suc n)) l = absurd (omega arith)

eq_worth : (b : Bool) → nat_eq (worth b) 1 ≡ b
eq_worth true = refl
eq_worth false = refl

-- ---- the bits on wires, from words P, behind m input wires

abbrev pub on_wires : ℕ → (ℕ → ℕ) → Wire → Bool
on_wires m P w = nat_eq (P (number_of m w)) 1

module _ (m : ℕ) (P : ℕ → ℕ) (small : (w : ℕ) → P w < 2) where
  abbrev on : Wire → Bool
  on = on_wires m P

  word_is : (w : Wire) → P (number_of m w) ≡ worth (on w)
  word_is w = worth_eq (P (number_of m w)) (small (number_of m w))

  -- the equation of a gate
  abbrev pub Holds : ℕ → DraftGate → Type 0
  Holds t s = P (m + t) ≡ operate 2 s.operation s.constant (P (number_of m s.first)) (P (number_of m s.second))

  made_of : (t : ℕ) (s : DraftGate) → Holds t s → on (wires.Gate t) ≡ made on s
  made_of t s h =
      ap (λ n. nat_eq n 1) (h ∙ ap₂ (operate 2 s.operation s.constant) (word_is s.first) (word_is s.second) ∙ operate_bits s.operation s.constant (on s.first) (on s.second))
      ∙ eq_worth (made on s)

  pub all_on : (ss : List DraftGate) → ((t : ℕ) → t < length ss → Holds t (get_or ss t no_gate)) → AreSet (IsMade on) ss
  all_on ss h = record { of_gate = λ t l. made_of t (get_or ss t no_gate) (h t l) }

  -- the words from wire k on are those of the bits
  abbrev AreWords : ℕ → List Bit → Type 0
  AreWords k [] = Unit {0}
  AreWords k (b ∷ bs) = (P k ≡ worth (bit on b)) × AreWords (k + 1) bs

  words_front : (k : ℕ) (xs ys : List Bit) → AreWords k (xs ++ ys) → AreWords k xs
  words_front k [] ys h = tt
  words_front k (x ∷ xs) ys h = (h.0, words_front (k + 1) xs ys h.1)

  words_back : (k : ℕ) (xs ys : List Bit) → AreWords k (xs ++ ys) → AreWords (k + length xs) ys
  words_back k [] ys h = subst (λ n. AreWords n ys) (let e : k ≡ k + 0 = omega arith in e) h
  words_back k (x ∷ xs) ys h = subst (λ n. AreWords n ys) (let e : k + 1 + length xs ≡ k + suc (length xs) = omega arith in e) (words_back (k + 1) xs ys h.1)

  words_number : (k : ℕ) (bs : List Bit) → AreWords k bs → number_from P k (length bs) ≡ number_on on bs
  words_number k [] h = refl
  words_number k (b ∷ bs) h = ap₂ (λ x y. x + 2 * y) h.0 (words_number (k + 1) bs h.1)

  words_numbers : (k : ℕ) (vs : List Value) → AreWords k (all_bits vs) → numbers_from P k (widths_of vs) ≡ numbers_on on vs
  words_numbers k [] h = refl
  words_numbers k (v ∷ vs) h = ap₂ (λ x xs. x ∷ xs) (words_number k v.bits (words_front k v.bits (all_bits vs) h)) (words_numbers (k + length v.bits) vs (words_back k v.bits (all_bits vs) h))

  copy_made : (b : Bit) → made on (copy b) ≡ bit on b
  copy_made Zero = refl
  copy_made One = refl
  copy_made (On w) = refl

  copied_words : (g : ℕ) (bs : List Bit) → ((j : ℕ) → j < length bs → on (wires.Gate (g + j)) ≡ bit on (get_or bs j Zero)) → AreWords (m + g) bs
  copied_words g [] h = tt
  copied_words g (b ∷ bs) h = (
    word_is (wires.Gate g) ∙ ap worth (ap (λ k. on (wires.Gate k)) (let e : g ≡ g + 0 = omega arith in e) ∙ h 0 (omega arith)),
    subst (λ n. AreWords n bs) (let e : m + (g + 1) ≡ m + g + 1 = omega arith in e)
        (copied_words (g + 1) bs (λ j l. ap (λ k. on (wires.Gate k)) (let e : g + 1 + j ≡ g + suc j = omega arith in e) ∙ h (suc j) (omega arith))),
  )

  -- the outputs are the numbers of the values that are copied
  pub outputs_are : (gates : List DraftGate) (vs : List Value) → AreSet (IsMade on) (gates ++ map copy (all_bits vs)) → numbers_from P (m + length gates) (widths_of vs) ≡ numbers_on on vs
  outputs_are gates vs h =
      words_numbers (m + length gates) vs (copied_words (length gates) (all_bits vs)
      (λ j l. h.of_gate (length gates + j) (omega (arith, length-append gates (map copy (all_bits vs)), length-map (all_bits vs) copy, l))
      ∙ ap (made on) (get_copy gates (all_bits vs) j l) ∙ copy_made (get_or (all_bits vs) j Zero)))

  module _ (given : ℕ → ℕ) (stay : (w : ℕ) → w < m → P w ≡ given w) where
    input_number : (k w : ℕ) → k + w ≤ m → number_on on (input_bits k w) ≡ number_from given k w
    input_number k zero l = refl
    input_number k (suc w) l =
        ap₂ (λ x y. x + 2 * y) (sym (word_is (wires.Input k)) ∙ stay k (omega arith)) (input_number (k + 1) w (omega arith))

    pub are_given : (ws : List ℕ) (inputs : ℕ → ℕ) (i k : ℕ) → k + sum ws ≤ m → ((j : ℕ) → inputs (i + j) ≡ get_or (numbers_from given k ws) j 0) → AreGiven on inputs i k ws
    are_given [] inputs i k l h = tt
    are_given (w ∷ ws) inputs i k l h =
        let all : sum (w ∷ ws) ≡ w + sum ws = sum_by-cons (λ (n : ℕ). n) w ws in (
          input_number k w (omega (arith, l, all)) ∙ sym (h 0) ∙ ap inputs (let e : i + 0 ≡ i = omega arith in e),
          are_given ws inputs (i + 1) (k + w) (omega (arith, l, all)) (λ j. ap inputs (let e : i + 1 + j ≡ i + suc j = omega arith in e) ∙ h (suc j)),
        )
