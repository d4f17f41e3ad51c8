-- The values of gates of numbers.
use Rattle.std.proofs.Common.{◌≡◌, ℕ, ◌+◌, ◌-◌, ◌*◌, ◌^◌, ◌≤◌, Bool, true, false, not, ◌&&◌, cond, nat_lt, nat_eq, List, [], ◌∷◌, ◌++◌, length, map, replicate, take, get_or, min, max, refl, sym, ◌∙◌, ap, ap₂, arith, length-append}
use Rattle.std.proofs.lemmas.List.{length-replicate, length-take}
use Rattle.binary_numbers.specs.Numbers.{worth, number, unequal, zipped}
use Rattle.binary_numbers.specs.Carries.{carry_out, carries, every, generated, propagated, shut, added}
use Rattle.binary_numbers.proofs.Carrying.{carry_shut, carries_shut, next_shut, zipped_false, number_zeros, number_not, less_carry, equal_every}
use Rattle.binary_numbers.proofs.Scanning.{map_long, zipped_long, chosen, none_set, added_number, added_long, split_last, difference_number}
use Rattle.number_gates.specs.declared.wire.Wire.{Wire}
use Rattle.number_gates.specs.declared.wire.Bit.{Bit}
use Rattle.number_gates.specs.declared.wire.Bit.TheVariants.{Zero}
use Rattle.number_gates.specs.declared.gates.Joint.TheVariants.{Both, Differ}
use Rattle.number_gates.specs.Steps.{done, ◌>>=◌}
use Rattle.number_gates.specs.BitGates.{opposite}
use Rattle.number_gates.specs.BitLists.{join_all, both_each, opposite_all, widened, closed}
use Rattle.number_gates.specs.Carries.{Carriers, chain, total, scan, all}
use Rattle.number_gates.specs.Numbers.{choose_same, choose, some, equal_same, equal, less_same, less, sum_same, sum, difference_same, difference}
use Rattle.number_laws.specs.Values.{bit, bits, number_on, Computes}
use Rattle.number_laws.proofs.Making.{makes_then, makes_so, makes_done}
use Rattle.number_laws.proofs.BitValues.{opposite_makes, join_all_makes, both_each_makes, opposite_all_makes, bits_take, bits_long, bits_append, bits_zeros, bits_closed, bit_at}
use Rattle.number_laws.proofs.CarryValues.{IsScan, total_makes, all_makes, scan_makes}

-- a number is as wide as another
pub same_bits : (on : Wire → Bool) (a b : List Bit) → length a ≡ length b → length (bits on a) ≡ length (bits on b)
same_bits on a b l = bits_long on a ∙ l ∙ sym (bits_long on b)

pub not_long : (on : Wire → Bool) (a n : List Bit) → bits on n ≡ map not (bits on a) → length n ≡ length a
not_long on a n e = sym (bits_long on n) ∙ ap length e ∙ map_long not (bits on a) ∙ bits_long on a

-- where a sum generates and propagates carries
pub record IsChain (on : Wire → Bool) (a b : List Bit) (c : Carriers) : Type 0 where
  pub generate : bits on c.generate ≡ generated (bits on a) (bits on b)
  pub propagate : bits on c.propagate ≡ propagated (bits on a) (bits on b)

chain_makes : (on : Wire → Bool) (a b : List Bit) → Computes on (chain a b) (IsChain on a b)
chain_makes on a b =
    makes_then (λ g. join_all Differ a b >>= (λ p. done (record { generate = g; propagate = p }))) (IsChain on a b) (join_all_makes on Both a b)
    (λ g eg. makes_then (λ p. done (record { generate = g; propagate = p })) (IsChain on a b) (join_all_makes on Differ a b)
    (λ p ep. makes_done (record { generate = g; propagate = p }) (IsChain on a b) (record { generate = eg; propagate = ep })))

generate_long : (on : Wire → Bool) (a b : List Bit) (c : Carriers) → IsChain on a b c → length a ≡ length b → length c.generate ≡ length a
generate_long on a b c e l = sym (bits_long on c.generate) ∙ ap length e.generate ∙ zipped_long (λ x y. x && y) (bits on a) (bits on b) (same_bits on a b l) ∙ bits_long on a

propagate_long : (on : Wire → Bool) (a b : List Bit) (c : Carriers) → IsChain on a b c → length a ≡ length b → length c.propagate ≡ length a
propagate_long on a b c e l = sym (bits_long on c.propagate) ∙ ap length e.propagate ∙ zipped_long unequal (bits on a) (bits on b) (same_bits on a b l) ∙ bits_long on a

closed_long : (xs : List Bit) → length (closed xs) ≡ length xs
closed_long [] = refl
closed_long (x ∷ xs) = refl

-- the last carry of a sum
last_carry : (on : Wire → Bool) (a b : List Bit) (c : Carriers) → IsChain on a b c → length a ≡ length b
    → Computes on (total (length c.generate) c.generate (closed c.propagate) >>= (λ t. done t.generate)) (λ o. bit on o ≡ carry_out false (generated (bits on a) (bits on b)) (propagated (bits on a) (bits on b)))
last_carry on a b c e l =
    makes_then (λ t. done t.generate) (λ o. bit on o ≡ carry_out false (generated (bits on a) (bits on b)) (propagated (bits on a) (bits on b)))
    (total_makes on (length c.generate) c.generate (closed c.propagate) (generate_long on a b c e l ∙ sym (propagate_long on a b c e l) ∙ sym (closed_long c.propagate)) (omega arith))
    (λ t it. makes_done t.generate (λ o. bit on o ≡ carry_out false (generated (bits on a) (bits on b)) (propagated (bits on a) (bits on b)))
    (sym (next_shut (bit on t.generate) (bit on t.propagate)) ∙ it false
    ∙ ap₂ (carry_out false) e.generate (bits_closed on c.propagate ∙ ap shut e.propagate) ∙ carry_shut (generated (bits on a) (bits on b)) (propagated (bits on a) (bits on b))))

less_same_makes : (on : Wire → Bool) (a b : List Bit) → length a ≡ length b → Computes on (less_same a b) (λ o. bit on o ≡ nat_lt (number_on on a) (number_on on b))
less_same_makes on a b l =
    makes_then (λ n. chain n b >>= (λ c. total (length c.generate) c.generate (closed c.propagate) >>= (λ t. done t.generate))) (λ o. bit on o ≡ nat_lt (number_on on a) (number_on on b))
    (opposite_all_makes on a)
    (λ n en. makes_then (λ c. total (length c.generate) c.generate (closed c.propagate) >>= (λ t. done t.generate)) (λ o. bit on o ≡ nat_lt (number_on on a) (number_on on b))
    (chain_makes on n b)
    (λ c ec. makes_so (λ o. bit on o ≡ nat_lt (number_on on a) (number_on on b)) (last_carry on n b c ec (not_long on a n en ∙ l))
    (λ o eo. eo ∙ ap (λ us. carry_out false (generated us (bits on b)) (propagated us (bits on b))) en ∙ less_carry (bits on a) (bits on b) (same_bits on a b l))))

equal_same_makes : (on : Wire → Bool) (a b : List Bit) → length a ≡ length b → Computes on (equal_same a b) (λ o. bit on o ≡ nat_eq (number_on on a) (number_on on b))
equal_same_makes on a b l =
    makes_then (λ n. join_all Differ n b >>= (λ same. all same)) (λ o. bit on o ≡ nat_eq (number_on on a) (number_on on b)) (opposite_all_makes on a)
    (λ n en. makes_then (λ same. all same) (λ o. bit on o ≡ nat_eq (number_on on a) (number_on on b)) (join_all_makes on Differ n b)
    (λ same es. makes_so (λ o. bit on o ≡ nat_eq (number_on on a) (number_on on b)) (all_makes on same)
    (λ o eo. eo ∙ ap every (es ∙ ap (λ us. zipped unequal us (bits on b)) en) ∙ equal_every (bits on a) (bits on b) (same_bits on a b l))))

pub some_makes : (on : Wire → Bool) (a : List Bit) → Computes on (some a) (λ o. bit on o ≡ not (nat_eq (number_on on a) 0))
some_makes on a =
    makes_then (λ n. all n >>= (λ none. opposite none)) (λ o. bit on o ≡ not (nat_eq (number_on on a) 0)) (opposite_all_makes on a)
    (λ n en. makes_then (λ none. opposite none) (λ o. bit on o ≡ not (nat_eq (number_on on a) 0)) (all_makes on n)
    (λ none eo. makes_so (λ o. bit on o ≡ not (nat_eq (number_on on a) 0)) (opposite_makes on none)
    (λ o e. e ∙ ap not (eo ∙ ap every en ∙ none_set (bits on a)))))

pub choose_same_makes : (on : Wire → Bool) (which : Bit) (a b : List Bit) → length a ≡ length b → Computes on (choose_same which a b) (λ c. bits on c ≡ cond (bit on which) (bits on a) (bits on b))
choose_same_makes on which a b l =
    makes_then (λ d. both_each which d >>= (λ taken. join_all Differ taken b)) (λ c. bits on c ≡ cond (bit on which) (bits on a) (bits on b)) (join_all_makes on Differ a b)
    (λ d ed. makes_then (λ taken. join_all Differ taken b) (λ c. bits on c ≡ cond (bit on which) (bits on a) (bits on b)) (both_each_makes on which d)
    (λ taken et. makes_so (λ c. bits on c ≡ cond (bit on which) (bits on a) (bits on b)) (join_all_makes on Differ taken b)
    (λ c e. e ∙ ap (λ us. zipped unequal us (bits on b)) (et ∙ ap (map (λ x. bit on which && x)) ed) ∙ chosen (bit on which) (bits on a) (bits on b) (same_bits on a b l))))

-- the bits of the sum of two numbers of one width
sum_bits : (on : Wire → Bool) (a b : List Bit) (c s : Carriers) → IsChain on a b c → IsScan on c.generate (closed c.propagate) s → length a ≡ length b
    → zipped unequal (bits on (c.propagate ++ (Zero ∷ []))) (bits on (Zero ∷ s.generate)) ≡ added (bits on a) (bits on b)
sum_bits on a b c s e is l =
    let same : length (bits on s.generate) ≡ length (bits on s.propagate) = bits_long on s.generate ∙ is.generate_long ∙ generate_long on a b c e l ∙ sym (propagate_long on a b c e l) ∙ sym (closed_long c.propagate) ∙ sym is.propagate_long ∙ sym (bits_long on s.propagate) in
    let carried : bits on s.generate ≡ carries false (generated (bits on a) (bits on b)) (propagated (bits on a) (bits on b)) =
    sym (zipped_false (bits on s.generate) (bits on s.propagate) same) ∙ is.carried false
    ∙ ap₂ (carries false) e.generate (bits_closed on c.propagate ∙ ap shut e.propagate) ∙ carries_shut (generated (bits on a) (bits on b)) (propagated (bits on a) (bits on b)) in
    ap₂ (zipped unequal) (bits_append on c.propagate (Zero ∷ []) ∙ ap (λ us. us ++ (false ∷ [])) e.propagate) (ap (λ us. false ∷ us) carried)

pub sum_same_makes : (on : Wire → Bool) (a b : List Bit) → length a ≡ length b → Computes on (sum_same a b) (λ s. bits on s ≡ added (bits on a) (bits on b))
sum_same_makes on a b l =
    makes_then (λ c. scan (length c.generate) c.generate (closed c.propagate) >>= (λ s. join_all Differ (c.propagate ++ (Zero ∷ [])) (Zero ∷ s.generate))) (λ s. bits on s ≡ added (bits on a) (bits on b)) (chain_makes on a b)
    (λ c ec. makes_then (λ s. join_all Differ (c.propagate ++ (Zero ∷ [])) (Zero ∷ s.generate)) (λ s. bits on s ≡ added (bits on a) (bits on b))
    (scan_makes on (length c.generate) c.generate (closed c.propagate) (generate_long on a b c ec l ∙ sym (propagate_long on a b c ec l) ∙ sym (closed_long c.propagate)) (omega arith))
    (λ s is. makes_so (λ s. bits on s ≡ added (bits on a) (bits on b)) (join_all_makes on Differ (c.propagate ++ (Zero ∷ [])) (Zero ∷ s.generate))
    (λ r e. e ∙ sum_bits on a b c s ec is l)))

-- a difference, from the bits of a sum
difference_is : (on : Wire → Bool) (a b n s : List Bit) (d r : List Bit) (least : Bit) → length a ≡ length b → bits on n ≡ map not (bits on a) → bits on s ≡ added (bits on n) (bits on b)
    → bits on d ≡ map not (bits on (take (length a) s)) → bit on least ≡ not (bit on (get_or s (length s - 1) Zero)) → bits on r ≡ map (λ x. bit on least && x) (bits on d) → number_on on r ≡ number_on on a - number_on on b
difference_is on a b n s d r least l en es ed el er =
    let same : length (bits on n) ≡ length (bits on b) = same_bits on n b (not_long on a n en ∙ l) in
    let long : length (bits on s) ≡ length a + 1 = ap length es ∙ added_long (bits on n) (bits on b) same ∙ ap (λ k. k + 1) (bits_long on n ∙ not_long on a n en) in
    let last : Bool = get_or (bits on s) (length a) false in
    let low : List Bool = take (length a) (bits on s) in
    let least_is : bit on least ≡ not last = el ∙ ap not (bit_at on (length s - 1) s Zero ∙ ap (λ k. get_or (bits on s) k false) (let k : length s - 1 ≡ length a = omega (arith, long, bits_long on s) in k)) in
    let low_long : length low ≡ length a = length-take (length a) (bits on s) ∙ (let k : min (length a) (length (bits on s)) ≡ length a = omega (arith, long) in k) in
    let total : number low + 2 ^ length a * worth last ≡ number (map not (bits on a)) + number (bits on b) =
    split_last false (length a) (bits on s) long ∙ ap number es ∙ added_number (bits on n) (bits on b) same ∙ ap (λ us. number us + number (bits on b)) en in
    ap number (er ∙ ap₂ (λ u us. map (λ x. u && x) us) least_is (ed ∙ ap (map not) (bits_take on (length a) s)))
    ∙ difference_number (length a) (number (bits on a)) (number (map not (bits on a))) (number (bits on b)) low last low_long (number_not (bits on a) ∙ ap (λ k. 2 ^ k) (bits_long on a)) total

difference_same_makes : (on : Wire → Bool) (a b : List Bit) → length a ≡ length b → Computes on (difference_same a b) (λ c. number_on on c ≡ number_on on a - number_on on b)
difference_same_makes on a b l =
    makes_then (λ n. sum_same n b >>= (λ s. opposite_all (take (length a) s) >>= (λ d. opposite (get_or s (length s - 1) Zero) >>= (λ least. both_each least d)))) (λ c. number_on on c ≡ number_on on a - number_on on b) (opposite_all_makes on a)
    (λ n en. makes_then (λ s. opposite_all (take (length a) s) >>= (λ d. opposite (get_or s (length s - 1) Zero) >>= (λ least. both_each least d))) (λ c. number_on on c ≡ number_on on a - number_on on b) (sum_same_makes on n b (not_long on a n en ∙ l))
    (λ s es. makes_then (λ d. opposite (get_or s (length s - 1) Zero) >>= (λ least. both_each least d)) (λ c. number_on on c ≡ number_on on a - number_on on b) (opposite_all_makes on (take (length a) s))
    (λ d ed. makes_then (λ least. both_each least d) (λ c. number_on on c ≡ number_on on a - number_on on b) (opposite_makes on (get_or s (length s - 1) Zero))
    (λ least el. makes_so (λ c. number_on on c ≡ number_on on a - number_on on b) (both_each_makes on least d)
    (λ r er. difference_is on a b n s d r least l en es ed el er)))))

-- numbers of one width
pub wide_number : (on : Wire → Bool) (n : ℕ) (a : List Bit) → number_on on (widened n a) ≡ number_on on a
wide_number on n a = ap number (bits_append on a (replicate (n - length a) Zero) ∙ ap (λ us. bits on a ++ us) (bits_zeros on (n - length a))) ∙ number_zeros (bits on a) (n - length a)

pub wide_long : (n : ℕ) (a : List Bit) → length a ≤ n → length (widened n a) ≡ n
wide_long n a l = length-append a (replicate (n - length a) Zero) ∙ ap (λ k. length a + k) (length-replicate (n - length a) Zero) ∙ (let k : length a + (n - length a) ≡ n = omega arith in k)

pub one_width : (a b : List Bit) → length (widened (max (length a) (length b)) a) ≡ length (widened (max (length a) (length b)) b)
one_width a b = wide_long (max (length a) (length b)) a (omega arith) ∙ sym (wide_long (max (length a) (length b)) b (omega arith))

pub less_makes : (on : Wire → Bool) (a b : List Bit) → Computes on (less a b) (λ o. bit on o ≡ nat_lt (number_on on a) (number_on on b))
less_makes on a b =
    let w : ℕ = max (length a) (length b) in
    makes_so (λ o. bit on o ≡ nat_lt (number_on on a) (number_on on b)) (less_same_makes on (widened w a) (widened w b) (one_width a b)) (λ o e. e ∙ ap₂ nat_lt (wide_number on w a) (wide_number on w b))

pub equal_makes : (on : Wire → Bool) (a b : List Bit) → Computes on (equal a b) (λ o. bit on o ≡ nat_eq (number_on on a) (number_on on b))
equal_makes on a b =
    let w : ℕ = max (length a) (length b) in
    makes_so (λ o. bit on o ≡ nat_eq (number_on on a) (number_on on b)) (equal_same_makes on (widened w a) (widened w b) (one_width a b)) (λ o e. e ∙ ap₂ nat_eq (wide_number on w a) (wide_number on w b))

pub number_chosen : (which : Bool) (xs ys : List Bool) → number (cond which xs ys) ≡ cond which (number xs) (number ys)
number_chosen true xs ys = refl
number_chosen false xs ys = refl

pub choose_makes : (on : Wire → Bool) (which : Bit) (a b : List Bit) → Computes on (choose which a b) (λ c. number_on on c ≡ cond (bit on which) (number_on on a) (number_on on b))
choose_makes on which a b =
    let w : ℕ = max (length a) (length b) in
    makes_so (λ c. number_on on c ≡ cond (bit on which) (number_on on a) (number_on on b)) (choose_same_makes on which (widened w a) (widened w b) (one_width a b))
    (λ c e. ap number e ∙ number_chosen (bit on which) (bits on (widened w a)) (bits on (widened w b)) ∙ ap₂ (cond (bit on which)) (wide_number on w a) (wide_number on w b))

pub sum_makes : (on : Wire → Bool) (a b : List Bit) → Computes on (sum a b) (λ c. number_on on c ≡ number_on on a + number_on on b)
sum_makes on a b =
    let w : ℕ = max (length a) (length b) in
    makes_so (λ c. number_on on c ≡ number_on on a + number_on on b) (sum_same_makes on (widened w a) (widened w b) (one_width a b))
    (λ c e. ap number e ∙ added_number (bits on (widened w a)) (bits on (widened w b)) (same_bits on (widened w a) (widened w b) (one_width a b)) ∙ ap₂ (λ x y. x + y) (wide_number on w a) (wide_number on w b))

pub difference_makes : (on : Wire → Bool) (a b : List Bit) → Computes on (difference a b) (λ c. number_on on c ≡ number_on on a - number_on on b)
difference_makes on a b =
    let w : ℕ = max (length a) (length b) in
    makes_so (λ c. number_on on c ≡ number_on on a - number_on on b) (difference_same_makes on (widened w a) (widened w b) (one_width a b)) (λ c e. e ∙ ap₂ (λ x y. x - y) (wide_number on w a) (wide_number on w b))
