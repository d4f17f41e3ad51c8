-- The values of gates of single bits and of lists of bits.
use Rattle.std.proofs.Common.{◌≡◌, ℕ, zero, suc, Bool, true, false, not, ◌&&◌, List, [], ◌∷◌, ◌++◌, length, map, replicate, take, drop, get_or, refl, ◌∙◌, ap, ap₂}
use Rattle.binary_numbers.specs.Numbers.{unequal, zipped}
use Rattle.number_gates.specs.declared.wire.Wire.{Wire}
use Rattle.number_gates.specs.declared.wire.Bit.{Bit}
use Rattle.number_gates.specs.declared.wire.Bit.TheVariants.{Zero, One, On}
use Rattle.number_gates.specs.declared.gates.Joint.{Joint}
use Rattle.number_gates.specs.declared.gates.Joint.TheVariants.{Both, Differ}
use Rattle.number_gates.specs.Steps.{done, ◌>>=◌}
use Rattle.number_gates.specs.BitGates.{opposite, both, differ, join}
use Rattle.number_gates.specs.BitLists.{join_all, both_each, opposite_all, closed}
use Rattle.binary_numbers.specs.Carries.{shut}
use Rattle.number_laws.specs.Making.{Comes}
use Rattle.number_laws.specs.Values.{bit, bits, IsMade, Computes}
use Rattle.number_laws.proofs.Making.{makes_then, makes_so, makes_done}

and_true : (x : Bool) → x ≡ (x && true)
and_true true = refl
and_true false = refl

and_false : (x : Bool) → false ≡ (x && false)
and_false true = refl
and_false false = refl

unequal_false : (x : Bool) → x ≡ unequal x false
unequal_false true = refl
unequal_false false = refl

unequal_true : (x : Bool) → not x ≡ unequal x true
unequal_true true = refl
unequal_true false = refl

opposite_comes : (on : Wire → Bool) (a : Bit) → Comes (IsMade on) (opposite a) (λ c. bit on c ≡ not (bit on a))
opposite_comes on Zero = refl
opposite_comes on One = refl
opposite_comes on (On a) = λ w e. e

both_comes : (on : Wire → Bool) (a b : Bit) → Comes (IsMade on) (both a b) (λ c. bit on c ≡ (bit on a && bit on b))
both_comes on Zero b = refl
both_comes on One b = refl
both_comes on (On a) Zero = and_false (on a)
both_comes on (On a) One = and_true (on a)
both_comes on (On a) (On b) = λ w e. e

differ_comes : (on : Wire → Bool) (a b : Bit) → Comes (IsMade on) (differ a b) (λ c. bit on c ≡ unequal (bit on a) (bit on b))
differ_comes on Zero b = refl
differ_comes on One b = opposite_comes on b
differ_comes on (On a) Zero = unequal_false (on a)
differ_comes on (On a) One = λ w e. e ∙ unequal_true (on a)
differ_comes on (On a) (On b) = λ w e. e

pub opposite_makes : (on : Wire → Bool) (a : Bit) → Computes on (opposite a) (λ c. bit on c ≡ not (bit on a))
opposite_makes on a = record { comes = opposite_comes on a }

pub both_makes : (on : Wire → Bool) (a b : Bit) → Computes on (both a b) (λ c. bit on c ≡ (bit on a && bit on b))
both_makes on a b = record { comes = both_comes on a b }

pub differ_makes : (on : Wire → Bool) (a b : Bit) → Computes on (differ a b) (λ c. bit on c ≡ unequal (bit on a) (bit on b))
differ_makes on a b = record { comes = differ_comes on a b }

-- how bits are joined
abbrev pub joint : Joint → Bool → Bool → Bool
joint Both a b = a && b
joint Differ a b = unequal a b

join_makes : (on : Wire → Bool) (how : Joint) (a b : Bit) → Computes on (join how a b) (λ c. bit on c ≡ joint how (bit on a) (bit on b))
join_makes on Both a b = both_makes on a b
join_makes on Differ a b = differ_makes on a b

pub join_all_makes : (on : Wire → Bool) (how : Joint) (xs ys : List Bit) → Computes on (join_all how xs ys) (λ c. bits on c ≡ zipped (joint how) (bits on xs) (bits on ys))
unfolding join_all
join_all_makes on how [] ys = record { comes = refl }
join_all_makes on how (x ∷ xs) [] = record { comes = refl }
join_all_makes on how (x ∷ xs) (y ∷ ys) =
    makes_then (λ z. join_all how xs ys >>= (λ zs. done (z ∷ zs))) (λ c. bits on c ≡ zipped (joint how) (bits on (x ∷ xs)) (bits on (y ∷ ys))) (join_makes on how x y)
    (λ z e. makes_then (λ zs. done (z ∷ zs)) (λ c. bits on c ≡ zipped (joint how) (bits on (x ∷ xs)) (bits on (y ∷ ys))) (join_all_makes on how xs ys)
    (λ zs es. makes_done (z ∷ zs) (λ c. bits on c ≡ zipped (joint how) (bits on (x ∷ xs)) (bits on (y ∷ ys))) (ap₂ (λ u us. u ∷ us) e es)))

-- each bit joined with one and the same
each : (on : Wire → Bool) (f : Bool → Bool → Bool) (a : Bit) (xs : List Bit) → zipped f (bits on (replicate (length xs) a)) (bits on xs) ≡ map (f (bit on a)) (bits on xs)
each on f a [] = refl
each on f a (x ∷ xs) = ap (λ us. f (bit on a) (bit on x) ∷ us) (each on f a xs)

pub both_each_makes : (on : Wire → Bool) (a : Bit) (xs : List Bit) → Computes on (both_each a xs) (λ c. bits on c ≡ map (λ x. bit on a && x) (bits on xs))
both_each_makes on a xs =
    makes_so (λ c. bits on c ≡ map (λ x. bit on a && x) (bits on xs)) (join_all_makes on Both (replicate (length xs) a) xs) (λ c e. e ∙ each on (joint Both) a xs)

pub opposite_all_makes : (on : Wire → Bool) (xs : List Bit) → Computes on (opposite_all xs) (λ c. bits on c ≡ map not (bits on xs))
opposite_all_makes on xs =
    makes_so (λ c. bits on c ≡ map not (bits on xs)) (join_all_makes on Differ (replicate (length xs) One) xs) (λ c e. e ∙ each on (joint Differ) One xs)

-- the values of parts of a list
pub bits_take : (on : Wire → Bool) (k : ℕ) (xs : List Bit) → bits on (take k xs) ≡ take k (bits on xs)
bits_take on zero xs = refl
bits_take on (suc k) [] = refl
bits_take on (suc k) (x ∷ xs) = ap (λ us. bit on x ∷ us) (bits_take on k xs)

pub bits_drop : (on : Wire → Bool) (k : ℕ) (xs : List Bit) → bits on (drop k xs) ≡ drop k (bits on xs)
bits_drop on zero xs = refl
bits_drop on (suc k) [] = refl
bits_drop on (suc k) (x ∷ xs) = bits_drop on k xs

pub bits_long : (on : Wire → Bool) (xs : List Bit) → length (bits on xs) ≡ length xs
bits_long on [] = refl
bits_long on (x ∷ xs) = ap suc (bits_long on xs)

pub bits_append : (on : Wire → Bool) (xs ys : List Bit) → bits on (xs ++ ys) ≡ bits on xs ++ bits on ys
bits_append on [] ys = refl
bits_append on (x ∷ xs) ys = ap (λ us. bit on x ∷ us) (bits_append on xs ys)

pub bits_zeros : (on : Wire → Bool) (n : ℕ) → bits on (replicate n Zero) ≡ replicate n false
bits_zeros on zero = refl
bits_zeros on (suc n) = ap (λ us. false ∷ us) (bits_zeros on n)

pub bits_closed : (on : Wire → Bool) (xs : List Bit) → bits on (closed xs) ≡ shut (bits on xs)
bits_closed on [] = refl
bits_closed on (x ∷ xs) = refl

pub bit_at : (on : Wire → Bool) (i : ℕ) (xs : List Bit) (d : Bit) → bit on (get_or xs i d) ≡ get_or (bits on xs) i (bit on d)
bit_at on i [] d = refl
bit_at on zero (x ∷ xs) d = refl
bit_at on (suc i) (x ∷ xs) d = bit_at on i xs d
