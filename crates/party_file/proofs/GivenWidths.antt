-- The widths of the values that a party gives.
use Rattle.std.proofs.Common.{◌≡◌, ℕ, zero, suc, ◌+◌, ◌*◌, ◌<◌, Bool, true, false, cond, List, [], ◌∷◌, length, map, refl, sym, ◌∙◌, ap, ap₂, arith}
use Rattle.std.specs.Prelude.{count_by, slice_index, slice_index_or, sum}
use Rattle.std.specs.List.{filter}
use Rattle.std.proofs.lemmas.List.Sums.{sum_by-append, sum_by-cons}
use Rattle.list_laws.specs.Lists.{total, listed}
use Rattle.list_laws.proofs.JoinedLists.{length-joined, length-listed}
use Rattle.list_laws.proofs.Totals.{total_eq}
use Rattle.session_slots.specs.declared.source.Source.{Source}
use Rattle.session_slots.specs.declared.values.InputValue.{InputValue}
use Rattle.session_slots.specs.declared.values.Owner.{Owner}
use Rattle.session_slots.specs.declared.values.Owner.TheVariants.{Party, Carried}
use Rattle.session_slots.specs.Counts.{owned}
use Rattle.session_slots.specs.Sessions.{Session, given_by, owners_of, source_from}
use Rattle.party_file.specs.Table.{given_widths, gives_value, number_widths}

pub any_place : (xs : List ℕ) (k d : ℕ) → k < length xs → slice_index_or xs k d ≡ slice_index xs k
any_place [] k d l = absurd (omega arith)
any_place (x ∷ xs) zero d l = refl
any_place (x ∷ xs) (suc k) d l = any_place xs k d (omega arith)

-- all wires of a value are given by one party
one_giver : (p : ℕ) (owner : Owner) (i : ℕ) → given_by p (source_from owner i) ≡ given_by p (source_from owner 0)
one_giver p (Party q) i = refl
one_giver p (Carried r c) i = refl

given_wires : (p : ℕ) (owner : Owner) (n : ℕ) → count_by (given_by p) (listed n (source_from owner)) ≡ cond (given_by p (source_from owner 0)) n 0
given_wires p owner n = go (given_by p (source_from owner 0)) n (λ i. one_giver p owner i)
  where
    worth : Source → ℕ
    worth from = cond (given_by p from) 1 0

    one_is : (b : Bool) (from : Source) → given_by p from ≡ b → count_by (given_by p) (from ∷ []) ≡ cond b 1 0
    one_is b from e = (let k : 0 + worth from ≡ worth from = omega arith in k) ∙ ap (λ (x : Bool). cond {A = ℕ} x 1 0) e

    go : (b : Bool) (n : ℕ) → ((i : ℕ) → given_by p (source_from owner i) ≡ b) → count_by (given_by p) (listed n (source_from owner)) ≡ cond b n 0
    go true zero same = refl
    go false zero same = refl
    go true (suc n) same =
        sum_by-append worth (listed n (source_from owner)) (source_from owner n ∷ []) ∙ ap₂ (λ x y. x + y) (go true n same) (one_is true (source_from owner n) (same n)) ∙ (let k : n + 1 ≡ suc n = omega arith in k)
    go false (suc n) same =
        sum_by-append worth (listed n (source_from owner)) (source_from owner n ∷ []) ∙ ap₂ (λ x y. x + y) (go false n same) (one_is false (source_from owner n) (same n))

sum_widths : (p : ℕ) (vs : List InputValue) → sum (map (λ (v : InputValue). v.width) (filter (gives_value p) vs)) ≡ count_by (given_by p) (owners_of vs)
sum_widths p [] = refl
sum_widths p (v ∷ vs) = go (gives_value p v) ∙ ap₂ (λ x y. x + y) (sym (given_wires p v.owner v.width)) (sum_widths p vs) ∙ sym (sum_by-append (λ from. cond (given_by p from) 1 0) (listed v.width (source_from v.owner)) (owners_of vs))
  where
    rest : List InputValue
    rest = filter (gives_value p) vs

    go : (b : Bool) → sum (map (λ (v : InputValue). v.width) (cond b (v ∷ rest) rest)) ≡ cond b v.width 0 + sum (map (λ (v : InputValue). v.width) rest)
    go true = sum_by-cons (λ x. x) v.width (map (λ (v : InputValue). v.width) rest)
    go false = let k : sum (map (λ (v : InputValue). v.width) rest) ≡ 0 + sum (map (λ (v : InputValue). v.width) rest) = omega arith in k

-- the values that a party gives have as many wires as it gives
pub widths_sum : (s : Session) (p : ℕ) → sum (given_widths s p) ≡ owned s p
widths_sum s p = sum_widths p s.inputs

-- so many equal numbers
pub total_same : (n a : ℕ) → total n (λ v. a) ≡ n * a
total_same zero a = omega arith
total_same (suc n) a = ap (λ z. z + a) (total_same n a) ∙ (let k : n * a + a ≡ suc n * a = omega arith in k)

-- there is a width for each value and lane
pub number_widths_long : (lanes : ℕ) (widths : List ℕ) → length (number_widths lanes widths) ≡ length widths * lanes
number_widths_long lanes widths =
    length-joined (length widths) (λ value. listed lanes (λ lane. slice_index widths value))
    ∙ total_eq (length widths) _ (λ value. lanes) (λ value l. length-listed lanes (λ lane. slice_index widths value))
    ∙ total_same (length widths) lanes
