-- Who gives the wires of values.
use Rattle.std.proofs.Common.{◌≡◌, ℕ, zero, suc, ◌+◌, false, List, [], ◌∷◌, ◌++◌, ◌<◌, length, drop, replicate, append_assoc, refl, sym, ap, ap₂, ◌∙◌, arith}
use Rattle.std.specs.Prelude.{nat_eq, map, count_by, slice_index_or, if◌then◌else◌}
use Rattle.std.proofs.lemmas.Bool.{or_parts, false≢true}
use Rattle.std.proofs.lemmas.List.{drop_more, get_or-map, length-map, map-append, map_push, replicate_more}
use Rattle.list_laws.specs.Lists.{listed, total}
use Rattle.list_laws.proofs.Totals.{total_count, total_eq}
use Rattle.session_slots.specs.declared.source.Source.{Source}
use Rattle.session_slots.specs.declared.source.Source.TheVariants.{Given, Earlier}
use Rattle.session_slots.specs.declared.values.InputValue.{InputValue}
use Rattle.session_slots.specs.declared.values.Owner.{Owner}
use Rattle.session_slots.specs.declared.values.Owner.TheVariants.{Party, Carried}
use Rattle.session_slots.specs.Sessions.{given_by, giver, is_carried, owners_of, source_from}
use Rattle.session_slots.specs.Wirings.{some_carried}

-- ---- who gives the wires of values

-- one party gives all wires of a value
one_giver : (owner : Owner) (i : ℕ) → giver (source_from owner i) ≡ giver (source_from owner 0)
one_giver (Party p) i = refl
one_giver (Carried r c) i = refl

pub givers_of_value : (owner : Owner) (n : ℕ) → map giver (listed n (source_from owner)) ≡ replicate n (giver (source_from owner 0))
givers_of_value owner zero = refl
givers_of_value owner (suc n) =
    let here = giver (source_from owner 0) in
    let next : n + 1 ≡ suc n = omega arith in
    map_push giver (listed n (source_from owner)) (source_from owner n)
    ∙ ap₂ (λ xs x. xs ++ x ∷ []) (givers_of_value owner n) (one_giver owner n)
    ∙ replicate_more n here
    ∙ ap (λ k. replicate k here) next

-- the givers of the next value in a list
pub next_givers : (inputs : List InputValue) (i : ℕ) (d : InputValue) (list new : List ℕ) (g : ℕ) → i < length inputs → g ≡ giver (source_from (slice_index_or inputs i d).owner 0)
    → new ≡ list ++ replicate (slice_index_or inputs i d).width g → list ++ map giver (owners_of (drop i inputs)) ≡ map giver (owners_of inputs) → new ++ map giver (owners_of (drop (i + 1) inputs)) ≡ map giver (owners_of inputs)
next_givers inputs i d list new g l is more whole =
    let value = slice_index_or inputs i d in
    let rest = drop (i + 1) inputs in
    let here = listed value.width (source_from value.owner) in
    let now : map giver here ≡ replicate value.width g = givers_of_value value.owner value.width ∙ ap (replicate value.width) (sym is) in
    ap (λ xs. xs ++ map giver (owners_of rest)) (more ∙ ap (λ xs. list ++ xs) (sym now))
    ∙ append_assoc list (map giver here) (map giver (owners_of rest))
    ∙ ap (λ xs. list ++ xs) (sym (map-append giver here (owners_of rest)))
    ∙ ap (λ values. list ++ map giver (owners_of values)) (sym (drop_more inputs i d l))
    ∙ whole

-- sources of which none is carried are those of their givers
abbrev given_all : List Source → Type 0
given_all sources = sources ≡ map (λ (p : ℕ). Given p) (map giver sources)

value_given : (owner : Owner) (n : ℕ) → is_carried (source_from owner 0) ≡ false → given_all (listed n (source_from owner))
value_given (Carried r c) n e = absurd (false≢true (sym e))
value_given (Party p) zero e = refl
value_given (Party p) (suc n) e =
    let given = λ (p : ℕ). Given p in
    let before = listed n (source_from (Party p)) in
    ap (λ xs. xs ++ Given p ∷ []) (value_given (Party p) n e)
    ∙ sym (map_push given (map giver before) p)
    ∙ ap (map given) (sym (map_push giver before (Given p)))

pub values_given : (values : List InputValue) → some_carried values ≡ false → given_all (owners_of values)
values_given [] e = refl
values_given (value ∷ values) e =
    let given = λ (p : ℕ). Given p in
    let here = listed value.width (source_from value.owner) in
    let more = owners_of values in
    let parts = or_parts (is_carried (source_from value.owner 0)) (some_carried values) e in
    ap₂ (λ xs ys. xs ++ ys) (value_given value.owner value.width parts.0) (values_given values parts.1)
    ∙ sym (map-append given (map giver here) (map giver more))
    ∙ ap (map given) (sym (map-append giver here more))

-- as many wires as p gives
pub count_given : (p : ℕ) (givers : List ℕ) → count_by (λ q. nat_eq q p) givers ≡ count_by (given_by p) (map (λ (q : ℕ). Given q) givers)
count_given p givers =
    let given = λ (q : ℕ). Given q in
    let sources = map given givers in
    sym (total_count (λ q. nat_eq q p) givers 0)
    ∙ total_eq (length givers) _ _ (λ i l. ap (λ (from : Source). if given_by p from then 1 else 0) (sym (get_or-map given givers i 0 (Given 0) l)))
    ∙ ap (λ n. total n (λ i. if given_by p (slice_index_or sources i (Given 0)) then 1 else 0)) (sym (length-map givers given))
    ∙ total_count (given_by p) sources (Given 0)

pub given_is : (from : Source) → is_carried from ≡ false → from ≡ Given (giver from)
given_is (Given p) e = refl
given_is (Earlier r c i) e = absurd (false≢true (sym e))
