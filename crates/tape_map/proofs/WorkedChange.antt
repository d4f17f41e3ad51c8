-- The worked job of one product: what can be hidden in it, and what can't.
use Rattle.std.proofs.Common.{◌≡◌, ℕ, zero, suc, ◌+◌, ◌-◌, ◌%◌, ◌<◌, true, false, List, [], ◌∷◌, length, refl, sym, ap, ap₂, ◌∙◌, arith}
use Rattle.std.specs.Prelude.{slice_index, slice_index_or, if◌then◌else◌}
use Rattle.std.proofs.lemmas.Bool.{both_ways}
use Rattle.list_laws.specs.Lists.{total}
use Rattle.party_set.specs.Parties.{has_party}
use Rattle.plan_model.specs.InputWords.{AreInputs, given}
use Rattle.plan_model.specs.declared.key.Key.{Key}
use Rattle.plan_model.specs.Multiply.{multiply_plan}
use Rattle.plan_model.specs.Numbers.{no_key}
use Rattle.session_slots.specs.Sessions.{owners, source, readers, output_wire, slot_list}
use Rattle.plan_model.specs.Plans.{session, gives, reads}
use Rattle.share_world.specs.Multiply.{multiply_world}
use Rattle.share_world.specs.Worlds.{input_of, plain}
use Rattle.share_world.proofs.WorkedProduct.{whole_is}
use Rattle.tape_map.specs.TapeMaps.{member_gives, with_inputs}
use Rattle.tape_map.specs.Multiply.{given_by, HiddenFromNobody, CanHideFromA, HiddenFromA, SecondPlain, CanHideFromC, HiddenFromC, SeenByBoth}

pub hidden_from_nobody : HiddenFromNobody
hidden_from_nobody = refl

pub hidden_from_a : HiddenFromA
unfolding slot_list
hidden_from_a = refl

pub second_plain : SecondPlain
second_plain = refl

pub hidden_from_c : HiddenFromC
unfolding slot_list
hidden_from_c = refl

-- ---- the premises hold

are_inputs : (a b : ℕ) → a < 256 → b < 256 → AreInputs (multiply_plan 8) (given_by a b)
are_inputs a b la lb = record { parties = refl; sessions = sessions; counts = counts; below = below }
  where
    sessions : (p : ℕ) → p < 3 → length (slice_index_or (given_by a b) p []) ≡ 1
    sessions zero l = refl
    sessions (suc zero) l = refl
    sessions (suc (suc zero)) l = refl
    sessions (suc (suc (suc p))) l = absurd (omega arith)

    counts : (p s : ℕ) → p < 3 → s < 1
        → length (given (given_by a b) p s) ≡ total (length (owners (session (multiply_plan 8) s))) (λ v. if gives (multiply_plan 8) s p v then 1 else 0)
    counts zero zero lp ls = refl
    counts (suc zero) zero lp ls = refl
    counts (suc (suc zero)) zero lp ls = refl
    counts (suc (suc (suc p))) zero lp ls = absurd (omega arith)
    counts p (suc s) lp ls = absurd (omega arith)

    one_small : (x : ℕ) → x < 256 → (s k : ℕ) → slice_index (slice_index_or ((x ∷ []) ∷ []) s []) k < 256
    one_small x l zero zero = l
    one_small x l zero (suc k) = omega arith
    one_small x l (suc s) k = omega arith

    none_small : (s k : ℕ) → slice_index (slice_index_or ([] ∷ []) s []) k < 256
    none_small zero k = omega arith
    none_small (suc s) k = omega arith

    below : (p s k : ℕ) → slice_index (given (given_by a b) p s) k < 256
    below zero s k = one_small a la s k
    below (suc zero) s k = one_small b lb s k
    below (suc (suc zero)) s k = none_small s k
    below (suc (suc (suc p))) s k = omega arith

pub can_hide_from_a : CanHideFromA
can_hide_from_a = record {
  whole = whole_is;
  others = are_inputs 5 9 (omega arith) (omega arith);
  tolerated = (0, omega arith, refl);
  agree = record { inputs = inputs; outputs = outputs };
}
  where
    inputs : (s v : ℕ) → v < length (owners (session (multiply_plan 8) s)) → member_gives 1 (source (session (multiply_plan 8) s) v) ≡ true
        → input_of (with_inputs multiply_world (given_by 5 9)) s v ≡ input_of multiply_world s v
    inputs zero zero l e = refl
    inputs zero (suc zero) l e = absurd (both_ways false refl e)
    inputs zero (suc (suc v)) l e = absurd (omega arith)
    inputs (suc s) v l e = absurd (omega arith)

    outputs : (s o r : ℕ) → o < length (readers (session (multiply_plan 8) s)) → r < 3 → has_party 1 r ≡ true → reads (multiply_plan 8) r s o ≡ true
        → plain (with_inputs multiply_world (given_by 5 9)) s (output_wire (session (multiply_plan 8) s) o)
        ≡ plain multiply_world s (output_wire (session (multiply_plan 8) s) o)
    outputs zero zero zero l lr member read = absurd (both_ways false refl read)
    outputs zero zero (suc zero) l lr member read = absurd (both_ways false refl member)
    outputs zero zero (suc (suc zero)) l lr member read = absurd (both_ways false refl member)
    outputs zero zero (suc (suc (suc r))) l lr member read = absurd (omega arith)
    outputs zero (suc o) r l lr member read = absurd (omega arith)
    outputs (suc s) o r l lr member read = absurd (omega arith)

pub can_hide_from_c : CanHideFromC
can_hide_from_c = record {
  whole = whole_is;
  others = are_inputs 35 1 (omega arith) (omega arith);
  tolerated = (2, omega arith, refl);
  agree = record { inputs = inputs; outputs = outputs };
}
  where
    inputs : (s v : ℕ) → v < length (owners (session (multiply_plan 8) s)) → member_gives 4 (source (session (multiply_plan 8) s) v) ≡ true
        → input_of (with_inputs multiply_world (given_by 35 1)) s v ≡ input_of multiply_world s v
    inputs zero zero l e = absurd (both_ways false refl e)
    inputs zero (suc zero) l e = absurd (both_ways false refl e)
    inputs zero (suc (suc v)) l e = absurd (omega arith)
    inputs (suc s) v l e = absurd (omega arith)

    outputs : (s o r : ℕ) → o < length (readers (session (multiply_plan 8) s)) → r < 3 → has_party 4 r ≡ true → reads (multiply_plan 8) r s o ≡ true
        → plain (with_inputs multiply_world (given_by 35 1)) s (output_wire (session (multiply_plan 8) s) o)
        ≡ plain multiply_world s (output_wire (session (multiply_plan 8) s) o)
    outputs zero zero r l lr member read = refl
    outputs zero (suc o) r l lr member read = absurd (omega arith)
    outputs (suc s) o r l lr member read = absurd (omega arith)

-- ---- two parties together

-- they have all three summands of what b deals: c the first two, a the last two
pub seen_by_both : SeenByBoth
unfolding slot_list
seen_by_both tapes e =
    let words : ℕ → ℕ = slice_index (slice_index_or tapes 1 []) in
    let seen : ℕ → List (Key × ℕ) → ℕ = λ n v. (slice_index_or v n (no_key, 0)).1 in
    let missing : ℕ → ℕ → ℕ = λ x y. (9 + (256 - (0 + x + y) % 256)) % 256 in
    let first : words 0 ≡ 30 = ap (seen 4) e in
    let second : words 1 ≡ 40 = ap (seen 5) e in
    let last : missing (words 0) (words 1) ≡ 193 = ap (seen 7) e in
    let other : 195 ≡ 193 = sym (ap₂ missing first second) ∙ last in
    absurd (omega (arith, other))
