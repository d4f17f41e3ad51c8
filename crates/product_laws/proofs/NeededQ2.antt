-- Products need Q2.
use Rattle.std.proofs.Common.{◌≡◌, ℕ, ◌+◌, ◌*◌, ◌%◌, ◌^◌, ◌<◌, inl, inr, Bool, true, false, not, ◌&&◌, ◌||◌, nat_eq, if◌then◌else◌, length, refl, sym, ◌∙◌, ap, subst, ap₂, arith, ne_eqb, eqb-true, zero-add}
use Rattle.std.specs.Prelude.{slice_index, List}
use Rattle.std.specs.List.{range_with_len}
use Rattle.std.proofs.lemmas.Bool.{cond-true, cond-false, cases_eq, cases_Bool, and_parts}
use Rattle.std.proofs.lemmas.Nat.{mod-mul-add}
use Rattle.std.proofs.lemmas.List.FromFn.{length-range_with_len, get_or-range_with_len}
use Rattle.std.proofs.lemmas.List.Sums.{passes_at_first}
use Rattle.std.proofs.Math.Pow.{pow-lt}
use Rattle.list_laws.specs.Lists.{total}
use Rattle.list_laws.proofs.Totals.{total_eq, total_zero, total_pick, total_add, total_swap, total_mul, total_mul_left}
use Rattle.mpc_ring.proofs.Remainders.{Same, same_refl, same_sym, same_trans, same_add, same_of_mods, mods_of_same}
use Rattle.party_set.specs.Parties.{Structure, IsQ2, has_party, covers}
use Rattle.party_set.proofs.EveryNumber.{every_at}
use Rattle.share_layout.specs.Layouts.{holds, least_party}
use Rattle.secret_sharing.specs.Duties.{duty}
use Rattle.product_laws.specs.NeededQ2.{NobodyHoldsBoth, EachHasParty, Q2IsDuty, pair_products, PairsNeedQ2, DutiesMultiply, IsLocal, MakeProducts, ProductsNeedQ2}
use Rattle.secret_sharing.proofs.PairDuties.{duty_holds}

-- ---- who holds both

lacks_one : (a b : Bool) → (a || b) ≡ true → (not a && not b) ≡ false
lacks_one true b e = refl
lacks_one false true e = refl
lacks_one false false e = cc

-- where two groups are all parties, each party lacks a summand of the two
nobody : (s : Structure) (i j : ℕ) → covers s.parties (slice_index s.groups i) (slice_index s.groups j) ≡ true
    → (p : ℕ) → p < s.parties → (holds s p i && holds s p j) ≡ false
nobody s i j all p lp =
    lacks_one (has_party (slice_index s.groups i) p) (has_party (slice_index s.groups j) p)
    (every_at s.parties (λ p. has_party (slice_index s.groups i) p || has_party (slice_index s.groups j) p) all p lp)

pub nobody_holds_both : (s : Structure) → NobodyHoldsBoth s
nobody_holds_both s i j first p lp = nobody s i j first.covering p lp

-- a least party that is there passes
there_passes : (s : Structure) (test : ℕ → Bool) → least_party s test < s.parties → test (least_party s test) ≡ true
there_passes s test l =
    let range : List ℕ = range_with_len 0 s.parties in
    let at : slice_index range (least_party s test) ≡ least_party s test = get_or-range_with_len 0 s.parties (least_party s test) 0 l ∙ zero-add (least_party s test) in
    ap test (sym at) ∙ passes_at_first test range 0 (omega (arith, l, length-range_with_len 0 s.parties))

from_parties : (s : Structure) → EachHasParty s → IsQ2 s
from_parties s each = record {
  no_cover = λ i j li lj. elim (cases_Bool (covers s.parties (slice_index s.groups i) (slice_index s.groups j))) [
    | inl yes' ↦
        let none : (holds s (duty s i j) i && holds s (duty s i j) j) ≡ false = nobody s i j yes' (duty s i j) (each i j li lj) in
        let some : (holds s (duty s i j) i && holds s (duty s i j) j) ≡ true = there_passes s (λ p. holds s p i && holds s p j) (each i j li lj) in
        absurd cc
    | inr no' ↦ no'
  ];
}

pub q2_is_duty : (s : Structure) → Q2IsDuty s
q2_is_duty s = ((λ q2 i j li lj. (duty_holds s q2 i j li lj).party), from_parties s)

-- ---- two values of one summand each

-- 1 at place d, and 0 elsewhere
abbrev unit : ℕ → ℕ → ℕ
unit d k = if nat_eq d k then 1 else 0

abbrev none : ℕ → ℕ
none k = 0

unseen : (s : Structure) (p d k : ℕ) → holds s p d ≡ false → holds s p k ≡ true → unit d k ≡ none k
unseen s p d k lacks has = elim (cases_eq d k) [
  | inl e ↦ let same : holds s p d ≡ holds s p k = ap (holds s p) e in absurd cc
  | inr ne ↦ cond-false (nat_eq d k) 1 0 (ne_eqb d k ne)
]

-- a party that lacks one of the two can't tell whether both are there
tells_nothing : (s : Structure) (i j p : ℕ) (make : (ℕ → ℕ) → (ℕ → ℕ) → ℕ) → IsLocal s p make → (holds s p i && holds s p j) ≡ false
    → make (unit i) (unit j) + make none none ≡ make none (unit j) + make (unit i) none
tells_nothing s i j p make local lacks = elim (cases_Bool (holds s p i)) [
  | inl yes' ↦
      let other : holds s p j ≡ false = cc in
      let above : make (unit i) (unit j) ≡ make (unit i) none = local (unit i) (unit j) (unit i) none (λ k lk has. (refl, unseen s p j k other has)) in
      let below : make none (unit j) ≡ make none none = local none (unit j) none none (λ k lk has. (refl, unseen s p j k other has)) in
      omega (arith, above, below)
  | inr no' ↦
      let above : make (unit i) (unit j) ≡ make none (unit j) = local (unit i) (unit j) none (unit j) (λ k lk has. (unseen s p i k no' has, refl)) in
      let below : make (unit i) none ≡ make none none = local (unit i) none none none (λ k lk has. (unseen s p i k no' has, refl)) in
      omega (arith, above, below)
]

-- so a product of two such values can't come of what the parties make
module _ (bits : ℕ) (s : Structure) (make : ℕ → (ℕ → ℕ) → (ℕ → ℕ) → ℕ) (some : 0 < bits) (h : MakeProducts bits s make) (i j : ℕ)
    (li : i < length s.groups) (lj : j < length s.groups)
    (all : covers s.parties (slice_index s.groups i) (slice_index s.groups j) ≡ true) where
  abbrev made : (ℕ → ℕ) → (ℕ → ℕ) → ℕ
  made x y = total s.parties (λ p. make p x y)

  sums : made (unit i) (unit j) + made none none ≡ made none (unit j) + made (unit i) none
  sums =
      sym (total_add s.parties (λ p. make p (unit i) (unit j)) (λ p. make p none none))
      ∙ total_eq s.parties _ _ (λ p lp. tells_nothing s i j p (make p) (h.local p lp) (nobody s i j all p lp))
      ∙ total_add s.parties (λ p. make p none (unit j)) (λ p. make p (unit i) none)

  one : (d : ℕ) → d < length s.groups → total (length s.groups) (unit d) ≡ 1
  one d ld = total_pick (length s.groups) d 1 ld

  nothing : total (length s.groups) none ≡ 0
  nothing = total_zero (length s.groups) none (λ k lk. refl)

  is_product : (x y : ℕ → ℕ) (a b : ℕ) → total (length s.groups) x ≡ a → total (length s.groups) y ≡ b → Same (2 ^ bits) (made x y) (a * b)
  is_product x y a b ea eb =
      same_trans (same_of_mods (h.products x y)) (same_refl (2 ^ bits) _ (a * b) (ap₂ (λ (u v : ℕ). u * v) ea eb))

  -- 1 and 0 would be the same
  clash : Same (2 ^ bits) (1 * 1 + 0 * 0) (0 * 1 + 1 * 0)
  clash =
      same_trans
      (same_sym (same_add (is_product (unit i) (unit j) 1 1 (one i li) (one j lj)) (is_product none none 0 0 nothing nothing)))
      (same_trans (same_refl (2 ^ bits) _ _ sums)
      (same_add (is_product none (unit j) 0 1 nothing (one j lj)) (is_product (unit i) none 1 0 (one i li) nothing)))

  no_products : ⊥
  no_products =
      let two : 1 < 2 ^ bits = pow-lt {i = 0} {j = bits} some in
      let e : 1 % 2 ^ bits ≡ 0 % 2 ^ bits = mods_of_same clash in
      let left : 1 % 2 ^ bits ≡ 1 = ap (λ z. z % 2 ^ bits) (omega arith) ∙ mod-mul-add 0 (2 ^ bits) 1 two in
      let right : 0 % 2 ^ bits ≡ 0 = ap (λ z. z % 2 ^ bits) (omega arith) ∙ mod-mul-add 0 (2 ^ bits) 0 (omega (arith, two)) in
      omega (arith, e, left, right)

pub products_need : ProductsNeedQ2
products_need bits s make some h = record {
  no_cover = λ i j li lj. elim (cases_Bool (covers s.parties (slice_index s.groups i) (slice_index s.groups j))) [
    | inl yes' ↦ absurd (no_products bits s make some h i j li lj yes')
    | inr no' ↦ no'
  ];
}

-- ---- pairs

pairs_are_local : (s : Structure) (p : ℕ) (is_mine : ℕ → ℕ → Bool)
    → ((i j : ℕ) → i < length s.groups → j < length s.groups → is_mine i j ≡ true → (holds s p i && holds s p j) ≡ true)
    → IsLocal s p (pair_products s is_mine)
pairs_are_local s p is_mine own x y a b same =
    total_eq (length s.groups) _ _ (λ i li. total_eq (length s.groups) _ _ (λ j lj. elim (cases_Bool (is_mine i j)) [
      | inl yes' ↦
          let both = and_parts (holds s p i) (holds s p j) (own i j li lj yes') in
          cond-true (is_mine i j) (x i * y j) 0 yes' ∙ ap₂ (λ (u v : ℕ). u * v) (same i li both.0).0 (same j lj both.1).1
          ∙ sym (cond-true (is_mine i j) (a i * b j) 0 yes')
      | inr no' ↦ cond-false (is_mine i j) (x i * y j) 0 no' ∙ sym (cond-false (is_mine i j) (a i * b j) 0 no')
    ]))

pub pairs_need : PairsNeedQ2
pairs_need bits s is_given some h =
    products_need bits s (λ p. pair_products s (is_given p)) some (record {
      local = λ p lp. pairs_are_local s p (is_given p) (λ i j li lj. h.own p i j lp li lj);
      products = h.products;
    })

pub duties_multiply : DutiesMultiply
duties_multiply bits s q2 =
    let n = s.parties in
    let m = length s.groups in
    record {
      own = λ p i j lp li lj is. subst (λ q. (holds s q i && holds s q j) ≡ true) (eqb-true (duty s i j) p is) (duty_holds s q2 i j li lj).passes;
      products = λ x y.
          let term : ℕ → ℕ → ℕ → ℕ = λ p i j. if nat_eq (duty s i j) p then x i * y j else 0 in
          let swapped : total n (λ p. total m (λ i. total m (λ j. term p i j))) ≡ total m (λ i. total m (λ j. total n (λ p. term p i j))) =
          total_swap n m (λ p i. total m (λ j. term p i j)) ∙ total_eq m _ _ (λ i li. total_swap n m (λ p j. term p i j)) in
          let picked : total m (λ i. total m (λ j. total n (λ p. term p i j))) ≡ total m (λ i. x i * total m y) =
          total_eq m _ _ (λ i li. total_eq m _ _ (λ j lj. total_pick n (duty s i j) (x i * y j) (duty_holds s q2 i j li lj).party) ∙ total_mul_left m (x i) y) in
          ap (λ z. z % 2 ^ bits) (swapped ∙ picked ∙ total_mul m x (total m y));
    }
