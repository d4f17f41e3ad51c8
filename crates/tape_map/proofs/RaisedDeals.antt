-- A deal whose value and whose hidden word grow alike.
use Rattle.std.proofs.Common.{◌≡◌, ℕ, suc, ◌+◌, ◌-◌, ◌*◌, ◌%◌, ◌<◌, ◌≢◌, true, false, nat_eq, if◌then◌else◌, refl, sym, ap, ap₂, ◌∙◌, subst, arith}
use Rattle.std.proofs.lemmas.Bool.{cases_eq, cases_lt, cond-true, cond-false, eq-eqb, ne_eqb, both_ways}
use Rattle.std.proofs.Math.Nat.{mod-eq_of_lt, mod-lt}
use mathlib.Core.Logic.{inl, inr}
use Rattle.list_laws.specs.Lists.{total}
use Rattle.list_laws.proofs.Totals.{total_one}
use Rattle.mpc_ring.specs.Differences.{difference}
use Rattle.mpc_ring.proofs.Remainders.{Same, same_refl, same_add, same_sym, same_trans, same_mod, same_difference, same_cancel, mods_of_same}
use Rattle.secret_sharing.specs.Schemes.{Scheme, IsScheme, dealt, own_product}
use Rattle.secret_sharing.proofs.SummandSums.{dealt_word, dealt_last}
use Rattle.secret_sharing.proofs.Agreement.{own_same}
use Rattle.tape_map.specs.TapeMaps.{raised}

pub small_same : (q : ℕ) {a b : ℕ} → a < q → b < q → Same q a b → a ≡ b
small_same q {a} {b} la lb h = sym (mod-eq_of_lt la) ∙ mods_of_same h ∙ mod-eq_of_lt lb

-- ---- what is raised

pub raised_here : (q g d : ℕ) (x : ℕ → ℕ) (i : ℕ) → i ≡ g → raised q g d x i ≡ (x i + d) % q
raised_here q g d x i e = cond-true (nat_eq i g) _ (x i) (eq-eqb i g e)

pub raised_other : (q g d : ℕ) (x : ℕ → ℕ) (i : ℕ) → i ≢ g → raised q g d x i ≡ x i
raised_other q g d x i ne = cond-false (nat_eq i g) _ (x i) (ne_eqb i g ne)

pub raised_small : (q g d : ℕ) (x : ℕ → ℕ) (i : ℕ) → 0 < q → x i < q → raised q g d x i < q
raised_small q g d x i positive l = elim (cases_eq i g) [
  | inl e ↦ subst (λ z. z < q) (sym (raised_here q g d x i e)) (mod-lt (x i + d) positive)
  | inr ne ↦ subst (λ z. z < q) (sym (raised_other q g d x i ne)) l
]

pub raised_eq : (q g d d' : ℕ) (x x' : ℕ → ℕ) (i : ℕ) → d ≡ d' → x i ≡ x' i → raised q g d x i ≡ raised q g d' x' i
raised_eq q g d d' x x' i e f = ap₂ (λ d z. if nat_eq i g then (z + d) % q else z) e f

-- what was raised is lowered again
pub raised_back : (q g old new : ℕ) (words : ℕ → ℕ) (i : ℕ) → 0 < q → words i < q
    → raised q g (difference q old new) (raised q g (difference q new old) words) i ≡ words i
raised_back q g old new words i positive l = elim (cases_eq i g) [
  | inl e ↦
      let d = difference q new old in
      let b = difference q old new in
      let nothing : Same q (d + b) 0 =
      same_cancel (old + new)
      (same_trans (same_refl q _ (d + old + (b + new)) (omega arith))
      (same_trans (same_add (same_difference q new old positive) (same_difference q old new positive))
      (same_refl q _ (0 + (old + new)) (omega arith)))) in
      let sum : Same q ((words i + d) % q + b) (words i) =
      same_trans (same_add (same_mod q (words i + d)) (same_refl q b _ refl))
      (same_trans (same_refl q _ (words i + (d + b)) (omega arith))
      (same_trans (same_add (same_refl q (words i) _ refl) nothing) (same_refl q _ _ (omega arith)))) in
      raised_here q g b (raised q g d words) i e
      ∙ ap (λ z. (z + b) % q) (raised_here q g d words i e)
      ∙ mods_of_same sum ∙ mod-eq_of_lt l
  | inr ne ↦ raised_other q g _ (raised q g (difference q new old) words) i ne ∙ raised_other q g _ words i ne
]

-- ---- one deal

-- the words grow by d in all
total_raised : (q g d k : ℕ) (words : ℕ → ℕ) → g < k → Same q (total k (raised q g d words)) (total k words + d)
total_raised q g d k words lg =
    let more = raised q g d words in
    let one : total k more + words g ≡ total k words + more g =
    total_one k g more words lg (λ j lj nj. raised_other q g d words j nj) in
    let here : Same q (more g) (words g + d) =
    same_trans (same_refl q _ _ (raised_here q g d words g refl)) (same_mod q (words g + d)) in
    same_cancel (words g)
    (same_trans (same_refl q _ _ one)
    (same_trans (same_add (same_refl q (total k words) _ refl) here)
    (same_refl q _ (total k words + d + words g) (omega arith))))

-- what is missing to the value stays, where value and words grow alike
same_missing : (q old new a b : ℕ) → 0 < q → Same q b (a + difference q new old) → difference q new b ≡ difference q old a
same_missing q old new a b positive grown =
    let d = difference q new old in
    let right : Same q (difference q old a + b) new =
    same_trans (same_add (same_refl q (difference q old a) _ refl) grown)
    (same_trans (same_refl q _ (difference q old a + a + d) (omega arith))
    (same_trans (same_add (same_difference q old a positive) (same_refl q d _ refl))
    (same_trans (same_refl q _ (d + old) (omega arith)) (same_difference q new old positive)))) in
    small_same q (mod-lt _ positive) (mod-lt _ positive)
    (same_cancel b (same_trans (same_difference q new b positive) (same_sym right)))

-- all summands but the raised one stay, the last too
pub raised_deal : (s : Scheme) → IsScheme s → (g old new : ℕ) (words : ℕ → ℕ) (i : ℕ) → g < s.shares → i < s.shares → i ≢ g
    → dealt s new (raised s.modulus g (difference s.modulus new old) words) i ≡ dealt s old words i
raised_deal s h g old new words i lg li ne =
    let more = raised s.modulus g (difference s.modulus new old) words in
    elim (cases_lt (suc i) s.shares) [
      | inl l ↦ dealt_word s new more i l ∙ raised_other s.modulus g _ words i ne ∙ sym (dealt_word s old words i l)
      | inr l ↦ dealt_last s new more i l
          ∙ same_missing s.modulus old new _ _ (omega (arith, h.modulus)) (total_raised s.modulus g _ (s.shares - 1) words (omega arith))
          ∙ sym (dealt_last s old words i l)
    ]

-- ---- one product

-- x and y have the same summands, but for summand g
abbrev pub SameBut : Scheme → ℕ → (ℕ → ℕ) → (ℕ → ℕ) → Type 0
SameBut s g x y = (i : ℕ) → i < s.shares → i ≢ g → x i ≡ y i

-- a party that lacks summand g forms the same product of wires that differ in it alone
pub member_own : (s : Scheme) → IsScheme s → (g p : ℕ) (x y x' y' : ℕ → ℕ) → s.holds p g ≡ false → SameBut s g x x' → SameBut s g y y'
    → own_product s p x y ≡ own_product s p x' y'
member_own s h g p x y x' y' lacks sx sy =
    own_same s p x y x' y' (λ i j li lj e. same_refl s.modulus _ _ (ap₂ (λ a b. a * b)
    (sx i li (not_lacked i (subst (λ z. s.holds z i ≡ true) e (h.first i j li lj))))
    (sy j lj (not_lacked j (subst (λ z. s.holds z j ≡ true) e (h.second i j li lj))))))
  where
    not_lacked : (i : ℕ) → s.holds p i ≡ true → i ≢ g
    not_lacked i has e = both_ways (s.holds p g) lacks (subst (λ z. s.holds p z ≡ true) e has)

-- ---- one wire

-- where all other summands agree, the hidden one differs as the values do
pub hidden_differs : (q m g v v' : ℕ) (x x' : ℕ → ℕ) → 0 < q → g < m → ((i : ℕ) → i < m → i ≢ g → x' i ≡ x i)
    → Same q (total m x) v → Same q (total m x') v' → Same q (x' g) (x g + difference q v' v)
hidden_differs q m g v v' x x' positive lg others sv sv' =
    let one : total m x' + x g ≡ total m x + x' g = total_one m g x' x lg others in
    let d = difference q v' v in
    same_cancel v
    (same_trans (same_add (same_refl q (x' g) _ refl) (same_sym sv))
    (same_trans (same_refl q _ (total m x' + x g) (omega (arith, one)))
    (same_trans (same_add sv' (same_refl q (x g) _ refl))
    (same_trans (same_add (same_sym (same_difference q v' v positive)) (same_refl q (x g) _ refl))
    (same_refl q _ (x g + d + v) (omega arith))))))

-- what one number has more than another stays where both grow by d
pub grown_alike : (q d a b a' b' : ℕ) → 0 < q → Same q a' (a + d) → Same q b' (b + d) → difference q a' b' ≡ difference q a b
grown_alike q d a b a' b' positive sa sb =
    let left : Same q (difference q a' b' + (b + d)) (a + d) =
    same_trans (same_add (same_refl q (difference q a' b') _ refl) (same_sym sb)) (same_trans (same_difference q a' b' positive) sa) in
    let right : Same q (difference q a b + (b + d)) (a + d) =
    same_trans (same_refl q _ (difference q a b + b + d) (omega arith)) (same_add (same_difference q a b positive) (same_refl q d _ refl)) in
    small_same q (mod-lt (a' + (q - b' % q)) positive) (mod-lt (a + (q - b % q)) positive) (same_cancel (b + d) (same_trans left (same_sym right)))

-- so the summands that are raised by that difference are those of the other wire
pub raised_same : (q m g v v' : ℕ) (x x' : ℕ → ℕ) → 0 < q → g < m → ((i : ℕ) → i < m → i ≢ g → x' i ≡ x i)
    → Same q (total m x) v → Same q (total m x') v' → (i : ℕ) → i < m → Same q (raised q g (difference q v' v) x i) (x' i)
raised_same q m g v v' x x' positive lg others sv sv' i li = elim (cases_eq i g) [
  | inl e ↦
      same_trans (same_refl q _ _ (raised_here q g _ x i e))
      (same_trans (same_mod q (x i + difference q v' v))
      (subst (λ z. Same q (x z + difference q v' v) (x' z)) (sym e) (same_sym (hidden_differs q m g v v' x x' positive lg others sv sv'))))
  | inr ne ↦ same_refl q _ _ (raised_other q g _ x i ne ∙ sym (others i li ne))
]
