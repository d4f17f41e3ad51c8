-- A formula stays true where more parties are, is false for nobody, and true for all.
use Rattle.std.specs.Prelude.{◌≡◌, ℕ, ◌+◌, ◌-◌, ◌^◌, ◌≤◌, ◌<◌, nat_eq, nat_le, Bool, true, false, not, ◌&&◌, ◌||◌, if◌then◌else◌, refl}
use Rattle.std.proofs.Common.{sym, ◌∙◌, ap, arith, subst, eq-eqb}
use Rattle.std.proofs.lemmas.Bool.{le-leb, leb-true, not_from_false, not-true, false_from_ne_true, and_from}
use Rattle.std.proofs.lemmas.Nat.Bits.{bit_at_ones, bit_at-zero}
use Rattle.list_laws.proofs.Tests.{or_true}
use Rattle.party_set.specs.Parties.{has_party}
use Rattle.party_set.proofs.EveryNumber.{every_at, implies_at}
use Rattle.maximal_groups.specs.Families.{IsClosed, IsFamily}
use Rattle.group_formula.specs.Trees.{Tree, Trees, Meaning, tree_count, value, true_ones, IsSoundTree, AreSound, is_tolerated}
use Rattle.group_formula.specs.Trees.Tree.{leaf, both, either, at_least}
use Rattle.group_formula.specs.Trees.Trees.{one_tree, more_trees}

or_keeps : (a b c d : Bool) → (a ≡ true → c ≡ true) → (b ≡ true → d ≡ true) → (a || b) ≡ true → (c || d) ≡ true
or_keeps true b c d f g e = ap (λ x. x || d) (f refl)
or_keeps false true c d f g e = ap (λ x. c || x) (g refl) ∙ or_true c
or_keeps false false c d f g e = cc

and_keeps : (a b c d : Bool) → (a ≡ true → c ≡ true) → (b ≡ true → d ≡ true) → (a && b) ≡ true → (c && d) ≡ true
and_keeps true b c d f g e = ap (λ x. x && d) (f refl) ∙ g e
and_keeps false b c d f g e = cc

more : (a b : Bool) (m n : ℕ) → (a ≡ true → b ≡ true) → m ≤ n → m + (if a then 1 else 0) ≤ n + (if b then 1 else 0)
more true b m n f l = let P : Bool → Type 0 = λ x. m + 1 ≤ n + (if x then 1 else 0) in subst P (sym (f refl)) (omega arith)
more false true m n f l = omega arith
more false false m n f l = omega arith

first : (a b : Bool) → (a ≡ true → b ≡ true) → (if a then 1 else 0) ≤ (if b then 1 else 0)
first a b f = omega (arith, more a b 0 0 f (omega arith))

-- more of n parties
abbrev pub Grows : ℕ → (ℕ → Bool) → (ℕ → Bool) → Type 0
Grows n g h = (p : ℕ) → p < n → g p ≡ true → h p ≡ true

mutual
  pub grows : (n : ℕ) (g h : ℕ → Bool) → Grows n g h → (t : Tree) → IsSoundTree n t → value g t ≡ true → value h t ≡ true
  grows n g h i (leaf p) s e = i p s e
  grows n g h i (both a b) s e = and_keeps (value g a) (value g b) (value h a) (value h b) (λ x. grows n g h i a s.0 x) (λ x. grows n g h i b s.1 x) e
  grows n g h i (either a b) s e = or_keeps (value g a) (value g b) (value h a) (value h b) (λ x. grows n g h i a s.0 x) (λ x. grows n g h i b s.1 x) e
  grows n g h i (at_least c ts) s e = le-leb c (true_ones h ts) (omega (arith, leb-true c (true_ones g ts) e, all_grow n g h i ts s.2))

  pub all_grow : (n : ℕ) (g h : ℕ → Bool) → Grows n g h → (ts : Trees) → AreSound n ts → true_ones g ts ≤ true_ones h ts
  all_grow n g h i (one_tree t) s = first (value g t) (value h t) (λ x. grows n g h i t s x)
  all_grow n g h i (more_trees ts t) s = more (value g t) (value h t) (true_ones g ts) (true_ones h ts) (λ x. grows n g h i t s.1 x) (all_grow n g h i ts s.0)

one_more : (b : Bool) (m k : ℕ) → b ≡ true → m ≡ k → m + (if b then 1 else 0) ≡ k + 1
one_more true m k e f = omega (arith, f)
one_more false m k e f = cc

none_more : (b : Bool) (m : ℕ) → b ≡ false → m ≡ 0 → m + (if b then 1 else 0) ≡ 0
none_more true m e f = cc
none_more false m e f = omega (arith, f)

mutual
  -- where all parties are
  pub true_for : (n : ℕ) (g : ℕ → Bool) → ((p : ℕ) → p < n → g p ≡ true) → (t : Tree) → IsSoundTree n t → value g t ≡ true
  true_for n g i (leaf p) s = i p s
  true_for n g i (both a b) s = and_from (value g a) (value g b) (true_for n g i a s.0) (true_for n g i b s.1)
  true_for n g i (either a b) s = ap (λ x. x || value g b) (true_for n g i a s.0)
  true_for n g i (at_least c ts) s = le-leb c (true_ones g ts) (omega (arith, s.1, all_true n g i ts s.2))

  pub all_true : (n : ℕ) (g : ℕ → Bool) → ((p : ℕ) → p < n → g p ≡ true) → (ts : Trees) → AreSound n ts → true_ones g ts ≡ tree_count ts
  all_true n g i (one_tree t) s = ap (λ b. if b then 1 else 0) (true_for n g i t s)
  all_true n g i (more_trees ts t) s = one_more (value g t) (true_ones g ts) (tree_count ts) (true_for n g i t s.1) (all_true n g i ts s.0)

mutual
  -- where nobody is
  pub false_for : (n : ℕ) (g : ℕ → Bool) → ((p : ℕ) → g p ≡ false) → (t : Tree) → IsSoundTree n t → value g t ≡ false
  false_for n g i (leaf p) s = i p
  false_for n g i (both a b) s = ap (λ x. x && value g b) (false_for n g i a s.0)
  false_for n g i (either a b) s = ap (λ x. x || value g b) (false_for n g i a s.0) ∙ false_for n g i b s.1
  false_for n g i (at_least c ts) s = false_from_ne_true (nat_le c (true_ones g ts)) (λ e. omega (arith, leb-true c (true_ones g ts) e, none_true n g i ts s.2, s.0))

  pub none_true : (n : ℕ) (g : ℕ → Bool) → ((p : ℕ) → g p ≡ false) → (ts : Trees) → AreSound n ts → true_ones g ts ≡ 0
  none_true n g i (one_tree t) s = ap (λ b. if b then 1 else 0) (false_for n g i t s)
  none_true n g i (more_trees ts t) s = none_more (value g t) (true_ones g ts) (false_for n g i t s.1) (none_true n g i ts s.0)

-- a part of a tolerated group is tolerated
closed_of : (f : Meaning) → IsSoundTree f.parties f.tree → IsClosed f.parties (is_tolerated f)
closed_of f s a b la lb w e =
    let t : Tree = f.tree in
    not_from_false (value (has_party a) t) (false_from_ne_true (value (has_party a) t) (λ va.
    let vb : value (has_party b) t ≡ true = grows f.parties (has_party a) (has_party b) (λ p lp. implies_at (has_party a p) (has_party b p) (every_at f.parties (λ q. not (has_party a q) || has_party b q) w p lp)) t s va in
    let no_b : value (has_party b) t ≡ false = not-true (value (has_party b) t) e in
    cc))

zero_bit : (p : ℕ) → has_party 0 p ≡ false
zero_bit p = ap (λ bit. nat_eq bit 1) (bit_at-zero p)

-- the empty group is tolerated
nobody_of : (f : Meaning) → IsSoundTree f.parties f.tree → is_tolerated f 0 ≡ true
nobody_of f s = not_from_false (value (has_party 0) f.tree) (false_for f.parties (has_party 0) zero_bit f.tree s)

-- the group of all parties is qualified
pub everybody_of : (f : Meaning) → IsSoundTree f.parties f.tree → value (has_party (2 ^ f.parties - 1)) f.tree ≡ true
everybody_of f s = true_for f.parties (has_party (2 ^ f.parties - 1)) (λ p lp. eq-eqb _ 1 (bit_at_ones f.parties p lp)) f.tree s

pub family_of : (f : Meaning) → IsSoundTree f.parties f.tree → IsFamily f.parties (is_tolerated f)
family_of f s = record { parts = closed_of f s; nobody = nobody_of f s }
