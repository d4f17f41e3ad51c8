-- Each pair of summands is one party's duty.
use Rattle.std.proofs.Common.{◌≡◌, ◌≢◌, ℕ, ◌+◌, ◌*◌, ◌/◌, ◌%◌, ◌<◌, inl, inr, Bool, true, false, not, ◌&&◌, ◌||◌, cond, nat_eq, if◌then◌else◌, Option, Some, None, List, [], ◌∷◌, ◌++◌, length, refl, sym, ◌∙◌, get_or, ap, subst, arith, eq-eqb, ne_eqb, append_assoc, append-nil}
use Rattle.std.specs.Prelude.{slice_index, MatchOption, IsSome}
use Rattle.std.proofs.lemmas.Bool.{cond-true, cond-false, cases_eq}
use Rattle.std.proofs.lemmas.Nat.{div-mul-add, mod-mul-add, mul-add-lt}
use Rattle.std.proofs.lemmas.List.{get_or_default}
use Rattle.list_laws.proofs.JoinedLists.{joined_eq, joined_more}
use Rattle.list_laws.specs.Lists.{only_if}
use Rattle.list_laws.proofs.Totals.{total_eq, total_zero, total_pick}
use Rattle.secret_sharing.specs.Schemes.{has_pair}
use Rattle.party_set.specs.Parties.{Structure, Members, IsAntichain, IsQ2, IsUnion, IsLeastOutside, has_party, is_all, covers}
use Rattle.party_set.proofs.EveryNumber.{every_from, every_at}
use Rattle.share_layout.specs.Layouts.{holds, IsLeastParty}
use Rattle.share_layout.proofs.Holders.{least_party_is}
use Rattle.product_duty.specs.Duties.{pairs_in_row, pairs_where, pairs_of, times, EachIsDuty, IsTable}
use Rattle.secret_sharing.specs.Duties.{duty, scheme_of}
use Rattle.secret_sharing.proofs.PairDuties.{duty_holds, outside_both}
use Rattle.product_duty.proofs.JoinedLists.{is_filled, filled_joined, filled_only_if, some_below_eq, count_joined}

inside_one : (a b : Bool) → (a || b) ≡ true → (not a && not b) ≡ false
inside_one true b e = refl
inside_one false true e = refl
inside_one false false e = cc

-- ---- the least party that holds both

-- u is the union of groups i and j
pub record IsEither (s : Structure) (i j : ℕ) (u : Members) : Type 0 where
  pub parties : u.parties ≡ s.parties
  pub members : IsUnion (slice_index s.groups i) (slice_index s.groups j) u.mask

pub either : (s : Structure) (i j : ℕ) (a b u : Members) → a ≡ record { parties = s.parties; mask = slice_index s.groups i } → b ≡ record { parties = s.parties; mask = slice_index s.groups j }
    → u.parties ≡ a.parties → IsUnion a.mask b.mask u.mask → IsEither s i j u
either s i j a b u first second parties members = record {
  parties = parties ∙ ap (λ (m : Members). m.parties) first;
  members = subst (λ (m : Members). IsUnion (slice_index s.groups i) m.mask u.mask) second (subst (λ (m : Members). IsUnion m.mask b.mask u.mask) first members);
}

none_is : (s : Structure) (i j : ℕ) (u : Members) → IsQ2 s → i < length s.groups → j < length s.groups → IsEither s i j u → is_all u.parties u.mask ≡ true → ⊥
none_is s i j u q2 li lj is whole =
    let every : is_all s.parties u.mask ≡ true = subst (λ n. is_all n u.mask ≡ true) is.parties whole in
    let covered : covers s.parties (slice_index s.groups i) (slice_index s.groups j) ≡ true =
    every_from s.parties _ (λ p l. sym (is.members.members p) ∙ every_at s.parties (has_party u.mask) every p l) in
    let apart : covers s.parties (slice_index s.groups i) (slice_index s.groups j) ≡ false = q2.no_cover i j li lj in
    cc

pub some_outside : (s : Structure) (i j : ℕ) (u : Members) (r : Option ℕ) → IsQ2 s → i < length s.groups → j < length s.groups → IsEither s i j u
    → MatchOption r (is_all u.parties u.mask ≡ true) (IsLeastOutside u.parties u.mask) → IsSome r
some_outside s i j u (Some p) q2 li lj is found = refl
some_outside s i j u None q2 li lj is found = absurd (none_is s i j u q2 li lj is found)

pub outside_is : (s : Structure) (i j p : ℕ) (u : Members) (r : Option ℕ) → IsEither s i j u
    → MatchOption r (is_all u.parties u.mask ≡ true) (IsLeastOutside u.parties u.mask) → r ≡ Some p → p ≡ duty s i j
outside_is s i j p u r is found some =
    let least : IsLeastOutside u.parties u.mask p = rw some at found in
    let below : p < s.parties = subst (λ n. p < n) is.parties least.party in
    sym (least_party_is s (λ q. holds s q i && holds s q j) p (record {
      party = below;
      passes = outside_both _ _ (sym (is.members.members p) ∙ least.outside);
      least = λ q l. inside_one _ _ (sym (is.members.members q) ∙ least.least q l);
    }))

-- ---- the table, row by row

-- the entry at a place of a table with w columns
abbrev pub at_place : Structure → ℕ → ℕ
at_place s k = duty s (k / length s.groups) (k % length s.groups)

pub at_row : (s : Structure) (i j : ℕ) → j < length s.groups → at_place s (i * length s.groups + j) ≡ duty s i j
at_row s i j l =
    ap (λ r. duty s r ((i * length s.groups + j) % length s.groups)) (div-mul-add i (length s.groups) j l) ∙ ap (duty s i) (mod-mul-add i (length s.groups) j l)

pub by_rows : (s : Structure) (table : List ℕ) → ((k : ℕ) → k < length s.groups * length s.groups → slice_index table k ≡ at_place s k)
    → (i j : ℕ) → i < length s.groups → j < length s.groups → slice_index table (i * length s.groups + j) ≡ duty s i j
by_rows s table h i j li lj = h (i * length s.groups + j) (mul-add-lt i (length s.groups) j (length s.groups) li lj) ∙ at_row s i j lj

-- ---- the lists

pub deals_is : (bits : ℕ) (s : Structure) (p : ℕ) → is_filled (pairs_of s p) ≡ has_pair (scheme_of bits s) p
deals_is bits s p =
    filled_joined (length s.groups) (λ i. pairs_in_row (duty s) p i (length s.groups))
    ∙ some_below_eq (length s.groups) _ _ (λ i. filled_joined (length s.groups) (λ j. only_if (nat_eq (duty s i j) p) ((i, j) ∷ []))
    ∙ some_below_eq (length s.groups) _ _ (λ j. filled_only_if (nat_eq (duty s i j) p) (i, j)))

same_either : (t : Bool) (z : ℕ) → cond t z z ≡ z
same_either true z = refl
same_either false z = refl

cell : (b : Bool) (i j a c : ℕ) → times (only_if b ((i, j) ∷ [])) a c ≡ cond b (cond (nat_eq i a && nat_eq j c) 1 0) 0
cell true i j a c = omega arith
cell false i j a c = refl

cell_here : (b : Bool) (a c : ℕ) → times (only_if b ((a, c) ∷ [])) a c ≡ cond b 1 0
cell_here b a c = cell b a c a c ∙ ap (λ t. cond b (cond (t && nat_eq c c) 1 0) 0) (eq-eqb a a refl) ∙ ap (λ t. cond b (cond t 1 0) 0) (eq-eqb c c refl)

cell_row : (b : Bool) (i j a c : ℕ) → i ≢ a → times (only_if b ((i, j) ∷ [])) a c ≡ 0
cell_row b i j a c ne = cell b i j a c ∙ ap (λ t. cond b (cond (t && nat_eq j c) 1 0) 0) (ne_eqb i a ne) ∙ same_either b 0

cell_column : (b : Bool) (a j c : ℕ) → j ≢ c → times (only_if b ((a, j) ∷ [])) a c ≡ 0
cell_column b a j c ne = cell b a j a c ∙ ap (λ t. cond b (cond (t && nat_eq j c) 1 0) 0) (eq-eqb a a refl) ∙ ap (λ t. cond b (cond t 1 0) 0) (ne_eqb j c ne) ∙ same_either b 0

row_here : (f : ℕ → ℕ → ℕ) (p m a c : ℕ) → c < m → times (pairs_in_row f p a m) a c ≡ cond (nat_eq (f a c) p) 1 0
row_here f p m a c l =
    count_joined _ m (λ j. only_if (nat_eq (f a j) p) ((a, j) ∷ [])) ∙ total_eq m _ (λ j. if nat_eq c j then cond (nat_eq (f a c) p) 1 0 else 0) at ∙ total_pick m c (cond (nat_eq (f a c) p) 1 0) l
  where
    at : (j : ℕ) → j < m → times (only_if (nat_eq (f a j) p) ((a, j) ∷ [])) a c ≡ (if nat_eq c j then cond (nat_eq (f a c) p) 1 0 else 0)
    at j lj = elim (cases_eq c j) [
      | inl e ↦ subst (λ k. times (only_if (nat_eq (f a k) p) ((a, k) ∷ [])) a c ≡ (if nat_eq c k then cond (nat_eq (f a c) p) 1 0 else 0)) e
          (cell_here (nat_eq (f a c) p) a c ∙ sym (cond-true (nat_eq c c) (cond (nat_eq (f a c) p) 1 0) 0 (eq-eqb c c refl)))
      | inr ne ↦ cell_column (nat_eq (f a j) p) a j c (λ e. ne (sym e)) ∙ sym (cond-false (nat_eq c j) (cond (nat_eq (f a c) p) 1 0) 0 (ne_eqb c j ne))
    ]

row_other : (f : ℕ → ℕ → ℕ) (p m i a c : ℕ) → i ≢ a → times (pairs_in_row f p i m) a c ≡ 0
row_other f p m i a c ne = count_joined _ m (λ j. only_if (nat_eq (f i j) p) ((i, j) ∷ [])) ∙ total_zero m _ (λ j l. cell_row (nat_eq (f i j) p) i j a c ne)

pub times_where : (f : ℕ → ℕ → ℕ) (p m a c : ℕ) → a < m → c < m → times (pairs_where f p m) a c ≡ (if nat_eq (f a c) p then 1 else 0)
times_where f p m a c la lc =
    count_joined _ m (λ i. pairs_in_row f p i m) ∙ total_eq m _ (λ i. if nat_eq a i then cond (nat_eq (f a c) p) 1 0 else 0) at ∙ total_pick m a (cond (nat_eq (f a c) p) 1 0) la
  where
    at : (i : ℕ) → i < m → times (pairs_in_row f p i m) a c ≡ (if nat_eq a i then cond (nat_eq (f a c) p) 1 0 else 0)
    at i li = elim (cases_eq a i) [
      | inl e ↦ subst (λ k. times (pairs_in_row f p k m) a c ≡ (if nat_eq a k then cond (nat_eq (f a c) p) 1 0 else 0)) e
          (row_here f p m a c lc ∙ sym (cond-true (nat_eq a a) (cond (nat_eq (f a c) p) 1 0) 0 (eq-eqb a a refl)))
      | inr ne ↦ row_other f p m i a c (λ e. ne (sym e)) ∙ sym (cond-false (nat_eq a i) (cond (nat_eq (f a c) p) 1 0) 0 (ne_eqb a i ne))
    ]

-- two tables with the same entries give the same lists
pub pairs_eq : (f g : ℕ → ℕ → ℕ) (p m : ℕ) → ((i j : ℕ) → i < m → j < m → f i j ≡ g i j) → pairs_where f p m ≡ pairs_where g p m
pairs_eq f g p m h = joined_eq m _ _ (λ i li. joined_eq m _ _ (λ j lj. ap (λ d. only_if (nat_eq d p) ((i, j) ∷ [])) (h i j li lj)))

pub each_duty : (s : Structure) → IsAntichain s → IsQ2 s → EachIsDuty s
each_duty s antichain q2 i j li lj =
    let holder : IsLeastParty s (λ p. holds s p i && holds s p j) (duty s i j) = duty_holds s q2 i j li lj in
    record {
      holder = holder;
      lists = λ p. times_where (duty s) p (length s.groups) i j li lj;
      once = total_eq s.parties _ _ (λ p l. times_where (duty s) p (length s.groups) i j li lj) ∙ total_pick s.parties (duty s i j) 1 holder.party;
    }

-- ---- the steps of the loops

pub row_more : (f : ℕ → ℕ → ℕ) (p i j : ℕ) (xs front : List (ℕ × ℕ)) → xs ≡ front ++ pairs_in_row f p i j → f i j ≡ p
    → xs ++ (i, j) ∷ [] ≡ front ++ pairs_in_row f p i (j + 1)
row_more f p i j xs front e here =
    let cell_is : only_if (nat_eq (f i j) p) ((i, j) ∷ []) ≡ (i, j) ∷ [] = cond-true (nat_eq (f i j) p) ((i, j) ∷ []) [] (eq-eqb (f i j) p here) in
    ap (λ ys. ys ++ (i, j) ∷ []) e ∙ append_assoc front (pairs_in_row f p i j) ((i, j) ∷ [])
    ∙ ap (λ ys. front ++ ys) (ap (λ ys. pairs_in_row f p i j ++ ys) (sym cell_is) ∙ sym (joined_more j (λ k. only_if (nat_eq (f i k) p) ((i, k) ∷ []))))

pub row_same : (f : ℕ → ℕ → ℕ) (p i j : ℕ) (xs front : List (ℕ × ℕ)) → xs ≡ front ++ pairs_in_row f p i j → f i j ≢ p → xs ≡ front ++ pairs_in_row f p i (j + 1)
row_same f p i j xs front e other =
    let cell_is : only_if (nat_eq (f i j) p) ((i, j) ∷ []) ≡ [] = cond-false (nat_eq (f i j) p) ((i, j) ∷ []) [] (ne_eqb (f i j) p other) in
    e
    ∙ ap (λ ys. front ++ ys)
    (sym (append-nil (pairs_in_row f p i j)) ∙ ap (λ ys. pairs_in_row f p i j ++ ys) (sym cell_is) ∙ sym (joined_more j (λ k. only_if (nat_eq (f i k) p) ((i, k) ∷ []))))

-- ---- what a table tells

pub entry_holds : (s : Structure) (table : List ℕ) (lists : List (List (ℕ × ℕ))) (i j p : ℕ) → IsTable s table lists → i < length s.groups → j < length s.groups
    → p ≡ get_or table (i * length s.groups + j) p → IsLeastParty s (λ q. holds s q i && holds s q j) p
entry_holds s table lists i j p is li lj e =
    let within : i * length s.groups + j < length table = rw is.size (mul-add-lt i (length s.groups) j (length s.groups) li lj) in
    let entry : p ≡ duty s i j = e ∙ get_or_default table (i * length s.groups + j) p 0 within ∙ is.duties i j li lj in
    subst (IsLeastParty s (λ q. holds s q i && holds s q j)) (sym entry) (duty_holds s is.q2 i j li lj)

pub table_of : (s : Structure) (n : ℕ) (groups : List ℕ) (table : List ℕ) (lists : List (List (ℕ × ℕ))) → n ≡ s.parties → groups ≡ s.groups
    → IsTable s table lists → IsTable (record { parties = n; groups = groups }) table lists
table_of s n groups table lists same_n same_groups is = rw (same_n, same_groups) is

-- the list that is read off a table
pub list_is : (s : Structure) (table read : List ℕ) (m p : ℕ) (list : List (ℕ × ℕ)) → m ≡ length s.groups → read ≡ table
    → ((i j : ℕ) → i < length s.groups → j < length s.groups → slice_index table (i * length s.groups + j) ≡ duty s i j)
    → list ≡ pairs_where (λ i j. slice_index read (i * m + j)) p m → list ≡ pairs_of s p
list_is s table read m p list size same entries e =
    e ∙ ap (λ n. pairs_where (λ i j. slice_index read (i * n + j)) p n) size ∙ ap (λ xs. pairs_where (λ i j. slice_index xs (i * length s.groups + j)) p (length s.groups)) same
    ∙ pairs_eq (λ i j. slice_index table (i * length s.groups + j)) (duty s) p (length s.groups) entries
