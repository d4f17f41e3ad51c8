-- The values of the wires, gate by gate.
use Rattle.std.proofs.Common.{◌≡◌, ◌≢◌, ℕ, zero, suc, ◌+◌, ◌-◌, ◌<◌, ◌≤◌, List, ◌++◌, if◌then◌else◌, length, set, replicate, nat_eq, refl, sym, ap, ap₂, ◌∙◌, arith, inl, inr, get_or-set_other, get_or-set_same}
use Rattle.std.specs.Prelude.{slice_index}
use Rattle.std.proofs.Math.ListN.{get_or-append, get_or-eq_default}
use Rattle.std.proofs.Math.Seq.{get_or-append_right}
use Rattle.std.proofs.lemmas.List.{get_or-replicate, length-replicate}
use Rattle.std.proofs.lemmas.Bool.{cases_eq, cases_lt, cond-true, cond-false, cond_both, eq-eqb, ne_eqb}
use Rattle.list_laws.specs.Lists.{total}
use Rattle.list_laws.proofs.Totals.{total_more}
use Rattle.list_laws.proofs.JoinedLists.{total_within}
use Rattle.circuit_model.specs.declared.gate.Gate.{Gate}
use Rattle.circuit_model.specs.Circuits.{operate, set_at, values}
use Rattle.circuit_model.proofs.SetAt.{set_here, set_there}
use Rattle.session_slots.specs.declared.source.Source.{Source}
use Rattle.session_slots.specs.declared.source.Source.TheVariants.{Given, Earlier}
use Rattle.session_slots.specs.Sessions.{given_by}

zeros : (m k : ℕ) → slice_index (replicate m 0) k ≡ 0
zeros m k = elim (cases_lt k m) [
  | inl less ↦ get_or-replicate m k 0 0 less
  | inr past ↦ get_or-eq_default (replicate m 0) 0 (omega (arith, past, length-replicate {A = ℕ} m 0))
]

-- 0 on all further wires
pub padded : (xs : List ℕ) (m v : ℕ) → slice_index (xs ++ replicate m 0) v ≡ slice_index xs v
padded xs m v = elim (cases_lt v (length xs)) [
  | inl less ↦ get_or-append xs (replicate m 0) 0 v less
  | inr past ↦ get_or-append_right xs (replicate m 0) v 0 past ∙ zeros m (v - length xs) ∙ sym (get_or-eq_default xs 0 past)
]

-- one gate more
pub value_next : (q t : ℕ) (gates : ℕ → Gate) (start xs ys : ℕ → ℕ) → ((v : ℕ) → xs v ≡ values q gates start t v)
    → ((v : ℕ) → ys v ≡ set_at xs (gates t).output (operate q (gates t).operation (gates t).constant (xs (gates t).first) (xs (gates t).second)) v)
    → (v : ℕ) → ys v ≡ values q gates start (suc t) v
value_next q t gates start xs ys h new v =
    let g = gates t in
    let word : operate q g.operation g.constant (xs g.first) (xs g.second) ≡ operate q g.operation g.constant (values q gates start t g.first) (values q gates start t g.second) = ap₂ (operate q g.operation g.constant) (h g.first) (h g.second) in
    elim (cases_eq v g.output) [
      | inl same ↦ new v ∙ set_here xs g.output v _ same ∙ word ∙ sym (set_here (values q gates start t) g.output v _ same)
      | inr apart ↦ new v ∙ set_there xs g.output v _ apart ∙ h v ∙ sym (set_there (values q gates start t) g.output v _ apart)
    ]

-- ---- how many words each party has given

-- 1 where party p gives the wire
abbrev pub gives_one : ℕ → Source → ℕ
gives_one p from = if given_by p from then 1 else 0

-- a wire that it gives counts, and no other one
pub one_given : (p q : ℕ) (from : Source) → from ≡ Given q → p ≡ q → gives_one p from ≡ 1
one_given p q from is e = ap (gives_one p) is ∙ cond-true (nat_eq q p) 1 0 (eq-eqb q p (sym e))

pub none_given : (p q : ℕ) (from : Source) → from ≡ Given q → p ≢ q → gives_one p from ≡ 0
none_given p q from is ne = ap (gives_one p) is ∙ cond-false (nat_eq q p) 1 0 (ne_eqb q p (λ e. ne (sym e)))

-- one more that party q gives
pub given_next : (f : ℕ → Source) (counts : List ℕ) (v q n : ℕ) → length counts ≡ n → q < n → f v ≡ Given q
    → ((p : ℕ) → p < n → slice_index counts p ≡ total v (λ u. gives_one p (f u)))
    → (p : ℕ) → p < n → slice_index (set counts q (slice_index counts q + 1)) p ≡ total (v + 1) (λ u. gives_one p (f u))
given_next f counts v q n long lq is h p lp =
    let more = total_more v (λ u. gives_one p (f u)) in
    elim (cases_eq p q) [
      | inl e ↦
          ap (slice_index (set counts q (slice_index counts q + 1))) e ∙ get_or-set_same counts q (slice_index counts q + 1) 0 (omega (arith, lq, long))
          ∙ ap (λ k. slice_index counts k + 1) (sym e) ∙ omega (arith, h p lp, more, one_given p q (f v) is e)
      | inr ne ↦ get_or-set_other counts q p (slice_index counts q + 1) 0 ne ∙ omega (arith, h p lp, more, none_given p q (f v) is ne)
    ]

-- a carried wire gives no word
pub carried_next : (f : ℕ → Source) (v p : ℕ) → ((q : ℕ) → f v ≡ Given q → ⊥) → total (v + 1) (λ u. gives_one p (f u)) ≡ total v (λ u. gives_one p (f u))
carried_next f v p none = (let more = total_more v (λ u. gives_one p (f u)) in omega (arith, more, of (f v) refl))
  where
    of : (from : Source) → f v ≡ from → gives_one p (f v) ≡ 0
    of (Given q) is = absurd (none q is)
    of (Earlier r c i) is = ap (gives_one p) is

-- a party's next word is there
pub given_within : (f : ℕ → Source) (v q n : ℕ) → v < n → f v ≡ Given q → total v (λ u. gives_one q (f u)) < total n (λ u. gives_one q (f u))
given_within f v q n l is = omega (arith, one_given q q (f v) is refl, total_within n v (λ u. gives_one q (f u)) l)

pub given_few : (f : ℕ → Source) (p v : ℕ) → total v (λ u. gives_one p (f u)) ≤ v
given_few f p zero = omega arith
given_few f p (suc v) =
    let here : gives_one p (f v) ≤ 1 = cond_both (given_by p (f v)) 1 0 (λ z. z ≤ 1) (λ e. omega arith) (λ e. omega arith) in
    omega (arith, here, given_few f p v)
