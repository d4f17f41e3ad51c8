-- What the takes of a slot leave.
use Rattle.std.proofs.Common.{◌≡◌, ◌⊎◌, ℕ, ◌+◌, ◌%◌, ◌<◌, ◌≢◌, ◌^◌, nat_eq, if◌then◌else◌, List, [], ◌∷◌, map, refl, sym, ap, ◌∙◌, subst, arith}
use Rattle.std.specs.List.{AllByRecursion}
use Rattle.std.proofs.lemmas.Bool.{cases_eq, cond-true, cond-false, eq-eqb, ne_eqb}
use Rattle.std.proofs.Math.Nat.{mod-add-mod}
use mathlib.Core.Logic.{inl, inr}
use Rattle.circuit_model.specs.Circuits.{set_at}
use Rattle.session_slots.specs.Sessions.{Slot}
use Rattle.plan_model.specs.Plans.{Plan}
use Rattle.session_slots.specs.Sessions.Slot.{Input, Mask}
use Rattle.plan_model.specs.Numbers.{message}
use Rattle.program_model.specs.Programs.{take_of}
use Rattle.program_model.specs.States.{Given, State, next, after_all, took_in, with_summand, taking_slot}
use Rattle.circuit_model.proofs.SetAt.{set_here, set_there}

-- the words of such a slot are added up
abbrev pub Adds : Slot → Type 0
Adds (Input v) = ⊥
Adds (Mask t side) = ⊥
Adds _ = Unit {0}

abbrev pub with_sums : State → (ℕ → ℕ) → State
with_sums σ f = record σ { sums = f }

took_sum : (plan : Plan) (s : ℕ) (z : Slot) (i w : ℕ) (σ : State) → Adds z → took_in plan s z i w σ ≡ with_sums σ (set_at σ.sums i ((σ.sums i + w) % 2 ^ plan.bits))
took_sum plan s (Input v) i w σ h = absurd h
took_sum plan s (Mask t side) i w σ h = absurd h
took_sum plan s _ i w σ h = refl

-- what the words of these numbers add to summand i
abbrev pub tally : Given → ℕ → List ℕ → ℕ
tally l i [] = 0
tally l i (n ∷ ns) = (if nat_eq i (message l.plan n).share then l.got n else 0) + tally l i ns

-- a state that differs in its sums alone, which are these
pub record SumsOf (m q : ℕ) (σ τ : State) (x : ℕ → ℕ) : Type 0 where
  pub rows : τ.rows ≡ σ.rows
  pub drawn : τ.drawn ≡ σ.drawn
  pub given : τ.given ≡ σ.given
  pub outputs : τ.outputs ≡ σ.outputs
  pub excess : τ.excess ≡ σ.excess
  pub sums : (i : ℕ) → i < m → τ.sums i ≡ x i % q

pub takes_sums : (l : Given) (m : ℕ) (z : Slot) (ns : List ℕ) (σ : State) (x : ℕ → ℕ) → Adds z → AllByRecursion (λ n. taking_slot l.plan n ≡ z) ns → ((i : ℕ) → i < m → σ.sums i ≡ x i % 2 ^ l.plan.bits)
    → SumsOf m (2 ^ l.plan.bits) σ (after_all l (map (take_of l.plan) ns) σ) (λ i. x i + tally l i ns)
takes_sums l m z [] σ x o all h = record { rows = refl; drawn = refl; given = refl; outputs = refl; excess = refl; sums = λ i li. h i li ∙ (let same : x i ≡ x i + 0 = omega arith in ap (λ y. y % 2 ^ l.plan.bits) same) }
takes_sums l m z (n ∷ ns) σ x o all h =
    let q : ℕ = 2 ^ l.plan.bits in
    let j : ℕ = (message l.plan n).share in
    let w : ℕ = l.got n in
    let τ : State = with_sums σ (set_at σ.sums j ((σ.sums j + w) % q)) in
    let is : next l (take_of l.plan n) σ ≡ τ = ap (λ y. took_in l.plan l.session y j w σ) all.0 ∙ took_sum l.plan l.session z j w σ o in
    let y : ℕ → ℕ = λ i. x i + (if nat_eq i j then w else 0) in
    let here : (i : ℕ) → i < m → τ.sums i ≡ y i % q = λ i li. elim (cases_eq i j) [
      | inl e ↦ set_here σ.sums j i _ e ∙ ap (λ a. (a + w) % q) (ap σ.sums (sym e) ∙ h i li) ∙ mod-add-mod (x i) q w
          ∙ ap (λ a. (x i + a) % q) (sym (cond-true (nat_eq i j) w 0 (eq-eqb i j e)))
      | inr ne ↦ set_there σ.sums j i _ ne ∙ h i li ∙ (let same : x i ≡ x i + (if nat_eq i j then w else 0) = (let f = cond-false (nat_eq i j) w 0 (ne_eqb i j ne) in omega arith) in ap (λ a. a % q) same)
    ] in
    let rest = takes_sums l m z ns τ y o all.1 here in
    subst (λ a. SumsOf m q σ (after_all l (map (take_of l.plan) ns) a) (λ i. x i + tally l i (n ∷ ns))) (sym is)
    (record {
      rows = rest.rows;
      drawn = rest.drawn;
      given = rest.given;
      outputs = rest.outputs;
      excess = rest.excess;
      sums = λ i li. rest.sums i li ∙ (let same : y i + tally l i ns ≡ x i + tally l i (n ∷ ns) = omega arith in ap (λ a. a % q) same);
    })

-- ---- into a row

-- summand i is among these
abbrev pub Has : Plan → ℕ → List ℕ → Type 0
Has plan i [] = ⊥
Has plan i (n ∷ ns) = ((message plan n).share ≡ i) ⊎ Has plan i ns

pub record RowOf (l : Given) (v : ℕ) (ns : List ℕ) (g : ℕ → ℕ) (σ τ : State) : Type 0 where
  pub others : (u i : ℕ) → u ≢ v → τ.rows u i ≡ σ.rows u i
  pub kept : (i : ℕ) → σ.rows v i ≡ g i → τ.rows v i ≡ g i
  pub has : (i : ℕ) → Has l.plan i ns → τ.rows v i ≡ g i
  pub sums : τ.sums ≡ σ.sums
  pub drawn : τ.drawn ≡ σ.drawn
  pub given : τ.given ≡ σ.given
  pub outputs : τ.outputs ≡ σ.outputs
  pub excess : τ.excess ≡ σ.excess

-- a word that is taken in slot z is put into row v
abbrev pub Writes : Given → Slot → ℕ → Type 0
Writes l z v = (i w : ℕ) (σ : State) → took_in l.plan l.session z i w σ ≡ with_summand v i w σ

pub takes_row : (l : Given) (z : Slot) (v : ℕ) (ns : List ℕ) (g : ℕ → ℕ) (σ : State) → Writes l z v → AllByRecursion (λ n. (taking_slot l.plan n ≡ z) × (l.got n ≡ g (message l.plan n).share)) ns
    → RowOf l v ns g σ (after_all l (map (take_of l.plan) ns) σ)
takes_row l z v [] g σ writes all = record { others = λ u i ne. refl; kept = λ i h. h; has = λ i h. absurd h; sums = refl; drawn = refl; given = refl; outputs = refl; excess = refl }
takes_row l z v (n ∷ ns) g σ writes all =
    let j : ℕ = (message l.plan n).share in
    let w : ℕ = l.got n in
    let τ : State = with_summand v j w σ in
    let is : next l (take_of l.plan n) σ ≡ τ = ap (λ y. took_in l.plan l.session y j w σ) all.0.0 ∙ writes j w σ in
    let rest = takes_row l z v ns g τ writes all.1 in
    let row : τ.rows v ≡ set_at (σ.rows v) j w = set_here σ.rows v v (set_at (σ.rows v) j w) refl in
    let put : (i : ℕ) → j ≡ i → τ.rows v i ≡ g i = λ i e. ap (λ f. f i) row ∙ set_here (σ.rows v) j i w (sym e) ∙ all.0.1 ∙ ap g e in
    subst (λ a. RowOf l v (n ∷ ns) g σ (after_all l (map (take_of l.plan) ns) a)) (sym is)
    (record {
      others = λ u i ne. rest.others u i ne ∙ ap (λ f. f i) (set_there σ.rows v u (set_at (σ.rows v) j w) ne);
      kept = λ i h. rest.kept i (elim (cases_eq i j) [
        | inl e ↦ put i (sym e)
        | inr ne ↦ ap (λ f. f i) row ∙ set_there (σ.rows v) j i w ne ∙ h
      ]);
      has = λ i h. elim h [ inl e ↦ rest.kept i (put i e) | inr more ↦ rest.has i more ];
      sums = rest.sums;
      drawn = rest.drawn;
      given = rest.given;
      outputs = rest.outputs;
      excess = rest.excess;
    })
