-- The first fault of checks that follow each other.
use Rattle.std.proofs.Common.{◌≡◌, ℕ, zero, suc, ◌+◌, ◌<◌, Bool, true, false, List, [], ◌∷◌, ◌++◌, Option, Some, None, Result, Ok, Err, refl, sym, ◌∙◌, ap, subst, arith, inl, inr}
use Rattle.std.specs.Prelude.{◌⊎◌, IfSome, IfErr}
use Rattle.std.specs.Option.{option_or}
use Rattle.std.specs.Result.{IsErrAnd}
use Rattle.std.proofs.lemmas.Bool.{cases_eq}
use Rattle.list_laws.specs.Lists.{joined, listed}
use Rattle.list_laws.specs.Checks.{◌answers◌, first_fault, or_fault}

module _ {F : Type 0} where
  -- ---- one check

  pub not_failed : (b : Bool) (fault : F) → (b answers fault) ≡ None → b ≡ false
  not_failed false fault e = refl
  not_failed true fault e = cc

  -- a check that passed, and those after it
  pub none_failed : (b : Bool) (fault : F) (rest : Option F) → option_or (b answers fault) rest ≡ None → (b ≡ false) × (rest ≡ None)
  none_failed false fault rest e = (refl, e)
  none_failed true fault rest e = cc

  -- a list of one check
  pub first-one : (check : Option F) → first_fault (check ∷ []) ≡ check
  first-one None = refl
  first-one (Some fault) = refl

  pub one-passed : (b : Bool) (fault : F) → b ≡ false → first_fault ((b answers fault) ∷ []) ≡ None
  one-passed false fault e = refl
  one-passed true fault e = cc

  pub one-fails : (b : Bool) (fault : F) → b ≡ true → first_fault ((b answers fault) ∷ []) ≡ Some fault
  one-fails true fault e = refl
  one-fails false fault e = cc

  -- ---- checks after others

  -- that passed
  pub first-after : (a b : List (Option F)) → first_fault a ≡ None → first_fault (a ++ b) ≡ first_fault b
  first-after [] b e = refl
  first-after (None ∷ cs) b e = first-after cs b e
  first-after (Some fault ∷ cs) b e = cc

  pub after_passed : (a b : List (Option F)) (o : Option F) → first_fault a ≡ None → first_fault b ≡ o → first_fault (a ++ b) ≡ o
  after_passed a b o e h = first-after a b e ∙ h

  -- of which the front has a fault
  pub first-front : (a b : List (Option F)) (fault : F) → first_fault a ≡ Some fault → first_fault (a ++ b) ≡ Some fault
  first-front [] b fault e = cc
  first-front (None ∷ cs) b fault e = first-front cs b fault e
  first-front (Some at ∷ cs) b fault e = e

  -- checks that all passed, of which these are the front, and the back
  pub passed-front : (a b : List (Option F)) → first_fault (a ++ b) ≡ None → first_fault a ≡ None
  passed-front [] b e = refl
  passed-front (None ∷ cs) b e = passed-front cs b e
  passed-front (Some fault ∷ cs) b e = cc

  pub passed-back : (a b : List (Option F)) → first_fault (a ++ b) ≡ None → first_fault b ≡ None
  passed-back a b e = sym (first-after a b (passed-front a b e)) ∙ e

  pub passed-three : (a b c : Option F) → first_fault (a ∷ b ∷ c ∷ []) ≡ None → (a ≡ None) × (b ≡ None) × (c ≡ None)
  passed-three None None None e = (refl, refl, refl)
  passed-three None None (Some fault) e = cc
  passed-three None (Some fault) c e = cc
  passed-three (Some fault) b c e = cc

  -- ---- lists of checks: the first fault is that of the first list that has one

  pub joined_more-passed : (n : ℕ) (f : ℕ → List (Option F)) → first_fault (joined n f) ≡ None → first_fault (f n) ≡ None → first_fault (joined (n + 1) f) ≡ None
  joined_more-passed n f before here =
      let more : n + 1 ≡ suc n = omega arith in
      ap (λ k. first_fault (joined k f)) more ∙ first-after (joined n f) (f n) before ∙ here

  pub joined-stops : (n k : ℕ) (f : ℕ → List (Option F)) (fault : F) → k < n → first_fault (joined k f) ≡ None → first_fault (f k) ≡ Some fault → first_fault (joined n f) ≡ Some fault
  joined-stops zero k f fault l before here = absurd (omega arith)
  joined-stops (suc n) k f fault l before here = elim (cases_eq k n) [
    | inl e ↦
        let before_n : first_fault (joined n f) ≡ None = ap (λ j. first_fault (joined j f)) (sym e) ∙ before in
        first-after (joined n f) (f n) before_n ∙ ap (λ j. first_fault (f j)) (sym e) ∙ here
    | inr ne ↦ first-front (joined n f) (f n) fault (joined-stops n k f fault (omega arith) before here)
  ]

  pub joined-passed : (n k : ℕ) (f : ℕ → List (Option F)) → k < n → first_fault (joined n f) ≡ None → first_fault (f k) ≡ None
  joined-passed zero k f l e = absurd (omega arith)
  joined-passed (suc n) k f l e = elim (cases_eq k n) [
    | inl same ↦ ap (λ j. first_fault (f j)) same ∙ passed-back (joined n f) (f n) e
    | inr ne ↦ joined-passed n k f (omega arith) (passed-front (joined n f) (f n) e)
  ]

  pub all-passed : (n : ℕ) (f : ℕ → List (Option F)) → ((k : ℕ) → k < n → first_fault (f k) ≡ None) → first_fault (joined n f) ≡ None
  all-passed zero f h = refl
  all-passed (suc n) f h = first-after (joined n f) (f n) (all-passed n f (λ k l. h k (omega arith))) ∙ h n (omega arith)

  -- the same of checks by their numbers
  pub listed_more-passed : (n : ℕ) (f : ℕ → Option F) → first_fault (listed n f) ≡ None → f n ≡ None → first_fault (listed (n + 1) f) ≡ None
  listed_more-passed n f before here = joined_more-passed n (λ i. f i ∷ []) before (first-one (f n) ∙ here)

  pub listed-stops : (n k : ℕ) (f : ℕ → Option F) (fault : F) → k < n → first_fault (listed k f) ≡ None → f k ≡ Some fault → first_fault (listed n f) ≡ Some fault
  listed-stops n k f fault l before here = joined-stops n k (λ i. f i ∷ []) fault l before (first-one (f k) ∙ here)

  pub listed-passed : (n k : ℕ) (f : ℕ → Option F) → k < n → first_fault (listed n f) ≡ None → f k ≡ None
  listed-passed n k f l e = sym (first-one (f k)) ∙ joined-passed n k (λ i. f i ∷ []) l e

  -- ---- what holds of the first fault of two parts holds of that of the whole

  pub holds-append : (Holds : F → Type 0) (a b : List (Option F)) → IfSome (first_fault a) Holds → IfSome (first_fault b) Holds → IfSome (first_fault (a ++ b)) Holds
  holds-append Holds [] b front back = back
  holds-append Holds (None ∷ cs) b front back = holds-append Holds cs b front back
  holds-append Holds (Some fault ∷ cs) b front back = front

  -- and so of many parts
  pub holds-joined : (Holds : F → Type 0) (n : ℕ) (f : ℕ → List (Option F)) → ((k : ℕ) → k < n → IfSome (first_fault (f k)) Holds) → IfSome (first_fault (joined n f)) Holds
  holds-joined Holds zero f each = tt
  holds-joined Holds (suc n) f each = holds-append Holds (joined n f) (f n) (holds-joined Holds n f (λ k l. each k (omega (arith, l)))) (each n (omega arith))

  -- ---- a value, or the fault before it

  pub or_fault-err : {A : Type 0} (o : Option F) (value : A) (fault : F) → Err fault ≡ or_fault o value → o ≡ Some fault
  or_fault-err None value fault e = cc
  or_fault-err (Some other) value fault e = cc

  pub or_fault-ok : {A : Type 0} (o : Option F) (value found : A) → Ok found ≡ or_fault o value → (o ≡ None) × (found ≡ value)
  or_fault-ok None value found e = (refl, cc)
  or_fault-ok (Some other) value found e = cc

-- ---- the exit of a `?`

module _ {F : Type 0} (memory : F) where
  -- want of memory, or a fault of which this holds
  pub stops_with : {A : Type 0} (r : Result A F) (e : F) (Q : F → Type 0) → IsErrAnd r (λ f. f ≡ e) → (e ≡ memory) ⊎ Q e → IfErr r (λ fault. (fault ≡ memory) ⊎ Q fault)
  stops_with (Ok x) e Q h w = absurd h
  stops_with (Err f) e Q h w = subst (λ g. (g ≡ memory) ⊎ Q g) (sym h) w

  or_memory : (e : F) (inner outer : Option F) → (inner ≡ Some e → outer ≡ Some e) → (e ≡ memory) ⊎ (inner ≡ Some e) → (e ≡ memory) ⊎ (outer ≡ Some e)
  or_memory e inner outer k (inl is) = inl is
  or_memory e inner outer k (inr h) = inr (k h)

  -- want of memory, or the first fault of checks that decide
  pub stops_by : {A : Type 0} (r : Result A F) (e : F) (inner outer : Option F) → IsErrAnd r (λ f. f ≡ e) → (inner ≡ Some e → outer ≡ Some e)
      → (e ≡ memory) ⊎ (inner ≡ Some e) → IfErr r (λ fault. (fault ≡ memory) ⊎ (outer ≡ Some fault))
  stops_by r e inner outer h k w = stops_with r e (λ f. outer ≡ Some f) h (or_memory e inner outer k w)

  -- the first fault, where no memory was wanted
  pub stops_at : {A : Type 0} (r : Result A F) (e : F) (inner outer : Option F) → IsErrAnd r (λ f. f ≡ e) → (inner ≡ Some e → outer ≡ Some e)
      → Err e ≡ or_fault {A = Unit {0}} inner tt → IfErr r (λ fault. (fault ≡ memory) ⊎ (outer ≡ Some fault))
  stops_at r e inner outer h k w = stops_with r e (λ f. outer ≡ Some f) h (inr (k (or_fault-err inner tt e w)))
