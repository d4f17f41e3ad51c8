-- A text has one first fault at most, and none where it parses.
use Rattle.std.proofs.Common.{◌≡◌, ℕ, zero, suc, ◌+◌, ◌≤◌, ◌<◌, Bool, true, false, List, [], ◌∷◌, ◌++◌, length, take, drop, refl, sym, ◌∙◌, ap, subst, append_assoc, length-append, take-append-drop, nat_le, nat_lt, arith}
use Rattle.std.proofs.lemmas.Bool.{leb-true, leb-false, ltb-true, ltb-false}
use Rattle.std.proofs.lemmas.List.{take_all, take-append-le, map-append}
use Rattle.text_tokens.specs.RunTokens.{Language, Placed, bare, tokens}
use Rattle.text_tokens.specs.FirstFaults.{IsViable, AreFine, StopsAt}

module _ {T : Type 0} where
  pub bare-append : (ts us : List (Placed T)) → bare (ts ++ us) ≡ bare ts ++ bare us
  bare-append ts us = map-append (λ t. t.token) ts us

  pub bare_last : (ts : List (Placed T)) (t : Placed T) → bare (ts ++ (t ∷ [])) ≡ bare ts ++ (t.token ∷ [])
  bare_last ts t = bare-append ts (t ∷ [])

  length-bare : (ts : List (Placed T)) → length (bare ts) ≡ length ts
  length-bare [] = refl
  length-bare (t ∷ ts) = ap suc (length-bare ts)

  -- what begins with tokens begins with the first k of them
  pub viable_front : {Form : Type 0} (spell : Form → List T) (ts : List T) (k : ℕ) → IsViable spell ts → IsViable spell (take k ts)
  viable_front spell ts k v = (drop k ts ++ v.0, v.1, v.2 ∙ ap (λ us. us ++ v.0) (sym (take-append-drop k ts)) ∙ append_assoc (take k ts) (drop k ts) v.0)

  cut_same : (xs ys : List (Placed T)) (x y : Placed T) (us vs : List (Placed T)) → length xs ≡ length ys → xs ++ (x ∷ us) ≡ ys ++ (y ∷ vs) → (xs ≡ ys) × (x ≡ y)
  cut_same [] [] x y us vs l e = (refl, cc)
  cut_same [] (b ∷ ys) x y us vs l e = absurd (omega (arith, l))
  cut_same (a ∷ xs) [] x y us vs l e = absurd (omega (arith, l))
  cut_same (a ∷ xs) (b ∷ ys) x y us vs l e =
      let rest : (xs ≡ ys) × (x ≡ y) = cut_same xs ys x y us vs (omega (arith, l)) cc in
      (let h : a ≡ b = cc in let t : xs ≡ ys = rest.0 in cc, rest.1)

-- tokens of which none has a fault
module _ {T : Type 0} (IsFine : List T → Type 0) where
  fine_front : (ts : List T) (t : T) (k : ℕ) (b : Bool) → nat_le k (length ts) ≡ b → AreFine IsFine ts → IsFine (ts ++ (t ∷ [])) → IsFine (take k (ts ++ (t ∷ [])))
  fine_front ts t k true e fine whole = let short : k ≤ length ts = leb-true k (length ts) e in rw take-append-le (fine k)
  fine_front ts t k false e fine whole =
      subst IsFine (sym (take_all k (ts ++ (t ∷ [])) (omega (arith, leb-false k (length ts) e, length-append ts (t ∷ []))))) whole

  pub fine_more : (ts : List T) (t : T) → AreFine IsFine ts → IsFine (ts ++ (t ∷ [])) → AreFine IsFine (ts ++ (t ∷ []))
  fine_more ts t fine whole k = fine_front ts t k (nat_le k (length ts)) refl fine whole

  pub fine_none : IsFine [] → AreFine IsFine []
  fine_none empty k = subst IsFine (sym (nothing k)) empty
    where
      nothing : (k : ℕ) → ◌≡◌ {A = List T} (take k []) []
      nothing zero = refl
      nothing (suc k) = refl

  -- the last of the tokens has none
  pub fine_last : (ts : List T) → AreFine IsFine ts → IsFine ts
  fine_last ts fine = subst IsFine (take_all (length ts) ts (omega arith)) (fine (length ts))

-- P bars the tokens that have no fault
abbrev pub Bars : {T : Type 0} → (List T → Type 0) → (List T → Type 0) → Type 0
Bars {T} IsFine P = (ts : List T) → P ts → IsFine ts → ⊥

module _ {T : Type 0} (language : Language T) (IsFine : List T → Type 0) where
  pub stop : (text : List ℕ) (done rest : List (Placed T)) (t : Placed T) (P : List T → Type 0) → tokens language text ≡ done ++ (t ∷ rest) → AreFine IsFine (bare done) → P (bare done ++ (t.token ∷ [])) → StopsAt language IsFine text t.at P
  stop text done rest t P cut fine p = record { before = done; here = t; after = rest; cut = cut; place = refl; fine = fine; fault = subst P (sym (bare_last done t)) p }

  -- the tokens up to the one that stops
  abbrev front : (text : List ℕ) (at : ℕ) (P : List T → Type 0) → StopsAt language IsFine text at P → ℕ
  front text at P s = length s.before + 1

  short : (xs ys : List T) (n : ℕ) → n ≤ length xs → take n (xs ++ ys) ≡ take n xs
  short xs ys n l = rw take-append-le refl

  front_is : (text : List ℕ) (at : ℕ) (P : List T → Type 0) (s : StopsAt language IsFine text at P) → take (front text at P s) (bare (tokens language text)) ≡ bare (s.before ++ (s.here ∷ []))
  front_is text at P s =
      let all : bare (tokens language text) ≡ bare (s.before ++ (s.here ∷ [])) ++ bare s.after =
      ap bare (s.cut ∙ sym (append_assoc s.before (s.here ∷ []) s.after)) ∙ bare-append (s.before ++ (s.here ∷ [])) s.after in
      let long : length (bare (s.before ++ (s.here ∷ []))) ≡ front text at P s = length-bare (s.before ++ (s.here ∷ [])) ∙ (omega (arith, length-append s.before (s.here ∷ []))) in
      ap (take (front text at P s)) all ∙ short (bare (s.before ++ (s.here ∷ []))) (bare s.after) (front text at P s) (omega (arith, long)) ∙ take_all (front text at P s) (bare (s.before ++ (s.here ∷ []))) (omega (arith, long))

  before_is : (text : List ℕ) (at : ℕ) (P : List T → Type 0) (s : StopsAt language IsFine text at P) (k : ℕ) → k ≤ length s.before → take k (bare (tokens language text)) ≡ take k (bare s.before)
  before_is text at P s k l =
      let all : bare (tokens language text) ≡ bare s.before ++ bare (s.here ∷ s.after) = ap bare s.cut ∙ bare-append s.before (s.here ∷ s.after) in
      ap (take k) all ∙ short (bare s.before) (bare (s.here ∷ s.after)) k (omega (arith, l, length-bare s.before))

  -- where no token has a fault, none stops
  pub no_stop : (text : List ℕ) (at : ℕ) (P : List T → Type 0) → Bars IsFine P → AreFine IsFine (bare (tokens language text)) → StopsAt language IsFine text at P → ⊥
  no_stop text at P bars fine s = bars (bare (s.before ++ (s.here ∷ []))) s.fault (subst IsFine (front_is text at P s) (fine (front text at P s)))

  -- a token that stops is not before another that does
  not_before : (text : List ℕ) (a b : ℕ) (P Q : List T → Type 0) → Bars IsFine P → (s : StopsAt language IsFine text a P) (u : StopsAt language IsFine text b Q) → length s.before < length u.before → ⊥
  not_before text a b P Q bars s u l =
      bars (bare (s.before ++ (s.here ∷ []))) s.fault
      (subst IsFine (sym (before_is text b Q u (front text a P s) (omega (arith, l))) ∙ front_is text a P s) (u.fine (front text a P s)))

  same_front : (text : List ℕ) (a b : ℕ) (P Q : List T → Type 0) → Bars IsFine P → Bars IsFine Q → (s : StopsAt language IsFine text a P) (u : StopsAt language IsFine text b Q) → length s.before ≡ length u.before
  same_front text a b P Q bars halts s u = go (nat_lt (length s.before) (length u.before)) (nat_lt (length u.before) (length s.before)) refl refl
    where
      go : (x y : Bool) → nat_lt (length s.before) (length u.before) ≡ x → nat_lt (length u.before) (length s.before) ≡ y → length s.before ≡ length u.before
      go true y e f = absurd (not_before text a b P Q bars s u (ltb-true _ _ e))
      go false true e f = absurd (not_before text b a Q P halts u s (ltb-true _ _ f))
      go false false e f = omega (arith, ltb-false (length s.before) (length u.before) e, ltb-false (length u.before) (length s.before) f)

  -- two tokens that stop stand at one place
  pub same_place : (text : List ℕ) (a b : ℕ) (P Q : List T → Type 0) → Bars IsFine P → Bars IsFine Q → (s : StopsAt language IsFine text a P) (u : StopsAt language IsFine text b Q) → a ≡ b
  same_place text a b P Q bars halts s u =
      sym s.place ∙ ap (λ (t : Placed T). t.at) (cut_same s.before u.before s.here u.here s.after u.after (same_front text a b P Q bars halts s u) (sym s.cut ∙ u.cut)).1 ∙ u.place

  -- two faults at one token
  pub both_stop : (text : List ℕ) (a b : ℕ) (P Q : List T → Type 0) → Bars IsFine P → Bars IsFine Q → ((ts : List T) → P ts → Q ts → ⊥) → StopsAt language IsFine text a P → StopsAt language IsFine text b Q → ⊥
  both_stop text a b P Q bars halts apart s u =
      let same : length s.before + 1 ≡ length u.before + 1 = omega (arith, same_front text a b P Q bars halts s u) in
      apart (bare (s.before ++ (s.here ∷ []))) s.fault
      (subst Q (sym (front_is text b Q u) ∙ ap (λ k. take k (bare (tokens language text))) (sym same) ∙ front_is text a P s) u.fault)
