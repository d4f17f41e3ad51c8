-- Sessions that keep what later ones carry: they are as before but for that.
use Rattle.std.proofs.Common.{◌≡◌, ℕ, zero, suc, ◌+◌, ◌<◌, ◌≤◌, Bool, true, false, if◌then◌else◌, List, [], ◌∷◌, length, replicate, take, nat_eq, refl, sym, ap, ◌∙◌, subst, arith}
use Rattle.std.specs.Prelude.{All, IsSomeAnd, slice_get, slice_index_or}
use Rattle.std.proofs.lemmas.Bool.{cases_Bool, cases_lt, cond-true, eq-eqb, eqb-true, false≢true}
use Rattle.std.proofs.lemmas.List.{get_or_past, get_or-take, length-append, length-replicate, length-take-le}
use mathlib.Core.Logic.{inl, inr}
use Rattle.list_laws.specs.Lists.{total, joined, only_if}
use Rattle.list_laws.proofs.Totals.{total_eq, total_pick, total_swap, total_zero}
use Rattle.list_laws.proofs.JoinedLists.{joined_eq, length-joined, length-listed, listed_at, none_joined, length_only_if}
use Rattle.session_slots.specs.declared.source.Source.{Source}
use Rattle.session_slots.specs.declared.source.Source.TheVariants.{Given, Earlier}
use Rattle.session_slots.specs.declared.values.Owner.TheVariants.{Carried}
use Rattle.session_slots.specs.declared.values.InputValue.{InputValue}
use Rattle.session_slots.specs.declared.values.OutputValue.{OutputValue}
use Rattle.session_slots.specs.declared.values.KeptWire.{KeptWire}
use Rattle.session_slots.specs.Sessions.{Session, carried_output, carries, first_output, is_carried, no_session, owners, owners_of, readers, readers_of, session_at, source}
use Rattle.session_slots.specs.Carries.{IsCarriedFrom, kept_for, kept_from, AllFit, carried_count, keeping}
use Rattle.session_slots.specs.SoundSessions.{AreKept, IsWired}
use Rattle.session_slots.proofs.Carries.{can_keep, carried_outputs, kept_from_same}

abbrev one_if : Bool → ℕ
one_if b = if b then 1 else 0

-- no wire of a session that isn't there is carried
none_there : (sessions : List Session) (s v : ℕ) → length sessions ≤ s → source (session_at sessions s) v ≡ Given 0
none_there sessions s v past = ap (λ x. source x v) (get_or_past sessions s no_session past)

carried_is : (r : ℕ) (from : Source) → carries r from ≡ true → (c : ℕ) × (i : ℕ) × (from ≡ Earlier r c i)
carried_is r (Given p) e = absurd (false≢true e)
carried_is r (Earlier a c i) e = (c, i, ap (λ q. Earlier q c i) (eqb-true a r e))

module _ (sessions : List Session) where
  -- what is carried comes from an earlier session, of which it is an output
  module _ (fit : AllFit sessions) where
    pub carries_earlier : (s v r c i : ℕ) → source (session_at sessions s) v ≡ Earlier r c i → r < s
    carries_earlier s v r c i e = elim (cases_lt s (length sessions)) [
      | inl l ↦ omega (arith, (carried_outputs (take s sessions) (session_at sessions s) (fit s l)).session v r c i e, length-take-le s sessions (omega (arith, l)))
      | inr past ↦ absurd (false≢true (sym (ap is_carried (none_there sessions s v past)) ∙ ap is_carried e))
    ]

    pub carries_outputs : (s v r c i : ℕ) → source (session_at sessions s) v ≡ Earlier r c i
        → carried_output (session_at sessions r) (source (session_at sessions s) v) < length (readers (session_at sessions r))
    carries_outputs s v r c i e = elim (cases_lt s (length sessions)) [
      | inl l ↦
          let earlier : session_at (take s sessions) r ≡ session_at sessions r = get_or-take s sessions r no_session (carries_earlier s v r c i e) in
          subst (λ x. carried_output x (source (session_at sessions s) v) < length (readers x)) earlier ((carried_outputs (take s sessions) (session_at sessions s) (fit s l)).output v r c i e)
      | inr past ↦ absurd (false≢true (sym (ap is_carried (none_there sessions s v past)) ∙ ap is_carried e))
    ]

    not_carried : (r s v : ℕ) → s ≤ r → carries r (source (session_at sessions s) v) ≡ false
    not_carried r s v le = elim (cases_Bool (carries r (source (session_at sessions s) v))) [
      | inl e ↦
          let of = carried_is r (source (session_at sessions s) v) e in
          absurd (omega (arith, le, carries_earlier s v r of.0 of.1 of.2))
      | inr e ↦ e
    ]

    -- the first sessions up to r carry nothing from it
    pub none_before : (r n : ℕ) → n ≤ r + 1 → joined n (λ s. joined (length (owners (session_at sessions s))) (kept_for sessions r s)) ≡ []
    none_before r n le =
        joined_eq n _ (λ s. []) (λ s l.
        joined_eq (length (owners (session_at sessions s))) _ (λ v. []) (λ v lv. ap (λ b. only_if b (record { session = s; wire = v; output = carried_output (session_at sessions r) (source (session_at sessions s) v) } ∷ [])) (not_carried r s v (omega (arith, l, le))))
        ∙ none_joined (length (owners (session_at sessions s))) (λ v. []) (λ v. refl))
        ∙ none_joined n (λ s. []) (λ s. refl)

    -- what is kept can be kept
    pub are_kept : (r : ℕ) → length sessions ≤ 16 → All IsWired sessions → AreKept (session_at sessions r) (kept_from r sessions)
    are_kept r few wired = can_keep sessions r few (λ s l. wired s no_session l) (λ s l. carried_outputs (take s sessions) (session_at sessions s) (fit s l))

  -- ---- the sessions that keep so

  pub length_keeping : length (keeping sessions) ≡ length sessions
  length_keeping = length-listed (length sessions) (λ s. record (session_at sessions s) { kept = kept_from s sessions })

  pub keeping_at : (s : ℕ) → s < length sessions → session_at (keeping sessions) s ≡ record (session_at sessions s) { kept = kept_from s sessions }
  keeping_at s l = listed_at (length sessions) (λ s. record (session_at sessions s) { kept = kept_from s sessions }) s no_session l

  past_both : (s : ℕ) → length sessions ≤ s → session_at (keeping sessions) s ≡ session_at sessions s
  past_both s past = get_or_past (keeping sessions) s no_session (omega (arith, length_keeping, past)) ∙ sym (get_or_past sessions s no_session past)

  inputs_same : (s : ℕ) → (session_at (keeping sessions) s).inputs ≡ (session_at sessions s).inputs
  inputs_same s = elim (cases_lt s (length sessions)) [
    | inl l ↦ ap (λ (x : Session). x.inputs) (keeping_at s l)
    | inr past ↦ ap (λ (x : Session). x.inputs) (past_both s past)
  ]

  outputs_same : (s : ℕ) → (session_at (keeping sessions) s).outputs ≡ (session_at sessions s).outputs
  outputs_same s = elim (cases_lt s (length sessions)) [
    | inl l ↦ ap (λ (x : Session). x.outputs) (keeping_at s l)
    | inr past ↦ ap (λ (x : Session). x.outputs) (past_both s past)
  ]

  pub source_same : (s v : ℕ) → source (session_at (keeping sessions) s) v ≡ source (session_at sessions s) v
  source_same s v = ap (λ (values : List InputValue). slice_index_or (owners_of values) v (Given 0)) (inputs_same s)

  pub owners_same : (s : ℕ) → length (owners (session_at (keeping sessions) s)) ≡ length (owners (session_at sessions s))
  owners_same s = ap (λ (values : List InputValue). length (owners_of values)) (inputs_same s)

  kept_same : (r : ℕ) → kept_from r (keeping sessions) ≡ kept_from r sessions
  kept_same r = kept_from_same r (keeping sessions) sessions length_keeping inputs_same outputs_same

  module _ (fit : AllFit sessions) where
    pub keeps_carried : (s : ℕ) → (session_at (keeping sessions) s).kept ≡ kept_from s (keeping sessions)
    keeps_carried s = elim (cases_lt s (length sessions)) [
      | inl l ↦ ap (λ (x : Session). x.kept) (keeping_at s l) ∙ sym (kept_same s)
      | inr past ↦
          ap (λ (x : Session). x.kept) (get_or_past (keeping sessions) s no_session (omega (arith, length_keeping, past)))
          ∙ sym (kept_same s ∙ none_before fit s (length sessions) (omega (arith, past)))
    ]

    pub keeping_fits : AllFit (keeping sessions)
    keeping_fits s l =
        let l' : s < length sessions = omega (arith, l, length_keeping) in
        subst (λ values. All (λ (value : InputValue). (r c : ℕ) → value.owner ≡ Carried r c → IsCarriedFrom (take s (keeping sessions)) r c value.width) values) (sym (inputs_same s))
        (λ j d lj r c e.
        let of = fit s l' j d lj r c e in
        let earlier : r < s = omega (arith, of.session, length-take-le s sessions (omega (arith, l'))) in
        let same : (session_at (take s sessions) r).outputs ≡ (session_at (take s (keeping sessions)) r).outputs =
        ap (λ (x : Session). x.outputs) (get_or-take s sessions r no_session earlier) ∙ sym (outputs_same r)
        ∙ ap (λ (x : Session). x.outputs) (sym (get_or-take s (keeping sessions) r no_session earlier)) in
        record {
          session = omega (arith, earlier, length-take-le s (keeping sessions) (omega (arith, l)));
          value = subst (λ outputs. IsSomeAnd (slice_get outputs c) (λ (value : OutputValue). value.width ≡ (slice_index_or (session_at sessions s).inputs j d).width)) same of.value;
        })

    -- each carried wire is kept once
    carriers : (s v : ℕ) (from : Source) → source (session_at sessions s) v ≡ from → s < length sessions → total (length sessions) (λ r. one_if (carries r from)) ≡ one_if (is_carried from)
    carriers s v (Given p) e l = total_zero (length sessions) (λ r. 0) (λ r lr. refl)
    carriers s v (Earlier a c i) e l = total_pick (length sessions) a 1 (omega (arith, l, carries_earlier fit s v a c i e))

    pub kept_in_all : total (length sessions) (λ r. length (kept_from r sessions)) ≡ total (length sessions) (λ s. carried_count (session_at sessions s))
    kept_in_all =
        let n = length sessions in
        let wires : ℕ → ℕ = λ s. length (owners (session_at sessions s)) in
        let from : ℕ → ℕ → Source = λ s v. source (session_at sessions s) v in
        total_eq n _ _ (λ r lr.
        length-joined n (λ s. joined (wires s) (kept_for sessions r s))
        ∙ total_eq n _ _ (λ s ls.
        length-joined (wires s) (kept_for sessions r s)
        ∙ total_eq (wires s) _ (λ v. one_if (carries r (from s v))) (λ v lv. length_only_if (carries r (from s v)) (_ ∷ []) ∙ omega arith)))
        ∙ total_swap n n (λ r s. total (wires s) (λ v. one_if (carries r (from s v))))
        ∙ total_eq n _ _ (λ s ls.
        total_swap n (wires s) (λ r v. one_if (carries r (from s v)))
        ∙ total_eq (wires s) _ _ (λ v lv. carriers s v (from s v) refl ls))

-- a session that is there, whatever stands for one that isn't
pub there : (sessions : List Session) (s : ℕ) (x : Session) → s < length sessions → x ≡ slice_index_or sessions s x → x ≡ session_at sessions s
there [] s x l e = absurd (omega (arith, l))
there (y ∷ ys) zero x l e = e
there (y ∷ ys) (suc s) x l e = there ys s x (omega (arith, l)) e

-- ---- what is kept for one wire

pub kept_here : (sessions : List Session) (r s v q c i n : ℕ) → source (session_at sessions s) v ≡ Earlier q c i → q ≡ r → n ≡ first_output (session_at sessions r) c
    → record { session = s; wire = v; output = n + i } ∷ [] ≡ kept_for sessions r s v
kept_here sessions r s v q c i n e same is =
    let x = session_at sessions r in
    let keep : Source → List KeptWire = λ from. only_if (carries r from) (record { session = s; wire = v; output = carried_output x from } ∷ []) in
    ap (λ m. record { session = s; wire = v; output = m + i } ∷ []) is
    ∙ sym (ap keep e ∙ cond-true (nat_eq q r) (record { session = s; wire = v; output = first_output x c + i } ∷ []) [] (eq-eqb q r same))

pub kept_not : (sessions : List Session) (r s v : ℕ) → carries r (source (session_at sessions s) v) ≡ false → [] ≡ kept_for sessions r s v
kept_not sessions r s v e = sym (ap (λ b. only_if b (record { session = s; wire = v; output = carried_output (session_at sessions r) (source (session_at sessions s) v) } ∷ [])) e)

-- the wires of the first values, of one more, and of all
pub first_more : (values : List OutputValue) (c : ℕ) (d : OutputValue) → c < length values
    → length (readers_of (take (suc c) values)) ≡ length (readers_of (take c values)) + (slice_index_or values c d).width
first_more [] c d l = absurd (omega (arith, l))
first_more (value ∷ values) zero d l = omega (arith, length-append (replicate value.width value.readers.mask) [], length-replicate {A = ℕ} value.width value.readers.mask)
first_more (value ∷ values) (suc c) d l =
    let here = replicate value.width value.readers.mask in
    omega (arith, first_more values c d (omega (arith, l)), length-append here (readers_of (take (suc c) values)), length-append here (readers_of (take c values)))

pub first_most : (values : List OutputValue) (c : ℕ) → length (readers_of (take c values)) ≤ length (readers_of values)
first_most [] zero = omega arith
first_most [] (suc c) = omega arith
first_most (value ∷ values) zero = omega arith
first_most (value ∷ values) (suc c) =
    let here = replicate value.width value.readers.mask in
    omega (arith, first_most values c, length-append here (readers_of (take c values)), length-append here (readers_of values))

first_past : (values : List OutputValue) (c : ℕ) → length values ≤ c → length (readers_of (take c values)) ≡ length (readers_of values)
first_past [] zero l = refl
first_past [] (suc c) l = refl
first_past (value ∷ values) zero l = absurd (omega (arith, l))
first_past (value ∷ values) (suc c) l =
    let here = replicate value.width value.readers.mask in
    omega (arith, first_past values c (omega (arith, l)), length-append here (readers_of (take c values)), length-append here (readers_of values))

-- the wires of an output value that is carried
pub record IsValueOf (x : Session) (c i : ℕ) : Type 0 where
  pub value : c < length x.outputs
  pub wire : first_output x c + i < length (readers x)

pub value_of : (sessions : List Session) → AllFit sessions → (s v r c i : ℕ) → source (session_at sessions s) v ≡ Earlier r c i → IsValueOf (session_at sessions r) c i
value_of sessions fit s v r c i e =
    let x = session_at sessions r in
    let within : first_output x c + i < length (readers x) = subst (λ (from : Source). carried_output x from < length (readers x)) e (carries_outputs sessions fit s v r c i e) in
    record {
      value = elim (cases_lt c (length x.outputs)) [
        | inl l ↦ l
        | inr past ↦ absurd (omega (arith, within, first_past x.outputs c past))
      ];
      wire = within;
    }
