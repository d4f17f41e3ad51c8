-- Input values that are carried, their wires, and what is kept for them.
use Rattle.std.proofs.Common.{◌≡◌, ℕ, zero, suc, ◌+◌, ◌-◌, ◌*◌, ◌<◌, ◌≤◌, List, [], ◌∷◌, ◌++◌, inl, inr, length, replicate, take, refl, sym, ap, ◌∙◌, subst, arith, length-append}
use Rattle.std.specs.Prelude.{Bool, true, false, All, if◌then◌else◌, slice_get, slice_index_or, IsSomeAnd}
use Rattle.std.proofs.lemmas.Bool.{cases_lt, eq-eqb, eqb-true, false≢true}
use Rattle.std.proofs.Math.ListN.{get_or-append}
use Rattle.std.proofs.Math.Seq.{get_or-append_right}
use Rattle.std.proofs.lemmas.List.{get_or_default, get_or-take, get_or_past, length-replicate, length-take-le}
use Rattle.list_laws.specs.Lists.{joined, listed, only_if, total}
use Rattle.list_laws.proofs.Totals.{total_eq, total_most}
use Rattle.list_laws.proofs.JoinedLists.{joined_eq, joined_place, length-joined, length-listed, listed_at, locate, total_within}
use Rattle.session_slots.specs.declared.values.KeptWire.{KeptWire}
use Rattle.session_slots.specs.declared.values.Owner.{Owner}
use Rattle.session_slots.specs.declared.values.Owner.TheVariants.{Party, Carried}
use Rattle.session_slots.specs.declared.values.InputValue.{InputValue}
use Rattle.session_slots.specs.declared.values.OutputValue.{OutputValue}
use Rattle.session_slots.specs.declared.source.Source.{Source}
use Rattle.session_slots.specs.declared.source.Source.TheVariants.{Given, Earlier}
use Rattle.session_slots.specs.Sessions.{Session, carried_output, carries, is_carried, no_kept, no_session, owners, owners_of, readers, readers_of, session_at, source, source_from}
use Rattle.session_slots.specs.Carries.{IsCarriedFrom, CarriesFit, CarriesOutputs, IsKeptAt, KeptHavePlaces, carried_before, carrier, kept_for, kept_from, kept_place}
use Rattle.session_slots.specs.SoundSessions.{AreKept, IsWired}

-- ---- wires that are carried

-- a wire that is carried is one of a carried value
carried_owner : (owner : Owner) (v r c i : ℕ) → source_from owner v ≡ Earlier r c i → (owner ≡ Carried r c) × (v ≡ i)
carried_owner (Party p) v r c i e = cc
carried_owner (Carried a b) v r c i e = (cc, cc)

-- and of those that it has
carried_from : (earlier : List Session) (values : List InputValue) (v r c i : ℕ) → All (λ (value : InputValue). (r c : ℕ) → value.owner ≡ Carried r c → IsCarriedFrom earlier r c value.width) values
    → slice_index_or (owners_of values) v (Given 0) ≡ Earlier r c i → (width : ℕ) × (i < width) × IsCarriedFrom earlier r c width
carried_from earlier [] v r c i fits e = cc
carried_from earlier (value ∷ values) v r c i fits e =
    let here = listed value.width (source_from value.owner) in
    let more = owners_of values in
    let long : length here ≡ value.width = length-listed value.width (source_from value.owner) in
    elim (cases_lt v value.width) [
      | inl less ↦
          let is : slice_index_or (here ++ more) v (Given 0) ≡ source_from value.owner v = get_or-append here more (Given 0) v (omega (arith, less, long)) ∙ listed_at value.width (source_from value.owner) v (Given 0) less in
          let of = carried_owner value.owner v r c i (sym is ∙ e) in
          (value.width, omega (arith, less, of.1), fits 0 value (omega arith) r c of.0)
      | inr past ↦
          let is : slice_index_or (here ++ more) v (Given 0) ≡ slice_index_or more (v - value.width) (Given 0) = get_or-append_right here more v (Given 0) (omega (arith, past, long)) ∙ ap (λ n. slice_index_or more (v - n) (Given 0)) long in
          carried_from earlier values (v - value.width) r c i (λ k d l. fits (suc k) d (omega (arith, l))) (sym is ∙ e)
    ]

-- the wires of an output value are output wires
value_within : (values : List OutputValue) (c i width : ℕ) → IsSomeAnd (slice_get values c) (λ (value : OutputValue). value.width ≡ width) → i < width → length (readers_of (take c values)) + i < length (readers_of values)
value_within [] c i width there l = absurd there
value_within (value ∷ values) zero i width there l =
    omega (arith, l, there, length-append (replicate value.width value.readers.mask) (readers_of values), length-replicate {A = ℕ} value.width value.readers.mask)
value_within (value ∷ values) (suc c) i width there l =
    let here = replicate value.width value.readers.mask in
    omega (arith, value_within values c i width there l, length-append here (readers_of values), length-append here (readers_of (take c values)))

pub carried_outputs : (earlier : List Session) (s : Session) → CarriesFit earlier s → CarriesOutputs earlier s
carried_outputs earlier s fits = record {
  session = λ v r c i e. (carried_from earlier s.inputs v r c i fits e).2.session;
  output = λ v r c i e.
      let of = carried_from earlier s.inputs v r c i fits e in
      let x = session_at earlier r in
      subst (λ (from : Source). carried_output x from < length (readers x)) (sym e) (value_within x.outputs c i of.0 of.2.value of.1);
}

-- ---- what is kept for later sessions

abbrev one_if : Bool → ℕ
one_if b = if b then 1 else 0

-- a list of one, if there is one
one_long : {A : Type 0} (b : Bool) (x : A) → length (only_if b (x ∷ [])) ≡ one_if b
one_long true x = refl
one_long false x = refl

only_one : {A : Type 0} (b : Bool) (x d : A) (k : ℕ) → k < length (only_if b (x ∷ [])) → (b ≡ true) × (slice_index_or (only_if b (x ∷ [])) k d ≡ x)
only_one true x d zero l = (refl, refl)
only_one true x d (suc k) l = absurd (omega (arith, l))
only_one false x d k l = absurd (omega (arith, l))

carried_there : (r c i : ℕ) → carries r (Earlier r c i) ≡ true
carried_there r c i = eq-eqb r r refl

carried_by : (r : ℕ) (from : Source) → carries r from ≡ true → carrier from ≡ r
carried_by r (Given p) e = absurd (false≢true e)
carried_by r (Earlier a c i) e = eqb-true a r e

total_le : (n : ℕ) (f g : ℕ → ℕ) → ((i : ℕ) → i < n → f i ≤ g i) → total n f ≤ total n g
total_le zero f g h = omega arith
total_le (suc n) f g h = omega (arith, h n (omega arith), total_le n f g (λ i l. h i (omega (arith, l))))

module _ (sessions : List Session) (r : ℕ) where
  abbrev at : ℕ → Session
  at s = session_at sessions s

  abbrev bit : ℕ → ℕ → ℕ
  bit s v = one_if (carries r (source (at s) v))

  abbrev kept_in : ℕ → List KeptWire
  kept_in s = joined (length (owners (at s))) (kept_for sessions r s)

  -- where the place of what input wire v of session s carries would be
  abbrev place_for : ℕ → ℕ → ℕ
  place_for s v = total s (λ u. carried_before r (at u) (length (owners (at u)))) + carried_before r (at s) v

  kept_before : (s v : ℕ) → total v (λ u. length (kept_for sessions r s u)) ≡ carried_before r (at s) v
  kept_before s v = total_eq v _ _ (λ u l. one_long (carries r (source (at s) u)) _)

  kept_long : (s : ℕ) → length (kept_in s) ≡ carried_before r (at s) (length (owners (at s)))
  kept_long s = length-joined (length (owners (at s))) (kept_for sessions r s) ∙ kept_before s (length (owners (at s)))

  kept_before_session : (s : ℕ) → total s (λ u. length (kept_in u)) ≡ total s (λ u. carried_before r (at u) (length (owners (at u))))
  kept_before_session s = total_eq s _ _ (λ u l. kept_long u)

  place_within : (s v : ℕ) → s < length sessions → v < length (owners (at s)) → carries r (source (at s) v) ≡ true → place_for s v < length (kept_from r sessions)
  place_within s v ls lv e =
      let one : bit s v ≡ 1 = ap one_if e in
      let inner = total_within (length (owners (at s))) v (bit s) lv in
      let outer = total_within (length sessions) s (λ u. length (kept_in u)) ls in
      omega (arith, one, inner, outer, kept_long s, kept_before_session s, length-joined (length sessions) kept_in)

  place_names : (s v : ℕ) → s < length sessions → v < length (owners (at s)) → carries r (source (at s) v) ≡ true
      → slice_index_or (kept_from r sessions) (place_for s v) no_kept ≡ record { session = s; wire = v; output = carried_output (at r) (source (at s) v) }
  place_names s v ls lv e =
      let kept : KeptWire = record { session = s; wire = v; output = carried_output (at r) (source (at s) v) } in
      let one : bit s v ≡ 1 = ap one_if e in
      let long : length (kept_for sessions r s v) ≡ 1 = one_long (carries r (source (at s) v)) kept ∙ one in
      let inner = total_within (length (owners (at s))) v (bit s) lv in
      let before : ℕ = total v (λ u. length (kept_for sessions r s u)) in
      let here : place_for s v ≡ total s (λ u. length (kept_in u)) + (before + 0) = omega (arith, kept_before s v, kept_before_session s) in
      ap (λ n. slice_index_or (kept_from r sessions) n no_kept) here
      ∙ joined_place no_kept (length sessions) s kept_in (before + 0) ls (omega (arith, kept_before s v, kept_long s, inner, one))
      ∙ joined_place no_kept (length (owners (at s))) v (kept_for sessions r s) 0 lv (omega (arith, long))
      ∙ (only_one (carries r (source (at s) v)) kept no_kept 0 (omega (arith, long))).1

  place_is : (s v : ℕ) → carries r (source (at s) v) ≡ true → kept_place sessions s v ≡ place_for s v
  place_is s v e = ap (λ q. total s (λ u. carried_before q (at u) (length (owners (at u)))) + carried_before q (at s) v) (carried_by r (source (at s) v) e)

  wire_there : (s v c i : ℕ) → source (at s) v ≡ Earlier r c i → v < length (owners (at s))
  wire_there s v c i e = elim (cases_lt v (length (owners (at s)))) [
    | inl l ↦ l
    | inr past ↦ absurd (false≢true (sym (ap is_carried (get_or_past (owners (at s)) v (Given 0) past)) ∙ ap is_carried e))
  ]

  each_kept : (j : ℕ) → j < length (kept_from r sessions) → IsKeptAt sessions r j (slice_index_or (kept_from r sessions) j no_kept)
  each_kept j l =
      let of = locate (length sessions) kept_in j l in
      let s = of.part in
      let by = locate (length (owners (at s))) (kept_for sessions r s) of.place of.within in
      let v = by.part in
      let kept : KeptWire = record { session = s; wire = v; output = carried_output (at r) (source (at s) v) } in
      let carried = (only_one (carries r (source (at s) v)) kept no_kept by.place by.within).0 in
      let few : length (kept_for sessions r s v) ≡ 1 = one_long (carries r (source (at s) v)) kept ∙ ap one_if carried in
      let same : place_for s v ≡ j = omega (arith, of.is, by.is, by.within, few, kept_before s v, kept_before_session s) in
      let is : slice_index_or (kept_from r sessions) j no_kept ≡ kept = ap (λ n. slice_index_or (kept_from r sessions) n no_kept) (sym same) ∙ place_names s v of.there by.there carried in
      subst (IsKeptAt sessions r j) (sym is) record {
        session = of.there;
        wire = by.there;
        carried = carried;
        output = refl;
        place = place_is s v carried ∙ same;
      }

  kept_few : length (kept_from r sessions) ≤ total (length sessions) (λ s. length (owners (at s)))
  kept_few =
      let each = total_le (length sessions) (λ s. length (kept_in s)) (λ s. length (owners (at s))) (λ s l. omega (arith, kept_long s, total_most (length (owners (at s))) (λ v. carries r (source (at s) v)))) in
      omega (arith, each, length-joined (length sessions) kept_in)

pub kept_have_places : (sessions : List Session) → KeptHavePlaces sessions
kept_have_places sessions = record {
  there = λ s v r c i l e.
      let carried : carries r (source (session_at sessions s) v) ≡ true = ap (carries r) e ∙ carried_there r c i in
      let there = wire_there sessions r s v c i e in
      let is = place_is sessions r s v carried in (
        omega (arith, is, place_within sessions r s v l there carried),
        ap (λ n. slice_index_or (kept_from r sessions) n no_kept) is ∙ place_names sessions r s v l there carried
            ∙ ap (λ (from : Source). record { session = s; wire = v; output = carried_output (session_at sessions r) from }) e,
      );
  each = λ r j l. each_kept sessions r j l;
  few = λ r. kept_few sessions r;
}

-- ---- what is kept depends on the values of the sessions alone

carried_same : (x y : Session) (from : Source) → x.outputs ≡ y.outputs → carried_output x from ≡ carried_output y from
carried_same x y (Given p) same = refl
carried_same x y (Earlier r c i) same = ap (λ outputs. length (readers_of (take c outputs)) + i) same

pub kept_from_same : (r : ℕ) (a b : List Session) → length a ≡ length b → ((s : ℕ) → (session_at a s).inputs ≡ (session_at b s).inputs) → ((s : ℕ) → (session_at a s).outputs ≡ (session_at b s).outputs)
    → kept_from r a ≡ kept_from r b
kept_from_same r a b long inputs outputs =
    ap (λ n. joined n (λ s. kept_of (session_at a s).inputs (session_at a r) s)) long
    ∙ joined_eq (length b) _ _ (λ s l. ap (λ values. kept_of values (session_at a r) s) (inputs s) ∙ joined_eq (length (owners (session_at b s))) _ _ (λ v l. one s v))
  where
    kept_of : List InputValue → Session → ℕ → List KeptWire
    kept_of values x s =
        joined (length (owners_of values)) (λ v. (
        let from = slice_index_or (owners_of values) v (Given 0) in
        only_if (carries r from) (record { session = s; wire = v; output = carried_output x from } ∷ [])
        ))

    one : (s v : ℕ) → (let from = source (session_at b s) v in only_if (carries r from) (record { session = s; wire = v; output = carried_output (session_at a r) from } ∷ [])) ≡ kept_for b r s v
    one s v =
        let from = source (session_at b s) v in
        ap (λ (o : ℕ). only_if (carries r from) (record { session = s; wire = v; output = o } ∷ [])) (carried_same (session_at a r) (session_at b r) from (outputs r))

-- ---- what is kept can be

carried_parts : (r : ℕ) (from : Source) → carries r from ≡ true → (c : ℕ) × (i : ℕ) × (from ≡ Earlier r c i)
carried_parts r (Given p) e = absurd (false≢true e)
carried_parts r (Earlier a c i) e = (c, i, ap (λ (n : ℕ). Earlier n c i) (eqb-true a r e))

kept_outputs : (sessions : List Session) (r : ℕ) → ((s : ℕ) → s < length sessions → CarriesOutputs (take s sessions) (session_at sessions s))
    → All (λ (wire : KeptWire). wire.output < length (readers (session_at sessions r))) (kept_from r sessions)
kept_outputs sessions r outputs = λ j d l.
    let kept = slice_index_or (kept_from r sessions) j no_kept in
    let at = each_kept sessions r j l in
    let s = kept.session in
    let from = source (session_at sessions s) kept.wire in
    let of = carried_parts r from at.carried in
    let fits = outputs s at.session in
    let early : r < s = omega (arith, fits.session kept.wire r of.0 of.1 of.2, length-take-le s sessions (omega (arith, at.session))) in
    let same : session_at (take s sessions) r ≡ session_at sessions r = get_or-take s sessions r no_session early in
    let below = subst (λ (x : Session). carried_output x from < length (readers x)) same (fits.output kept.wire r of.0 of.1 of.2) in
    subst (λ (wire : KeptWire). wire.output < length (readers (session_at sessions r))) (get_or_default (kept_from r sessions) j no_kept d l) (omega (arith, below, at.output))

few_wires : (n : ℕ) (f : ℕ → ℕ) → ((s : ℕ) → s < n → f s ≤ 131072) → total n f ≤ n * 131072
few_wires zero f h = omega arith
few_wires (suc n) f h = omega (arith, few_wires n f (λ s l. h s (omega (arith, l))), h n (omega arith))

pub can_keep : (sessions : List Session) (r : ℕ) → length sessions ≤ 16 → ((s : ℕ) → s < length sessions → IsWired (session_at sessions s))
    → ((s : ℕ) → s < length sessions → CarriesOutputs (take s sessions) (session_at sessions s)) → AreKept (session_at sessions r) (kept_from r sessions)
can_keep sessions r few wired outputs = record {
  outputs = kept_outputs sessions r outputs;
  few =
      let all = few_wires (length sessions) (λ s. length (owners (session_at sessions s))) (λ s l. (let v = wired s l in omega (arith, v.input_wires, v.wires))) in
      omega (arith, kept_few sessions r, all, few);
}
