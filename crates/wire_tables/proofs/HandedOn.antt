-- What is carried of a session, handed on kept wire by kept wire.
use Rattle.std.proofs.Common.{◌≡◌, ℕ, ◌+◌, ◌<◌, true, false, List, [], length, refl, sym, ap, ◌∙◌, subst, arith, inl, inr}
use Rattle.std.specs.Prelude.{slice_index_or}
use Rattle.std.proofs.lemmas.Bool.{cases_eq, both_ways, eqb-true, ne_eqb}
use Rattle.session_slots.specs.declared.source.Source.{Source}
use Rattle.session_slots.specs.declared.source.Source.TheVariants.{Given, Earlier}
use Rattle.session_slots.specs.declared.values.KeptWire.{KeptWire}
use Rattle.session_slots.specs.Sessions.{Session, carries, kept_wire, no_kept, source}
use Rattle.session_slots.specs.Carries.{IsKeptAt, kept_place}
use Rattle.session_slots.proofs.Carries.{kept_have_places}
use Rattle.plan_model.specs.Plans.{Plan, CarriesEarlier, KeepsCarried, session}
use Rattle.plan_model.specs.Sound.{IsSound}
use Rattle.share_world.specs.Worlds.{World, carried_wire}
use Rattle.share_world.proofs.CarriedWires.{carrier_there, kept_there}
use Rattle.wire_tables.specs.HandedOn.{IsHandedOn}
use Rattle.wire_tables.specs.WireTables.{AreCarried, row_at, summand_row, summand_rows}
use Rattle.wire_tables.proofs.TableRows.{wire_last}

-- the wire that is kept at place j, as it was found there
module _ (plan : Plan) (keeps : KeepsCarried plan) (s : ℕ) where
  abbrev x : Session
  x = session plan s

  abbrev kept_at : ℕ → KeptWire
  kept_at j = slice_index_or x.kept j no_kept

  pub is_kept_at : (j : ℕ) → j < length x.kept → IsKeptAt plan.sessions s j (kept_at j)
  is_kept_at j l =
      subst (IsKeptAt plan.sessions s j) (ap (λ xs. slice_index_or xs j no_kept) (sym (keeps s)))
      ((kept_have_places plan.sessions).each s j (subst (λ xs. j < length xs) (keeps s) l))

  -- a later session carries it
  pub kept_later : CarriesEarlier plan → (j : ℕ) → j < length x.kept → s < (kept_at j).session
  kept_later earlier j l = later (source (session plan (kept_at j).session) (kept_at j).wire) refl (is_kept_at j l).carried
    where
      later : (from : Source) → source (session plan (kept_at j).session) (kept_at j).wire ≡ from → carries s from ≡ true → s < (kept_at j).session
      later (Given p) is e = absurd (both_ways false refl e)
      later (Earlier r c i) is e = subst (λ q. q < (kept_at j).session) (eqb-true r s e) (earlier (kept_at j).session (kept_at j).wire r c i is)

  module _ {A : Type 0} (item : ℕ → A) (old : ℕ → ℕ → A) where
    -- the items of the first n kept wires are handed on
    pub record SoFar (n : ℕ) (new : ℕ → ℕ → A) : Type 0 where
      pub kept : (j : ℕ) → j < n → new (kept_at j).session (kept_at j).wire ≡ item (kept_wire x j)
      pub others : (u v : ℕ) → carries s (source (session plan u) v) ≡ false → new u v ≡ old u v

    pub none_yet : SoFar 0 old
    none_yet = record { kept = λ j l. absurd (omega (arith, l)); others = λ u v no'. refl }

    -- one more, in a place of its own
    pub one_more : (n : ℕ) (mid new : ℕ → ℕ → A) → n < length x.kept → SoFar n mid → new (kept_at n).session (kept_at n).wire ≡ item (kept_wire x n)
        → ((u v : ℕ) → (u ≡ (kept_at n).session → v ≡ (kept_at n).wire → ⊥) → new u v ≡ mid u v) → SoFar (n + 1) new
    one_more n mid new l h here rest = record {
      kept = λ j lj. elim (cases_eq j n) [
        | inl e ↦ subst (λ i. new (kept_at i).session (kept_at i).wire ≡ item (kept_wire x i)) (sym e) here
        | inr ne ↦
            let at = is_kept_at n l in
            let of = is_kept_at j (omega (arith, lj, l)) in
            rest (kept_at j).session (kept_at j).wire (λ su sv. ne (sym of.place ∙ ap (λ u. kept_place plan.sessions u (kept_at j).wire) su ∙ ap (kept_place plan.sessions (kept_at n).session) sv ∙ at.place))
            ∙ h.kept j (omega (arith, lj, ne))
      ];
      others = λ u v no'.
          rest u v (λ su sv. both_ways (carries s (source (session plan u) v)) no'
          (ap (λ (n : ℕ). carries s (source (session plan n) v)) su ∙ ap (λ (i : ℕ). carries s (source (session plan (kept_at n).session) i)) sv ∙ (is_kept_at n l).carried))
          ∙ h.others u v no';
    }

    pub all_handed_on : (n : ℕ) (new : ℕ → ℕ → A) → n ≡ length x.kept → SoFar n new → IsHandedOn plan s item old new
    all_handed_on n new all h = record {
      carried = λ u v c i from.
          let at = kept_there plan keeps u v s c i from in
          let j = kept_place plan.sessions u v in
          let of = is_kept_at j at.0 in
          let found : (kept_at j ≡ record { session = u; wire = v; output = (kept_at j).output }) = is_there u v c i from in
          subst (λ (k : KeptWire). new k.session k.wire ≡ item (kept_wire x j)) found (h.kept j (omega (arith, all, at.0))) ∙ ap item at.1;
      others = h.others;
    }
      where
        is_there : (u v c i : ℕ) → source (session plan u) v ≡ Earlier s c i
            → kept_at (kept_place plan.sessions u v) ≡ record { session = u; wire = v; output = (kept_at (kept_place plan.sessions u v)).output }
        is_there u v c i from =
            let there = (kept_have_places plan.sessions).there u v s c i (carrier_there plan u v s c i from) from in
            let is : kept_at (kept_place plan.sessions u v) ≡ _ = ap (λ xs. slice_index_or xs (kept_place plan.sessions u v) no_kept) (keeps s) ∙ there.1 in
            is ∙ ap (λ o. record { session = u; wire = v; output = o }) (ap (λ (k : KeptWire). k.output) (sym is))

-- ---- in a plan within the limits

-- the wire that is carried is one of its session's
pub carried_named : (plan : Plan) → IsSound plan → (u v r c i : ℕ) → source (session plan u) v ≡ Earlier r c i → carried_wire plan r c i < (session plan r).wires
carried_named plan sound u v r c i from =
    let x : Session = session plan r in
    let lr : r < length plan.sessions = omega (arith, sound.earlier u v r c i from, carrier_there plan u v r c i from) in
    let at = kept_there plan sound.kept u v r c i from in
    let wired = (sound.sessions r lr).wired in
    omega (arith, at.1, wired.kept.outputs (kept_place plan.sessions u v) no_kept at.0, wired.output_wires)

-- before the first session nothing is carried
pub carried_first : (w : World) (rows : List (List (List ℕ))) → length rows ≡ length w.plan.sessions → AreCarried w 0 rows
carried_first w rows many = record { sessions = many; are = λ u v r c i from l. absurd (omega (arith, l)) }

-- the rows of one session more are handed on
pub carried_next : (w : World) (s : ℕ) (rows : List (List ℕ)) (old new : List (List (List ℕ))) → IsSound w.plan → rows ≡ summand_rows w s → AreCarried w s old
    → length new ≡ length w.plan.sessions → IsHandedOn w.plan s (λ v. slice_index_or rows v []) (row_at old) (row_at new) → AreCarried w (s + 1) new
carried_next w s rows old new sound is h many handed = record {
  sessions = many;
  are = λ u v r c i from l. elim (cases_eq r s) [
    | inl e ↦
        let from' : source (session w.plan u) v ≡ Earlier s c i = from ∙ ap (λ (q : ℕ). Earlier q c i) e in
        let wire = carried_wire w.plan s c i in
        handed.carried u v c i from' ∙ ap (λ rs. slice_index_or rs wire []) is ∙ wire_last w s wire (carried_named w.plan sound u v s c i from')
        ∙ ap (λ (q : ℕ). summand_row w q (carried_wire w.plan q c i)) (sym e)
    | inr ne ↦ handed.others u v (ap (carries s) from ∙ ne_eqb r s ne) ∙ h.are u v r c i from (omega (arith, l, ne))
  ];
}

-- nothing is carried from a session that keeps nothing
pub carried_same : (w : World) (s : ℕ) (rows : List (List (List ℕ))) → IsSound w.plan → length (session w.plan s).kept ≡ 0 → AreCarried w s rows → AreCarried w (s + 1) rows
carried_same w s rows sound none h = record {
  sessions = h.sessions;
  are = λ u v r c i from l. elim (cases_eq r s) [
    | inl e ↦
        let from' : source (session w.plan u) v ≡ Earlier s c i = from ∙ ap (λ (q : ℕ). Earlier q c i) e in
        absurd (omega (arith, (kept_there w.plan sound.kept u v s c i from').0, none))
    | inr ne ↦ h.are u v r c i from (omega (arith, l, ne))
  ];
}
