-- What stands where in a program.
use Rattle.std.proofs.Common.{◌^◌, ◌≡◌, ℕ, zero, suc, ◌+◌, ◌-◌, ◌<◌, ◌≤◌, true, nat_lt, nat_eq, nat_le, if◌then◌else◌, List, [], ◌++◌, length, refl, sym, ap, ap₂, ◌∙◌, subst, arith}
use Rattle.std.specs.Prelude.{slice_index_or}
use Rattle.std.proofs.lemmas.Bool.{cases_Bool, cases_eq, cases_lt, cond-true, cond-false, lt-ltb, le-ltb, le-leb, eq-eqb, or_left, or_right}
use Rattle.std.proofs.lemmas.List.{length-append, length-map, get_or-map, get_or_past, get_or_append_left, get_or-append-add}
use mathlib.Core.Logic.{inl, inr}
use Rattle.list_laws.specs.Lists.{total, joined, only_if}
use Rattle.list_laws.proofs.Totals.{total_more}
use Rattle.list_laws.proofs.JoinedLists.{length-joined, joined_place, total_within}
use Rattle.session_slots.specs.Sessions.{Session, session_slots}
use Rattle.job_session.specs.Batches.{batch, is_last, IsBatch}
use Rattle.job_session.proofs.BatchOrder.{batch_within}
use Rattle.program_model.proofs.BegunBatches.{begun, begun_is, begun_end}
use Rattle.plan_model.specs.Plans.{IsPlan, Plan, session, slots}
use Rattle.plan_model.specs.Numbers.{deals_before}
use Rattle.plan_model.specs.Patterns.{pattern_at}
use Rattle.plan_model.specs.Sound.{IsSound}
use Rattle.program_model.specs.declared.half.Half.{Half}
use Rattle.program_model.specs.declared.half.Half.TheVariants.{Head, Tail}
use Rattle.program_model.specs.declared.instruction.Instruction.{Instruction}
use Rattle.program_model.specs.declared.instruction.Instruction.TheVariants.{End}
use Rattle.party_program.specs.declared.program.Program.{Program}
use Rattle.party_program.specs.declared.place.Place.{Place}
use Rattle.party_program.specs.declared.step.Step.{Step}
use Rattle.party_program.specs.declared.step.Step.TheVariants.{Draw, Deal, Own, Post, Take, Linear, Sum, Open, Join, Deliver}
use Rattle.program_model.specs.Programs.{first_named, head, tail, tails, turn, half_program, program, at, instructions_before}
use Rattle.party_program.specs.PartySteps.{steps, placed, IsPlaced}
use Rattle.party_program.specs.ProgramPlaces.{halves_before, position_of, count_in, IsPlace, IsProgram}
use Rattle.party_program.proofs.FollowedPatterns.{half_program_follows}
use Rattle.plan_model.proofs.FewTransfers.{few_transfers}
use Rattle.party_program.proofs.FewTakes.{few_taken}
use Rattle.party_program.proofs.NamedSlots.{few_named}
use Rattle.party_program.proofs.PlacedSteps.{steps_placed}

placed_within : (n m : ℕ) (step : Step) → n ≤ m → IsPlaced n step → IsPlaced m step
placed_within n m Draw l h = tt
placed_within n m Deal l h = tt
placed_within n m Own l h = tt
placed_within n m (Post share place) l h = omega arith
placed_within n m (Take share place) l h = omega arith
placed_within n m Linear l h = tt
placed_within n m Sum l h = tt
placed_within n m Open l h = tt
placed_within n m Join l h = tt
placed_within n m Deliver l h = tt

-- a program is that of the party and the session that it names
pub is_own : (plan : Plan) (p s : ℕ) (program : Program) → IsProgram plan p s program → IsProgram plan program.party program.session program
is_own plan p s program is =
    subst (λ r. IsProgram plan program.party r program) (sym is.of_session) (subst (λ r. IsProgram plan r s program) (sym is.of_party) is)

-- the last slot of a batch
pub last_is : (x : Session) (a b k : ℕ) → IsBatch x a b → suc k ≡ b → is_last x k ≡ true
last_is x a b k one e = elim (cases_lt b (session_slots x)) [
  | inl l ↦ or_right (nat_le (session_slots x) (suc k)) (nat_eq (batch x (suc k)) (suc k)) (eq-eqb (batch x (suc k)) (suc k) (subst (λ z. batch x z ≡ z) (sym e) (one.ends l)))
  | inr past ↦ or_left (nat_le (session_slots x) (suc k)) (nat_eq (batch x (suc k)) (suc k)) (le-leb (session_slots x) (suc k) (omega (arith, past, e)))
]

module _ (plan : Plan) (p s : ℕ) where
  abbrev x : Session
  x = session plan s

  abbrev before : Half → ℕ → ℕ
  before half k = halves_before plan p s half k

  pub before_more : (half : Half) (k : ℕ) → before half (k + 1) ≡ before half k + length (half_program plan p s half k)
  before_more half k = total_more k (λ j. length (half_program plan p s half j))

  pub before_rises : (half : Half) (j k : ℕ) → j ≤ k → before half j ≤ before half k
  before_rises half j k l = elim (cases_eq j k) [
    | inl e ↦ subst (λ z. before half j ≤ before half z) e (omega arith)
    | inr ne ↦ let a = total_within k j (λ i. length (half_program plan p s half i)) (omega arith) in omega arith
  ]

  -- the next slot's half begins behind that of this one
  pub position_more : (half : Half) (a b k : ℕ) → position_of plan p s half a b (k + 1) ≡ position_of plan p s half a b k + length (half_program plan p s half k)
  position_more Head a b k = let more = before_more Head k in omega (arith, more)
  position_more Tail a b k = let more = before_more Tail k in omega (arith, more)

  -- a slot's instructions are those of both halves
  pub both_before : (k : ℕ) → instructions_before plan p s k ≡ before Head k + before Tail k
  both_before zero = refl
  both_before (suc k) =
      let here = length-append (head plan p s k) (tail plan p s k) in
      let rest = both_before k in
      omega arith

  -- the tails of n slots from slot a on
  tails_length : (a n : ℕ) → before Tail a + length (joined n (λ j. tail plan p s (a + j))) ≡ before Tail (a + n)
  tails_length a zero = let none : a + 0 ≡ a = omega arith in let same = ap (before Tail) none in omega (arith, same)
  tails_length a (suc n) =
      let next : a + suc n ≡ suc (a + n) = omega arith in
      let same = ap (before Tail) next in
      let rest = tails_length a n in
      let here = length-append (joined n (λ j. tail plan p s (a + j))) (tail plan p s (a + n)) in
      omega (arith, same, rest, here)

  -- the first k turns
  pub turns_length : (k : ℕ) → k ≤ slots plan s → length (joined k (turn plan p s)) ≡ before Head k + before Tail (begun x k)
  turns_length zero l = refl
  turns_length (suc k) l =
      let a : ℕ = batch x k in
      let rest = turns_length k (omega arith) in
      let from = ap (before Tail) (begun_is x k (omega arith)) in
      let here = length-append (joined k (turn plan p s)) (turn plan p s k) in
      let parts = length-append (head plan p s k) (only_if (is_last x k) (tails plan p s a (suc k))) in
      let ends : before Tail a + length (only_if (is_last x k) (tails plan p s a (suc k))) ≡ before Tail (if is_last x k then suc k else a) = elim (cases_Bool (is_last x k)) [
        | inl e ↦ subst (λ b. before Tail a + length (only_if b (tails plan p s a (suc k))) ≡ before Tail (if b then suc k else a)) (sym e)
            (let c = batch_within x k in
            let all : a + (suc k - a) ≡ suc k = omega arith in
            tails_length a (suc k - a) ∙ ap (before Tail) all)
        | inr e ↦ subst (λ b. before Tail a + length (only_if b (tails plan p s a (suc k))) ≡ before Tail (if b then suc k else a)) (sym e) (omega arith)
      ] in
      omega (arith, rest, from, here, parts, ends)

  pub length-program : length (program plan p s) ≡ instructions_before plan p s (slots plan s)
  length-program =
      let all = turns_length (slots plan s) (omega arith) in
      let ends = ap (before Tail) (begun_end x (slots plan s) refl) in
      let both = both_before (slots plan s) in
      omega (arith, all, ends, both)

  module _ (a b k : ℕ) (one : IsBatch x a b) (from : a ≤ k) (to : k < b) where
    within_slots : k < slots plan s
    within_slots = let there = one.there in omega arith

    -- what stands in a half of a slot
    pub half_at : (half : Half) (i : ℕ) → i < length (half_program plan p s half k) → at (program plan p s) (position_of plan p s half a b k + i) ≡ slice_index_or (half_program plan p s half k) i End
    half_at Head i l =
        let begins = ap (before Tail) (begun_is x k within_slots ∙ one.whole k from to) in
        let turns = turns_length k (let w = within_slots in omega (arith, w)) ∙ ap (λ n. before Head k + n) begins in
        let starts = length-joined k (turn plan p s) in
        let whole = length-append (head plan p s k) (only_if (is_last x k) (tails plan p s (batch x k) (suc k))) in
        let here : position_of plan p s Head a b k + i ≡ total k (λ j. length (turn plan p s j)) + i = omega (arith, turns, starts) in
        ap (at (program plan p s)) here
        ∙ joined_place End (slots plan s) k (turn plan p s) i within_slots (omega (arith, whole, l))
        ∙ get_or_append_left (head plan p s k) (only_if (is_last x k) (tails plan p s (batch x k) (suc k))) End i l
    half_at Tail i l =
        let e : ℕ = b - 1 in
        let next : suc e ≡ b = omega arith in
        let last : is_last x e ≡ true = last_is x a b e one next in
        let same : batch x e ≡ a = one.whole e (omega arith) (omega arith) in
        let there : e < slots plan s = let t = one.there in omega (arith, t, next) in
        let ends : only_if (is_last x e) (tails plan p s (batch x e) (suc e)) ≡ tails plan p s a b =
        cond-true (is_last x e) (tails plan p s (batch x e) (suc e)) [] last ∙ ap₂ (tails plan p s) same next in
        let turns = turns_length e (omega (arith, there)) ∙ ap (λ n. before Head e + n) (ap (before Tail) (begun_is x e there ∙ same)) in
        let starts = length-joined e (turn plan p s) in
        let heads : before Head b ≡ before Head e + length (head plan p s e) = ap (before Head) (sym next) in
        let tail_of : ℕ → List Instruction = λ j. tail plan p s (a + j) in
        let m : ℕ = k - a in
        let here_is : a + m ≡ k = omega arith in
        let skipped : before Tail a + total m (λ j. length (tail_of j)) ≡ before Tail k = ap (λ n. before Tail a + n) (sym (length-joined m tail_of)) ∙ tails_length a m ∙ ap (before Tail) here_is in
        let own : i < length (tail_of m) = subst (λ z. i < length (tail plan p s z)) (sym here_is) l in
        let short : total m (λ j. length (tail_of j)) + length (tail_of m) ≤ total (b - a) (λ j. length (tail_of j)) = total_within (b - a) m (λ j. length (tail_of j)) (omega (arith, to, from)) in
        let long = length-joined (b - a) tail_of in
        let whole = length-append (head plan p s e) (only_if (is_last x e) (tails plan p s (batch x e) (suc e))) in
        let whole_is = ap (length {A = Instruction}) ends in
        let n : ℕ = length (head plan p s e) + (total m (λ j. length (tail_of j)) + i) in
        let here : position_of plan p s Tail a b k + i ≡ total e (λ j. length (turn plan p s j)) + n = omega (arith, turns, starts, heads, skipped) in
        ap (at (program plan p s)) here
        ∙ joined_place End (slots plan s) e (turn plan p s) n there (omega (arith, whole, whole_is, own, short, long))
        ∙ ap (λ zs. slice_index_or (head plan p s e ++ zs) n End) ends
        ∙ get_or-append-add (head plan p s e) (tails plan p s a b) (total m (λ j. length (tail_of j)) + i) End
        ∙ joined_place End (b - a) m tail_of i (omega (arith, to, from)) own
        ∙ ap (λ z. slice_index_or (tail plan p s z) i End) here_is

    -- which is a part of the program
    pub half_within : (half : Half) → position_of plan p s half a b k + length (half_program plan p s half k) ≤ length (program plan p s)
    half_within Head =
        let there = one.there in
        let more = before_more Head k in
        let heads = before_rises Head (k + 1) (slots plan s) (omega (arith, there, to)) in
        let ends = before_rises Tail a (slots plan s) (omega (arith, there, to, from)) in
        let all = length-program ∙ both_before (slots plan s) in
        omega (arith, more, heads, ends, all)
    half_within Tail =
        let there = one.there in
        let more = before_more Tail k in
        let heads = before_rises Head b (slots plan s) there in
        let ends = before_rises Tail (k + 1) (slots plan s) (omega (arith, there, to)) in
        let all = length-program ∙ both_before (slots plan s) in
        omega (arith, more, heads, ends, all)

  abbrev steps_at : Half → ℕ → List Step
  steps_at half k = steps plan p half (pattern_at plan s k)

  module _ (half : Half) (k : ℕ) (is : IsPlan plan) (ls : s < length plan.sessions) (lk : k < slots plan s) where
    pub length-half : length (half_program plan p s half k) ≡ length (steps_at half k)
    length-half = ap length (half_program_follows plan p s k is ls lk half) ∙ length-map (steps_at half k) (placed k (first_named plan s k) (deals_before plan p s k))

    -- an instruction of a half is that of its step
    pub step_is : (i : ℕ) (d : Step) → i < length (steps_at half k) → slice_index_or (half_program plan p s half k) i End ≡ placed k (first_named plan s k) (deals_before plan p s k) (slice_index_or (steps_at half k) i d)
    step_is i d l =
        ap (λ xs. slice_index_or xs i End) (half_program_follows plan p s k is ls lk half)
        ∙ get_or-map (placed k (first_named plan s k) (deals_before plan p s k)) (steps_at half k) i d End l

    -- a message that a step names has a number of four bytes
    pub step_fits : (i : ℕ) (d : Step) → IsSound plan → i < length (steps_at half k) → IsPlaced (2 ^ 32 - first_named plan s k) (slice_index_or (steps_at half k) i d)
    step_fits i d sound l =
        let early = few_named plan is sound s k ls lk in
        placed_within _ _ (slice_index_or (steps_at half k) i d) (omega (arith, early)) (steps_placed plan p 9216 (pattern_at plan s k) (few_transfers plan sound (pattern_at plan s k)) (few_taken plan sound (pattern_at plan s k)) half i d l)

  -- how many instructions stand in a half of a slot, and behind the last one
  pub count_at : (half : Half) (k : ℕ) → k < slots plan s → count_in plan p s half k ≡ length (half_program plan p s half k)
  count_at half k l = cond-true (nat_lt k (slots plan s)) (length (half_program plan p s half k)) 0 (lt-ltb k (slots plan s) l)

  pub count_past : (half : Half) (k : ℕ) → slots plan s ≤ k → count_in plan p s half k ≡ 0
  count_past half k l = cond-false (nat_lt k (slots plan s)) (length (half_program plan p s half k)) 0 (le-ltb k (slots plan s) l)

  -- behind the last slot no instruction is left
  pub position_past : (half : Half) → position_of plan p s half (slots plan s) (slots plan s) (slots plan s) ≡ length (program plan p s)
  position_past Head = sym (length-program ∙ both_before (slots plan s))
  position_past Tail = sym (length-program ∙ both_before (slots plan s))

  module _ (place : Place) (q : ℕ) (here : IsPlace plan p s place q) where
    -- a place whose slot has steps left is in a slot
    pub in_slot : place.done < place.count → place.slot < slots plan s
    in_slot left = elim (cases_lt place.slot (slots plan s)) [
      | inl l ↦ l
      | inr past ↦ absurd (let none : place.count ≡ 0 = here.count ∙ count_past place.half place.slot past in omega arith)
    ]

    -- the batch of a slot
    pub batch_of : place.slot < slots plan s → IsBatch x place.batch place.end × (place.batch ≤ place.slot) × (place.slot < place.end)
    batch_of l = elim here.batch [
      | inl found ↦ found
      | inr past ↦ absurd (let last : place.slot ≡ slots plan s = past.2 in omega (arith, l, last))
    ]

    -- a place whose slot has none left is past all instructions
    pub past_is : place.count ≤ place.done → length (program plan p s) ≤ q
    past_is none = elim (cases_lt place.slot (slots plan s)) [
      | inl l ↦ absurd (let some = here.within l in omega (arith, none, some))
      | inr past ↦ elim here.batch [
        | inl found ↦ absurd (let there = found.0.there in let to = found.2 in omega (arith, past, there, to))
        | inr last ↦
            let at_end : position_of plan p s place.half place.batch place.end place.slot ≡ length (program plan p s) =
            ap (λ z. position_of plan p s place.half z place.end place.slot) last.0
            ∙ ap (λ z. position_of plan p s place.half (slots plan s) z place.slot) last.1
            ∙ ap (λ z. position_of plan p s place.half (slots plan s) (slots plan s) z) last.2
            ∙ position_past place.half in
            let done : q ≡ position_of plan p s place.half place.batch place.end place.slot + place.done = here.done in
            omega (arith, at_end, done)
      ]
    ]

    pub ends_there : place.count ≤ place.done → at (program plan p s) q ≡ End
    ends_there none = get_or_past (program plan p s) q End (past_is none)

    -- a place with a step left stands before the end
    pub before_end : place.done < place.count → q < length (program plan p s)
    before_end left =
        let l = in_slot left in
        let found = batch_of l in
        let within = half_within place.batch place.end place.slot found.0 found.1 found.2 place.half in
        let count : place.count ≡ length (half_program plan p s place.half place.slot) = here.count ∙ count_at place.half place.slot l in
        let done : q ≡ position_of plan p s place.half place.batch place.end place.slot + place.done = here.done in
        omega (arith, within, count, done, left)

    -- the instruction so many steps on in the half
    pub ahead_is : (ahead : ℕ) → place.done + ahead < place.count → at (program plan p s) (q + ahead) ≡ slice_index_or (half_program plan p s place.half place.slot) (place.done + ahead) End
    ahead_is ahead left =
        let l = in_slot (omega (arith, left)) in
        let found = batch_of l in
        let count : place.count ≡ length (half_program plan p s place.half place.slot) = here.count ∙ count_at place.half place.slot l in
        let done : q ≡ position_of plan p s place.half place.batch place.end place.slot + place.done = here.done in
        let far : q + ahead ≡ position_of plan p s place.half place.batch place.end place.slot + (place.done + ahead) = omega (arith, done) in
        ap (at (program plan p s)) far
        ∙ half_at place.batch place.end place.slot found.0 found.1 found.2 place.half (place.done + ahead) (omega (arith, count, left))

    pub instruction_is : place.done < place.count → at (program plan p s) q ≡ slice_index_or (half_program plan p s place.half place.slot) place.done End
    instruction_is left =
        let none : q ≡ q + 0 = omega arith in
        let same : place.done + 0 ≡ place.done = omega arith in
        ap (at (program plan p s)) none ∙ ahead_is 0 (omega (arith, left)) ∙ ap (λ i. slice_index_or (half_program plan p s place.half place.slot) i End) same
