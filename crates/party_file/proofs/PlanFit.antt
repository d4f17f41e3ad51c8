-- What a party's file without a fault gives fits the plan.
use Rattle.std.proofs.Common.{◌≡◌, ℕ, zero, suc, ◌^◌, ◌<◌, ◌≤◌, Bool, true, false, not, nat_lt, List, [], ◌∷◌, length, drop, Option, None, Some, refl, sym, ◌∙◌, ap, subst, arith, inl, inr, length-drop}
use Rattle.std.specs.Prelude.{codes, All, sum, slice_index, slice_index_or, ◌==◌, if◌then◌else◌}
use Rattle.std.proofs.lemmas.Bool.{eqb-true, ltb-true, ltb-false, cases_lt, not-false}
use Rattle.std.proofs.lemmas.List.{get_or_past, length-take-le}
use Rattle.std.proofs.lemmas.List.Elements.{All-take, All-drop}
use Rattle.std.proofs.lemmas.List.Sums.{fails_before_first, sum_by-cons}
use Rattle.std.proofs.lemmas.Nat.{pow_pos}
use Rattle.toml.specs.Data.{Members}
use Rattle.list_laws.specs.Lists.{total, listed}
use Rattle.list_laws.proofs.JoinedLists.{length-listed, listed_at}
use Rattle.tape_words.specs.Cuts.{cut}
use Rattle.tape_words.specs.Seeds.{seed_word}
use Rattle.tape_words.proofs.SeedLists.{stream_words-inside}
use Rattle.toml_fields.specs.Fields.{has_field, text_at, texts_at}
use Rattle.session_slots.specs.Sessions.{given_by, owners}
use Rattle.session_slots.specs.declared.source.Source.TheVariants.{Given}
use Rattle.plan_model.specs.Plans.{Plan, session, words, gives}
use Rattle.session_slots.specs.Counts.{owned}
use Rattle.list_laws.proofs.Totals.{total_count}
use Rattle.list_laws.specs.Checks.{◌answers◌, first_fault}
use Rattle.party_file.specs.Table.{version_checks, name_checks, kind_checks, count_checks, wire_checks, input_checks, random_checks, tape_checks, seed_checks, seed_in, party_checks, party_given, PartyForm, sessions_given, given_widths, number_checks, numbers_in, tapes_of, first_outside, out_of_ring, bad_words, word_counts}
use Rattle.party_file.specs.declared.fault.PartyFault.TheVariants.{CountDiffers, TapeShort}
use Rattle.party_file.specs.Forms.{FitsPlan}
use Rattle.list_laws.proofs.FirstFaults.{passed-front, passed-back, passed-three, joined-passed, not_failed}
use Rattle.party_file.proofs.FaultRows.{counted}
use Rattle.party_file.proofs.SessionInputs.{checks_of, given_of}
use Rattle.party_file.proofs.GivenWidths.{any_place, widths_sum}
use Rattle.value_words.specs.Turned.{is_numeric, wires_of}
use Rattle.value_words.proofs.Turns.{wires_long, wires_below}

-- ---- words of the ring

abbrev pub InRing : ℕ → List ℕ → Type 0
InRing bits words = All (λ word. word < 2 ^ bits) words

inside : (q : ℕ) (words : List ℕ) → length words ≤ first_outside q words → All (λ word. word < q) words
unfolding first_outside
inside q words long = λ k d l. ltb-true _ _ (not-false _ (fails_before_first (λ word. not (nat_lt word q)) words k d (omega (arith, l, long))))

all_inside : (bits : ℕ) (session : Option ℕ) (words : List ℕ) → out_of_ring bits session words ≡ None → InRing bits words
unfolding out_of_ring
all_inside bits session words e = inside (2 ^ bits) words (ltb-false _ _ (not_failed _ _ e))

in_ring-none : (bits : ℕ) → InRing bits []
in_ring-none bits = λ k d l. absurd (omega arith)

pub word_below : (bits : ℕ) (words : List ℕ) (k : ℕ) → InRing bits words → slice_index words k < 2 ^ bits
word_below bits words k all = elim (cases_lt k (length words)) [
  | inl l ↦ all k 0 l
  | inr past ↦ subst (λ w. w < 2 ^ bits) (sym (get_or_past words k 0 past)) (pow_pos bits)
]

-- ---- inputs

session_sound : (bits wanted s : ℕ) (text : List ℕ) → first_fault (wire_checks bits wanted s text) ≡ None → (length (numbers_in text) ≡ wanted) × InRing bits (numbers_in text)
unfolding wire_checks
session_sound bits wanted s text e =
    let found = numbers_in text in
    let passed = passed-three (bad_words (Some s) text) (out_of_ring bits (Some s) found) (not (length found == wanted) answers CountDiffers (Some s) wanted (length found)) e in
    (eqb-true _ _ (not-false (length found == wanted) (not_failed _ _ passed.2)), all_inside bits (Some s) found passed.1)

module _ (numeric : List Bool) (plan : Plan) (p : ℕ) (texts : List (List ℕ)) (counted : length texts ≡ length plan.sessions) (passed : first_fault (input_checks numeric plan p texts) ≡ None) where
  abbrev given : ℕ → List ℕ
  given = given_of numeric plan p texts

  input_at : (s : ℕ) → s < length plan.sessions → slice_index_or (sessions_given numeric plan p texts) s [] ≡ given s
  input_at s l = listed_at (length texts) given s [] (omega (arith, l, counted))

  abbrev AreSound : ℕ → List ℕ → Type 0
  AreSound s words = (length words ≡ owned (session plan s) p) × InRing plan.bits words

  part_sound : (b : Bool) (s : ℕ) (text : List ℕ) → first_fault (if b then number_checks plan.bits (given_widths (session plan s) p) s text else wire_checks plan.bits (owned (session plan s) p) s text) ≡ None
      → AreSound s (if b then wires_of plan.bits (given_widths (session plan s) p) (numbers_in text) else numbers_in text)
  part_sound true s text h =
      let widths = given_widths (session plan s) p in (
        wires_long plan.bits widths (numbers_in text) ∙ widths_sum (session plan s) p,
        λ k d l. subst (λ w. w < 2 ^ plan.bits) (sym (any_place (wires_of plan.bits widths (numbers_in text)) k d l)) (wires_below plan.bits widths (numbers_in text) k),
      )
  part_sound false s text h = session_sound plan.bits (owned (session plan s) p) s text h

  input_sound : (s : ℕ) → s < length plan.sessions → AreSound s (given s)
  unfolding input_checks
  input_sound s l = part_sound (is_numeric numeric s) s (slice_index_or texts s []) (joined-passed (length plan.sessions) s (checks_of numeric plan p texts) l passed)

  pub input_count : (s : ℕ) → s < length plan.sessions → length (slice_index_or (sessions_given numeric plan p texts) s []) ≡ total (length (owners (session plan s))) (λ v. if gives plan s p v then 1 else 0)
  input_count s l = ap length (input_at s l) ∙ (input_sound s l).0 ∙ sym (total_count (given_by p) (owners (session plan s)) (Given 0))

  pub input_ring : (s : ℕ) → InRing plan.bits (slice_index_or (sessions_given numeric plan p texts) s [])
  input_ring s = elim (cases_lt s (length plan.sessions)) [
    | inl l ↦ subst (InRing plan.bits) (sym (input_at s l)) (input_sound s l).1
    | inr past ↦ subst (InRing plan.bits) (sym (get_or_past (sessions_given numeric plan p texts) s [] (omega (arith, past, counted, length-listed (length texts) given)))) (in_ring-none plan.bits)
  ]

-- ---- tapes

length-cut : (counts words : List ℕ) → length (cut counts words) ≡ length counts
length-cut [] words = refl
length-cut (c ∷ cs) words = ap suc (length-cut cs (drop c words))

piece_length : (counts words : List ℕ) (s : ℕ) → sum counts ≤ length words → s < length counts → length (slice_index_or (cut counts words) s []) ≡ slice_index counts s
piece_length [] words s enough l = absurd (omega arith)
piece_length (c ∷ cs) words zero enough l = length-take-le c words (omega (arith, enough, sum_by-cons (λ x. x) c cs))
piece_length (c ∷ cs) words (suc s) enough l = piece_length cs (drop c words) s (omega (arith, enough, sum_by-cons (λ x. x) c cs, length-drop c words)) (omega arith)

piece_ring : (bits : ℕ) (counts words : List ℕ) (s : ℕ) → InRing bits words → InRing bits (slice_index_or (cut counts words) s [])
piece_ring bits [] words s all = in_ring-none bits
piece_ring bits (c ∷ cs) words zero all = All-take (λ word. word < 2 ^ bits) c words all
piece_ring bits (c ∷ cs) words (suc s) all = piece_ring bits cs (drop c words) s (All-drop (λ word. word < 2 ^ bits) c words all)

tape_sound : (bits wanted : ℕ) (text : List ℕ) → first_fault (tape_checks bits wanted text) ≡ None → (wanted ≤ length (numbers_in text)) × InRing bits (numbers_in text)
unfolding tape_checks
tape_sound bits wanted text e =
    let found = numbers_in text in
    let passed = passed-three (bad_words None text) (out_of_ring bits None found) (nat_lt (length found) wanted answers TapeShort wanted (length found)) e in
    (ltb-false _ _ (not_failed _ _ passed.2), all_inside bits None found passed.1)

-- as many pieces as sessions, each of as many words of the ring as are drawn
record AreTapes (plan : Plan) (p : ℕ) (tapes : List (List ℕ)) : Type 0 where
  count : length tapes ≡ length plan.sessions
  lengths : (s : ℕ) → s < length plan.sessions → length (slice_index_or tapes s []) ≡ words plan p s
  drawn : (s : ℕ) → InRing plan.bits (slice_index_or tapes s [])

seed_tapes_fit : (plan : Plan) (p : ℕ) (seed : List ℕ) → AreTapes plan p (listed (length plan.sessions) (λ s. listed (words plan p s) (seed_word plan.bits seed s)))
seed_tapes_fit plan p seed = record {
  count = length-listed (length plan.sessions) tape;
  lengths = λ s l. ap length (at s l) ∙ length-listed (words plan p s) (seed_word plan.bits seed s);
  drawn = λ s. elim (cases_lt s (length plan.sessions)) [
    | inl l ↦ subst (InRing plan.bits) (sym (at s l)) (drawn_of s)
    | inr past ↦ subst (InRing plan.bits) (sym (get_or_past (listed (length plan.sessions) tape) s [] (omega (arith, past, length-listed (length plan.sessions) tape)))) (in_ring-none plan.bits)
  ];
}
  where
    tape : ℕ → List ℕ
    tape s = listed (words plan p s) (seed_word plan.bits seed s)

    at : (s : ℕ) → s < length plan.sessions → slice_index_or (listed (length plan.sessions) tape) s [] ≡ tape s
    at s l = listed_at (length plan.sessions) tape s [] l

    drawn_of : (s : ℕ) → InRing plan.bits (tape s)
    drawn_of s = stream_words-inside (words plan p s) plan.bits _ s

cut_tapes_fit : (plan : Plan) (p : ℕ) (text : List ℕ) → first_fault (tape_checks plan.bits (sum (word_counts plan p)) text) ≡ None → AreTapes plan p (cut (word_counts plan p) (numbers_in text))
unfolding word_counts
cut_tapes_fit plan p text e =
    let sound = tape_sound plan.bits (sum (word_counts plan p)) text e in
    record {
      count = length-cut (word_counts plan p) (numbers_in text) ∙ length-listed (length plan.sessions) (words plan p);
      lengths = λ s l. piece_length (word_counts plan p) (numbers_in text) s sound.0 (omega (arith, l, length-listed (length plan.sessions) (words plan p))) ∙ listed_at (length plan.sessions) (words plan p) s 0 l;
      drawn = λ s. piece_ring plan.bits (word_counts plan p) (numbers_in text) s sound.1;
    }

tapes_fit : (plan : Plan) (p : ℕ) (fields : Members) → first_fault (random_checks plan p fields) ≡ None → AreTapes plan p (tapes_of plan p fields)
unfolding random_checks tapes_of
tapes_fit plan p fields e = go (has_field (codes "seed") fields) e
  where
    go : (b : Bool) → first_fault (if b then seed_checks (text_at (codes "seed") fields) else tape_checks plan.bits (sum (word_counts plan p)) (text_at (codes "tape") fields)) ≡ None
        → AreTapes plan p (if b then listed (length plan.sessions) (λ s. listed (words plan p s) (seed_word plan.bits (seed_in (text_at (codes "seed") fields)) s)) else cut (word_counts plan p) (numbers_in (text_at (codes "tape") fields)))
    go true h = seed_tapes_fit plan p (seed_in (text_at (codes "seed") fields))
    go false h = cut_tapes_fit plan p (text_at (codes "tape") fields) h

-- ---- the file

pub party-fits : (numeric : List Bool) (plan : Plan) (p : ℕ) (fields : Members) (form : PartyForm) → first_fault (party_checks numeric plan p fields) ≡ None → form ≡ party_given numeric plan p fields → FitsPlan plan p form
unfolding party_checks party_given
party-fits numeric plan p fields form e is =
    let texts = texts_at (codes "inputs") fields in
    let after_version = passed-back (version_checks fields) _ e in
    let after_names = passed-back (name_checks fields) _ after_version in
    let after_kinds = passed-back (kind_checks fields) _ after_names in
    let counts : length texts ≡ length plan.sessions = counted (length plan.sessions) fields (passed-front (count_checks (length plan.sessions) fields) _ after_kinds) in
    let after_counts = passed-back (count_checks (length plan.sessions) fields) _ after_kinds in
    let inputs : first_fault (input_checks numeric plan p texts) ≡ None = passed-front (input_checks numeric plan p texts) _ after_counts in
    let tapes : AreTapes plan p (tapes_of plan p fields) = tapes_fit plan p fields (passed-back (input_checks numeric plan p texts) _ after_counts) in
    subst (FitsPlan plan p) (sym is) (record {
      sessions = length-listed (length texts) (given_of numeric plan p texts) ∙ counts;
      counts = input_count numeric plan p texts counts inputs;
      below = λ s k. word_below plan.bits (slice_index_or (sessions_given numeric plan p texts) s []) k (input_ring numeric plan p texts counts inputs s);
      tapes = tapes.count;
      lengths = tapes.lengths;
      drawn = tapes.drawn;
    })
