-- A node's part that fits its plan is that of a node of a world, and such a node has what a party of it has, and its desks.
use Rattle.std.proofs.Common.{◌≡◌, ℕ, zero, suc, ◌+◌, ◌<◌, ◌≤◌, ◌^◌, Bool, true, false, nat_eq, List, [], ◌∷◌, ◌++◌, length, take, drop, replicate, refl, sym, ap, ◌∙◌, subst, arith, Some}
use Rattle.std.specs.Prelude.{if◌then◌else◌, slice_index, slice_index_or}
use Rattle.std.specs.List.{slice_get, concat}
use Rattle.std.proofs.lemmas.Bool.{cases_eq, cases_lt, eqb-true, eq-eqb}
use Rattle.std.proofs.lemmas.Nat.{pow_pos}
use Rattle.std.proofs.lemmas.List.{append-nil, append_assoc, take-append-le, drop-append-le, length-drop, length-replicate, get_or-replicate, get_or_past}
use Rattle.std.proofs.lemmas.Option.{slice_get_within, get_or_from_slice_get}
use Rattle.std.proofs.lemmas.List.Elements.{recursion_from_All}
use Rattle.std.proofs.Math.Seq.{take-length, drop-append_seam}
use mathlib.Core.Logic.{inl, inr}
use Rattle.list_laws.specs.Lists.{total, joined, listed}
use Rattle.list_laws.proofs.Totals.{total_eq}
use Rattle.list_laws.proofs.JoinedLists.{length-joined, length-listed, listed_at, total_within, every_joined, every_at}
use Rattle.plan_model.specs.declared.key.Key.{Key}
use Rattle.plan_model.specs.Plans.{Plan, words, place, input_count}
use Rattle.plan_model.specs.Sound.{IsSound}
use Rattle.plan_model.specs.Numbers.{message}
use Rattle.plan_model.specs.InputWords.{AreInputs}
use Rattle.plan_model.specs.Tallies.{tape_length}
use Rattle.share_world.specs.Worlds.{World}
use Rattle.share_world.specs.Laws.{IsWhole, AreTapes}
use Rattle.program_model.specs.States.{Given}
use Rattle.program_laws.specs.Meets.{local_given}
use Rattle.program_laws.specs.Parts.{IsPart}
use Rattle.party_desk.specs.declared.desk.Desk.{Desk}
use Rattle.party_desk.specs.Desks.{IsDesk, IsNew}
use Rattle.desk_laws.proofs.Elements.{by_place}
use Rattle.node_talk.specs.Talks.{Node}
use Rattle.node_run.specs.Ready.{NodePart, IsNodePart, IsNodeOf, AreOpened}

-- ---- lists one after another

joined_front : {A : Type 0} (n : ℕ) (f : ℕ → List A) → joined (suc n) f ≡ f 0 ++ joined n (λ i. f (suc i))
joined_front zero f = sym (append-nil (f 0))
joined_front (suc n) f = ap (λ z. z ++ f (suc n)) (joined_front n f) ∙ append_assoc (f 0) (joined n (λ i. f (suc i))) (f (suc n))

joined_is_concat : (parts : List (List ℕ)) → joined (length parts) (λ s. slice_index_or parts s []) ≡ concat parts
joined_is_concat [] = refl
joined_is_concat (x ∷ xs) = joined_front (length xs) (λ s. slice_index_or (x ∷ xs) s []) ∙ ap (λ z. x ++ z) (joined_is_concat xs)

-- a part is cut out after those before it
cut_out : (n s : ℕ) (f : ℕ → List ℕ) → s < n → take (length (f s)) (drop (total s (λ j. length (f j))) (joined n f)) ≡ f s
cut_out zero s f l = absurd (omega arith)
cut_out (suc n) s f l = elim (cases_eq s n) [
  | inl e ↦ subst (λ z. take (length (f z)) (drop (total z (λ j. length (f j))) (joined n f ++ f n)) ≡ f z) (sym e)
      (ap (λ z. take (length (f n)) (drop z (joined n f ++ f n))) (sym (length-joined n f))
      ∙ ap (take (length (f n))) (drop-append_seam (joined n f) (f n))
      ∙ take-length (f n))
  | inr ne ↦
      let before : ℕ = total s (λ j. length (f j)) in
      let within : before + length (f s) ≤ total n (λ j. length (f j)) = total_within n s (λ j. length (f j)) (omega arith) in
      let long : length (joined n f) ≡ total n (λ j. length (f j)) = length-joined n f in
      ap (take (length (f s))) (drop-append-le before (joined n f) (f n) (omega (arith, within, long)))
      ∙ take-append-le (length (f s)) (drop before (joined n f)) (f n) (omega (arith, within, long, length-drop before (joined n f)))
      ∙ cut_out n s f (omega arith)
]

-- ---- what a party with this part has

-- a party's part, by its inputs and its tape
record HasPart (plan : Plan) (p : ℕ) (inputs : List (List ℕ)) (tape : List ℕ) : Type 0 where
  sound : IsSound plan
  party : p < plan.parties
  counts : (s : ℕ) → s < length plan.sessions → length (slice_index_or inputs s []) ≡ input_count plan p s
  long : length tape ≡ tape_length plan p
  small_inputs : (s i : ℕ) → slice_index (slice_index_or inputs s []) i < 2 ^ plan.bits
  small_tape : (i : ℕ) → slice_index tape i < 2 ^ plan.bits

module _ (part : NodePart) (h : IsNodePart part) where
  abbrev piece : ℕ → List ℕ
  piece s = slice_index_or part.given.tapes s []

  abbrev sessions : ℕ
  sessions = length part.plan.sessions

  tape_is : joined sessions piece ≡ concat part.given.tapes
  tape_is = ap (λ n. joined n piece) (sym h.fits.tapes) ∙ joined_is_concat part.given.tapes

  counted : (t : ℕ) → t ≤ sessions → total t (λ s. length (piece s)) ≡ total t (words part.plan part.me)
  counted t lt = total_eq t _ _ (λ s ls. h.fits.lengths s (omega arith))

  has_part : HasPart part.plan part.me part.given.inputs (concat part.given.tapes)
  has_part = record {
    sound = h.sound;
    party = h.party;
    counts = h.fits.counts;
    long = ap length (sym tape_is) ∙ length-joined sessions piece ∙ counted sessions (omega arith);
    small_inputs = h.fits.below;
    small_tape = λ i. subst (λ t. slice_index t i < 2 ^ part.plan.bits) tape_is
        (every_at (λ x. x < 2 ^ part.plan.bits) (joined sessions piece) i (pow_pos part.plan.bits)
        (every_joined (λ x. x < 2 ^ part.plan.bits) sessions piece (λ s ls. recursion_from_All _ _ (h.fits.drawn s))));
  }

  -- its piece of tape in a session
  piece_is : (s : ℕ) → s < sessions → take (words part.plan part.me s) (drop (place part.plan part.me s 0) (concat part.given.tapes)) ≡ piece s
  piece_is s ls =
      let before : place part.plan part.me s 0 ≡ total s (λ j. length (piece j)) = (let e = counted s (omega arith) in omega (arith, e)) in
      ap (λ k. take k (drop (place part.plan part.me s 0) (concat part.given.tapes))) (sym (h.fits.lengths s ls))
      ∙ ap (λ k. take (length (piece s)) (drop k (concat part.given.tapes))) before
      ∙ ap (λ t. take (length (piece s)) (drop (total s (λ j. length (piece j))) t)) (sym tape_is)
      ∙ cut_out sessions s piece ls

  -- ---- in a world

  module _ (n : Node) (of : IsNodeOf part n) where
    abbrev inputs : List (List ℕ)
    inputs = slice_index_or n.world.inputs n.me []

    abbrev tape : List ℕ
    tape = slice_index_or n.world.tapes n.me []

    inputs_are : inputs ≡ part.given.inputs
    inputs_are = ap (λ p. slice_index_or n.world.inputs p []) of.me ∙ of.inputs

    tape_are : tape ≡ concat part.given.tapes
    tape_are = ap (λ p. slice_index_or n.world.tapes p []) of.me ∙ of.tape

    part_here : HasPart n.world.plan n.me inputs tape
    part_here =
        subst (λ plan. HasPart plan n.me inputs tape) (sym of.plan)
        (subst (λ p. HasPart part.plan p inputs tape) (sym of.me)
        (subst (λ xs. HasPart part.plan part.me xs tape) (sym inputs_are)
        (subst (λ t. HasPart part.plan part.me part.given.inputs t) (sym tape_are) has_part)))

    pub is_part : IsPart n.world n.me
    is_part = record {
      sound = part_here.sound;
      party = part_here.party;
      inputs = part_here.counts;
      tape = part_here.long;
      small_inputs = part_here.small_inputs;
      small_tape = part_here.small_tape;
    }

    -- ---- its desks

    module _ (got : Key → ℕ) (s : ℕ) where
      abbrev given_by : Plan → ℕ → List (List ℕ) → List ℕ → Given
      given_by plan p xs t = record {
        plan = plan;
        party = p;
        session = s;
        inputs = slice_index_or xs s [];
        tape = take (words plan p s) (drop (place plan p s 0) t);
        got = λ m. got (message n.world.plan m);
      }

      given_is : s < sessions → local_given n.world got s n.me
          ≡ record {
            plan = part.plan;
            party = part.me;
            session = s;
            inputs = slice_index_or part.given.inputs s [];
            tape = piece s;
            got = λ m. got (message n.world.plan m);
          }
      given_is ls =
          ap (λ plan. given_by plan n.me inputs tape) of.plan
          ∙ ap (λ p. given_by part.plan p inputs tape) of.me
          ∙ ap (λ xs. given_by part.plan part.me xs tape) inputs_are
          ∙ ap (λ t. given_by part.plan part.me part.given.inputs t) tape_are
          ∙ ap (λ t. record {
            plan = part.plan;
            party = part.me;
            session = s;
            inputs = slice_index_or part.given.inputs s [];
            tape = t;
            got = λ m. got (message n.world.plan m);
          }) (piece_is s ls)

    module _ (desks : List Desk) (opened : AreOpened part.plan part.me part.given desks) where
      new_here : (s : ℕ) (d : Desk) → slice_get desks s ≡ Some d → IsNew part.plan part.me s (slice_index_or part.given.inputs s []) (piece s) d
      new_here s d is =
          subst (IsNew part.plan part.me s (slice_index_or part.given.inputs s []) (piece s)) (get_or_from_slice_get desks s d d is)
          (by_place (λ s d. IsNew part.plan part.me s (slice_index_or part.given.inputs s []) (piece s) d) desks opened.each s d (slice_get_within desks s d is))

      -- a desk that was opened is one of the world, at its start
      pub new_desk : (got : Key → ℕ) (s : ℕ) (d : Desk) → slice_get desks s ≡ Some d → IsDesk (local_given n.world got s n.me) d
      new_desk got s d is =
          let ls : s < length desks = slice_get_within desks s d is in
          subst (λ given. IsDesk given d) (sym (given_is got s (omega (arith, ls, opened.count)))) ((new_here s d is).desk (λ m. got (message n.world.plan m)))

      pub new_position : (s : ℕ) (d : Desk) → slice_get desks s ≡ Some d → d.position ≡ 0
      new_position s d is = (new_here s d is).position

-- ---- a world for a part

chosen : {A : Type 0} (P : A → Type 0) (p me : ℕ) (x y : A) → (p ≡ me → P x) → P y → P (if nat_eq p me then x else y)
chosen {A} P p me x y here there = go (nat_eq p me) refl
  where
    go : (b : Bool) → nat_eq p me ≡ b → P (if b then x else y)
    go true is = here (eqb-true p me is)
    go false is = there

none_large : (n k bits : ℕ) → slice_index (replicate n 0) k < 2 ^ bits
none_large n k bits = elim (cases_lt k n) [
  | inl l ↦ subst (λ w. w < 2 ^ bits) (sym (get_or-replicate n k 0 0 l)) (pow_pos bits)
  | inr past ↦ subst (λ w. w < 2 ^ bits) (sym (get_or_past (replicate n 0) k 0 (omega (arith, past, length-replicate {A = ℕ} n 0)))) (pow_pos bits)
]

module _ (part : NodePart) (h : IsNodePart part) where
  abbrev plan : Plan
  plan = part.plan

  abbrev many : ℕ
  many = length part.plan.sessions

  abbrev q : ℕ
  q = 2 ^ part.plan.bits

  -- the others give zeros
  abbrev zeros_in : ℕ → ℕ → List ℕ
  zeros_in p s = replicate (input_count plan p s) 0

  abbrev zeros : ℕ → List (List ℕ)
  zeros p = listed many (zeros_in p)

  abbrev inputs_by : ℕ → List (List ℕ)
  inputs_by p = if nat_eq p part.me then part.given.inputs else zeros p

  abbrev tape_by : ℕ → List ℕ
  tape_by p = if nat_eq p part.me then concat part.given.tapes else replicate (tape_length plan p) 0

  abbrev some_world : World
  some_world = record { plan = plan; inputs = listed plan.parties inputs_by; tapes = listed plan.parties tape_by }

  inputs_at : (p : ℕ) → p < plan.parties → slice_index_or some_world.inputs p [] ≡ inputs_by p
  inputs_at p lp = listed_at plan.parties inputs_by p [] lp

  tape_at : (p : ℕ) → p < plan.parties → slice_index_or some_world.tapes p [] ≡ tape_by p
  tape_at p lp = listed_at plan.parties tape_by p [] lp

  zeros_below : (p s k : ℕ) → slice_index (slice_index_or (zeros p) s []) k < q
  zeros_below p s k = elim (cases_lt s many) [
    | inl ls ↦ subst (λ xs. slice_index xs k < q) (sym (listed_at many (zeros_in p) s [] ls)) (none_large (input_count plan p s) k plan.bits)
    | inr past ↦ subst (λ xs. slice_index xs k < q) (sym (get_or_past (zeros p) s [] (omega (arith, past, length-listed many (zeros_in p))))) (pow_pos plan.bits)
  ]

  are_inputs : AreInputs plan some_world.inputs
  are_inputs = record {
    parties = length-listed plan.parties inputs_by;
    sessions = λ p lp. ap length (inputs_at p lp) ∙ chosen (λ xs. length xs ≡ many) p part.me part.given.inputs (zeros p) (λ e. h.fits.sessions) (length-listed many (zeros_in p));
    counts = λ p s lp ls.
        ap (λ xs. length (slice_index_or xs s [])) (inputs_at p lp)
        ∙ chosen (λ xs. length (slice_index_or xs s []) ≡ input_count plan p s) p part.me part.given.inputs (zeros p)
        (λ e. subst (λ z. length (slice_index_or part.given.inputs s []) ≡ input_count plan z s) (sym e) (h.fits.counts s ls))
        (ap length (listed_at many (zeros_in p) s [] ls) ∙ length-replicate (input_count plan p s) 0);
    below = λ p s k. elim (cases_lt p plan.parties) [
      | inl lp ↦ subst (λ xs. slice_index (slice_index_or xs s []) k < q) (sym (inputs_at p lp))
          (chosen (λ xs. slice_index (slice_index_or xs s []) k < q) p part.me part.given.inputs (zeros p) (λ e. h.fits.below s k) (zeros_below p s k))
      | inr past ↦ subst (λ xs. slice_index (slice_index_or xs s []) k < q) (sym (get_or_past some_world.inputs p [] (omega (arith, past, length-listed plan.parties inputs_by)))) (pow_pos plan.bits)
    ];
  }

  are_tapes : AreTapes plan some_world.tapes
  are_tapes = record {
    parties = length-listed plan.parties tape_by;
    lengths = λ p lp.
        ap length (tape_at p lp)
        ∙ chosen (λ t. length t ≡ tape_length plan p) p part.me (concat part.given.tapes) (replicate (tape_length plan p) 0)
        (λ e. subst (λ z. length (concat part.given.tapes) ≡ tape_length plan z) (sym e) (has_part part h).long)
        (length-replicate (tape_length plan p) 0);
    below = λ p i. elim (cases_lt p plan.parties) [
      | inl lp ↦ subst (λ t. slice_index t i < q) (sym (tape_at p lp))
          (chosen (λ t. slice_index t i < q) p part.me (concat part.given.tapes) (replicate (tape_length plan p) 0) (λ e. (has_part part h).small_tape i) (none_large (tape_length plan p) i plan.bits))
      | inr past ↦ subst (λ t. slice_index t i < q) (sym (get_or_past some_world.tapes p [] (omega (arith, past, length-listed plan.parties tape_by)))) (pow_pos plan.bits)
    ];
  }

  pub some_node : (n : Node) × IsNodeOf part n × IsWhole n.world
  some_node =
      let own : nat_eq part.me part.me ≡ true = eq-eqb part.me part.me refl in (
        record { world = some_world; me = part.me; digest = part.digest; form = part.form },
        record {
          plan = refl;
          me = refl;
          inputs = inputs_at part.me h.party ∙ ap (λ b. if b then part.given.inputs else zeros part.me) own;
          tape = tape_at part.me h.party ∙ ap (λ b. if b then concat part.given.tapes else replicate (tape_length plan part.me) 0) own;
          digest = refl;
          form = refl;
        },
        record { sound = h.sound; inputs = are_inputs; tapes = are_tapes },
      )
