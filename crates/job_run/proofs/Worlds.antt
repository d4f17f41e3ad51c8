-- The world of the pieces in the order of the desks is the world of the parties.
use Rattle.std.proofs.Common.{◌≡◌, ℕ, zero, suc, ◌+◌, ◌*◌, ◌<◌, ◌≤◌, ◌^◌, List, [], ◌∷◌, ◌++◌, All, length, map, refl, sym, ap, ◌∙◌, subst, arith, inl, inr, append_assoc}
use Rattle.std.specs.Prelude.{slice_index, slice_index_or}
use Rattle.std.specs.List.{concat}
use Rattle.std.proofs.lemmas.Bool.{cases_lt, cases_eq}
use Rattle.std.proofs.lemmas.Nat.{pow_pos}
use Rattle.std.proofs.lemmas.Option.{slice_get_cases}
use Rattle.std.proofs.lemmas.List.{append-nil, ext_get_or, get_or-append-add, get_or-map, get_or_past, length-append, length-map}
use Rattle.std.proofs.lemmas.List.Elements.{All-from_recursion, All-map, recursion_from_All}
use Rattle.std.proofs.Math.ListN.{get_or-append}
use Rattle.std.proofs.Math.Nat.{mul-le-mul_left}
use Rattle.list_laws.specs.Lists.{joined, listed}
use Rattle.list_laws.proofs.JoinedLists.{joined_eq, length-listed, listed_at, every_joined}
use Rattle.plan_model.specs.Plans.{Plan}
use Rattle.plan_model.specs.InputWords.{AreInputs, given}
use Rattle.party_file.specs.Table.{PartyForm}
use Rattle.party_file.specs.Forms.{FitsPlan, form_of}
use Rattle.party_file.specs.declared.data.PartyData.{PartyData}
use Rattle.desk_laws.specs.Pieces.{ArePieces, piece_at, world_of_pieces}
use Rattle.job_run.specs.Parties.{AllFit, world_of}
use Rattle.job_run.specs.Pieces.{pieces_in}

-- ---- joined lists

joined-front : {A : Type 0} (n : ℕ) (f : ℕ → List A) → joined (suc n) f ≡ f 0 ++ joined n (λ i. f (suc i))
joined-front zero f = sym (append-nil (f 0))
joined-front (suc n) f = ap (λ z. z ++ f (suc n)) (joined-front n f) ∙ append_assoc (f 0) (joined n (λ i. f (suc i))) (f (suc n))

joined-concat : (parts : List (List ℕ)) → joined (length parts) (λ s. slice_index_or parts s []) ≡ concat parts
joined-concat [] = refl
joined-concat (x ∷ xs) = joined-front (length xs) (λ s. slice_index_or (x ∷ xs) s []) ∙ ap (λ z. x ++ z) (joined-concat xs)

-- rows, each with an element for each of xs
module _ {A B : Type 0} (xs : List A) (f : ℕ → A → B) where
  length-rows : (n : ℕ) → length (joined n (λ s. map (f s) xs)) ≡ length xs * n
  length-rows zero = omega arith
  length-rows (suc n) = omega (arith, length-append (joined n (λ s. map (f s) xs)) (map (f n) xs), length-rows n, length-map xs (f n))

  rows_at : (n s p : ℕ) (a : A) (b : B) → s < n → p < length xs → slice_index_or (joined n (λ s. map (f s) xs)) (length xs * s + p) b ≡ f s (slice_index_or xs p a)
  rows_at zero s p a b l lp = absurd (omega arith)
  rows_at (suc n) s p a b l lp = elim (cases_eq s n) [
    | inl e ↦ subst (λ z. slice_index_or (joined n (λ s. map (f s) xs) ++ map (f n) xs) (length xs * z + p) b ≡ f z (slice_index_or xs p a)) (sym e)
        (ap (λ z. slice_index_or (joined n (λ s. map (f s) xs) ++ map (f n) xs) (z + p) b) (sym (length-rows n))
        ∙ get_or-append-add (joined n (λ s. map (f s) xs)) (map (f n) xs) p b
        ∙ get_or-map (f n) xs p a b lp)
    | inr ne ↦
        let below : suc s ≤ n = omega arith in
        let room = mul-le-mul_left (length xs) below in
        get_or-append (joined n (λ s. map (f s) xs)) (map (f n) xs) b (length xs * s + p) (omega (arith, room, lp, length-rows n)) ∙ rows_at n s p a b (omega arith) lp
  ]

-- ---- parties that fit the plan

abbrev no_form : PartyForm
no_form = record { inputs = []; tapes = [] }

module _ (plan : Plan) (parties : List PartyData) (count : length parties ≡ plan.parties) (fit : AllFit plan parties) where
  abbrev forms : List PartyForm
  forms = map form_of parties

  abbrev form : ℕ → PartyForm
  form p = slice_index_or forms p no_form

  abbrev inputs : List (List (List ℕ))
  inputs = map (λ party. party.inputs) forms

  abbrev tapes : List (List (List ℕ))
  tapes = map (λ party. party.tapes) forms

  abbrev pieces : List (List ℕ)
  pieces = pieces_in (length plan.sessions) tapes

  abbrev InRing : List ℕ → Type 0
  InRing words = All (λ word. word < 2 ^ plan.bits) words

  many_forms : length forms ≡ plan.parties
  many_forms = length-map parties form_of ∙ count

  many_tapes : length tapes ≡ plan.parties
  many_tapes = length-map forms (λ party. party.tapes) ∙ many_forms

  many_inputs : length inputs ≡ plan.parties
  many_inputs = length-map forms (λ party. party.inputs) ∙ many_forms

  fits : (p : ℕ) → p < plan.parties → FitsPlan plan p (form p)
  fits p l = elim ((slice_get_cases parties p).1) [
    | inl q ↦ subst (FitsPlan plan p) (sym (get_or-map form_of parties p q.0 no_form q.1 ∙ ap form_of q.3)) (fit p q.0 q.2)
    | inr q ↦ absurd (omega (arith, q.0, count, l))
  ]

  inputs_at : (p : ℕ) → p < plan.parties → slice_index_or inputs p [] ≡ (form p).inputs
  inputs_at p l = get_or-map (λ (party : PartyForm). party.inputs) forms p no_form [] (omega (arith, many_forms, l))

  tapes_at : (p : ℕ) (d : List (List ℕ)) → p < plan.parties → slice_index_or tapes p d ≡ (form p).tapes
  tapes_at p d l = get_or-map (λ (party : PartyForm). party.tapes) forms p no_form d (omega (arith, many_forms, l))

  -- ---- inputs

  below : (p s k : ℕ) → slice_index (given inputs p s) k < 2 ^ plan.bits
  below p s k = elim (cases_lt p plan.parties) [
    | inl l ↦ subst (λ given. slice_index (slice_index_or given s []) k < 2 ^ plan.bits) (sym (inputs_at p l)) ((fits p l).below s k)
    | inr past ↦ subst (λ given. slice_index (slice_index_or given s []) k < 2 ^ plan.bits) (sym (get_or_past inputs p [] (omega (arith, past, many_inputs)))) (pow_pos plan.bits)
  ]

  pub are_inputs : AreInputs plan inputs
  are_inputs = record {
    parties = many_inputs;
    sessions = λ p l. ap length (inputs_at p l) ∙ (fits p l).sessions;
    counts = λ p s l ls. ap (λ given. length (slice_index_or given s [])) (inputs_at p l) ∙ (fits p l).counts s ls;
    below = below;
  }

  -- ---- pieces

  pub sessions_each : All (λ pieces. length pieces ≡ length plan.sessions) tapes
  sessions_each = λ p d l. let lp : p < plan.parties = omega (arith, l, many_tapes) in ap length (tapes_at p d lp) ∙ (fits p lp).tapes

  pub piece_is : (p s : ℕ) → p < plan.parties → s < length plan.sessions → piece_at plan pieces p s ≡ slice_index_or (form p).tapes s []
  piece_is p s l ls =
      let number : s * plan.parties + p ≡ length tapes * s + p = (let e = ap (λ z. z * s) many_tapes in omega (arith, e)) in
      ap (λ k. slice_index_or pieces k []) number
      ∙ rows_at tapes (λ s pieces. slice_index_or pieces s []) (length plan.sessions) s p [] [] ls (omega (arith, l, many_tapes))
      ∙ ap (λ pieces. slice_index_or pieces s []) (tapes_at p [] l)

  row_below : (s : ℕ) → All InRing (map (λ pieces. slice_index_or pieces s []) tapes)
  row_below s =
      All-map InRing (λ pieces. slice_index_or pieces s []) tapes
      (λ p d l. let lp : p < plan.parties = omega (arith, l, many_tapes) in subst (λ pieces. InRing (slice_index_or pieces s [])) (sym (tapes_at p d lp)) ((fits p lp).drawn s))

  pub are_pieces : ArePieces plan pieces
  are_pieces = record {
    count = length-rows tapes (λ s pieces. slice_index_or pieces s []) (length plan.sessions) ∙ ap (λ z. z * length plan.sessions) many_tapes;
    lengths = λ p s l ls. ap length (piece_is p s l ls) ∙ (fits p l).lengths s ls;
    below = All-from_recursion InRing pieces (every_joined InRing (length plan.sessions) _ (λ s ls. recursion_from_All InRing _ (row_below s)));
  }

  -- ---- the world

  tape_is : (p : ℕ) → p < plan.parties → joined (length plan.sessions) (piece_at plan pieces p) ≡ concat (form p).tapes
  tape_is p l =
      joined_eq (length plan.sessions) (piece_at plan pieces p) (λ s. slice_index_or (form p).tapes s []) (λ s ls. piece_is p s l ls)
      ∙ ap (λ n. joined n (λ s. slice_index_or (form p).tapes s [])) (sym (fits p l).tapes)
      ∙ joined-concat (form p).tapes

  tapes_same : listed plan.parties (λ p. joined (length plan.sessions) (piece_at plan pieces p)) ≡ map (λ party. concat party.tapes) forms
  tapes_same =
      let tape : ℕ → List ℕ = λ p. joined (length plan.sessions) (piece_at plan pieces p) in
      let many : length (listed plan.parties tape) ≡ plan.parties = length-listed plan.parties tape in
      ext_get_or [] _ _ (many ∙ sym (length-map forms (λ party. concat party.tapes) ∙ many_forms))
      (λ p l.
      let lp : p < plan.parties = omega (arith, l, many) in
      listed_at plan.parties tape p [] lp
      ∙ tape_is p lp
      ∙ sym (get_or-map (λ (party : PartyForm). concat party.tapes) forms p no_form [] (omega (arith, many_forms, lp))))

  pub world_same : world_of_pieces plan inputs pieces ≡ world_of plan forms
  world_same = ap (λ tapes. record { plan = plan; inputs = inputs; tapes = tapes }) tapes_same
