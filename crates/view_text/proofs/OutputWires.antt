-- The wires of each output value of a session, and their words.
use Rattle.std.proofs.Common.{◌≡◌, ℕ, zero, suc, ◌+◌, ◌<◌, ◌≤◌, List, [], ◌∷◌, ◌++◌, length, replicate, refl, sym, ap, ◌∙◌, arith, length-append}
use Rattle.std.proofs.lemmas.List.{length-replicate}
use Rattle.std.specs.Prelude.{slice_index, slice_index_or, codes, decimal}
use Rattle.list_laws.specs.Lists.{total, joined, listed}
use Rattle.list_laws.proofs.JoinedLists.{joined_eq, listed_at, length-listed}
use Rattle.session_slots.specs.declared.values.OutputValue.{OutputValue}
use Rattle.session_slots.specs.Sessions.{readers_of}
use Rattle.plan_model.specs.Plans.{Plan, session}
use Rattle.plan_model.specs.Sound.{IsSound}
use Rattle.text_parts.specs.Parts.{words_text}
use Rattle.view_text.specs.OutLines.{no_output, output_value, wires_before}

total_first : (n : ℕ) (f : ℕ → ℕ) → total (suc n) f ≡ f 0 + total n (λ i. f (suc i))
total_first zero f = omega arith
total_first (suc n) f = ap (λ z. z + f (suc n)) (total_first n f) ∙ omega arith

abbrev width_at : List OutputValue → ℕ → ℕ
width_at vs u = (slice_index_or vs u no_output).width

abbrev mask_at : List OutputValue → ℕ → ℕ
mask_at vs u = (slice_index_or vs u no_output).readers.mask

in_front : (n m : ℕ) (ms : List ℕ) (i : ℕ) → i < n → slice_index (replicate n m ++ ms) i ≡ m
in_front zero m ms i l = absurd (omega arith)
in_front (suc n) m ms zero l = refl
in_front (suc n) m ms (suc i) l = in_front n m ms i (omega arith)

behind : (n m : ℕ) (ms : List ℕ) (i : ℕ) → slice_index (replicate n m ++ ms) (n + i) ≡ slice_index ms i
behind zero m ms i = ap (slice_index ms) (omega arith)
behind (suc n) m ms i = let e : suc n + i ≡ suc (n + i) = omega arith in ap (slice_index (m ∷ (replicate n m ++ ms))) e ∙ behind n m ms i

pub masks : (vs : List OutputValue) (v i : ℕ) → v < length vs → i < width_at vs v → slice_index (readers_of vs) (total v (width_at vs) + i) ≡ mask_at vs v
masks [] v i l m = absurd (omega arith)
masks (x ∷ vs) zero i l m = let e : 0 + i ≡ i = omega arith in ap (slice_index (replicate x.width x.readers.mask ++ readers_of vs)) e ∙ in_front x.width x.readers.mask (readers_of vs) i m
masks (x ∷ vs) (suc v) i l m =
    let e : total (suc v) (width_at (x ∷ vs)) + i ≡ x.width + (total v (width_at vs) + i) = omega (arith, total_first v (width_at (x ∷ vs))) in
    ap (slice_index (replicate x.width x.readers.mask ++ readers_of vs)) e
    ∙ behind x.width x.readers.mask (readers_of vs) (total v (width_at vs) + i)
    ∙ masks vs v i (omega arith) m

pub widths : (vs : List OutputValue) (v : ℕ) → v < length vs → total v (width_at vs) + width_at vs v ≤ length (readers_of vs)
widths [] v l = absurd (omega arith)
widths (x ∷ vs) zero l = omega (arith, length-append (replicate x.width x.readers.mask) (readers_of vs), length-replicate x.width x.readers.mask)
widths (x ∷ vs) (suc v) l =
    omega (arith, total_first v (width_at (x ∷ vs)), length-append (replicate x.width x.readers.mask) (readers_of vs), length-replicate x.width x.readers.mask, widths vs v (omega arith))

-- the output wires are within the limit
pub few_wires : (plan : Plan) (s v : ℕ) → IsSound plan → s < length plan.sessions → v < length (session plan s).outputs
    → wires_before (session plan s) v + (output_value (session plan s) v).width ≤ 131072
few_wires plan s v sound ls lv =
    let one = sound.sessions s ls in
    omega (arith, widths (session plan s).outputs v lv, one.wired.output_wires, one.wired.wires)

-- the words of wires, each after a space
pub words_joined : (n : ℕ) (word : ℕ → ℕ) → joined n (λ i. codes " " ++ decimal (word i)) ≡ words_text (listed n word)
words_joined n word =
    joined_eq n _ _ (λ k l. ap (λ x. codes " " ++ decimal x) (sym (listed_at n word k 0 l)))
    ∙ ap (λ m. joined m (λ i. codes " " ++ decimal (slice_index (listed n word) i))) (sym (length-listed n word))
