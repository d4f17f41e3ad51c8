-- First parts of frames and of programs.
use Rattle.std.proofs.Common.{◌≡◌, ◌⊎◌, ℕ, zero, suc, ◌+◌, ◌*◌, ◌<◌, ◌≤◌, List, [], ◌∷◌, ◌++◌, take, length, refl, sym, ap, ◌∙◌, subst, arith, append_assoc, length-append, inl, inr}
use Rattle.std.specs.Prelude.{slice_index_or, min}
use Rattle.std.specs.List.{flat_map, AllByRecursion}
use Rattle.std.proofs.lemmas.Bool.{cases_eq, cases_lt}
use Rattle.std.proofs.lemmas.List.{length-take}
use Rattle.std.proofs.lemmas.Grind.{flat_map-append}
use Rattle.std.proofs.lemmas.Nat.{mul-le}
use mathlib.Core.Logic.{inl as left', inr as right'}
use Rattle.list_laws.specs.Lists.{joined}
use Rattle.list_laws.proofs.JoinedLists.{every_append, every_joined, every_only_if}
use Rattle.plan_model.specs.Plans.{Plan}
use Rattle.plan_model.specs.declared.key.Key.{Key}
use Rattle.plan_model.specs.Numbers.{message, no_key}
use Rattle.program_model.specs.declared.instruction.Instruction.{Instruction}
use Rattle.program_model.specs.declared.instruction.Instruction.TheVariants.{Post, End}
use Rattle.program_model.specs.Programs.{program, at, to}
use Rattle.frame_code.specs.declared.framing.Framing.{Framing}
use Rattle.frame_code.specs.Frames.{frame, frame_bytes}
use Rattle.frame_code.proofs.ReadFrames.{length-frame}
use Rattle.node_talk.specs.Talks.{Node, post_to, posts_to, frames}
use Rattle.node_talk.proofs.MessageOrder.{flat_joined}
use Rattle.node_talk.proofs.Frames.{same_split}
use Rattle.node_talk.proofs.ActPlaces.{joined_within, before_session}

-- ---- frames

pub frames_begin : (r : Framing) (f g : Key → ℕ) (keys : List Key) (n : ℕ) (rest : List ℕ) → n ≤ length keys → frames r f (take n keys) ++ rest ≡ frames r g keys → AllByRecursion (λ key. frame r key (f key) ≡ frame r key (g key)) (take n keys)
frames_begin r f g keys zero rest l e = tt
frames_begin r f g [] (suc n) rest l e = absurd (omega arith)
frames_begin r f g (key ∷ keys) (suc n) rest l e =
    let s = same_split (frame r key (f key)) (frame r key (g key)) (frames r f (take n keys) ++ rest) (frames r g keys) (length-frame r key (f key) ∙ sym (length-frame r key (g key))) (sym (append_assoc (frame r key (f key)) (frames r f (take n keys)) rest) ∙ e) in
    (s.0, frames_begin r f g keys n rest (omega arith) s.1)

pub cut_after : (start a b : List ℕ) (x : ℕ) → ((n : ℕ) → x ≡ length start + n → take n a ≡ take n b) → take x (start ++ a) ≡ take x (start ++ b)
cut_after [] a b x f = f x (omega arith)
cut_after (s ∷ start) a b zero f = refl
cut_after (s ∷ start) a b (suc x) f = ap (λ z. s ∷ z) (cut_after start a b x (λ n e. f n (omega arith)))

-- the first bytes of frames are the same where the words of the frames that they reach into are
pub cut_frames : (r : Framing) (f g : Key → ℕ) (keys : List Key) (n : ℕ) → ((j : ℕ) → j < length keys → frame_bytes r * j < n → f (slice_index_or keys j no_key) ≡ g (slice_index_or keys j no_key)) → take n (frames r f keys) ≡ take n (frames r g keys)
cut_frames r f g [] n same = refl
cut_frames r f g (key ∷ keys) n same = elim (cases_lt 0 n) [
  | left' some ↦ ap (λ v. take n (frame r key v ++ frames r f keys)) (same 0 (omega arith) (omega arith))
      ∙ cut_after (frame r key (g key)) (frames r f keys) (frames r g keys) n (λ m is. cut_frames r f g keys m (λ j lj less. same (suc j) (omega arith) (let l = length-frame r key (g key) in omega (arith, is, less, l))))
  | right' none ↦ let e : n ≡ 0 = omega arith in subst (λ z. take z (frames r f (key ∷ keys)) ≡ take z (frames r g (key ∷ keys))) (sym e) refl
]

-- places by the bytes before them
pub less_by : (w a b : ℕ) → w * a < w * b → a < b
less_by w a b l = elim (cases_lt a b) [
  | left' is ↦ is
  | right' past ↦ absurd (let m : w * b ≤ w * a = mul-le w b w a (omega arith) past in omega (arith, l, m))
]

pub below_by : (w a b : ℕ) → a < b → w * a + w ≤ w * b
below_by w a b l = let m : w * (a + 1) ≤ w * b = mul-le w (a + 1) w b (omega arith) (omega (arith, l)) in omega (arith, m)

pub short_take : (n : ℕ) (xs : List ℕ) → length (take n xs) ≤ length xs
short_take zero xs = omega arith
short_take (suc n) [] = omega arith
short_take (suc n) (x ∷ xs) = let a = short_take n xs in omega arith

pub long_take : (xs ys : List ℕ) (x c : ℕ) → xs ≡ take x ys → c < x → c < length ys → c < length xs
long_take xs ys x c e lx ly = subst (λ z. c < length z) (sym e) (let a : length (take x ys) ≡ min x (length ys) = length-take x ys in omega arith)

-- ---- programs

take_left : {A : Type 0} (n : ℕ) (xs ys : List A) → n ≤ length xs → take n (xs ++ ys) ≡ take n xs
take_left zero xs ys l = refl
take_left (suc n) [] ys l = absurd (omega arith)
take_left (suc n) (x ∷ xs) ys l = ap (λ z. x ∷ z) (take_left n xs ys (omega arith))

take_right : {A : Type 0} (n : ℕ) (xs ys : List A) → take (length xs + n) (xs ++ ys) ≡ xs ++ take n ys
take_right n [] ys = ap (λ z. take z ys) (omega arith)
take_right n (x ∷ xs) ys = ap (λ z. take z (x ∷ (xs ++ ys))) (let e : length (x ∷ xs) + n ≡ suc (length xs + n) = omega arith in e) ∙ ap (λ z. x ∷ z) (take_right n xs ys)

take_joined : (f : ℕ → List Instruction) (n s u : ℕ) → s < n → u ≤ length (f s) → take (length (joined s f) + u) (joined n f) ≡ joined s f ++ take u (f s)
take_joined f zero s u ls lu = absurd (omega arith)
take_joined f (suc n) s u ls lu = elim (cases_eq s n) [
  | left' e ↦ subst (λ z. take (length (joined z f) + u) (joined n f ++ f n) ≡ joined z f ++ take u (f z)) (sym e) (take_right u (joined n f) (f n))
  | right' ne ↦ take_left (length (joined s f) + u) (joined n f) (f n) (let a = joined_within f (suc s) n (omega arith) in omega (arith, a, length-append (joined s f) (f s))) ∙ take_joined f n s u (omega arith) lu
]

at_take : (es : List Instruction) (n j : ℕ) (m i : ℕ) → at (take n es) j ≡ Post m i → (j < n) × (at es j ≡ Post m i)
at_take es zero j m i e = absurd (let f : End ≡ Post m i = e in cc)
at_take [] (suc n) j m i e = absurd (let f : End ≡ Post m i = e in cc)
at_take (x ∷ es) (suc n) zero m i e = (omega arith, e)
at_take (x ∷ es) (suc n) (suc j) m i e = let r = at_take es n j m i e in (omega (arith, r.0), r.1)

module _ (plan : Plan) (q : ℕ) (P : Key → Type 0) where
  one_posted : (e : Instruction) → ((m i : ℕ) → e ≡ Post m i → P (message plan m)) → AllByRecursion P (post_to plan q e)
  one_posted (Post m i) h = every_only_if P (to plan q m) (message plan m ∷ []) (λ yes'. (h m i refl, tt))
  one_posted _ h = tt

  posted_in : (es : List Instruction) → ((j m i : ℕ) → at es j ≡ Post m i → P (message plan m)) → AllByRecursion P (flat_map (post_to plan q) es)
  posted_in [] h = tt
  posted_in (e ∷ es) h = every_append P (post_to plan q e) (flat_map (post_to plan q) es) (one_posted e (λ m i is. h 0 m i is)) (posted_in es (λ j m i is. h (suc j) m i is))

-- what holds of the posts before a place holds of the messages that were posted
pub posted_before : (n : Node) (q s u : ℕ) (P : Key → Type 0) → s < length n.world.plan.sessions → u ≤ length (program n.world.plan n.me s)
    → ((t v m i : ℕ) → t < length n.world.plan.sessions → (t < s) ⊎ ((t ≡ s) × (v < u)) → at (program n.world.plan n.me t) v ≡ Post m i → P (message n.world.plan m))
    → AllByRecursion P (posts_to n q (before_session n s + u))
posted_before n q s u P ls lu h =
    let plan : Plan = n.world.plan in
    let f : ℕ → List Instruction = program plan n.me in
    let g = post_to plan q in
    subst (λ z. AllByRecursion P (flat_map g z)) (sym (take_joined f (length plan.sessions) s u ls lu))
    (subst (AllByRecursion P) (sym (flat_map-append g (joined s f) (take u (f s))))
    (every_append P (flat_map g (joined s f)) (flat_map g (take u (f s)))
    (subst (AllByRecursion P) (sym (flat_joined g s f)) (every_joined P s (λ t. flat_map g (f t)) (λ t lt. posted_in plan q P (f t) (λ j m i is. h t j m i (omega arith) (inl lt) is))))
    (posted_in plan q P (take u (f s)) (λ j m i is. let r = at_take (f s) u j m i is in h s j m i ls (inr (refl, r.0)) r.1))))
