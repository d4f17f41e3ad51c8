-- Frames of several messages.
use Rattle.std.proofs.Common.{◌≡◌, ℕ, zero, suc, ◌+◌, ◌*◌, ◌<◌, ◌≤◌, ◌^◌, List, [], ◌∷◌, ◌++◌, take, drop, length, refl, sym, ap, ap₂, ◌∙◌, arith, append_assoc, length-append, Option, Some, None}
use Rattle.std.specs.Prelude.{slice_index_or}
use Rattle.std.specs.List.{AllByRecursion}
use Rattle.std.proofs.lemmas.Grind.{flat_map-append}
use Rattle.plan_model.specs.declared.key.Key.{Key}
use Rattle.plan_model.specs.Numbers.{no_key}
use Rattle.program_model.specs.Programs.{at}
use Rattle.outer_io.specs.Inlet.{ahead}
use Rattle.frame_code.specs.declared.framing.Framing.{Framing}
use Rattle.frame_code.specs.Frames.{hello, frame, frame_bytes}
use Rattle.frame_code.proofs.ReadFrames.{word_in, word_back, length-frame, length-hello}
use Rattle.node_talk.specs.Talks.{Node, acts, framing, frames, stream, Begins, post_to, posts_to, said}
use Rattle.node_talk.proofs.MessageOrder.{gather_step, gather_prefix}

pub frames_length : (f : Framing) (word : Key → ℕ) (keys : List Key) → length (frames f word keys) ≡ frame_bytes f * length keys
frames_length f word [] = omega arith
frames_length f word (k ∷ ks) = length-append (frame f k (word k)) (frames f word ks) ∙ ap₂ (λ a b. a + b) (length-frame f k (word k)) (frames_length f word ks) ∙ omega arith

pub stream_length : (f : Framing) (digest : List ℕ) (p q : ℕ) (word : Key → ℕ) (keys : List Key) → length digest ≡ 32 → length (stream f digest p q word keys) ≡ 38 + frame_bytes f * length keys
stream_length f digest p q word keys long = length-append (hello p q digest) (frames f word keys) ∙ ap₂ (λ a b. a + b) (length-hello p q digest long) (frames_length f word keys)

pub stream_append : (f : Framing) (digest : List ℕ) (p q : ℕ) (word : Key → ℕ) (ks ls : List Key) → stream f digest p q word (ks ++ ls) ≡ stream f digest p q word ks ++ frames f word ls
stream_append f digest p q word ks ls = ap (λ z. hello p q digest ++ z) (flat_map-append (λ key. frame f key (word key)) ks ls) ∙ sym (append_assoc (hello p q digest) (frames f word ks) (frames f word ls))

pub frames_eq : (r : Framing) (f g : Key → ℕ) (keys : List Key) → AllByRecursion (λ k. f k ≡ g k) keys → frames r f keys ≡ frames r g keys
frames_eq r f g [] h = refl
frames_eq r f g (k ∷ ks) h = ap₂ (λ a b. frame r k a ++ b) h.0 (frames_eq r f g ks h.1)

pub drop_front : (xs ys : List ℕ) → drop (length xs) (xs ++ ys) ≡ ys
drop_front [] ys = refl
drop_front (x ∷ xs) ys = drop_front xs ys

pub strip : (a b c : List ℕ) → a ++ b ≡ a ++ c → b ≡ c
strip [] b c e = e
strip (x ∷ a) b c e = strip a b c (let f : x ∷ (a ++ b) ≡ x ∷ (a ++ c) = e in cc)

pub same_split : (xs xs' ys ys' : List ℕ) → length xs ≡ length xs' → xs ++ ys ≡ xs' ++ ys' → (xs ≡ xs') × (ys ≡ ys')
same_split [] [] ys ys' l e = (refl, e)
same_split [] (x ∷ xs') ys ys' l e = absurd (omega arith)
same_split (x ∷ xs) [] ys ys' l e = absurd (omega arith)
same_split (x ∷ xs) (y ∷ xs') ys ys' l e =
    let f : x ∷ (xs ++ ys) ≡ y ∷ (xs' ++ ys') = e in
    let head : x ≡ y = cc in
    let tail : xs ++ ys ≡ xs' ++ ys' = cc in
    let r = same_split xs xs' ys ys' (omega arith) tail in
    (ap₂ (λ a b. a ∷ b) head r.0, r.1)

-- frames that are the same have the same words
pub same_frames : (r : Framing) → r.bits ≤ 64 → (f g : Key → ℕ) (keys : List Key) (xs ys : List ℕ) → AllByRecursion (λ k. f k < 2 ^ r.bits) keys → AllByRecursion (λ k. g k < 2 ^ r.bits) keys → frames r f keys ++ xs ≡ frames r g keys ++ ys → AllByRecursion (λ k. f k ≡ g k) keys
same_frames r few f g [] xs ys sf sg e = tt
same_frames r few f g (k ∷ ks) xs ys sf sg e =
    let both : frame r k (f k) ++ (frames r f ks ++ xs) ≡ frame r k (g k) ++ (frames r g ks ++ ys) = sym (append_assoc (frame r k (f k)) (frames r f ks) xs) ∙ e ∙ append_assoc (frame r k (g k)) (frames r g ks) ys in
    let word : f k ≡ g k = sym (word_back r k (f k) (frames r f ks ++ xs) few sf.0) ∙ ap (word_in r) both ∙ word_back r k (g k) (frames r g ks ++ ys) few sg.0 in
    let rest : frames r f ks ++ xs ≡ frames r g ks ++ ys =
    sym (drop_front (frame r k (f k)) (frames r f ks ++ xs)) ∙ ap₂ (λ n zs. drop n zs) (length-frame r k (f k) ∙ sym (length-frame r k (g k))) both ∙ drop_front (frame r k (g k)) (frames r g ks ++ ys) in
    (word, same_frames r few f g ks xs ys sf.1 sg.1 rest)

pub frames_at : (r : Framing) (word : Key → ℕ) (keys : List Key) (f : ℕ) → f < length keys → (more : List ℕ) × (frames r word keys ≡ frames r word (take f keys) ++ (frame r (slice_index_or keys f no_key) (word (slice_index_or keys f no_key)) ++ more))
frames_at r word [] f l = absurd (omega arith)
frames_at r word (k ∷ ks) zero l = (frames r word ks, refl)
frames_at r word (k ∷ ks) (suc f) l =
    let t = frames_at r word ks f (omega arith) in
    (t.0, ap (λ z. frame r k (word k) ++ z) t.1 ∙ sym (append_assoc (frame r k (word k)) (frames r word (take f ks)) _))

-- told bytes that began with a front
pub begins_with : (bytes front : List ℕ) (rest : Option (List ℕ)) → Some bytes ≡ ahead front rest → Begins bytes front
begins_with bytes front None e = absurd (let f : Some bytes ≡ None = e in cc)
begins_with bytes front (Some left) e = (left, (let f : Some bytes ≡ Some (front ++ left) = e in cc))

-- ---- what is said by the first instructions

pub said_step : (n : Node) (q : ℕ) (word : Key → ℕ) (k : ℕ) → k < length (acts n) → said n q word (suc k) ≡ said n q word k ++ frames (framing n) word (post_to n.world.plan q (at (acts n) k))
said_step n q word k l =
    ap (λ z. stream (framing n) n.digest n.me q word z) (gather_step (post_to n.world.plan q) (acts n) k l)
    ∙ stream_append (framing n) n.digest n.me q word (posts_to n q k) (post_to n.world.plan q (at (acts n) k))

-- what is said by k instructions begins what is said by more
pub said_prefix : (n : Node) (q : ℕ) (word : Key → ℕ) (k j : ℕ) → k ≤ j → (rest : List ℕ) × (said n q word j ≡ said n q word k ++ rest)
said_prefix n q word k j le =
    let r = gather_prefix (post_to n.world.plan q) (acts n) k j le in (
      frames (framing n) word r.0,
      ap (λ z. stream (framing n) n.digest n.me q word z) r.1 ∙ stream_append (framing n) n.digest n.me q word (posts_to n q k) r.0,
    )
