-- Files that are hashed one after another.
use Rattle.std.proofs.Common.{◌≡◌, ℕ, suc, List, [], ◌∷◌, ◌++◌, length, take, drop, append_assoc, refl, sym, ap, ◌∙◌, arith}
use Rattle.std.specs.Int.{w64, from_be_bytes, to_be_bytes}
use Rattle.std.proofs.lemmas.List.{append-nil}
use Rattle.std.proofs.lemmas.Nat.{from_be_bytes-to_be_bytes_8}
use Rattle.std.proofs.Math.Seq.{take-append_seam, drop-append_seam}
use Rattle.job_digest.specs.Digests.{joined_files, AreFiles}

-- one more file stands behind the others
pub joined_more : (files : List (List ℕ)) (file : List ℕ) → joined_files (files ++ file ∷ []) ≡ (joined_files files ++ to_be_bytes w64 (length file)) ++ file
unfolding joined_files
joined_more [] file = ap (λ rest. to_be_bytes w64 (length file) ++ rest) (append-nil file)
joined_more (first ∷ files) file =
    let size : List ℕ = to_be_bytes w64 (length first) in
    let last : List ℕ = to_be_bytes w64 (length file) in
    let others : List ℕ = joined_files files in
    ap (λ rest. size ++ (first ++ rest)) (joined_more files file ∙ append_assoc others last file)
    ∙ ap (λ rest. size ++ rest) (sym (append_assoc first others (last ++ file)))
    ∙ sym (append_assoc size (first ++ others) (last ++ file))
    ∙ sym (append_assoc (size ++ (first ++ others)) last file)

-- what is hashed tells each file
pub told_apart : (files others : List (List ℕ)) → AreFiles files → AreFiles others → joined_files files ≡ joined_files others → files ≡ others
unfolding joined_files
told_apart [] [] h k same = refl
told_apart [] (y ∷ ys) h k same = absurd (let long = ap length same in omega arith)
told_apart (x ∷ xs) [] h k same = absurd (let long = ap length same in omega arith)
told_apart (x ∷ xs) (y ∷ ys) h k same =
    let sizes : to_be_bytes w64 (length x) ≡ to_be_bytes w64 (length y) = ap (take 8) same in
    let rest : x ++ joined_files xs ≡ y ++ joined_files ys = ap (drop 8) same in
    let long : length x ≡ length y =
    sym (from_be_bytes-to_be_bytes_8 (length x) (h 0 [] (omega arith))) ∙ ap (from_be_bytes w64) sizes
    ∙ from_be_bytes-to_be_bytes_8 (length y) (k 0 [] (omega arith)) in
    let first : x ≡ y = sym (take-append_seam x (joined_files xs)) ∙ (λ i. take (long i) (rest i)) ∙ take-append_seam y (joined_files ys) in
    let behind : joined_files xs ≡ joined_files ys = sym (drop-append_seam x (joined_files xs)) ∙ (λ i. drop (long i) (rest i)) ∙ drop-append_seam y (joined_files ys) in
    let others : xs ≡ ys = told_apart xs ys (λ i d l. h (suc i) d (omega arith)) (λ i d l. k (suc i) d (omega arith)) behind in
    λ i. first i ∷ others i
