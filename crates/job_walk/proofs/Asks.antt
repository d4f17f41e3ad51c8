-- Which files steps ask for that follow each other.
use Rattle.std.proofs.Common.{ℕ, List, [], ◌++◌, map, refl, sym, ap, ◌∙◌, append_assoc}
use Rattle.std.proofs.lemmas.List.{append-nil, map-append}
use Rattle.outer_io.specs.Files.{FilesReading}
use Rattle.job_walk.specs.Names.{path_of}
use Rattle.job_walk.specs.FilesAsked.{AsksFor, AsksPart}

module _ (dir : List ℕ) where
  pub asks_none : (now : FilesReading) → AsksFor dir [] now now
  asks_none now = sym (append-nil now.asked)

  -- some files, and then more
  pub asks_then : (xs ys : List (List ℕ)) (before mid after : FilesReading) → AsksFor dir xs before mid → AsksFor dir ys mid after → AsksFor dir (xs ++ ys) before after
  asks_then xs ys before mid after first next =
      next ∙ ap (λ asked. asked ++ map (path_of dir) ys) first ∙ append_assoc before.asked (map (path_of dir) xs) (map (path_of dir) ys) ∙ ap (λ names. before.asked ++ names) (sym (map-append (path_of dir) xs ys))

  -- all files are a first part
  pub part_all : (xs : List (List ℕ)) (before after : FilesReading) → AsksFor dir xs before after → AsksPart dir xs before after
  part_all xs before after asks = (xs, [], sym (append-nil xs), asks)

  pub part_none : (xs : List (List ℕ)) (now : FilesReading) → AsksPart dir xs now now
  part_none xs now = ([], xs, refl, asks_none now)

  -- a first part, of more files
  pub part_more : (xs ys : List (List ℕ)) (before after : FilesReading) → AsksPart dir xs before after → AsksPart dir (xs ++ ys) before after
  part_more xs ys before after (part, rest, is, asks) = (part, rest ++ ys, ap (λ names. names ++ ys) is ∙ append_assoc part rest ys, asks)

  -- all files, and a first part of what follows
  pub part_then : (xs ys : List (List ℕ)) (before mid after : FilesReading) → AsksFor dir xs before mid → AsksPart dir ys mid after → AsksPart dir (xs ++ ys) before after
  part_then xs ys before mid after first (part, rest, is, asks) =
      (xs ++ part, rest, ap (λ names. xs ++ names) is ∙ sym (append_assoc xs part rest), asks_then xs part before mid after first asks)
