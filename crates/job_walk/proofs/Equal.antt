-- The same steps over equal names, bytes and lists.
use Rattle.std.proofs.Common.{◌≡◌, ℕ, Bool, ◌<◌, ◌≤◌, ◌+◌, zero, suc, All, List, [], ◌∷◌, length, drop, map, get_or, Result, refl, ap, ap₂, ◌∙◌, subst, arith}
use Rattle.std.proofs.lemmas.List.Elements.{All-head, All-tail}
use Rattle.outer_io.specs.Files.{FilesReading}
use Rattle.party_set.specs.Parties.{Members}
use Rattle.plan_faults.specs.declared.part_fault.PartFault.{PartFault}
use Rattle.circuit_model.specs.Netlists.{Netlist}
use Rattle.session_slots.specs.Sessions.{Session}
use Rattle.plan_model.specs.Plans.{Plan}
use Rattle.party_file.specs.Table.{PartyForm}
use Rattle.job_file.specs.Jobs.{session_view}
use Rattle.job_file.specs.declared.job.JobSession.{JobSession}
use Rattle.job_file.specs.declared.owner.JobOwner.{JobOwner}
use Rattle.job_file.specs.declared.products.Products.{Products}
use Rattle.job_walk.specs.declared.stop.Stop.{Stop}
use Rattle.job_walk.specs.Verdict.{Verdict, Ends}
use Rattle.job_walk.specs.JobOf.{file_at, groups_in, has_numbers, is_numbers, part_of, PartyAt}
use Rattle.job_walk.specs.Reads.{ReadsAs, WalksAs}

pub file_named : {C : Type 0} (seen : C → List ℕ) (dir name other : List ℕ) (before after : FilesReading) (result : Result C Stop) → name ≡ other
    → ReadsAs dir (name ∷ []) seen (λ m. Ends (file_at m dir name)) before after result → ReadsAs dir (other ∷ []) seen (λ m. Ends (file_at m dir other)) before after result
file_named seen dir name other before after result same r = subst (λ n. ReadsAs dir (n ∷ []) seen (λ m. Ends (file_at m dir n)) before after result) same r

-- a walk over these bytes
pub walk_same : {A C : Type 0} (seen : C → A) (walk : List ℕ → Verdict A → Type 0) (bytes other : List ℕ) (result : Result C Stop) → bytes ≡ other → WalksAs seen (walk bytes) result → WalksAs seen (walk other) result
walk_same seen walk bytes other result same w = subst (λ b. WalksAs seen (walk b) result) same w

-- a verdict over these bytes
pub bytes_same : {A C : Type 0} (seen : C → A) (verdict : List ℕ → Verdict A) (bytes other : List ℕ) (result : Result C Stop) → bytes ≡ other → WalksAs seen (Ends (verdict bytes)) result → WalksAs seen (Ends (verdict other)) result
bytes_same seen verdict bytes other result same w = walk_same seen (λ b. Ends (verdict b)) bytes other result same w

-- the groups that these masks tell, where all are of so many parties
pub groups_same : (parties : ℕ) (groups : List Members) → All (λ (g : Members). g.parties ≡ parties) groups → groups ≡ groups_in parties (map (λ (g : Members). g.mask) groups)
groups_same parties [] all = refl
groups_same parties (g ∷ gs) all =
    let first : g ≡ record { parties = parties; mask = g.mask } = ap (λ n. record { parties = n; mask = g.mask }) (All-head (λ (g : Members). g.parties ≡ parties) g gs all) in
    ap₂ (λ x xs. x ∷ xs) first (groups_same parties gs (All-tail (λ (g : Members). g.parties ≡ parties) g gs all))

-- the session of a circuit whose groups of readers are told by masks
pub part_same : (line : PartFault → List ℕ) (circuit : Netlist) (products : Products) (owners : List JobOwner) (before : List Session) (parties : ℕ) (groups : List Members) (result : Result Session Stop)
    → All (λ (g : Members). g.parties ≡ parties) groups → WalksAs (λ part. part) (Ends (part_of line circuit products owners groups before)) result
    → WalksAs (λ part. part) (Ends (part_of line circuit products owners (groups_in parties (map (λ (g : Members). g.mask) groups)) before)) result
part_same line circuit products owners before parties groups result all w =
    subst (λ gs. WalksAs (λ part. part) (Ends (part_of line circuit products owners gs before)) result) (groups_same parties groups all) w

-- a party's file, where the words of the same sessions are numbers
pub party_same : {C : Type 0} (seen : C → PartyForm) (dir file : List ℕ) (plan : Plan) (p : ℕ) (name : List ℕ) (numeric other : List Bool) (before after : FilesReading) (result : Result C Stop) → numeric ≡ other
    → ReadsAs dir (file ∷ []) seen (λ m. PartyAt m dir numeric plan p name) before after result → ReadsAs dir (file ∷ []) seen (λ m. PartyAt m dir other plan p name) before after result
party_same seen dir file plan p name numeric other before after result same r = subst (λ ns. ReadsAs dir (file ∷ []) seen (λ m. PartyAt m dir ns plan p name) before after result) same r

-- the sessions whose words are numbers, by their layouts
pub numeric_same : (sessions : List JobSession) → map (λ (session : JobSession). is_numbers session.layout) sessions ≡ map has_numbers (map session_view sessions)
numeric_same [] = refl
numeric_same (session ∷ sessions) = ap (λ more. is_numbers session.layout ∷ more) (numeric_same sessions)

-- what is left of a list before and after one more
next_left : {A B : Type 0} (f : A → B) (xs : List A) (i : ℕ) (d : A) → i < length xs → drop i (map f xs) ≡ f (get_or xs i d) ∷ drop (suc i) (map f xs)
next_left f [] i d l = absurd (omega arith)
next_left f (x ∷ xs) zero d l = refl
next_left f (x ∷ xs) (suc i) d l = next_left f xs i d (omega arith)

pub left_of : {A B : Type 0} (f : A → B) (xs : List A) (i : ℕ) (d : A) → i < length xs → drop i (map f xs) ≡ f (get_or xs i d) ∷ drop (i + 1) (map f xs)
left_of f xs i d l = let e : suc i ≡ i + 1 = omega arith in next_left f xs i d l ∙ ap (λ n. f (get_or xs i d) ∷ drop n (map f xs)) e

pub none_left : {A B : Type 0} (f : A → B) (xs : List A) (i : ℕ) → length xs ≤ i → drop i (map f xs) ≡ []
none_left f [] zero l = refl
none_left f [] (suc i) l = refl
none_left f (x ∷ xs) zero l = absurd (omega arith)
none_left f (x ∷ xs) (suc i) l = none_left f xs i (omega arith)
