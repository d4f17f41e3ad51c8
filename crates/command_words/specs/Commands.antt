-- What a command line asks for.
use Rattle.std.specs.Prelude.{ℕ, ◌<◌, ◌≤◌, ◌==◌, ◌&&◌, nat_le, Bool, false, not, if◌then◌else◌, List, [], ◌∷◌, Option, Some, None, IfSome, is_none, unwrap_or, option_and_then, option_map, codes}
use Rattle.std.specs.Str.{bytes_eq}
use Rattle.text_tokens.specs.Numbers.{number_written}
use Rattle.command_words.specs.declared.command.Command.{Command}
use Rattle.command_words.specs.declared.command.RunOptions.{RunOptions}
use Rattle.command_words.specs.declared.command.Command.TheVariants.{Run, Check, Pair, Node, Sample, Audit}
use Rattle.job_limits.specs.declared.limits.TheConstants.{MOST_GATES, MOST_WORKERS}

-- a command, with the bytes of its words; a run may ask for the view of a group
pub data CommandForm : Type 0 where
  run : (dir : List ℕ) → (workers : ℕ) → (view : Option (List ℕ)) → CommandForm
  check : (dir : List ℕ) → CommandForm
  pair : (dir : List ℕ) → (group : List ℕ) → CommandForm
  node : (dir : List ℕ) → (name : List ℕ) → CommandForm
  sample : (count : ℕ) → CommandForm
  audit : (dir : List ℕ) → CommandForm

abbrev pub form_of : Command → CommandForm
form_of (Run dir workers view) = run dir.now workers (option_map (λ group. group.now) view)
form_of (Check dir) = check dir.now
form_of (Pair dir group) = pair dir.now group.now
form_of (Node dir name) = node dir.now name.now
form_of (Sample count) = sample count
form_of (Audit dir) = audit dir.now

-- a run has 1 to 16 workers, and a sample 1 to 65,536 gates
abbrev pub IsInRange : Command → Type 0
IsInRange (Run dir workers view) = (0 < workers) × (workers ≤ MOST_WORKERS)
IsInRange (Check dir) = Unit
IsInRange (Pair dir group) = Unit
IsInRange (Node dir name) = Unit
IsInRange (Sample count) = (0 < count) × (count ≤ MOST_GATES)
IsInRange (Audit dir) = Unit

-- the workers that a run is given, if it is, are 1 to 16
abbrev pub AreInRange : RunOptions → Type 0
AreInRange options = IfSome options.workers (λ count. (0 < count) × (count ≤ MOST_WORKERS))

-- a word that can be a folder, a group or a party: not empty, and not beginning with `-`
abbrev pub is_plain : List ℕ → Bool
is_plain [] = false
is_plain (c ∷ cs) = not (c == 45)

-- the number that a word writes, from 1 to the most that there may be
abbrev pub count_up_to : ℕ → List ℕ → Option ℕ
count_up_to most word =
    option_and_then (λ count. if nat_le 1 count && nat_le count most then Some count else None) (number_written word)

-- ---- a run, and its options

-- the options that a run is given: its workers, and the group whose view it tells
pub record OptionsForm : Type 0 where
  pub workers : Option ℕ
  pub view : Option (List ℕ)

abbrev pub options_form : RunOptions → OptionsForm
options_form options = record { workers = options.workers; view = option_map (λ group. group.now) options.view }

-- these options and one more, which isn't among them
abbrev pub with_option : OptionsForm → List ℕ → List ℕ → Option OptionsForm
with_option given option word =
    if bytes_eq option (codes "--workers") && is_none given.workers then
    option_map (λ count. record given { workers = Some count }) (count_up_to MOST_WORKERS word)
    else if bytes_eq option (codes "--view") && is_none given.view && is_plain word then
    Some (record given { view = Some word })
    else None

-- these options and those that the words give, each by a word of its own
abbrev pub with_options : OptionsForm → List (List ℕ) → Option OptionsForm
with_options given [] = Some given
with_options given (option ∷ word ∷ words) =
    option_and_then (λ more. with_options more words) (with_option given option word)
with_options given words = None

-- a run of a folder, after which these words stand: its options, each at most once and in either order
abbrev pub run_asked : List ℕ → List (List ℕ) → Option CommandForm
run_asked dir words =
    option_map (λ given. run dir (unwrap_or given.workers 1) given.view)
    (with_options (record { workers = None; view = None }) words)

-- ---- a check

-- a check of a folder, after which no word stands
abbrev pub check_asked : List ℕ → List (List ℕ) → Option CommandForm
check_asked dir [] = Some (check dir)
check_asked dir options = None

-- ---- a pair of runs

-- a pair of runs of a folder, after which the group stands from which other inputs are to be hidden
abbrev pub pair_asked : List ℕ → List (List ℕ) → Option CommandForm
pair_asked dir (option ∷ group ∷ []) =
    if bytes_eq option (codes "--group") && is_plain group then Some (pair dir group) else None
pair_asked dir options = None

-- ---- a node

-- a node of a folder, after which the name of its party stands, and no other word
abbrev pub node_asked : List ℕ → List (List ℕ) → Option CommandForm
node_asked dir (name ∷ []) = if is_plain name then Some (node dir name) else None
node_asked dir options = None

-- ---- a sample

-- a sample of as many gates as a word tells, after which no word stands
abbrev pub sample_asked : List ℕ → List (List ℕ) → Option CommandForm
sample_asked word [] = option_map (λ count. sample count) (count_up_to MOST_GATES word)
sample_asked word options = None

-- ---- an audit

-- an audit of a folder, after which no word stands
abbrev pub audit_asked : List ℕ → List (List ℕ) → Option CommandForm
audit_asked dir [] = Some (audit dir)
audit_asked dir options = None

-- ---- a command

-- what a verb asks for in a folder, after which these words stand
abbrev pub asked : List ℕ → List ℕ → List (List ℕ) → Option CommandForm
asked verb dir options =
    if bytes_eq verb (codes "run") then run_asked dir options
    else if bytes_eq verb (codes "check") then check_asked dir options
    else if bytes_eq verb (codes "pair") then pair_asked dir options
    else if bytes_eq verb (codes "node") then node_asked dir options
    else if bytes_eq verb (codes "sample") then sample_asked dir options
    else if bytes_eq verb (codes "audit") then audit_asked dir options
    else None

-- the command of some words, of which the first is the program's name; none where they are none of the forms
abbrev pub command_of : List (List ℕ) → Option CommandForm
command_of (program ∷ verb ∷ dir ∷ options) = if is_plain dir then asked verb dir options else None
command_of words = None
