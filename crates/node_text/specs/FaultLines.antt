-- The line of each fault of a node's run.
use Rattle.std.specs.Prelude.{ℕ, ◌+◌, ◌/◌, ◌%◌, nat_lt, if◌then◌else◌, List, [], ◌∷◌, ◌++◌, codes, decimal}
use Rattle.std.specs.List.{flat_map}
use Rattle.party_names.specs.Names.{name_at}
use Rattle.frame_code.specs.Frames.{shown}
use Rattle.node_talk.specs.declared.fault.NodeFault.{NodeFault}
use Rattle.node_talk.specs.declared.fault.NodeFault.TheVariants.{Link, Closed, BadFrame, OtherJob, NoThread}

-- a digit of base 16, from `0` to `9` and then from `a` to `f`
abbrev pub hex_digit : ℕ → ℕ
hex_digit d = if nat_lt d 10 then d + 48 else d + 87

-- bytes, each in two digits of base 16
abbrev pub hex_byte : ℕ → List ℕ
hex_byte byte = hex_digit (byte / 16) ∷ hex_digit (byte % 16) ∷ []

abbrev pub hex_text : List ℕ → List ℕ
hex_text bytes = flat_map hex_byte bytes

-- the fault, and the peer at which it was met
abbrev pub fault_head : List ℕ → List ℕ → List ℕ
fault_head fault peer = codes "fault " ++ (fault ++ (codes " peer=" ++ peer))

-- a fault that tells nothing more
abbrev pub short_line : List ℕ → List ℕ → List ℕ
short_line fault peer = fault_head fault peer ++ codes "\n"

-- the peer's bytes ended after `at` bytes
abbrev pub closed_line : List ℕ → ℕ → List ℕ
closed_line peer at = fault_head (codes "closed") peer ++ (codes " at=" ++ (decimal at ++ codes "\n"))

-- these bytes, from this place on, are not the frame that is expected
abbrev pub frame_line : List ℕ → ℕ → List ℕ → List ℕ
frame_line peer at bytes =
    fault_head (codes "frame") peer
    ++ (codes " at=" ++ (decimal at ++ (codes " bytes=" ++ (hex_text bytes ++ codes "\n"))))

-- the hello is not the one that is expected
abbrev pub job_line : List ℕ → List ℕ → List ℕ → List ℕ
job_line peer ours theirs =
    fault_head (codes "job") peer
    ++ (codes " ours=" ++ (hex_text ours ++ (codes " theirs=" ++ (hex_text theirs ++ codes "\n"))))

unfoldable pub fault_line : List (List ℕ) → NodeFault → List ℕ
fault_line names (Link peer) = short_line (codes "link") (name_at names peer)
fault_line names (Closed peer at) = closed_line (name_at names peer) at
fault_line names (BadFrame peer at bytes) = frame_line (name_at names peer) at (shown bytes)
fault_line names (OtherJob peer ours theirs) = job_line (name_at names peer) ours theirs
fault_line names (NoThread peer) = short_line (codes "thread") (name_at names peer)
