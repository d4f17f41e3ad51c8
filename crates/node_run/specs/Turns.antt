-- What one turn of a desk comes to.
use Rattle.std.specs.Prelude.{◌≡◌, ℕ, ◌+◌, length}
use Rattle.program_model.specs.declared.instruction.Instruction.TheVariants.{Take}
use Rattle.program_model.specs.Programs.{program, at}
use Rattle.party_desk.specs.declared.desk.Desk.{Desk}
use Rattle.node_talk.specs.Talks.{Node, acts}
use Rattle.node_run.specs.declared.sessions.Turn.{Turn}
use Rattle.node_run.specs.declared.sessions.Turn.TheVariants.{Moved, Waits, Ended, Failed}
use Rattle.node_run.specs.Mail.{Mail, ComesFromPeer}
use Rattle.node_run.specs.Progress.{Begin, InSession, Halted, before_session}

-- the desk's next instruction takes message m
abbrev pub Awaits : Node → ℕ → Desk → ℕ → Type 0
Awaits n s d m = (i : ℕ) × (at (acts n) (before_session n s + d.position) ≡ Take m i)

-- it moved, it waits for the word of a peer's message, it is at its end, or a send failed
abbrev pub Turns : Node → ℕ → Begin → Desk → Mail → Turn → Type 0
Turns n s start d now Moved = InSession n s start d now
Turns n s start d now (Waits m) = InSession n s start d now × ComesFromPeer now m × Awaits n s d m
Turns n s start d now Ended = InSession n s start d now × (d.position ≡ length (program n.world.plan n.me s))
Turns n s start d now Failed = Halted n start now
