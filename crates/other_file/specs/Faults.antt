-- The faults of a file of other inputs.
use Rattle.std.specs.Prelude.{ℕ, ◌<◌}
use Rattle.party_file.specs.declared.fault.PartyFault.{PartyFault}
use Rattle.party_file.specs.declared.fault.PartyFault.TheVariants as memory
use Rattle.other_file.specs.declared.fault.OtherFault.{OtherFault}
use Rattle.other_file.specs.declared.fault.OtherFault.TheVariants.{File, WrongKind, Inputs, Memory}

-- the party whose inputs have the fault, if there is one, is below this number
abbrev pub HasPartyBelow : ℕ → OtherFault → Type 0
HasPartyBelow parties (WrongKind p) = p < parties
HasPartyBelow parties (Inputs p fault) = p < parties
HasPartyBelow parties _ = Unit

-- a fault of the file as such, and one of a party's inputs; want of memory is none of either
abbrev pub of_file : PartyFault → OtherFault
of_file memory.Memory = Memory
of_file fault = File fault

abbrev pub of_party : ℕ → PartyFault → OtherFault
of_party p memory.Memory = Memory
of_party p fault = Inputs p fault
