-- What contracts see of what the parties give.
use Rattle.std.specs.Prelude.{List, map, Vec}
use Rattle.std.specs.declared.alloc.Global.{Global}
use Rattle.party_file.specs.Table.{PartyForm}
use Rattle.party_file.specs.Forms.{form_of}
use Rattle.party_file.specs.declared.data.PartyData.{PartyData}

abbrev pub parties_view : Vec PartyData Global → List PartyForm
parties_view parties = map form_of parties.items
