-- What the line of a refusal tells of a fault of a circuit.
use Rattle.std.specs.Prelude.{[], ◌∷◌, codes}
use Rattle.fault_table.specs.Tables.{Entry, fault, on_line, at_place, Number, Signed}
use Rattle.circuit_model.specs.declared.fault.CircuitFault.{CircuitFault}
use Rattle.circuit_model.specs.declared.fault.CircuitFault.TheVariants.{NotUtf8, BadNumber, ShortLine, LongLine, FewLines, ExtraLine, TooLarge, HeaderWidths, UnknownOperation, WrongArity, BadConstant, WireOutOfRange, ReadBeforeSet, SetTwice, OutputNotSet, WrongRing, Memory}

abbrev pub told_circuit_fault : CircuitFault → Entry
told_circuit_fault (NotUtf8 at) = fault 1 (codes "NotUtf8") (at_place at)
told_circuit_fault (BadNumber line) = fault 2 (codes "BadNumber") (on_line line)
told_circuit_fault (ShortLine line) = fault 3 (codes "ShortLine") (on_line line)
told_circuit_fault (LongLine line) = fault 4 (codes "LongLine") (on_line line)
told_circuit_fault (FewLines found) = fault 5 (codes "FewLines") ((codes "found", Number found) ∷ [])
told_circuit_fault (ExtraLine line) = fault 6 (codes "ExtraLine") (on_line line)
told_circuit_fault (TooLarge line) = fault 7 (codes "TooLarge") (on_line line)
told_circuit_fault (HeaderWidths line) = fault 8 (codes "HeaderWidths") (on_line line)
told_circuit_fault (UnknownOperation line) = fault 9 (codes "UnknownOperation") (on_line line)
told_circuit_fault (WrongArity line) = fault 10 (codes "WrongArity") (on_line line)
told_circuit_fault (BadConstant line) = fault 11 (codes "BadConstant") (on_line line)
told_circuit_fault (WireOutOfRange line) = fault 12 (codes "WireOutOfRange") (on_line line)
told_circuit_fault (ReadBeforeSet line) = fault 13 (codes "ReadBeforeSet") (on_line line)
told_circuit_fault (SetTwice line) = fault 14 (codes "SetTwice") (on_line line)
told_circuit_fault (OutputNotSet wire) = fault 15 (codes "OutputNotSet") ((codes "wire", Number wire) ∷ [])
told_circuit_fault (WrongRing bits) = fault 16 (codes "WrongRing") ((codes "bits", Signed bits) ∷ [])
told_circuit_fault Memory = fault 0 (codes "Memory") []
