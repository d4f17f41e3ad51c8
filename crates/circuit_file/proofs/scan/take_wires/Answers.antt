use Rattle.std.proofs.Common.{[], ◌∷◌, refl, arith}
use Rattle.circuit_file.proofs.GateScans.{takes_one, takes_two, takes_then, takes_count}
use Rattle.circuit_file.proofs.scan.take_wires.Goals as goal

pub returns-then-count-eq2-clause-taken : goal.returns-then-count-eq2-clause-taken
returns-then-count-eq2-clause-taken c =
    let a = takes_one c.args.cursor.now c.number.new.self c.in_ok-first.first c.in_ok-first.ensures.number c.in_ok-first.ensures.taken in
    let b = takes_one c.number.new.self c.number-2.new.self c.in_ok-second.second c.in_ok-second.ensures.number c.in_ok-second.ensures.taken in
    takes_count c.args.cursor.now c.number-2.new.self (c.in_ok-first.first ∷ c.in_ok-second.second ∷ 0 ∷ []) (c.in_ok-first.first ∷ c.in_ok-second.second ∷ []) 2 c.args.count (omega arith) refl
    (takes_two c.args.cursor.now c.number.new.self c.number-2.new.self c.in_ok-first.first c.in_ok-second.second a b)

pub returns-clause-taken : goal.returns-clause-taken
returns-clause-taken c =
    let a = takes_one c.args.cursor.now c.number.new.self c.in_ok-first.first c.in_ok-first.ensures.number c.in_ok-first.ensures.taken in
    let b = takes_one c.number.new.self c.number-2.new.self c.in_ok-second.second c.in_ok-second.ensures.number c.in_ok-second.ensures.taken in
    let d = takes_one c.number-2.new.self c.number-3.new.self c.in_ok-third.third c.in_ok-third.ensures.number c.in_ok-third.ensures.taken in
    takes_count c.args.cursor.now c.number-3.new.self (c.in_ok-first.first ∷ c.in_ok-second.second ∷ c.in_ok-third.third ∷ []) (c.in_ok-first.first ∷ c.in_ok-second.second ∷ c.in_ok-third.third ∷ []) 3 c.args.count (omega arith) refl
    (takes_then c.args.cursor.now c.number-2.new.self c.number-3.new.self (c.in_ok-first.first ∷ c.in_ok-second.second ∷ []) (c.in_ok-third.third ∷ [])
    (takes_two c.args.cursor.now c.number.new.self c.number-2.new.self c.in_ok-first.first c.in_ok-second.second a b) d)
