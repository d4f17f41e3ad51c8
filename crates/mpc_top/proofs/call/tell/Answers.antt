use Rattle.std.proofs.Common.{subst, refl}
use Rattle.std.proofs.lemmas.Bool.{false≢true}
use Rattle.command_words.specs.Commands.{command_of}
use Rattle.mpc_top.specs.Outcomes.{RunsWords}
use Rattle.mpc_top.proofs.Statuses.{done, told, failed}
use Rattle.mpc_top.proofs.call.tell.Goals as goal

pub returns-in-Ok : goal.returns-in-Ok
returns-in-Ok g c = λ words before after run.
    let err = g.E.Sink.reading c.args.err.now in
    done words (record before { err = err }) (record after { err = err }) _ refl (subst (RunsWords (command_of words) (record before { err = err }) (record after { err = err })) c.in-Ok.is (run err err))

pub returns-in-Ok-write_stop : goal.returns-in-Ok-write_stop
returns-in-Ok-write_stop g c = λ words before after run.
    let err = g.E.Sink.reading c.args.err.now in
    let err' = g.E.Sink.reading c.write_stop.new.sink in
    rw c.status.ensures (told words (record before { err = err }) (record after { err = err' }) c.in-Err.stop (λ memory. (c.in-Ok-write_stop.ensures.memory memory).0) _
    (subst (RunsWords (command_of words) (record before { err = err }) (record after { err = err' })) c.in-Err.is (run err err')) c.in-Ok-write_stop.ensures.text)

pub returns : goal.returns
returns g c = λ words before after run.
    let err = g.E.Sink.reading c.args.err.now in
    let err' = g.E.Sink.reading c.write_stop.new.sink in
    failed words (record before { err = err }) (record after { err = err' }) c.in-Err.stop (λ memory. absurd (false≢true (c.in-Err-write_stop.ensures.memory memory).1)) _
    (subst (RunsWords (command_of words) (record before { err = err }) (record after { err = err' })) c.in-Err.is (run err err')) c.in-Err-write_stop.ensures.text
