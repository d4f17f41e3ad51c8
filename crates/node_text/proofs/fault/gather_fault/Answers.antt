use Rattle.std.proofs.Common.{sym, subst}
use Rattle.outer_io.specs.Blocks.{Adds}
use Rattle.node_text.specs.FaultLines.{fault_line}
use Rattle.node_text.proofs.fault.gather_fault.Goals as goal

pub returns-in-Link : goal.returns-in-Link
unfolding fault_line
returns-in-Link g c = subst (λ fault. Adds (fault_line c.args.names.now fault) (g.G.Gather.gathered c.args.out.now) (g.G.Gather.gathered c.gather_short.new.out)) (sym c.in-Link.is) c.gather_short.ensures

pub returns-in-Closed : goal.returns-in-Closed
unfolding fault_line
returns-in-Closed g c = subst (λ fault. Adds (fault_line c.args.names.now fault) (g.G.Gather.gathered c.args.out.now) (g.G.Gather.gathered c.gather_closed.new.out)) (sym c.in-Closed.is) c.gather_closed.ensures

pub returns-in-BadFrame : goal.returns-in-BadFrame
unfolding fault_line
returns-in-BadFrame g c = subst (λ fault. Adds (fault_line c.args.names.now fault) (g.G.Gather.gathered c.args.out.now) (g.G.Gather.gathered c.gather_frame.new.out)) (sym c.in-BadFrame.is) c.gather_frame.ensures

pub returns-in-OtherJob : goal.returns-in-OtherJob
unfolding fault_line
returns-in-OtherJob g c = subst (λ fault. Adds (fault_line c.args.names.now fault) (g.G.Gather.gathered c.args.out.now) (g.G.Gather.gathered c.gather_job.new.out)) (sym c.in-OtherJob.is) c.gather_job.ensures

pub returns-in-NoThread : goal.returns-in-NoThread
unfolding fault_line
returns-in-NoThread g c = subst (λ fault. Adds (fault_line c.args.names.now fault) (g.G.Gather.gathered c.args.out.now) (g.G.Gather.gathered c.gather_short-in-NoThread.new.out)) (sym c.in-NoThread.is) c.gather_short-in-NoThread.ensures
