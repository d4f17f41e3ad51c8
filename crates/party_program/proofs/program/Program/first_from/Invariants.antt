use Rattle.std.proofs.Common.{◌≡◌, ◌-◌, ◌≤◌, ◌<◌}
use Rattle.job_session.specs.Batches as batches
use Rattle.plan_model.specs.Plans.{session, slots}
use Rattle.program_model.specs.declared.half.Half.TheVariants.{Head}
use Rattle.party_program.specs.ProgramPlaces.{position_of}
use Rattle.party_program.proofs.program.Program.first_from.Given as goal

-- a batch begins here, or none, and no instruction stands in those that were passed
abbrev pub invariant-loop-batch : goal.invariant-loop-batch
invariant-loop-batch l = record {
  within : l.batch ≤ slots l.plan l.self.session;
  begins : l.batch < slots l.plan l.self.session → batches.batch (session l.plan l.self.session) l.batch ≡ l.batch;
  before : position_of l.plan l.self.party l.self.session Head l.batch l.batch l.batch ≡ position_of l.plan l.self.party l.self.session Head l.first l.first l.first;
}

abbrev pub decreases-loop-batch : goal.decreases-loop-batch
decreases-loop-batch l = slots l.plan l.self.session - l.batch
