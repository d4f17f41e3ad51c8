use Rattle.std.proofs.Common.{rules, ◌∙◌, inl, ap}
use Rattle.outer_io.specs.Memory.{names_of}
use Rattle.outer_io.proofs.std_files.StdFilesFiles.read.Goals as goal

pub returns-in-Err-read : goal.returns-in-Err-read
returns-in-Err-read g c = record {
  content = search rules;
  within = search rules;
  failed = search rules;
  quiet = search rules;
  too_long = search rules;
  longer = search rules;
  asked = inl (ap names_of c.refusal-in-Err-read.ensures.asked ∙ (c.loop.invariant.same_asked ∙ c.in_ok-note.ensures.ok));
  same_told = search rules;
  faults_grow = search rules;
  taken_grows = search rules;
  keeps_steady = search rules;
  by_itself = search rules;
}

pub returns-then-count-limit : goal.returns-then-count-limit
returns-then-count-limit g c = record {
  content = search rules;
  within = search rules;
  failed = search rules;
  quiet = search rules;
  too_long = search rules;
  longer = search rules;
  asked = inl (c.loop.invariant.same_asked ∙ c.in_ok-note.ensures.ok);
  same_told = search rules;
  faults_grow = search rules;
  taken_grows = search rules;
  keeps_steady = search rules;
  by_itself = search rules;
}

pub returns-then-is_err : goal.returns-then-is_err
returns-then-is_err g c = record {
  content = search rules;
  within = search rules;
  failed = search rules;
  quiet = search rules;
  too_long = search rules;
  longer = search rules;
  asked = inl (c.loop.invariant.same_asked ∙ c.in_ok-note.ensures.ok);
  same_told = search rules;
  faults_grow = search rules;
  taken_grows = search rules;
  keeps_steady = search rules;
  by_itself = search rules;
}
