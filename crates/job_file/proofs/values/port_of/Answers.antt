use Rattle.std.proofs.Common.{sym}
use Rattle.toml.specs.View.{table_view}
use Rattle.job_file.specs.declared.field.JobField.TheVariants.{Port}
use Rattle.job_file.specs.Names.{field_text}
use Rattle.job_file.proofs.Ports.{missing_number}
use Rattle.job_file.proofs.values.port_of.Goals as goal

pub returns-else-is_there : goal.returns-else-is_there
returns-else-is_there c = missing_number (field_text Port) (table_view c.args.table.now) (sym c.if-is_there.ensures)
