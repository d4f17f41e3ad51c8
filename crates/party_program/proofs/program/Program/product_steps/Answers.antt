use Rattle.party_program.proofs.program.Program.product_steps.Goals as goal

pub returns : goal.returns
returns c plan p s is = c.of_product.ensures plan p s c.args.half (c.table.ensures plan p s is)
