use Rattle.std.proofs.Common.{inr}
use Rattle.party_file.proofs.WordChecks.{bad_words-ok, bad_words-no_number, bad_words-too_large}
use Rattle.party_file.proofs.numbers.read_numbers.Goals as goal

pub returns-in-Ok-clause-passed : goal.returns-in-Ok-clause-passed
returns-in-Ok-clause-passed c = bad_words-ok c.args.session c.args.text.now _ c.in-Ok.ensures.words

pub returns-in-Err-NotNumber-clause-fault : goal.returns-in-Err-NotNumber-clause-fault
returns-in-Err-NotNumber-clause-fault c = inr (bad_words-no_number c.args.session c.args.text.now _ _ c.in-Err-NotNumber.field-0-is c.in-Err-NotNumber.ensures.fault)

pub returns-in-Err-TooLarge-clause-fault : goal.returns-in-Err-TooLarge-clause-fault
returns-in-Err-TooLarge-clause-fault c = inr (bad_words-too_large c.args.session c.args.text.now _ _ c.in-Err-TooLarge.field-0-is c.in-Err-TooLarge.ensures.fault)
